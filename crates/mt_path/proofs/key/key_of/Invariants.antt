-- The key of the components so far.
use Rattle.std.proofs.Common.{◌≡◌, take}
use Rattle.mt_path.specs.Keys.{key_bytes}
use Rattle.mt_path.proofs.key.key_of.Given as goal

abbrev pub invariant-loop-part : goal.invariant-loop-part
invariant-loop-part l = l.key.items ≡ key_bytes (take l.part-index l.parts)
