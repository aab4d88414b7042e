-- The bytes so far, as they are shown.
use Rattle.std.proofs.Common.{◌≡◌, ◌++◌, map, take}
use Rattle.mt_path.specs.Keys.{shown_byte}
use Rattle.mt_path.proofs.key.put_shown.Given as goal

abbrev pub invariant-loop-b : goal.invariant-loop-b
invariant-loop-b l = l.text.items ≡ l.fn.text.items ++ map shown_byte (take l.b-index l.key)
