use Rattle.std.proofs.Common.{◌≡◌, ◌++◌, map, take, drop}
use Rattle.mt_path.specs.Keys.{shown_byte}
use Rattle.mt_jobtext.proofs.window.copy_shown.Given as goal

abbrev pub invariant-loop-k : goal.invariant-loop-k
invariant-loop-k l = l.into ≡ map shown_byte (take l.k l.key) ++ drop l.k l.initial.into
