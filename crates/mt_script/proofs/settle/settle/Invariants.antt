-- what is left shows what is still to be shown
use Rattle.std.proofs.Common.{string_bytes, length}
use Rattle.mt_script.specs.Levels.{settled}
use Rattle.mt_script.proofs.Settling.{StillSettles}
use Rattle.mt_script.proofs.settle.settle.Given as goal

abbrev pub invariant-loop-level : goal.invariant-loop-level
invariant-loop-level l = StillSettles (string_bytes l.fn.out) (settled l.deep l.login l.fn.levels.items) (string_bytes l.out) (settled l.deep l.login l.levels.items)

abbrev pub decreases-loop-level : goal.decreases-loop-level
decreases-loop-level l = length l.levels.items
