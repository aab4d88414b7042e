use Rattle.std.proofs.Common.{◌≡◌, []}
use Rattle.std.proofs.Math.ListN.{replicate}
use Rattle.mt_split.proofs.parts.no_parts.Given as goal

abbrev pub invariant-loop-reducer : goal.invariant-loop-reducer
invariant-loop-reducer l = l.parts.items ≡ replicate l.reducer []
