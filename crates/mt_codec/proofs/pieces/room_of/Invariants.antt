use Rattle.std.proofs.Common.{◌≤◌}
use Rattle.mt_path.specs.declared.limits.TheConstants.{LONGEST_PATH}
use Rattle.mt_codec.proofs.pieces.room_of.Given as goal

abbrev pub invariant-loop : goal.invariant-loop
invariant-loop l = l.room ≤ LONGEST_PATH
