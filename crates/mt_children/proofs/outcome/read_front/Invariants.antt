-- What was read is within the piece.
use Rattle.std.proofs.Common.{◌≡◌, ◌≤◌, length}
use Rattle.mt_children.proofs.outcome.read_front.Given as goal

abbrev pub invariant-read : goal.invariant-read
invariant-read l = record {
  long : length l.into ≡ length l.fn.into;
  within : l.at ≤ length l.fn.into;
}
