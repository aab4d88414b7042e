-- The names so far, and the room that they leave.
use Rattle.std.proofs.Common.{map}
use Rattle.percent_encoding.specs.Percent.{percent_decode}
use Rattle.mt_path.proofs.Bounded.{Taken}
use Rattle.mt_path.proofs.pieces.decoded_names.Given as goal

abbrev pub invariant-loop-piece : goal.invariant-loop-piece
invariant-loop-piece l = Taken (map percent_decode (map (λ x. x.now) l.pieces)) l.piece-index l.out.items l.room
