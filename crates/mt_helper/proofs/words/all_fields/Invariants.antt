-- the numbers so far, and those of the pieces that are left
use Rattle.std.proofs.Common.{◌≡◌, drop, map}
use Rattle.mt_helper.specs.Words.{all_some, field_in}
use Rattle.mt_helper.proofs.Reading.{behind}
use Rattle.mt_helper.proofs.words.all_fields.Given as goal

abbrev pub invariant-loop-piece : goal.invariant-loop-piece
invariant-loop-piece l = behind l.numbers.items (all_some (map field_in (map (λ x. x.now) (drop l.piece-index l.pieces)))) ≡ all_some (map field_in (map (λ x. x.now) l.pieces))
