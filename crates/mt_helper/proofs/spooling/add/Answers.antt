use Rattle.std.proofs.Common.{◌∙◌, length, sym}
use Rattle.std.proofs.lemmas.Bool.{eqb-true}
use Rattle.std.proofs.lemmas.List.{nil_from_length}
use Rattle.mt_helper.proofs.Spools.{nothing_added}
use Rattle.mt_helper.proofs.spooling.add.Goals as goal

pub returns-then-is_empty-clause-adds : goal.returns-then-is_empty-clause-adds
returns-then-is_empty-clause-adds g c =
    nothing_added c.args.number c.args.piece.now _ (nil_from_length c.args.piece.now (eqb-true (length c.args.piece.now) 0 (sym c.is_empty.ensures ∙ c.if-is_empty.true)))
