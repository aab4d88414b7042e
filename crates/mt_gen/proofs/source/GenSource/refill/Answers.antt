use Rattle.std.proofs.Common.{◌∙◌, ◌++◌, ap, drop, length, sym}
use Rattle.mt_gen.specs.Messages.{due_bytes}
use Rattle.mt_gen.proofs.Pieces.{none_due}
use Rattle.mt_gen.proofs.source.GenSource.refill.Goals as goal

pub returns-then-self-len-clause-some : goal.returns-then-self-len-clause-some
returns-then-self-len-clause-some c = λ none.
    let count = c.args.self.now.count in
    ap (λ t. drop 0 t ++ due_bytes count c.behind-self.result) c.write_piece.ensures.piece
    ∙ (sym c.behind-self.ensures.next ∙ none_due count c.args.self.now.due (ap length (sym c.write_piece.ensures.piece) ∙ none))
