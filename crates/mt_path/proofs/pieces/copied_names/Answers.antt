use Rattle.std.proofs.Common.{[], ◌∷◌, ◌++◌, get_or, Bor, List, ℕ, refl, ap, ◌∙◌, arith}
use Rattle.mt_path.proofs.Bounded.{plain-at, taken-long, taken-one}
use Rattle.mt_path.proofs.pieces.copied_names.Goals as goal

abbrev none : Bor (List ℕ)
none = record { ref_ptr = (0, 0); now = [] }

pub returns-then-piece-room-clause-long : goal.returns-then-piece-room-clause-long
returns-then-piece-room-clause-long c =
    let at = plain-at c.args.pieces.now c.loop-piece.piece-index none c.loop-piece-test.true in
    (refl, taken-long _ _ _ _ c.loop-piece.invariant (get_or c.args.pieces.now c.loop-piece.piece-index none).now at.0 at.1 (omega (arith, c.if-piece-room.true)))

pub loop-piece-preserved : goal.loop-piece-preserved
loop-piece-preserved c =
    let at = plain-at c.args.pieces.now c.loop-piece.piece-index none c.loop-piece-test.true in
    taken-one _ _ _ _ c.loop-piece.invariant (get_or c.args.pieces.now c.loop-piece.piece-index none).now at.0 at.1 (omega (arith, c.if-piece-room.false)) c.push.new.self.items
    (c.in_ok-push.ensures.items ∙ ap (λ x. c.loop-piece.out.items ++ x ∷ []) c.in_ok-from_slice.ensures)
