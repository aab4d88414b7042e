use Rattle.std.proofs.Common.{◌≡◌, [], ◌-◌, ◌+◌, ◌∷◌, ◌++◌, length, get_or, Bor, List, ℕ, refl, sym, ap, subst, ◌∙◌, arith}
use Rattle.percent_encoding.specs.Percent.{percent_decode}
use Rattle.mt_path.proofs.Bounded.{Taken, decoded-at, taken-long, taken-one}
use Rattle.mt_path.proofs.pieces.decoded_names.Goals as goal

abbrev none : Bor (List ℕ)
none = record { ref_ptr = (0, 0); now = [] }

pub returns-then-len-room-clause-long : goal.returns-then-len-room-clause-long
returns-then-len-room-clause-long c =
    let at = decoded-at c.args.pieces.now c.loop-piece.piece-index none c.loop-piece-test.true in
    (refl, taken-long _ _ _ _ c.loop-piece.invariant (percent_decode (get_or c.args.pieces.now c.loop-piece.piece-index none).now) at.0 at.1 (omega (arith, c.if-len-room.true, c.decoded_len-len.ensures)))

pub loop-piece-preserved : goal.loop-piece-preserved
loop-piece-preserved c =
    let at = decoded-at c.args.pieces.now c.loop-piece.piece-index none c.loop-piece-test.true in
    let room : c.loop-piece.room - (length (percent_decode (get_or c.args.pieces.now c.loop-piece.piece-index none).now) + 1) ≡ c.loop-piece.room - (c.decoded_len-len.result + 1) = ap (λ n. c.loop-piece.room - (n + 1)) (sym c.decoded_len-len.ensures) in
    subst (Taken _ _ c.push.new.self.items) room
    (taken-one _ _ _ _ c.loop-piece.invariant (percent_decode (get_or c.args.pieces.now c.loop-piece.piece-index none).now) at.0 at.1 (omega (arith, c.if-len-room.false, c.decoded_len-len.ensures)) c.push.new.self.items
    (c.in_ok-push.ensures.items ∙ ap (λ x. c.loop-piece.out.items ++ x ∷ []) c.in_ok-decoded.ensures))
