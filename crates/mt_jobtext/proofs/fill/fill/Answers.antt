use Rattle.std.proofs.Common.{ℕ, ◌+◌, sym, ap, ◌∙◌, subst, arith}
use Rattle.std.proofs.lemmas.Bool.{eqb-false, eqb-true}
use Rattle.mt_jobtext.specs.Pieces.{pieces_of}
use Rattle.mt_jobtext.specs.Places.{FillsFrom}
use Rattle.mt_jobtext.proofs.Filled.{fills_part, goes_first, goes_whole}
use Rattle.mt_jobtext.proofs.fill.fill.Goals as goal

pub loop-next-init : goal.loop-next-init
loop-next-init g c =
    goes_first (pieces_of c.args.shown.now) c.args.place c.begin.new.self c.requires.place (ap (λ w. w.skip) c.begin.ensures) (ap (λ w. w.got) c.begin.ensures)
    (omega (arith, c.requires.room, ap (λ w. w.room) c.begin.ensures))

pub loop-next-preserved : goal.loop-next-preserved
loop-next-preserved g c =
    goes_whole (pieces_of c.args.shown.now) c.args.place c.begin.new.self c.loop-next.window c.put_piece.new.window c.loop-next.next c.loop-next.invariant (omega (arith, c.requires.count)) c.put_piece.ensures
    (omega (arith, eqb-false c.put_piece.new.window.room 0 (sym c.is_full.ensures ∙ c.if-is_full.false)))

pub returns-then-is_full-clause-fills : goal.returns-then-is_full-clause-fills
returns-then-is_full-clause-fills g c =
    let P : ℕ → Type 0 = λ room. FillsFrom (pieces_of c.args.shown.now) c.args.place room c.put_piece.new.window.got (record { next = c.loop-next.next; at = c.skip-at.result + c.room-room.result }) in
    subst P (ap (λ w. w.room) c.begin.ensures)
    (fills_part (pieces_of c.args.shown.now) c.args.place c.begin.new.self c.loop-next.window c.put_piece.new.window c.loop-next.next c.loop-next.invariant (omega (arith, c.requires.count)) c.put_piece.ensures
    c.skip-at.result c.room-room.result (eqb-true c.put_piece.new.window.room 0 (sym c.is_full.ensures ∙ c.if-is_full.true)) c.skip-at.ensures c.room-room.ensures)
