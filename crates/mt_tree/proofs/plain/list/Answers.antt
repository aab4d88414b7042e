use Rattle.std.proofs.Common.{◌+◌, ◌∷◌, ◌++◌, [], drop, sym, ap, ◌∙◌, arith}
use Rattle.mt_tree.proofs.Scans.{passed, added, from-place}
use Rattle.mt_tree.proofs.plain.list.Goals as goal

pub loop-row-preserved-then-not-is_listed : goal.loop-row-preserved-then-not-is_listed
loop-row-preserved-then-not-is_listed g c =
    passed _ _ _ _ _ _ c.loop-row.invariant c.row-item.result (drop (c.loop-row.row-index + 1) c.args.rows.now)
    (from-place c.args.rows.now c.loop-row.row-index c.row-item.result c.loop-row-test.true c.row-item.is)
    (sym c.if-not-is_listed.true ∙ c.is_listed.ensures)

pub loop-row-preserved : goal.loop-row-preserved
loop-row-preserved g c =
    added _ _ _ _ _ _ c.loop-row.invariant c.row-item.result (drop (c.loop-row.row-index + 1) c.args.rows.now)
    (from-place c.args.rows.now c.loop-row.row-index c.row-item.result c.loop-row-test.true c.row-item.is)
    (sym c.if-not-is_listed.false ∙ c.is_listed.ensures) (omega arith) c.push.new.self
    (c.in_ok-push.ensures ∙ ap (λ r. c.loop-row.page ++ r ∷ []) c.in_ok-copy.ensures)
