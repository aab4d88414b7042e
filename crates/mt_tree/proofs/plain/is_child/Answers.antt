use Rattle.std.proofs.Common.{◌-◌, ◌==◌, length, ap, sym, ◌∙◌}
use Rattle.std.proofs.lemmas.Bool.{false≢true}
use Rattle.mt_tree.proofs.Scans.{child-under, child-not_under}
use Rattle.mt_tree.proofs.plain.is_child.Goals as goal

pub returns-then-is_under : goal.returns-then-is_under
returns-then-is_under c =
    ap (λ n. n - c.len-then-is_under.result == 1) c.len.ensures ∙ ap (λ n. length c.args.path.now.parts - n == 1) c.len-then-is_under.ensures
    ∙ child-under c.args.dir.now c.args.path.now (c.is_under.ensures.0 c.if-is_under.true)

pub returns-else-is_under : goal.returns-else-is_under
returns-else-is_under c = c.if-is_under.false ∙ child-not_under c.args.dir.now c.args.path.now (λ under. false≢true (sym c.if-is_under.false ∙ c.is_under.ensures.1 under))
