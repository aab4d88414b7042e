use Rattle.std.proofs.Common.{sym, ap, ◌∙◌}
use Rattle.mt_checker.specs.Feeds.{with_read}
use Rattle.mt_checker.proofs.Fed.{with_all_push}
use Rattle.mt_checker.proofs.feed.Gathered.add_all.Goals as goal

pub loop-item-preserved : goal.loop-item-preserved
loop-item-preserved c =
    with_all_push c.args.self.now c.loop-item.yielded c.in-Some.item
    ∙ (ap (λ f. with_read f c.in-Some.item) c.loop-item.invariant ∙ sym c.in_ok-add.ensures)
