use Rattle.std.proofs.Common.{sym, ap, ◌∙◌, arith, ◌-◌, Some}
use Rattle.std.proofs.lemmas.Option.{slice_get-get_or}
use Rattle.mt_feeds.proofs.Feeds.{count_after}
use Rattle.mt_feeds.proofs.kept.FedJob.feed_len.Goals as goal

pub returns : goal.returns
returns g c =
    c.len-2.ensures
    ∙ c.index.result.now.ok.0
    ∙ count_after c.args.self.now.job c.args.self.now.feeds.items c.args.phase c.index.result.now c.requires.kept (omega arith)
    (slice_get-get_or c.args.self.now.feeds.items (c.args.phase - 1) c.index.result.now (omega (arith, c.requires.kept.each)) ∙ ap (λ x. Some x) (sym c.index.ensures))
