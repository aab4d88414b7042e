use Rattle.std.proofs.Common.{◌++◌, length, map, set, sym, ap, subst, ◌∙◌, arith}
use Rattle.mt_feeds.specs.FedJob.{AreFeeds, lists_of, places_at}
use Rattle.mt_feeds.specs.Opening.{WereShares}
use Rattle.mt_feeds.proofs.Entered.{ready_within, were_entered}
use Rattle.mt_feeds.proofs.Feeds.{feeds_entered}
use Rattle.mt_feeds.proofs.kept.FedJob.enter.Goals as goal

pub index_mut-requires : goal.index_mut-requires
index_mut-requires g c =
    let within = ready_within c.args.self.now.job c.args.entry.phase c.args.entry.place c.requires.ready in
    let each = c.requires.kept.feeds.each in
    omega (arith, within, each)

pub returns-clause-feeds : goal.returns-clause-feeds
returns-clause-feeds g c =
    let job = c.args.self.now.job in
    let f = c.index_mut.result.now in
    let within = ready_within job c.args.entry.phase c.args.entry.place c.requires.ready in
    let more = c.in_ok-note.ensures ∙ ap (λ n. f.items ++ places_at n c.count_of-count.result) c.len-place.ensures ∙ ap (λ n. f.items ++ places_at (length job.trace) n) c.count_of-count.ensures in
    subst (λ l. AreFeeds (record job { trace = l }) (set c.args.self.now.feeds.items c.args.entry.phase c.note.new.feed)) (sym c.in_ok-push.ensures)
    (feeds_entered job c.args.self.now.feeds.items c.args.entry f c.note.new.feed c.requires.kept.feeds (omega (arith, within, c.requires.kept.feeds.each)) c.index_mut.ensures.value more)

pub returns-clause-shares : goal.returns-clause-shares
returns-clause-shares g c =
    let job = c.args.self.now.job in
    let laid = map lists_of c.args.self.now.shares.items in
    subst (λ l. WereShares (record job { trace = l }) laid) (sym c.in_ok-push.ensures) (were_entered job c.args.entry c.requires.ready laid c.requires.kept.shares)
