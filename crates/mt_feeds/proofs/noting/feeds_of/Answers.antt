use Rattle.std.proofs.Common.{[], ◌∷◌, length, ◌++◌, replicate, get_or, sym, ap, subst, take, ◌∙◌, arith}
use Rattle.std.proofs.lemmas.List.{length-take-le, take_all, take_more}
use Rattle.mt_feeds.specs.FedJob.{AreFeeds}
use Rattle.mt_feeds.proofs.Begun.{feeds_first}
use Rattle.mt_feeds.proofs.noting.feeds_of.Goals as goal

pub loop-place-init : goal.loop-place-init
loop-place-init g c = feeds_first c.args.job.now c.in_ok-feeds.feeds.items (c.in_ok-feeds.ensures ∙ ap (λ n. replicate n []) c.len.ensures)

pub loop-place-preserved : goal.loop-place-preserved
loop-place-preserved g c =
    let job = c.args.job.now in
    let k = c.loop-place.place in
    let e = c.index-trace-place.result in
    let long = ap length c.as_slice-trace.ensures in
    let next = take_more job.trace k e (omega (arith, long)) in
    let is = c.index-trace-place.is ∙ ap (λ l. get_or l k e) c.as_slice-trace.ensures in
    subst (λ l. AreFeeds (record job { trace = l }) c.note_entry.new.feeds.items) (ap (λ d. take k job.trace ++ d ∷ []) is ∙ sym next)
    (c.in_ok-note_entry.ensures (record job { trace = take k job.trace }) (length-take-le k job.trace (omega (arith, long))) c.loop-place.invariant)

pub returns : goal.returns
returns g c =
    let job = c.args.job.now in
    let long = ap length c.as_slice-trace.ensures in
    subst (λ l. AreFeeds (record job { trace = l }) c.loop-place.feeds.items) (take_all c.loop-place.place job.trace (omega (arith, long))) c.loop-place.invariant
