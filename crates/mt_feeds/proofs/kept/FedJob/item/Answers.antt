use Rattle.std.proofs.Common.{◌≡◌, sym, ap, ◌∙◌, arith, ◌-◌, Some, None}
use Rattle.std.specs.List.{slice_get}
use Rattle.std.specs.Option.{option_and_then}
use Rattle.std.proofs.lemmas.Option.{slice_get-get_or, slice_get_past}
use Rattle.mt_model.specs.Feed.{feed}
use Rattle.mt_feeds.specs.FedJob.{item_at}
use Rattle.mt_feeds.proofs.Feeds.{item_after}
use Rattle.mt_feeds.proofs.Read.{within_same}
use Rattle.mt_feeds.proofs.kept.FedJob.item.Goals as goal

pub returns-in-Some : goal.returns-in-Some
returns-in-Some g c =
    let job = c.args.self.now.job in
    let feeds = c.args.self.now.feeds.items in
    let f = c.index.result.now in
    let there = slice_get-get_or feeds (c.args.phase - 1) f (omega (arith, c.requires.each)) ∙ ap (λ x. Some x) (sym c.index.ensures) in
    let at : Some c.in-Some.at.now ≡ slice_get f.items c.args.place =
    sym (slice_get-get_or c.deref.result.now c.args.place c.in-Some.at.now c.in-Some.ensures.lookup.3.0 ∙ ap (λ x. Some x) (sym c.in-Some.ensures.lookup.1)) ∙ ap (λ l. slice_get l c.args.place) c.deref.ensures.value in
    c.item_at.ensures
    ∙ ap (λ t. item_at t c.in-Some.at.now) c.as_slice-in-Some.ensures
    ∙ ap (option_and_then (item_at job.trace)) at
    ∙ item_after job feeds c.args.phase c.args.place f c.requires (omega arith) there
    ∙ sym (within_same (slice_get (feed job c.args.phase) c.args.place) job.document.phases c.args.phase (omega arith))

pub returns-in-None : goal.returns-in-None
returns-in-None g c =
    let job = c.args.self.now.job in
    let feeds = c.args.self.now.feeds.items in
    let f = c.index.result.now in
    let there = slice_get-get_or feeds (c.args.phase - 1) f (omega (arith, c.requires.each)) ∙ ap (λ x. Some x) (sym c.index.ensures) in
    let at : None ≡ slice_get f.items c.args.place =
    sym (slice_get_past c.deref.result.now c.args.place c.in-None.ensures.lookup.3) ∙ ap (λ l. slice_get l c.args.place) c.deref.ensures.value in
    ap (option_and_then (item_at job.trace)) at
    ∙ item_after job feeds c.args.phase c.args.place f c.requires (omega arith) there
    ∙ sym (within_same (slice_get (feed job c.args.phase) c.args.place) job.document.phases c.args.phase (omega arith))
