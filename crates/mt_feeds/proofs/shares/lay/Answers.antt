use Rattle.std.proofs.Common.{◌≡◌, take, Some, None, sym, ap, ◌∙◌, arith}
use Rattle.std.specs.List.{slice_get}
use Rattle.mt_model.specs.Feed.{feed}
use Rattle.mt_model.proofs.Shares.{beyond}
use Rattle.mt_feeds.specs.Opening.{with_place_read}
use Rattle.mt_feeds.proofs.Laid.{laid_count, none_laid, shares_take}
use Rattle.mt_feeds.proofs.Read.{within_same}
use Rattle.mt_feeds.proofs.shares.lay.Goals as goal

pub loop-place-init : goal.loop-place-init
loop-place-init g c = c.in_ok-shares.ensures ∙ none_laid g.row.B.Denot c.args.count

pub unreachable-requires : goal.unreachable-requires
unreachable-requires g c =
    let items = feed c.args.kept.now.job c.args.phase in
    let none : slice_get items c.loop-place.place ≡ None =
    sym (within_same (slice_get items c.loop-place.place) c.args.kept.now.job.document.phases c.args.phase c.requires.phase) ∙ sym c.in_default.ensures in
    let past = beyond items c.loop-place.place none in
    omega (arith, past, c.feed_len-place-end.ensures)

pub add_place-requires-clause-each : goal.add_place-requires-clause-each
add_place-requires-clause-each g c = laid_count (take c.loop-place.place (feed c.args.kept.now.job c.args.phase)) c.args.count c.loop-place.shares.items c.loop-place.invariant

pub loop-place-preserved : goal.loop-place-preserved
loop-place-preserved g c =
    let items = feed c.args.kept.now.job c.args.phase in
    let place = c.loop-place.place in
    let item = c.in-Some.item.now in
    let at : slice_get items place ≡ Some item = sym (within_same (slice_get items place) c.args.kept.now.job.document.phases c.args.phase c.requires.phase) ∙ sym c.in-Some.ensures in
    c.in_ok-add_place.ensures ∙ ap (with_place_read c.args.count place item) c.loop-place.invariant ∙ sym (shares_take items place item c.args.count c.requires.some at)
