use Rattle.std.proofs.Common.{◌≡◌, Some, sym, ap, ◌∙◌, arith, option_and_then}
use Rattle.std.specs.List.{slice_get}
use Rattle.std.proofs.lemmas.Option.{slice_get-get_or}
use Rattle.mt_feeds.specs.Reading.{item_of, read_of}
use Rattle.mt_feeds.proofs.Read.{read_map, read_map_past, read_places}
use Rattle.mt_feeds.proofs.kept.FedJob.read.Goals as goal

pub returns-then-k-eq0 : goal.returns-then-k-eq0
returns-then-k-eq0 g c =
    let job = c.args.self.now.job in
    let p = c.in-Some.of_phase.now in
    let at : slice_get job.document.phases c.args.phase ≡ Some p =
    ap (λ l. slice_get l c.args.phase) (sym c.as_slice.ensures) ∙ slice_get-get_or c.as_slice.result.now c.args.phase p c.in-Some.ensures.lookup.3.0 ∙ ap (λ x. Some x) (sym c.in-Some.ensures.lookup.1) in
    c.item.ensures ∙ read_map job c.args.phase c.args.place p at c.in-Map.is ∙ ap (λ n. read_of c.args.phase c.args.place n job) (sym c.if-k-eq0.true)

pub returns-else-k-eq0 : goal.returns-else-k-eq0
returns-else-k-eq0 g c =
    let job = c.args.self.now.job in
    let p = c.in-Some.of_phase.now in
    let at : slice_get job.document.phases c.args.phase ≡ Some p =
    ap (λ l. slice_get l c.args.phase) (sym c.as_slice.ensures) ∙ slice_get-get_or c.as_slice.result.now c.args.phase p c.in-Some.ensures.lookup.3.0 ∙ ap (λ x. Some x) (sym c.in-Some.ensures.lookup.1) in
    read_map_past job c.args.phase c.args.place c.args.k p at c.in-Map.is (omega arith)

pub returns-in-Some-place_in : goal.returns-in-Some-place_in
returns-in-Some-place_in g c =
    let job = c.args.self.now.job in
    let p = c.in-Some.of_phase.now in
    let at : slice_get job.document.phases c.args.phase ≡ Some p =
    ap (λ l. slice_get l c.args.phase) (sym c.as_slice.ensures) ∙ slice_get-get_or c.as_slice.result.now c.args.phase p c.in-Some.ensures.lookup.3.0 ∙ ap (λ x. Some x) (sym c.in-Some.ensures.lookup.1) in
    c.item-in-Some-place_in.ensures
    ∙ ap (option_and_then (λ r. item_of c.args.phase r job)) (c.in-Some-place_in.ensures ∙ ap (λ l. option_and_then (λ w. slice_get w.items c.args.k) (slice_get l c.args.place)) c.deref.ensures.value)
    ∙ read_places job c.args.phase c.args.place c.args.k c.in-Reduce.count p c.args.self.now.shares.items c.index.result.now at c.in-Reduce.is c.requires.ready c.requires.kept.shares c.index.ensures

pub returns-in-None : goal.returns-in-None
returns-in-None g c =
    let job = c.args.self.now.job in
    let p = c.in-Some.of_phase.now in
    let at : slice_get job.document.phases c.args.phase ≡ Some p =
    ap (λ l. slice_get l c.args.phase) (sym c.as_slice.ensures) ∙ slice_get-get_or c.as_slice.result.now c.args.phase p c.in-Some.ensures.lookup.3.0 ∙ ap (λ x. Some x) (sym c.in-Some.ensures.lookup.1) in
    ap (option_and_then (λ r. item_of c.args.phase r job)) (c.in-None.ensures ∙ ap (λ l. option_and_then (λ w. slice_get w.items c.args.k) (slice_get l c.args.place)) c.deref.ensures.value)
    ∙ read_places job c.args.phase c.args.place c.args.k c.in-Reduce.count p c.args.self.now.shares.items c.index.result.now at c.in-Reduce.is c.requires.ready c.requires.kept.shares c.index.ensures
