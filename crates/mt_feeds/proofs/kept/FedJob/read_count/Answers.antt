-- By the kind of the phase.
use Rattle.std.proofs.Common.{◌≡◌, Some, sym, ap, ◌∙◌, length}
use Rattle.std.specs.List.{slice_get}
use Rattle.std.specs.Option.{option_map_or}
use Rattle.std.proofs.lemmas.Option.{slice_get-get_or}
use Rattle.mt_feeds.proofs.Read.{count_map, count_places}
use Rattle.mt_feeds.proofs.kept.FedJob.read_count.Goals as goal

pub returns-in-Map : goal.returns-in-Map
returns-in-Map g c =
    let job = c.args.self.now.job in
    let p = c.in-Some.of_phase.now in
    let at : slice_get job.document.phases c.args.phase ≡ Some p =
    ap (λ l. slice_get l c.args.phase) (sym c.as_slice.ensures) ∙ slice_get-get_or c.as_slice.result.now c.args.phase p c.in-Some.ensures.lookup.3.0 ∙ ap (λ x. Some x) (sym c.in-Some.ensures.lookup.1) in
    count_map job c.args.phase c.args.place p at c.in-Map.is c.requires.ready

pub returns-in-Reduce : goal.returns-in-Reduce
returns-in-Reduce g c =
    let job = c.args.self.now.job in
    let p = c.in-Some.of_phase.now in
    let at : slice_get job.document.phases c.args.phase ≡ Some p =
    ap (λ l. slice_get l c.args.phase) (sym c.as_slice.ensures) ∙ slice_get-get_or c.as_slice.result.now c.args.phase p c.in-Some.ensures.lookup.3.0 ∙ ap (λ x. Some x) (sym c.in-Some.ensures.lookup.1) in
    c.count_in.ensures ∙ ap (λ l. option_map_or (λ w. length w.items) (slice_get l c.args.place) 0) c.deref.ensures.value
    ∙ count_places job c.args.phase c.args.place c.in-Reduce.count p c.args.self.now.shares.items c.index.result.now at c.in-Reduce.is c.requires.ready c.requires.kept.shares c.index.ensures
