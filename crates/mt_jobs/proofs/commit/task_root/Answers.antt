use Rattle.std.proofs.Common.{◌≡◌, [], Some, None, sym, ap, ◌∙◌}
use Rattle.std.specs.List.{slice_get}
use Rattle.std.proofs.lemmas.Option.{slice_get-get_or, slice_get_past}
use Rattle.std.proofs.lemmas.Result.{IfOk-weaker}
use Rattle.mt_model.specs.JobSteps.{task_root}
use Rattle.mt_model.specs.Names.{root_of_reducer}
use Rattle.mt_jobs.proofs.Roots.{no_item, no_phase, root_of_item, root_of_reduce}
use Rattle.mt_jobs.proofs.commit.task_root.Goals as goal

pub returns-in_default : goal.returns-in_default
returns-in_default g c =
    let job = c.args.kept.now.job in
    let past : slice_get job.document.phases c.args.phase ≡ None =
    ap (λ l. slice_get l c.args.phase) (sym c.as_slice.ensures) ∙ slice_get_past c.as_slice.result.now c.args.phase c.in_default.ensures.lookup.3 in
    IfOk-weaker c.from_str.result (λ t. t ≡ []) (λ t. t ≡ task_root job c.args.phase c.args.place) (λ t is. is ∙ no_phase job c.args.phase c.args.place past) c.from_str.ensures

pub returns-in-Some-item : goal.returns-in-Some-item
returns-in-Some-item g c =
    let job = c.args.kept.now.job in
    let p = c.in-Some.of_phase.now in
    let at : slice_get job.document.phases c.args.phase ≡ Some p =
    ap (λ l. slice_get l c.args.phase) (sym c.as_slice.ensures) ∙ slice_get-get_or c.as_slice.result.now c.args.phase p c.in-Some.ensures.lookup.3.0 ∙ ap (λ x. Some x) (sym c.in-Some.ensures.lookup.1) in
    IfOk-weaker c.copy.result (λ t. t ≡ c.in-Some-item.item.now.root) (λ t. t ≡ task_root job c.args.phase c.args.place)
    (λ t is. is ∙ root_of_item job c.args.phase c.args.place p at c.in-Some-item.item.now c.in-Map.is c.in-Some-item.ensures) c.copy.ensures

pub returns-in-None : goal.returns-in-None
returns-in-None g c =
    let job = c.args.kept.now.job in
    let p = c.in-Some.of_phase.now in
    let at : slice_get job.document.phases c.args.phase ≡ Some p =
    ap (λ l. slice_get l c.args.phase) (sym c.as_slice.ensures) ∙ slice_get-get_or c.as_slice.result.now c.args.phase p c.in-Some.ensures.lookup.3.0 ∙ ap (λ x. Some x) (sym c.in-Some.ensures.lookup.1) in
    IfOk-weaker c.from_str-in-None.result (λ t. t ≡ []) (λ t. t ≡ task_root job c.args.phase c.args.place) (λ t is. is ∙ no_item job c.args.phase c.args.place p at c.in-Map.is c.in-None.ensures) c.from_str-in-None.ensures

pub returns-in-Reduce : goal.returns-in-Reduce
returns-in-Reduce g c =
    let job = c.args.kept.now.job in
    let p = c.in-Some.of_phase.now in
    let at : slice_get job.document.phases c.args.phase ≡ Some p =
    ap (λ l. slice_get l c.args.phase) (sym c.as_slice.ensures) ∙ slice_get-get_or c.as_slice.result.now c.args.phase p c.in-Some.ensures.lookup.3.0 ∙ ap (λ x. Some x) (sym c.in-Some.ensures.lookup.1) in
    IfOk-weaker c.from_str-in-Reduce.result (λ t. t ≡ root_of_reducer) (λ t. t ≡ task_root job c.args.phase c.args.place) (λ t is. is ∙ root_of_reduce job c.args.phase c.args.place p at c.in-Reduce.count c.in-Reduce.is) c.from_str-in-Reduce.ensures
