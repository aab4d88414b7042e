use Rattle.std.proofs.Common.{◌≡◌, Some, None, sym, ap, ◌∙◌}
use Rattle.std.specs.Option.{unwrap_or}
use Rattle.mt_model.specs.JobSteps.{with_end}
use Rattle.mt_sched.specs.Plans.{plan_at}
use Rattle.mt_sched.specs.PlanOfJob.{plan_of}
use Rattle.mt_jobs.proofs.Plans.{plan_ended}
use Rattle.mt_jobs.proofs.inputs.end_input_of.Goals as goal

pub open-requires-clause-plan : goal.open-requires-clause-plan
open-requires-clause-plan g c =
    let job = c.args.kept.now.job in
    let there : Some c.in-Some.queue.now ≡ Some (plan_of c.end-2.new.self.job) =
    c.in-Some.ensures
    ∙ ap (λ j. plan_at c.end.new.self j.number) c.end-2.ensures.job
    ∙ ap (λ s. plan_at s job.number) c.in_ok-end.ensures.ok
    ∙ plan_ended job job.number c.args.sched.now c.requires.plan
    ∙ ap (λ j. Some (plan_of j)) (sym c.end-2.ensures.job) in
    ap (λ o. unwrap_or o c.in-Some.queue.now) there

pub returns-in-None-clause-kept : goal.returns-in-None-clause-kept
returns-in-None-clause-kept g c =
    let job = c.args.kept.now.job in
    let never : None ≡ Some (plan_of (with_end job)) =
    c.in-None.ensures
    ∙ ap (λ j. plan_at c.end.new.self j.number) c.end-2.ensures.job
    ∙ ap (λ s. plan_at s job.number) c.in_ok-end.ensures.ok
    ∙ plan_ended job job.number c.args.sched.now c.requires.plan in
    cc
