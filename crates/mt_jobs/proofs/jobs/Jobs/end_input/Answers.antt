use Rattle.std.proofs.Common.{Some, None, sym, ap, subst, ◌∙◌}
use Rattle.std.specs.List.{slice_get}
use Rattle.mt_types.specs.WellMade.{IsDocument}
use Rattle.mt_model.specs.JobSteps.{input_refusal, with_end}
use Rattle.mt_model.specs.State.{job_at, with_job}
use Rattle.mt_model.specs.Tasks.{is_running}
use Rattle.mt_sched.specs.PlanOfJob.{plan_of}
use Rattle.mt_sched.specs.PlanSteps.{ended_plan}
use Rattle.mt_sched.proofs.Changes.{plan_end}
use Rattle.mt_jobs.specs.JobList.{IsFound, jobs_in}
use Rattle.mt_jobs.proofs.Allowed.{all_at, input_open, plan_here, refusal_of}
use Rattle.mt_jobs.proofs.Changes.{at_job, jobs_changed, jobs_written}
use Rattle.mt_jobs.proofs.Numbers.{found_job, found_none, with_job_is, with_no_job}
use Rattle.mt_jobs.proofs.States.{end_is}
use Rattle.mt_jobs.proofs.jobs.Jobs.end_input.Goals as goal

pub returns-in_default : goal.returns-in_default
returns-in_default g c = λ position moment rows.
    let found = subst (λ l. IsFound c.args.job l None) c.deref.ensures.value c.in_default.ensures in
    end_is position rows c.args.self.now c.args.self.now c.args.job moment
    (sym (with_no_job c.args.job with_end c.args.self.now (ap (λ l. job_at l c.args.job) (sym c.self.view_is) ∙ found_none c.args.job c.self.inside.jobs.items found)))

pub end_input_of-requires-clause-document : goal.end_input_of-requires-clause-document
end_input_of-requires-clause-document g c =
    let kept = c.self.inside.jobs.items in
    let old = c.index_mut.result.now in
    let found = subst (λ l. IsFound c.args.job l (Some c.in-Some.place)) c.deref.ensures.value c.in-Some.ensures in
    let it = found_job c.args.job kept c.in-Some.place old found c.index_mut.ensures.value in
    all_at (λ j. IsDocument j.document) c.args.self.now c.in-Some.place old.job c.requires.documents (ap (λ l. slice_get l c.in-Some.place) (sym c.self.view_is) ∙ at_job kept c.in-Some.place old it.there)

pub end_input_of-requires-clause-runs : goal.end_input_of-requires-clause-runs
end_input_of-requires-clause-runs g c =
    let kept = c.self.inside.jobs.items in
    let old = c.index_mut.result.now in
    let found = subst (λ l. IsFound c.args.job l (Some c.in-Some.place)) c.deref.ensures.value c.in-Some.ensures in
    let it = found_job c.args.job kept c.in-Some.place old found c.index_mut.ensures.value in
    (input_open old.job (refusal_of (job_at c.args.self.now c.args.job) old.job input_refusal (ap (λ l. job_at l c.args.job) (sym c.self.view_is) ∙ it.job) c.requires.allowed)).runs

pub end_input_of-requires-clause-open : goal.end_input_of-requires-clause-open
end_input_of-requires-clause-open g c =
    let kept = c.self.inside.jobs.items in
    let old = c.index_mut.result.now in
    let found = subst (λ l. IsFound c.args.job l (Some c.in-Some.place)) c.deref.ensures.value c.in-Some.ensures in
    let it = found_job c.args.job kept c.in-Some.place old found c.index_mut.ensures.value in
    (input_open old.job (refusal_of (job_at c.args.self.now c.args.job) old.job input_refusal (ap (λ l. job_at l c.args.job) (sym c.self.view_is) ∙ it.job) c.requires.allowed)).so_far

pub end_input_of-requires-clause-plan : goal.end_input_of-requires-clause-plan
end_input_of-requires-clause-plan g c =
    let kept = c.self.inside.jobs.items in
    let old = c.index_mut.result.now in
    let found = subst (λ l. IsFound c.args.job l (Some c.in-Some.place)) c.deref.ensures.value c.in-Some.ensures in
    let it = found_job c.args.job kept c.in-Some.place old found c.index_mut.ensures.value in
    plan_here c.args.job kept c.self.inside.sched c.self.inside.running.keys c.self.inside.done.keys c.in-Some.place old c.self.invariant it
    (input_open old.job (refusal_of (job_at c.args.self.now c.args.job) old.job input_refusal (ap (λ l. job_at l c.args.job) (sym c.self.view_is) ∙ it.job) c.requires.allowed)).runs

pub invariant_of-self : goal.invariant_of-self
invariant_of-self g c =
    let kept = c.self.inside.jobs.items in
    let old = c.index_mut.result.now in
    let found = subst (λ l. IsFound c.args.job l (Some c.in-Some.place)) c.deref.ensures.value c.in-Some.ensures in
    let it = found_job c.args.job kept c.in-Some.place old found c.index_mut.ensures.value in
    jobs_changed ended_plan kept c.self.inside.sched c.end_input_of.new.sched c.self.inside.running.keys c.self.inside.done.keys c.in-Some.place old c.end_input_of.new.kept c.self.invariant it.there c.in-Ok.ensures.kept
    (ap (λ j. j.number) c.in-Ok.ensures.job) (ap is_running c.in-Ok.ensures.job) (ap plan_of c.in-Ok.ensures.job ∙ plan_end old.job) c.in-Ok.ensures.plans

pub returns-in-Ok : goal.returns-in-Ok
returns-in-Ok g c = λ position moment rows.
    let kept = c.self.inside.jobs.items in
    let old = c.index_mut.result.now in
    let found = subst (λ l. IsFound c.args.job l (Some c.in-Some.place)) c.deref.ensures.value c.in-Some.ensures in
    let it = found_job c.args.job kept c.in-Some.place old found c.index_mut.ensures.value in
    end_is position rows c.args.self.now _ c.args.job moment
    (jobs_written kept c.in-Some.place c.end_input_of.new.kept
    ∙ with_job_is c.args.job with_end (jobs_in kept) c.in-Some.place old.job c.end_input_of.new.kept.job c.self.invariant.rising (at_job kept c.in-Some.place old it.there) it.number_is c.in-Ok.ensures.job
    ∙ ap (λ l. with_job l c.args.job with_end) c.self.view_is)
