use Rattle.std.proofs.Common.{Some, None, not, sym, ap, refl, subst, ◌∙◌}
use Rattle.std.specs.List.{slice_get}
use Rattle.std.specs.Prelude.{is_some}
use Rattle.mt_model.specs.JobSteps.{add_inputs_refusal, with_lines}
use Rattle.mt_model.specs.Sound.{Sound}
use Rattle.mt_model.specs.State.{job_at, with_job}
use Rattle.mt_sched.specs.PlanOfJob.{inputs_in, plan_of}
use Rattle.mt_sched.specs.PlanSteps.{grown}
use Rattle.mt_sched.proofs.Changes.{plan_lines}
use Rattle.mt_feeds.specs.declared.kept.FedJob.{FedJob}
use Rattle.mt_jobs.specs.JobList.{IsFound, jobs_in}
use Rattle.mt_jobs.proofs.Allowed.{all_at, kept_at, lines_open, refusal_of}
use Rattle.mt_jobs.proofs.Changes.{at_job, jobs_changed, jobs_written}
use Rattle.mt_jobs.proofs.Numbers.{found_job, found_none, with_job_is, with_no_job}
use Rattle.mt_jobs.proofs.Posted.{KeepsRest, kept_posted, lines_rest}
use Rattle.mt_jobs.proofs.States.{add_is}
use Rattle.mt_jobs.proofs.jobs.Jobs.add_inputs.Goals as goal

pub returns-in_default : goal.returns-in_default
returns-in_default g c = λ position moment.
    let found = subst (λ l. IsFound c.args.job l None) c.deref.ensures.value c.in_default.ensures in
    add_is position c.args.tree.now c.args.self.now c.args.self.now c.args.job c.args.lines.now moment
    (sym (with_no_job c.args.job (with_lines c.args.tree.now c.args.lines.now) c.args.self.now (ap (λ l. job_at l c.args.job) (sym c.self.view_is) ∙ found_none c.args.job c.self.inside.jobs.items found)))

pub invariant_of-self : goal.invariant_of-self
invariant_of-self g c =
    let kept = c.self.inside.jobs.items in
    let old = c.index_mut.result.now in
    let rows = c.args.tree.now in
    let lines = c.args.lines.now in
    let new : FedJob g.row.B.Denot = record old { job = c.add_all.new.job } in
    let found = subst (λ l. IsFound c.args.job l (Some c.in-Some.place)) c.deref.ensures.value c.in-Some.ensures in
    let it = found_job c.args.job kept c.in-Some.place old found c.index_mut.ensures.value in
    let open_so_far = lines_open lines old.job (refusal_of (job_at c.args.self.now c.args.job) old.job (add_inputs_refusal lines) (ap (λ l. job_at l c.args.job) (sym c.self.view_is) ∙ it.job) c.requires.allowed) in
    let sound = all_at Sound c.args.self.now c.in-Some.place old.job c.requires.sound (ap (λ l. slice_get l c.in-Some.place) (sym c.self.view_is) ∙ at_job kept c.in-Some.place old it.there) in
    let rest = subst (KeepsRest old.job) (sym c.in-Ok.ensures.job) (lines_rest rows lines old.job) in
    jobs_changed (λ plan. grown plan 0 (inputs_in rows lines)) kept c.self.inside.sched c.add_all.new.sched c.self.inside.running.keys c.self.inside.done.keys c.in-Some.place old new c.self.invariant it.there
    (kept_posted old new (kept_at kept c.in-Some.place old c.self.invariant.each it.there) rest refl refl open_so_far.so_far)
    rest.number (ap (λ d. not (is_some d)) rest.done) (ap plan_of c.in-Ok.ensures.job ∙ plan_lines rows lines old.job sound) c.in-Ok.ensures.plans

pub returns-in-Ok : goal.returns-in-Ok
returns-in-Ok g c = λ position moment.
    let kept = c.self.inside.jobs.items in
    let old = c.index_mut.result.now in
    let rows = c.args.tree.now in
    let lines = c.args.lines.now in
    let new : FedJob g.row.B.Denot = record old { job = c.add_all.new.job } in
    let found = subst (λ l. IsFound c.args.job l (Some c.in-Some.place)) c.deref.ensures.value c.in-Some.ensures in
    let it = found_job c.args.job kept c.in-Some.place old found c.index_mut.ensures.value in
    add_is position rows c.args.self.now _ c.args.job lines moment
    (jobs_written kept c.in-Some.place new
    ∙ with_job_is c.args.job (with_lines rows lines) (jobs_in kept) c.in-Some.place old.job new.job c.self.invariant.rising (at_job kept c.in-Some.place old it.there) it.number_is c.in-Ok.ensures.job
    ∙ ap (λ l. with_job l c.args.job (with_lines rows lines)) c.self.view_is)
