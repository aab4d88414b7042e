use Rattle.std.proofs.Common.{◌≡◌, ◌+◌, Some, None, length, sym, ap, subst, ◌∙◌}
use Rattle.std.specs.List.{slice_get}
use Rattle.mt_types.specs.WellMade.{IsDocument}
use Rattle.mt_model.specs.Feed.{items_of}
use Rattle.mt_model.specs.JobSteps.{commit_refusal, with_entry}
use Rattle.mt_model.specs.Sound.{Sound}
use Rattle.mt_model.specs.State.{job_at, with_job}
use Rattle.mt_model.specs.Tasks.{is_running}
use Rattle.mt_sched.specs.PlanOfJob.{plan_of}
use Rattle.mt_sched.specs.PlanSteps.{committed_in, grown}
use Rattle.mt_sched.proofs.Changes.{plan_commit}
use Rattle.mt_feeds.proofs.Entered.{ready_runs}
use Rattle.mt_jobs.specs.JobList.{IsFound, jobs_in}
use Rattle.mt_jobs.proofs.Allowed.{all_at, kept_at, plan_here, refusal_of, there}
use Rattle.mt_jobs.proofs.Changes.{at_job, jobs_changed, jobs_written}
use Rattle.mt_jobs.proofs.Numbers.{found_job, found_none, with_job_is}
use Rattle.mt_jobs.proofs.Plans.{allowed_ready}
use Rattle.mt_jobs.proofs.jobs.Jobs.enter_at.Goals as goal

pub returns-in_default : goal.returns-in_default
returns-in_default g c =
    let found = subst (λ l. IsFound c.args.job l None) c.deref.ensures.value c.in_default.ensures in
    let none = ap (λ l. job_at l c.args.job) (sym c.self.view_is) ∙ found_none c.args.job c.self.inside.jobs.items found in
    let it = there (job_at c.args.self.now c.args.job) (commit_refusal c.args.entry.phase c.args.entry.place) c.requires.allowed in
    let never : None ≡ Some it.job = sym none ∙ it.is in
    cc

pub enter-requires : goal.enter-requires
enter-requires g c =
    let e = c.args.entry in
    let kept = c.self.inside.jobs.items in
    let k = c.in-Some.at in
    let old = c.index_mut.result.now in
    let found = subst (λ l. IsFound c.args.job l (Some k)) c.deref.ensures.value c.in-Some.ensures in
    let it = found_job c.args.job kept k old found c.index_mut.ensures.value in
    let at = ap (λ l. slice_get l k) (sym c.self.view_is) ∙ at_job kept k old it.there in
    let job_is = ap (λ l. job_at l c.args.job) (sym c.self.view_is) ∙ it.job in
    let none = refusal_of (job_at c.args.self.now c.args.job) old.job (commit_refusal e.phase e.place) job_is c.requires.allowed in
    let ready = allowed_ready old.job e.phase e.place none in
    record {
      kept = kept_at kept k old c.self.invariant.each it.there;
      sound = all_at Sound c.args.self.now k old.job c.requires.sound at;
      document = all_at (λ j. IsDocument j.document) c.args.self.now k old.job c.requires.documents at;
      ready = ready;
      plan = plan_here c.args.job kept c.self.inside.sched c.self.inside.running.keys c.self.inside.done.keys k old c.self.invariant it (ready_runs old.job e.phase e.place ready);
    }

pub invariant_of-self : goal.invariant_of-self
invariant_of-self g c =
    let e = c.args.entry in
    let kept = c.self.inside.jobs.items in
    let k = c.in-Some.at in
    let old = c.index_mut.result.now in
    let found = subst (λ l. IsFound c.args.job l (Some k)) c.deref.ensures.value c.in-Some.ensures in
    let it = found_job c.args.job kept k old found c.index_mut.ensures.value in
    let sound = all_at Sound c.args.self.now k old.job c.requires.sound (ap (λ l. slice_get l k) (sym c.self.view_is) ∙ at_job kept k old it.there) in
    jobs_changed (λ plan. grown (committed_in plan e.phase e.place) (e.phase + 1) (length (items_of e.outcome)))
    kept c.self.inside.sched c.enter.new.sched c.self.inside.running.keys c.self.inside.done.keys k old c.enter.new.kept c.self.invariant it.there c.in-Ok.ensures.kept
    (ap (λ j. j.number) c.in-Ok.ensures.job) (ap is_running c.in-Ok.ensures.job) (ap plan_of c.in-Ok.ensures.job ∙ plan_commit old.job e sound) c.in-Ok.ensures.plans

pub returns-in-Ok : goal.returns-in-Ok
returns-in-Ok g c =
    let e = c.args.entry in
    let kept = c.self.inside.jobs.items in
    let k = c.in-Some.at in
    let old = c.index_mut.result.now in
    let found = subst (λ l. IsFound c.args.job l (Some k)) c.deref.ensures.value c.in-Some.ensures in
    let it = found_job c.args.job kept k old found c.index_mut.ensures.value in
    jobs_written kept k c.enter.new.kept
    ∙ with_job_is c.args.job (with_entry e) (jobs_in kept) k old.job c.enter.new.kept.job c.self.invariant.rising (at_job kept k old it.there) it.number_is c.in-Ok.ensures.job
    ∙ ap (λ l. with_job l c.args.job (with_entry e)) c.self.view_is
