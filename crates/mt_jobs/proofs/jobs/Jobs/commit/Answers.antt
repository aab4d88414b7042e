use Rattle.std.proofs.Common.{◌≡◌, ◌+◌, Some, None, length, refl, sym, ap, subst, ◌∙◌}
use Rattle.std.specs.List.{slice_get}
use Rattle.mt_types.specs.declared.job.TraceEntry.{TraceEntry}
use Rattle.mt_model.specs.Feed.{items_of}
use Rattle.mt_model.specs.JobSteps.{commit_refusal, with_entry}
use Rattle.mt_model.specs.Lawful.{LawfulJob}
use Rattle.mt_model.specs.State.{job_at, with_job}
use Rattle.mt_model.specs.Tasks.{is_running}
use Rattle.mt_sched.specs.PlanOfJob.{plan_of}
use Rattle.mt_sched.specs.PlanSteps.{committed_in, grown}
use Rattle.mt_sched.proofs.Changes.{plan_commit}
use Rattle.mt_feeds.proofs.Entered.{ready_runs}
use Rattle.mt_resolve.proofs.Ready.{is_committing, records_ready}
use Rattle.mt_jobs.specs.JobList.{IsFound, jobs_in}
use Rattle.mt_jobs.proofs.Allowed.{all_at, kept_at, plan_here, refusal_of, there}
use Rattle.mt_jobs.proofs.Changes.{at_job, jobs_changed, jobs_written}
use Rattle.mt_jobs.proofs.Numbers.{found_job, found_none, with_job_is}
use Rattle.mt_jobs.proofs.Plans.{allowed_ready}
use Rattle.mt_jobs.proofs.States.{commit_is}
use Rattle.mt_jobs.proofs.jobs.Jobs.commit.Goals as goal

pub returns-in_default : goal.returns-in_default
returns-in_default g c =
    let t = c.args.task.now in
    let found = subst (λ l. IsFound t.job l None) c.deref.ensures.value c.in_default.ensures in
    let none = ap (λ l. job_at l t.job) (sym c.self.view_is) ∙ found_none t.job c.self.inside.jobs.items found in
    let it = there (job_at c.args.self.now t.job) (commit_refusal t.phase t.place) c.requires.allowed in
    let never : None ≡ Some it.job = sym none ∙ it.is in
    cc

pub commit_task-requires : goal.commit_task-requires
commit_task-requires g c =
    let t = c.args.task.now in
    let kept = c.self.inside.jobs.items in
    let k = c.in-Some.at in
    let old = c.index_mut.result.now in
    let found = subst (λ l. IsFound t.job l (Some k)) c.deref.ensures.value c.in-Some.ensures in
    let it = found_job t.job kept k old found c.index_mut.ensures.value in
    let job_is = ap (λ l. job_at l t.job) (sym c.self.view_is) ∙ it.job in
    let none = refusal_of (job_at c.args.self.now t.job) old.job (commit_refusal t.phase t.place) job_is c.requires.allowed in
    let ready = allowed_ready old.job t.phase t.place none in
    let lawful = all_at (LawfulJob c.args.position) c.args.self.now k old.job c.requires.jobs.each (ap (λ l. slice_get l k) (sym c.self.view_is) ∙ at_job kept k old it.there) in
    record {
      kept = kept_at kept k old c.self.invariant.each it.there;
      sound = lawful.sound;
      document = lawful.document;
      ready = ready;
      plan = plan_here t.job kept c.self.inside.sched c.self.inside.running.keys c.self.inside.done.keys k old c.self.invariant it (ready_runs old.job t.phase t.place ready);
      committing = (
        is_committing c.args.position c.requires.room c.args.tree.now c.args.self.now c.requires.rows c.requires.jobs t.job old.job job_is t.phase t.place none c.args.moment,
        records_ready c.args.position c.requires.room c.args.tree.now c.args.self.now c.requires.rows c.requires.jobs t.job old.job job_is t.phase t.place none c.args.moment c.args.fate.now c.requires.made,
      );
    }

pub invariant_of-self : goal.invariant_of-self
invariant_of-self g c =
    let t = c.args.task.now in
    let kept = c.self.inside.jobs.items in
    let k = c.in-Some.at in
    let old = c.index_mut.result.now in
    let found = subst (λ l. IsFound t.job l (Some k)) c.deref.ensures.value c.in-Some.ensures in
    let it = found_job t.job kept k old found c.index_mut.ensures.value in
    let lawful = all_at (LawfulJob c.args.position) c.args.self.now k old.job c.requires.jobs.each (ap (λ l. slice_get l k) (sym c.self.view_is) ∙ at_job kept k old it.there) in
    let h = c.in-Ok.ensures in
    jobs_changed (λ plan. grown (committed_in plan t.phase t.place) (t.phase + 1) (length (items_of h.entry.outcome)))
    kept c.self.inside.sched c.commit_task.new.sched c.self.inside.running.keys c.self.inside.done.keys k old c.commit_task.new.kept c.self.invariant it.there h.kept
    (ap (λ j. j.number) h.job) (ap is_running h.job)
    (ap plan_of h.job ∙ plan_commit old.job h.entry lawful.sound ∙ ap (λ (e : TraceEntry g.row.B.Denot). grown (committed_in (plan_of old.job) e.phase e.place) (e.phase + 1) (length (items_of h.entry.outcome))) h.entry_is)
    h.plans_are

pub returns-in-Ok : goal.returns-in-Ok
returns-in-Ok g c =
    let t = c.args.task.now in
    let kept = c.self.inside.jobs.items in
    let k = c.in-Some.at in
    let old = c.index_mut.result.now in
    let found = subst (λ l. IsFound t.job l (Some k)) c.deref.ensures.value c.in-Some.ensures in
    let it = found_job t.job kept k old found c.index_mut.ensures.value in
    let job_is = ap (λ l. job_at l t.job) (sym c.self.view_is) ∙ it.job in
    let h = c.in-Ok.ensures in
    commit_is c.args.position c.args.tree.now c.commit_task.new.tree c.args.self.now _ t.job t.phase t.place c.args.fate.now c.args.moment old.job h.entry job_is h.entry_is h.rows_are
    (jobs_written kept k c.commit_task.new.kept
    ∙ with_job_is old.job.number (with_entry h.entry) (jobs_in kept) k old.job c.commit_task.new.kept.job c.self.invariant.rising (at_job kept k old it.there) refl h.job
    ∙ ap (λ l. with_job l old.job.number (with_entry h.entry)) c.self.view_is)
