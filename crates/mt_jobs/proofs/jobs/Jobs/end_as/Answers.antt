use Rattle.std.proofs.Common.{Some, None, sym, ap, subst, ◌∙◌}
use Rattle.std.proofs.lemmas.Result.{on_err_weaker, on_ok_weaker}
use Rattle.mt_model.specs.JobSteps.{done_at}
use Rattle.mt_model.specs.State.{job_at, with_job}
use Rattle.mt_jobs.specs.JobList.{IsFound, jobs_in}
use Rattle.mt_jobs.proofs.Changes.{at_job, jobs_written}
use Rattle.mt_jobs.proofs.Ended.{ended_either}
use Rattle.mt_jobs.proofs.Numbers.{found_job, found_none, with_job_is, with_no_job}
use Rattle.mt_jobs.proofs.jobs.Jobs.end_as.Goals as goal

pub invariant_of-self : goal.invariant_of-self
invariant_of-self g c =
    let kept = c.self.inside.jobs.items in
    let old = c.index_mut.result.now in
    let found = subst (λ l. IsFound c.args.job l (Some c.in-Some.place)) c.deref.ensures.value c.in-Some.ensures in
    let it = found_job c.args.job kept c.in-Some.place old found c.index_mut.ensures.value in
    ended_either c.mark_done.result c.args.moment c.args.cancelled kept c.self.inside.sched c.mark_done.new.sched c.self.inside.running.keys c.mark_done.new.running.keys c.self.inside.done.keys c.mark_done.new.done.keys c.in-Some.place old c.mark_done.new.kept
    c.self.invariant it.there c.mark_done.ensures.job c.mark_done.ensures.kept c.mark_done.ensures.sched c.mark_done.ensures.running c.mark_done.ensures.done
    (on_err_weaker c.mark_done.result (λ same. (same.0, same.1, ap (λ s. s.keys) same.2, same.3)) c.mark_done.ensures.err)

pub returns-in-Some-clause-ok : goal.returns-in-Some-clause-ok
returns-in-Some-clause-ok g c =
    let kept = c.self.inside.jobs.items in
    let old = c.index_mut.result.now in
    let change = done_at {B = g.row.B.Denot} c.args.moment c.args.cancelled in
    let found = subst (λ l. IsFound c.args.job l (Some c.in-Some.place)) c.deref.ensures.value c.in-Some.ensures in
    let it = found_job c.args.job kept c.in-Some.place old found c.index_mut.ensures.value in
    on_ok_weaker c.mark_done.result
    (λ ends.
    jobs_written kept c.in-Some.place c.mark_done.new.kept
    ∙ with_job_is c.args.job change (jobs_in kept) c.in-Some.place old.job c.mark_done.new.kept.job c.self.invariant.rising (at_job kept c.in-Some.place old it.there) it.number_is ends
    ∙ ap (λ l. with_job l c.args.job change) c.self.view_is)
    c.mark_done.ensures.job

pub returns-in-None-clause-ok : goal.returns-in-None-clause-ok
returns-in-None-clause-ok g c =
    let found = subst (λ l. IsFound c.args.job l None) c.deref.ensures.value c.in-None.ensures in
    sym (with_no_job c.args.job (done_at c.args.moment c.args.cancelled) c.args.self.now (ap (λ l. job_at l c.args.job) (sym c.self.view_is) ∙ found_none c.args.job c.self.inside.jobs.items found))
