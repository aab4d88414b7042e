use Rattle.std.proofs.Common.{◌≡◌, ◌+◌, Some, None, sym, ap, ◌∙◌}
use Rattle.std.specs.Option.{unwrap_or}
use Rattle.std.proofs.lemmas.Result.{on_ok_weaker}
use Rattle.mt_model.specs.JobSteps.{with_entry}
use Rattle.mt_model.specs.Tasks.{is_running}
use Rattle.mt_sched.specs.Plans.{plan_at}
use Rattle.mt_sched.specs.PlanOfJob.{plan_of}
use Rattle.mt_sched.specs.PlanSteps.{committed_in, grown, with_plan}
use Rattle.mt_feeds.proofs.Entered.{ready_runs}
use Rattle.mt_jobs.proofs.Changes.{with_plan_twice}
use Rattle.mt_jobs.proofs.Plans.{plan_entered}
use Rattle.mt_jobs.proofs.commit.enter.Goals as goal

pub open-requires-clause-runs : goal.open-requires-clause-runs
open-requires-clause-runs g c =
    let job = c.args.kept.now.job in
    ap is_running c.in_ok-enter.ensures.job ∙ ready_runs job c.args.entry.phase c.args.entry.place c.requires.ready

pub open-requires-clause-plan : goal.open-requires-clause-plan
open-requires-clause-plan g c =
    let job = c.args.kept.now.job in
    let e = c.args.entry in
    let n = job.number in
    let there : Some c.in-Some.queue.now ≡ Some (plan_of c.enter.new.self.job) =
    c.in-Some.ensures
    ∙ ap (λ s. plan_at s n) (c.in_ok-feed.ensures.ok ∙ ap (λ s. with_plan s n (λ plan. grown plan (e.phase + 1) c.count_of-count.result)) c.in_ok-commit.ensures.ok)
    ∙ ap (λ k. plan_at (with_plan (with_plan c.args.sched.now n (λ plan. committed_in plan e.phase e.place)) n (λ plan. grown plan (e.phase + 1) k)) n) c.count_of-count.ensures
    ∙ plan_entered job e n c.args.sched.now c.requires.sound c.requires.plan
    ∙ ap (λ j. Some (plan_of j)) (sym c.in_ok-enter.ensures.job) in
    ap (λ o. unwrap_or o c.in-Some.queue.now) there

pub returns-in-Some-clause-plans : goal.returns-in-Some-clause-plans
returns-in-Some-clause-plans g c =
    let job = c.args.kept.now.job in
    let e = c.args.entry in
    let n = job.number in
    let plans = c.args.sched.now in
    on_ok_weaker c.open.result
    (λ opened.
    c.in_ok-feed.ensures.ok
    ∙ ap (λ s. with_plan s n (λ plan. grown plan (e.phase + 1) c.count_of-count.result)) c.in_ok-commit.ensures.ok
    ∙ with_plan_twice n (λ plan. committed_in plan e.phase e.place) (λ plan. grown plan (e.phase + 1) c.count_of-count.result) plans
    ∙ ap (λ k. with_plan plans n (λ plan. grown (committed_in plan e.phase e.place) (e.phase + 1) k)) c.count_of-count.ensures)
    c.open.ensures.kept

pub returns-in-None-clause-kept : goal.returns-in-None-clause-kept
returns-in-None-clause-kept g c =
    let job = c.args.kept.now.job in
    let e = c.args.entry in
    let n = job.number in
    let never : None ≡ Some (plan_of (with_entry e job)) =
    c.in-None.ensures
    ∙ ap (λ s. plan_at s n) (c.in_ok-feed.ensures.ok ∙ ap (λ s. with_plan s n (λ plan. grown plan (e.phase + 1) c.count_of-count.result)) c.in_ok-commit.ensures.ok)
    ∙ ap (λ k. plan_at (with_plan (with_plan c.args.sched.now n (λ plan. committed_in plan e.phase e.place)) n (λ plan. grown plan (e.phase + 1) k)) n) c.count_of-count.ensures
    ∙ plan_entered job e n c.args.sched.now c.requires.sound c.requires.plan in
    cc

pub returns-in-None-clause-plans : goal.returns-in-None-clause-plans
returns-in-None-clause-plans g c =
    let job = c.args.kept.now.job in
    let e = c.args.entry in
    let n = job.number in
    let plans = c.args.sched.now in
    c.in_ok-feed.ensures.ok
    ∙ ap (λ s. with_plan s n (λ plan. grown plan (e.phase + 1) c.count_of-count.result)) c.in_ok-commit.ensures.ok
    ∙ with_plan_twice n (λ plan. committed_in plan e.phase e.place) (λ plan. grown plan (e.phase + 1) c.count_of-count.result) plans
    ∙ ap (λ k. with_plan plans n (λ plan. grown (committed_in plan e.phase e.place) (e.phase + 1) k)) c.count_of-count.ensures
