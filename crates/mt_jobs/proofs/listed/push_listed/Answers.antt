use Rattle.std.proofs.Common.{ℕ, ◌++◌, ◌∷◌, [], List, ap, ◌∙◌}
use Rattle.std.proofs.lemmas.Result.{on_ok_weaker}
use Rattle.mt_sched.specs.Plan.{Plan}
use Rattle.mt_sched.specs.PlanOfJob.{kinds_of}
use Rattle.mt_sched.specs.PlanSteps.{first_plan, grown}
use Rattle.mt_jobs.proofs.Heads.{plans_fed}
use Rattle.mt_jobs.proofs.listed.push_listed.Goals as goal

pub returns-clause-sched : goal.returns-clause-sched
returns-clause-sched g c =
    let job = c.args.kept.job in
    let first = first_plan (kinds_of job.document.phases) in
    let plans = c.args.sched.now in
    on_ok_weaker c.feed.result
    (λ fed.
    plans_fed job.number c.len-count.result first plans c.push_job.new.sched c.feed.new.self c.requires.above c.in_ok-push_job.ensures.sched fed
    ∙ ap {B = List (ℕ × Plan)} (λ n. plans ++ (job.number, grown first 0 n) ∷ []) c.len-count.ensures)
    c.feed.ensures.ok
