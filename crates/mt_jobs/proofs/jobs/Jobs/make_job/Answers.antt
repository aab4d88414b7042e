use Rattle.std.proofs.Common.{◌≡◌, ◌*◌, ◌++◌, ◌<◌, [], ◌∷◌, ℕ, codes, sym, ap, subst, ◌∙◌, arith}
use Rattle.std.specs.Prelude.{All}
use Rattle.mt_types.specs.declared.job.Job.{Job}
use Rattle.mt_model.specs.JobSteps.{new_job, with_folders}
use Rattle.mt_model.specs.Names.{job_folder, job_stor, number_at}
use Rattle.mt_model.specs.Rows.{at}
use Rattle.mt_sched.specs.Plans.{IsAbove}
use Rattle.mt_jobs.specs.JobList.{jobs_in}
use Rattle.mt_jobs.proofs.Added.{above_plans, all_below, jobs_pushed, jobs_with_new, small, unused}
use Rattle.mt_jobs.proofs.States.{make_is}
use Rattle.mt_jobs.proofs.jobs.Jobs.make_job.Goals as goal

pub make_folders-requires-clause-folder : goal.make_folders-requires-clause-folder
make_folders-requires-clause-folder g c =
    let same : c.args.position * 4096 ≡ number_at c.args.position 0 = omega arith in
    ap (λ n. at c.args.tree.now (job_folder n)) same ∙ unused c.args.position c.args.tree.now c.args.self.now c.requires.jobs c.requires.room []

pub make_folders-requires-clause-stor : goal.make_folders-requires-clause-stor
make_folders-requires-clause-stor g c =
    let same : c.args.position * 4096 ≡ number_at c.args.position 0 = omega arith in
    ap (λ n. at c.args.tree.now (job_stor n)) same ∙ unused c.args.position c.args.tree.now c.args.self.now c.requires.jobs c.requires.room (codes "stor" ∷ [])

pub push_job-requires : goal.push_job-requires
push_job-requires g c =
    let kept = c.self.inside.jobs.items in
    let n : ℕ = number_at c.args.position 0 in
    let same : c.args.position * 4096 ≡ n = omega arith in
    let number : c.in_ok-kept.kept.job.number ≡ n = ap (λ j. j.number) (c.in_ok-kept.ensures.job ∙ c.in_ok-new_job.ensures) ∙ same in
    let below : All (λ j. j.number < n) (jobs_in kept) = subst (All (λ j. j.number < n)) (sym c.self.view_is) (all_below c.args.position c.args.tree.now c.args.self.now c.requires.jobs c.requires.room) in
    record { above = subst (λ m. IsAbove m c.self.inside.sched) (sym number) (subst (IsAbove n) (sym c.self.invariant.plans_are) (above_plans n (jobs_in kept) below)) }

pub invariant_of-self : goal.invariant_of-self
invariant_of-self g c =
    let kept = c.self.inside.jobs.items in
    let rows = c.args.tree.now in
    let n : ℕ = number_at c.args.position 0 in
    let same : c.args.position * 4096 ≡ n = omega arith in
    let made : c.in_ok-kept.kept.job ≡ new_job rows n c.args.document c.args.moment = c.in_ok-kept.ensures.job ∙ c.in_ok-new_job.ensures ∙ ap (λ m. new_job rows m c.args.document c.args.moment) same in
    let below : All (λ j. j.number < n) (jobs_in kept) = subst (All (λ j. j.number < n)) (sym c.self.view_is) (all_below c.args.position rows c.args.self.now c.requires.jobs c.requires.room) in
    jobs_pushed rows n c.args.moment c.args.document kept c.push_job.new.jobs.items c.self.inside.sched c.push_job.new.sched c.self.inside.running.keys c.push_job.new.running.keys c.self.inside.done.keys c.in_ok-kept.kept
    c.self.invariant c.in_ok-kept.ensures.kept made (small c.args.position rows c.args.self.now c.requires.jobs c.requires.room) below c.in-Ok.ensures.jobs c.in-Ok.ensures.sched c.in-Ok.ensures.running

pub returns-in-Ok : goal.returns-in-Ok
returns-in-Ok g c =
    let kept = c.self.inside.jobs.items in
    let rows = c.args.tree.now in
    let n : ℕ = number_at c.args.position 0 in
    let same : c.args.position * 4096 ≡ n = omega arith in
    let made : c.in_ok-kept.kept.job ≡ new_job rows n c.args.document c.args.moment = c.in_ok-kept.ensures.job ∙ c.in_ok-new_job.ensures ∙ ap (λ m. new_job rows m c.args.document c.args.moment) same in
    make_is c.args.position rows c.make_folders.new.tree c.args.self.now _ c.args.document c.args.moment
    (c.in_ok-make_folders.ensures ∙ ap (λ m. with_folders rows m c.args.moment) same)
    (ap jobs_in c.in-Ok.ensures.jobs ∙ jobs_with_new kept c.in_ok-kept.kept ∙ ap (λ l. l ++ c.in_ok-kept.kept.job ∷ []) c.self.view_is ∙ ap (λ (j : Job g.row.B.Denot). c.args.self.now ++ j ∷ []) made)
