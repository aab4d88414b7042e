use Rattle.std.proofs.Common.{◌<◌, refl, sym, subst, ◌∙◌}
use Rattle.std.specs.Prelude.{All}
use Rattle.mt_sched.specs.Plans.{IsAbove}
use Rattle.mt_jobs.specs.JobList.{jobs_in}
use Rattle.mt_jobs.specs.Listed.{LawfulList}
use Rattle.mt_jobs.proofs.Heads.{above_kept, jobs_listed, jobs_with, lawful_pushed, may_taken, never_follows, small_number}
use Rattle.mt_jobs.proofs.jobs.Jobs.take.Goals as goal

pub returns-then-not-may_take-clause-refused : goal.returns-then-not-may_take-clause-refused
returns-then-not-may_take-clause-refused g c = (refl, never_follows c.args.count c.args.self.now c.args.job (sym c.may_take.ensures ∙ c.if-not-may_take.true))

pub push_listed-requires : goal.push_listed-requires
push_listed-requires g c =
    let kept = c.self.inside.jobs.items in
    let job = c.args.job in
    let may = may_taken c.args.count c.args.self.now job c.requires.lawful.rising (sym c.may_take.ensures ∙ c.if-not-may_take.false) in
    let below : All (λ j. j.number < job.number) (jobs_in kept) = subst (All (λ j. j.number < job.number)) (sym c.self.view_is) may.below in
    record { above = subst (λ j. IsAbove j.number c.self.inside.sched) (sym c.in_ok-kept.ensures.job) (above_kept job.number kept c.self.inside.sched c.self.inside.running.keys c.self.inside.done.keys c.self.invariant below) }

pub invariant_of-self : goal.invariant_of-self
invariant_of-self g c =
    let kept = c.self.inside.jobs.items in
    let job = c.args.job in
    let may = may_taken c.args.count c.args.self.now job c.requires.lawful.rising (sym c.may_take.ensures ∙ c.if-not-may_take.false) in
    let below : All (λ j. j.number < job.number) (jobs_in kept) = subst (All (λ j. j.number < job.number)) (sym c.self.view_is) may.below in
    jobs_listed kept c.push_listed.new.jobs.items c.self.inside.sched c.push_listed.new.sched c.self.inside.running.keys c.push_listed.new.running.keys c.self.inside.done.keys job c.in_ok-kept.kept
    c.self.invariant c.in_ok-kept.ensures.kept c.in_ok-kept.ensures.job c.requires.head (small_number c.args.count job.number c.requires.room may.number) below c.in-Ok.ensures.jobs c.in-Ok.ensures.sched c.in-Ok.ensures.running

pub returns-in-Ok-clause-lawful : goal.returns-in-Ok-clause-lawful
returns-in-Ok-clause-lawful g c =
    let may = may_taken c.args.count c.args.self.now c.args.job c.requires.lawful.rising (sym c.may_take.ensures ∙ c.if-not-may_take.false) in
    subst (LawfulList c.args.count)
    (sym (jobs_with c.self.inside.jobs.items c.push_listed.new.jobs.items c.args.job c.in_ok-kept.kept c.args.self.now c.self.view_is c.in_ok-kept.ensures.job c.in-Ok.ensures.jobs))
    (lawful_pushed c.args.count c.args.self.now c.args.job c.requires.lawful c.requires.head may)
