use Rattle.std.proofs.Common.{ℕ, Ok, Err, rules}
use Rattle.std.proofs.lemmas.List.Sorted.{answers_always}
use Rattle.mt_feeds.specs.declared.kept.FedJob.{FedJob}
use Rattle.mt_jobs.proofs.Numbers.{searched}
use Rattle.mt_jobs.proofs.jobs.find.Goals as goal

pub returns-in-Ok : goal.returns-in-Ok
returns-in-Ok g c =
    let key : FedJob g.row.B.Denot → ℕ = λ k. k.job.number in
    searched c.args.number c.args.jobs.now (Ok c.in-Ok.place) c.requires c.in-Ok.ensures.bound (c.in-Ok.ensures.position key (answers_always _ _ _ (λ f a r h called. search rules)))

pub returns-in-Err : goal.returns-in-Err
returns-in-Err g c =
    let key : FedJob g.row.B.Denot → ℕ = λ k. k.job.number in
    searched c.args.number c.args.jobs.now (Err c.in-Err.field-0) c.requires c.in-Err.ensures.bound (c.in-Err.ensures.position key (answers_always _ _ _ (λ f a r h called. search rules)))
