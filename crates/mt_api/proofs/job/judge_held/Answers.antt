use Rattle.std.proofs.Common.{inl, refl}
use Rattle.mt_api.specs.declared.answered.Answered.TheVariants as answered
use Rattle.mt_api.proofs.Ends.{idle_keeps, memory_not_disk}
use Rattle.mt_api.proofs.Plain.{idle}
use Rattle.mt_api.proofs.job.judge_held.Goals as goal

pub returns-in-Ok-clause-settles : goal.returns-in-Ok-clause-settles
returns-in-Ok-clause-settles g c base h asked i e = c.judge_job.ensures.settles base h asked c.args.bytes i e (inl c.in-Ok.ensures.posted) c.in-Ok.ensures.digest

pub returns-in-Err-clause-settles : goal.returns-in-Err-clause-settles
returns-in-Err-clause-settles g c base h asked i e =
    let d = g.D.Disk in
    (h, (refl, λ is_open. i), idle d.seen d.may_leave d.moment d.left_since c.args.disk.now c.args.engine.now base h c.requires.over.stands i (g.met.D.Disk.only_now c.args.disk.now))

pub returns-in-Err-clause-settled : goal.returns-in-Err-clause-settled
returns-in-Err-clause-settled g c =
    let d = g.D.Disk in
    record { keeps = idle_keeps d.seen d.may_leave d.faults c.args.disk.now answered.Memory c.args.engine.now c.requires.over.is_open c.requires.over.stands memory_not_disk; is_settled = tt; sends = tt }
