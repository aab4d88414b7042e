use Rattle.std.proofs.Common.{ℕ, List}
use Rattle.mt_engine.proofs.Runs.{still_tells}
use Rattle.mt_engine.proofs.publish.end_log_run.Goals as goal

pub returns-in-Ok-clause-any_moment : goal.returns-in-Ok-clause-any_moment
returns-in-Ok-clause-any_moment g c files is records taken = c.end_run.ensures.any_moment c.requires.is_open files is records (taken files is)

pub returns-in-Err-Disk-clause-any_moment : goal.returns-in-Err-Disk-clause-any_moment
returns-in-Err-Disk-clause-any_moment g c files is records taken = c.end_run.ensures.any_moment c.requires.is_open files is records (taken files is)

pub returns-in-Ok-clause-told : goal.returns-in-Ok-clause-told
returns-in-Ok-clause-told g c done =
    let d = g.D.Disk in
    still_tells (d.seen c.args.disk.now) (d.seen c.end_run.new.disk) c.args.log.now c.args.run (d.may_leave c.args.disk.now) (λ (rs : List (List ℕ)). rs) (c.requires.running c.requires.is_open) c.in-Ok.ensures.added
