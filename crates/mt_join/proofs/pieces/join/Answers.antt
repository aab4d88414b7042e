use Rattle.std.proofs.Common.{[]}
use Rattle.mt_log.proofs.Running.{run_idle}
use Rattle.mt_join.proofs.pieces.join.Goals as goal

pub returns-in-Err-clause-any_moment : goal.returns-in-Err-clause-any_moment
returns-in-Err-clause-any_moment g c files is =
    let d = g.D.Disk in
    run_idle d.seen d.may_leave d.moment d.left_since c.args.disk.now files c.args.log.now c.args.run.now [] (c.requires.running c.requires.is_open files is) (g.met.D.Disk.only_now c.args.disk.now)
