use Rattle.std.proofs.Common.{ap, subst, sym}
use Rattle.mt_log.specs.LogState.{LogState}
use Rattle.mt_log.specs.RunState.{IsRunning}
use Rattle.mt_log.proofs.Running.{running_begun}
use Rattle.mt_log.proofs.log.Log.begin_run.Goals as goal

pub returns-clause-running : goal.returns-clause-running
returns-clause-running g c is_open files is =
    let d = g.D.Disk in
    subst (λ n. IsRunning (d.may_leave c.args.disk.now) files c.args.self.now (record { next = n })) (ap (λ (s : LogState). s.gate) (sym c.self.view_is))
    (running_begun d.seen d.may_leave d.moment d.left_since c.args.disk.now c.args.self.now c.requires.stands is_open files is)
