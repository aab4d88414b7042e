use Rattle.mt_disk.specs.CrashModel.{MaybeCut}
use Rattle.mt_draft.proofs.Buts.{but_called}
use Rattle.mt_draft.proofs.pour.clear.Goals as goal

pub returns-clause-images : goal.returns-clause-images
returns-clause-images g c files here =
    let d = g.D.Disk in
    but_called d.moment d.left_since d.may_leave _ _ c.args.file (MaybeCut 0) files (g.met.D.Disk.only_now c.args.disk.now) here c.cut.ensures.crash c.cut.ensures.time
