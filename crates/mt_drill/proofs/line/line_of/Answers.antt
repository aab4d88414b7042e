-- The log is opened again, and then only read.
use Rattle.mt_log.specs.LogImage.{SameLog}
use Rattle.mt_model.specs.State.{first_state}
use Rattle.mt_drill.proofs.Behind.{reads_behind}
use Rattle.mt_drill.proofs.line.line_of.Goals as goal

pub returns-clause-tells : goal.returns-clause-tells
returns-clause-tells g c files is k has = c.in_ok-line.ensures.tells k (c.in_ok-engine.ensures.current files is first_state k has)

pub returns-clause-any_moment : goal.returns-clause-any_moment
returns-clause-any_moment g c files is =
    let d = g.D.Disk in
    let mid = c.open_again.new.disk in
    reads_behind d.seen d.may_leave d.moment d.left_since c.args.disk.now mid c.line_by.new.disk (SameLog files) (c.open_again.ensures.any_moment files is) c.line_by.ensures.reads.read (g.met.D.Disk.counts_now mid) (g.met.D.Disk.only_now mid)
