use Rattle.std.proofs.Common.{◌-◌, ◌∙◌, length, ap, arith}
use borrow.Rule.Slice.PartMut.{mid_len, same_len_mid}
use Rattle.mt_disk.proofs.Readings.{reads_on}
use Rattle.mt_log.specs.LogState.{told}
use Rattle.mt_body.specs.Stored.{bytes_of}
use Rattle.mt_body.proofs.Readings.{part_more}
use Rattle.mt_body.proofs.part.read_body.Goals as goal

pub overflow_add-at : goal.overflow_add-at
overflow_add-at g c = omega (arith, c.requires.within, c.size-size.ensures, c.size-size.type_inv, c.loop-done.invariant.within, c.loop-done.invariant.size)

pub loop-done-preserved : goal.loop-done-preserved
loop-done-preserved g c =
    let d = g.D.Disk in
    let i = c.loop-done.invariant in
    let into = c.loop-done.into in
    let done = c.loop-done.done in
    let count = c.in_ok-count.count in
    let size = same_len_mid done _ into c.read_some.new.into c.read_some.auto.into in
    let part = c.read_some.auto.into ∙ mid_len done (length into) into (omega (arith, i.within)) in
    let few = c.in_ok-count.ensures.count in
    record {
      within = omega (arith, size, part, few, i.within);
      size = size ∙ i.size;
      bytes = λ ps is. part_more (bytes_of ps c.args.body.now) into c.read_some.new.into c.args.at done (length into - done) count (omega (arith, i.within)) part (omega (arith, part, few)) (i.bytes ps is) (c.in_ok-count.ensures.bytes ps (ap told i.read.seen_same ∙ is));
      read = reads_on d.seen d.may_leave d.moment d.left_since _ _ _ i.read c.read_some.ensures.read;
      faults = omega (arith, i.faults, c.read_some.ensures.cause.later);
      stays = g.met.D.Disk.joined _ _ _ i.stays c.read_some.ensures.stays;
    }
