use Rattle.std.proofs.Common.{◌∙◌, length, arith}
use borrow.Rule.Slice.PartMut.{same_len_mid, mid_len}
use Rattle.mt_body.proofs.Buffers.{took_on}
use Rattle.mt_body.proofs.fill.fill_piece.Goals as goal

pub loop-done-preserved : goal.loop-done-preserved
loop-done-preserved g c =
    let reads = c.in-Took.ensures.reads in
    let kept = c.loop-done.invariant in
    let size = same_len_mid c.loop-done.done _ c.loop-done.into c.read.new.into c.read.auto.into in
    let part = c.read.auto.into ∙ mid_len c.loop-done.done (length c.loop-done.into) c.loop-done.into (omega arith) in
    record {
      within = omega (arith, size, part, reads.1, kept.within);
      took = took_on _ _ _ c.loop-done.into c.read.new.into c.loop-done.done _ c.in-Took.count (omega (arith, kept.within)) part (omega (arith, part, reads.1)) kept.took reads.2;
      stays = g.met.S.Source.source_joined _ _ _ kept.stays c.read.ensures.stays;
      faults = omega (arith, kept.faults, reads.3);
    }
