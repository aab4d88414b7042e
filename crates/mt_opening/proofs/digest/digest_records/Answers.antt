use Rattle.std.proofs.Common.{◌≡◌, true, Err, ap, sym, ◌∙◌, arith}
use Rattle.std.proofs.Math.Seq.{map-set_same}
use Rattle.mt_account.proofs.Each.{of_one}
use Rattle.mt_body.specs.Stored.{IsStored, is_stored}
use Rattle.mt_codec.specs.Spelling.{undigested_body}
use Rattle.mt_disk.proofs.Readings.{reads_on}
use Rattle.mt_log.specs.LogState.{told}
use Rattle.mt_log.specs.declared.read.ReadFault.TheVariants.{Disk}
use Rattle.mt_model.specs.Bodies.{OfRecord}
use Rattle.mt_types.specs.Values.{record_with}
use Rattle.mt_opening.proofs.Bodies.{as_many, records_apart, set_more}
use Rattle.mt_opening.proofs.digest.digest_records.Goals as goal

pub digest_record-requires-clause-stored : goal.digest_record-requires-clause-stored
digest_record-requires-clause-stored g c ps is =
    let i = c.loop-k.invariant in
    let many = as_many c.loop-k.records.items c.args.records.items i.same in
    of_one (OfRecord (λ b. is_stored ps b ≡ true)) c.loop-k.k c.loop-k.records.items c.index_mut.result.now (omega (arith, c.loop-k-test.true, c.len-k-end.ensures, many)) c.index_mut.ensures.value
    (records_apart c.loop-k.records.items c.args.records.items i.same ps (c.requires.stored ps (sym (ap told i.read.seen_same) ∙ is)))

pub loop-k-preserved : goal.loop-k-preserved
loop-k-preserved g c =
    let d = g.D.Disk in
    let i = c.loop-k.invariant in
    let many = as_many c.loop-k.records.items c.args.records.items i.same in
    let looks = c.in-Ok.ensures.looks in
    record {
      same = map-set_same (record_with undigested_body) c.loop-k.records.items c.loop-k.k c.digest_record.new.written c.index_mut.result.now (c.in-Ok.ensures.same ∙ ap (record_with undigested_body) c.index_mut.ensures.value) ∙ i.same;
      digests = λ ps is.
          set_more (OfRecord (IsStored ps)) c.loop-k.records.items c.loop-k.k c.digest_record.new.written (omega (arith, c.loop-k-test.true, c.len-k-end.ensures, many)) (i.digests ps is)
          (c.in-Ok.ensures.digests ps (ap told i.read.seen_same ∙ is));
      read = reads_on d.seen d.may_leave d.moment d.left_since _ _ _ i.read looks.read;
      faults = omega (arith, i.faults, looks.faults);
      stays = g.met.D.Disk.joined _ _ _ i.stays looks.stays;
    }

pub returns-in-Err-clause-looks : goal.returns-in-Err-clause-looks
returns-in-Err-clause-looks g c =
    let d = g.D.Disk in
    let i = c.loop-k.invariant in
    let looks = c.in-Err.ensures.looks in
    record {
      read = reads_on d.seen d.may_leave d.moment d.left_since _ _ _ i.read looks.read;
      stays = g.met.D.Disk.joined _ _ _ i.stays looks.stays;
      disk = λ is.
          let same : c.in-Err.fault ≡ Disk = cc in
          omega (arith, i.faults, looks.disk (ap (λ e. Err e) same));
      faults = omega (arith, i.faults, looks.faults);
    }
