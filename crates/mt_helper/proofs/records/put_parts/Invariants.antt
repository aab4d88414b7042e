-- the records of the reducers so far are made, and the numbers below the next are taken
use Rattle.std.proofs.Common.{[], map, take}
use Rattle.std.specs.Prelude.{IfSome, slice_index_or}
use Rattle.std.specs.List.{range_with_len}
use Rattle.mt_split.specs.Spans.{bytes_in}
use Rattle.mt_records.specs.Records.{record_bytes}
use Rattle.mt_helper.specs.declared.status.Status.TheVariants.{Done}
use Rattle.mt_helper.specs.Helping.{Made, part_record}
use Rattle.mt_helper.specs.Spooling.{AreTakenBelow}
use Rattle.mt_helper.proofs.records.put_parts.Given as goal

abbrev pub invariant-loop-reducer : goal.invariant-loop-reducer
invariant-loop-reducer g l = record {
  made : Made (map (λ r. record_bytes (part_record r (bytes_in l.text (slice_index_or l.parts r [])))) (take l.reducer (range_with_len 0 l.count))) Done
      (g.P.Spool.files l.fn.spool) (g.P.Spool.faults l.fn.spool) (g.P.Spool.files l.spool) (g.P.Spool.faults l.spool);
  taken : IfSome (g.P.Spool.files l.spool) (AreTakenBelow l.next);
}
