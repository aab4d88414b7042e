-- the records so far are made, and the numbers below the next are taken
use Rattle.std.proofs.Common.{map, take}
use Rattle.std.specs.Prelude.{IfSome}
use Rattle.mt_records.specs.Records.{record_bytes}
use Rattle.mt_helper.specs.declared.status.Status.TheVariants.{Done}
use Rattle.mt_helper.specs.Helping.{Made, ref_of}
use Rattle.mt_helper.specs.Spooling.{AreTakenBelow}
use Rattle.mt_helper.proofs.records.put_refs.Given as goal

abbrev pub invariant-loop-name : goal.invariant-loop-name
invariant-loop-name g l = record {
  made : Made (map (λ name. record_bytes (ref_of name)) (take l.name-index l.names)) Done (g.P.Spool.files l.fn.spool) (g.P.Spool.faults l.fn.spool) (g.P.Spool.files l.spool) (g.P.Spool.faults l.spool);
  taken : IfSome (g.P.Spool.files l.spool) (AreTakenBelow l.next);
}
