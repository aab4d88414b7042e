use Rattle.std.proofs.Common.{◌≡◌, take, Ok}
use Rattle.mt_model.specs.Resolve.{take_records}
use Rattle.mt_resolve.specs.Taking.{first_taken, taken_of}
use Rattle.mt_resolve.specs.Undo.{LeadsBack}
use Rattle.mt_resolve.proofs.records.take_all.Given as goal

abbrev pub invariant-loop-record : goal.invariant-loop-record
invariant-loop-record g l = record {
  taken : take_records l.c (take l.record-index l.records) (Ok (first_taken l.fn.tree)) ≡ Ok (taken_of l.tree l.taking);
  back : LeadsBack l.taking.changes.items l.tree l.fn.tree;
}
