use Rattle.std.proofs.Common.{◌≡◌, take, Ok}
use Rattle.mt_model.specs.Resolve.{take_records}
use Rattle.mt_resolve.specs.Taking.{taken_of}
use Rattle.mt_resolve.proofs.records.take_all_fresh.Given as goal

abbrev pub invariant-loop-record : goal.invariant-loop-record
invariant-loop-record g l = record {
  taken : take_records l.c (take l.record-index l.records) (Ok (taken_of l.fn.tree l.fn.taking)) ≡ Ok (taken_of l.tree l.taking);
}
