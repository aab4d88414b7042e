use Rattle.std.proofs.Common.{Ok, ◌∙◌, sym, arith}
use Rattle.mt_resolve.specs.Taking.{taken_of}
use Rattle.mt_resolve.proofs.Taken.{records_on}
use Rattle.mt_resolve.proofs.records.take_all_fresh.Goals as goal

pub take_fresh-requires-clause-ready : goal.take_fresh-requires-clause-ready
take_fresh-requires-clause-ready g c = c.requires.ready c.loop-record.record-index (taken_of c.loop-record.tree c.loop-record.taking) (omega arith) c.loop-record.invariant.taken

pub loop-record-preserved : goal.loop-record-preserved
loop-record-preserved g c = record {
  taken =
      records_on c.args.c.now c.args.records.now c.loop-record.record-index c.record-item.result (Ok (taken_of c.args.tree.now c.args.taking.now)) (taken_of c.loop-record.tree c.loop-record.taking)
      (omega arith) c.record-item.is c.loop-record.invariant.taken ∙ sym c.in_ok-take_fresh.ensures;
}
