use Rattle.std.proofs.Common.{Ok, sym, ◌∙◌, arith}
use Rattle.mt_resolve.specs.Taking.{first_taken, taken_of}
use Rattle.mt_resolve.proofs.Taken.{stopped, went_on}
use Rattle.mt_resolve.proofs.records.take_all.Goals as goal

pub take-requires : goal.take-requires
take-requires g c = c.requires c.loop-record.record-index (taken_of c.loop-record.tree c.loop-record.taking) (omega arith) c.loop-record.invariant.taken

pub returns-then-is_some-clause-taken : goal.returns-then-is_some-clause-taken
returns-then-is_some-clause-taken g c =
    stopped c.args.c.now c.args.records.now c.loop-record.record-index c.record-item.result (Ok (first_taken c.args.tree.now)) (taken_of c.loop-record.tree c.loop-record.taking) (taken_of c.take.new.tree c.take.new.taking)
    c.in_ok-refused.refused (sym c.is_some.ensures ∙ c.if-is_some.true) (omega arith) c.record-item.is c.loop-record.invariant.taken c.in_ok-refused.ensures.taken

pub returns-then-is_some-clause-back : goal.returns-then-is_some-clause-back
returns-then-is_some-clause-back g c = c.in_ok-refused.ensures.back c.args.tree.now c.loop-record.invariant.back

pub loop-record-preserved : goal.loop-record-preserved
loop-record-preserved g c = record {
  taken =
      went_on c.args.c.now c.args.records.now c.loop-record.record-index c.record-item.result (Ok (first_taken c.args.tree.now)) (taken_of c.loop-record.tree c.loop-record.taking) (taken_of c.take.new.tree c.take.new.taking)
      c.in_ok-refused.refused (sym c.is_some.ensures ∙ c.if-is_some.false) (omega arith) c.record-item.is c.loop-record.invariant.taken c.in_ok-refused.ensures.taken;
  back = c.in_ok-refused.ensures.back c.args.tree.now c.loop-record.invariant.back;
}
