use Rattle.std.proofs.Common.{◌≤◌, length, List, subst, sym, arith}
use Rattle.std.specs.List.{AllByRecursion}
use Rattle.mt_types.specs.WellMade.{IsWellMadeRecord}
use Rattle.mt_types.specs.declared.body.Body.{Body}
use Rattle.mt_types.specs.declared.limits.TheConstants.{MOST_RECORDS}
use Rattle.mt_types.specs.declared.task.TaskRecord.{TaskRecord}
use Rattle.jobs_rows.proofs.words.outputs.Goals as goal

pub returns : goal.returns
returns c =
    let few : length c.loop-k.records.items ≤ 4095 = omega (arith, c.loop-k.invariant.few, c.loop-k.invariant.most, c.if-count-gt-MOST_RECORDS.false) in
    subst (λ (xs : List (TaskRecord Body)). (length xs ≤ MOST_RECORDS) × AllByRecursion IsWellMadeRecord xs) (sym c.from_vec.ensures) (few, c.loop-k.invariant.each)
