-- the records so far, and those of the rest
use Rattle.std.proofs.Common.{◌≡◌, ◌++◌, drop, Ok}
use Rattle.mt_records.specs.Fate.{and_then, task_records}
use Rattle.mt_records.proofs.asking.task_records.Given as goal

abbrev pub invariant-loop-raw : goal.invariant-loop-raw
invariant-loop-raw l = and_then (task_records l.login (drop l.raw-index l.records)) (λ ts. Ok (l.tasks.items ++ ts)) ≡ task_records l.login l.records
