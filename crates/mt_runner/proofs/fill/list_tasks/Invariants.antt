use Rattle.std.proofs.Common.{◌≡◌, ◌≤◌, map, take, vec_capacity}
use Rattle.mt_runner.specs.Attempts.{task_in}
use Rattle.mt_runner.proofs.fill.list_tasks.Given as goal

abbrev pub invariant-loop-started : goal.invariant-loop-started
invariant-loop-started l = record {
  tasks : l.busy.items ≡ map task_in (take l.started-index l.fn.kept);
  room : vec_capacity l.fn.busy ≤ vec_capacity l.busy;
}
