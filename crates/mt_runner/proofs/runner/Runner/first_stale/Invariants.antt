use Rattle.std.proofs.Common.{◌≡◌, true, take}
use Rattle.std.specs.List.{AllByRecursion}
use Rattle.mt_tasks.specs.Standing.{is_ready_in}
use Rattle.mt_runner.specs.Attempts.{task_in}
use Rattle.mt_runner.proofs.runner.Runner.first_stale.Given as goal

abbrev pub invariant-loop-started : goal.invariant-loop-started
invariant-loop-started l = record {
  same : l.started-items ≡ l.fn.self.kept;
  ready : AllByRecursion (λ k. is_ready_in l.fn.engine.state (task_in k) ≡ true) (take l.started-index l.started-items);
}
