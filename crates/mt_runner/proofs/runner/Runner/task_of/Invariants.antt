use Rattle.std.proofs.Common.{◌≡◌, None, take}
use Rattle.std.specs.List.{find}
use Rattle.mt_runner.specs.Stale.{is_child}
use Rattle.mt_runner.proofs.runner.Runner.task_of.Given as goal

abbrev pub invariant-loop-started : goal.invariant-loop-started
invariant-loop-started l = record {
  same : l.started-items ≡ l.fn.self.kept;
  none : find (is_child l.fn.ticket.number) (take l.started-index l.started-items) ≡ None;
}
