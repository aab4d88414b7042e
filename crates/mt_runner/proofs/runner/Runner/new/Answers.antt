use Rattle.std.proofs.Common.{◌≡◌, ◌≤◌, List, length, map, eqb, sym, subst, arith}
use Rattle.std.specs.List.{IsDistinct}
use Rattle.mt_sched.specs.Plan.{is_same_task}
use Rattle.mt_runner.specs.Attempts.{number_of, task_in}
use Rattle.mt_runner.specs.declared.runner.Started.{Started}
use Rattle.mt_runner.proofs.runner.Runner.new.Goals as goal

pub invariant_of-result-2 : goal.invariant_of-result-2
unfolding IsDistinct
invariant_of-result-2 c =
    let none = c.in_ok-kept.ensures.items in (
      c.requires,
      subst (λ (ks : List Started). length ks ≤ c.args.slots) (sym none) (omega arith),
      subst (λ (ks : List Started). IsDistinct eqb (map number_of ks)) (sym none) tt,
      subst (λ (ks : List Started). IsDistinct is_same_task (map task_in ks)) (sym none) tt,
    )
