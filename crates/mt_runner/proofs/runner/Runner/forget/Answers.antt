use Rattle.std.proofs.Common.{rules, ap, ◌∙◌, sym, subst, arith, ◌≡◌, eqb, filter, List, map, length, ◌≤◌}
use Rattle.std.specs.List.{IsDistinct}
use Rattle.std.proofs.lemmas.Fn.{filter_same}
use Rattle.mt_sched.specs.Plan.{is_same_task}
use Rattle.mt_runner.specs.Attempts.{number_of, task_in}
use Rattle.mt_runner.specs.Stale.{is_other_child}
use Rattle.mt_runner.specs.declared.runner.Started.{Started}
use Rattle.mt_runner.proofs.Lists.{distinct_filter, filter_most}
use Rattle.mt_runner.proofs.runner.Runner.forget.Goals as goal

pub invariant_of-self : goal.invariant_of-self
invariant_of-self c =
    let kept : c.retain.new.self.items ≡ filter (is_other_child c.args.ticket.number) c.self.inside.kept.items = filter_same _ _ _ (λ x b f' k. search rules) _ _ c.retain.ensures.filtered in
    let fewer : length c.retain.new.self.items ≤ length c.self.inside.kept.items = subst (λ (ks : List Started). length ks ≤ length c.self.inside.kept.items) (sym kept) (filter_most (is_other_child c.args.ticket.number) c.self.inside.kept.items) in (
      c.self.invariant.0,
      omega (arith, fewer, c.self.invariant.1),
      subst (λ (ks : List Started). IsDistinct eqb (map number_of ks)) (sym kept) (distinct_filter eqb number_of (is_other_child c.args.ticket.number) c.self.inside.kept.items c.self.invariant.2),
      subst (λ (ks : List Started). IsDistinct is_same_task (map task_in ks)) (sym kept) (distinct_filter is_same_task task_in (is_other_child c.args.ticket.number) c.self.inside.kept.items c.self.invariant.3),
    )

pub returns-clause-kept : goal.returns-clause-kept
returns-clause-kept c =
    let kept : c.retain.new.self.items ≡ filter (is_other_child c.args.ticket.number) c.self.inside.kept.items = filter_same _ _ _ (λ x b f' k. search rules) _ _ c.retain.ensures.filtered in
    kept ∙ ap (λ r. filter (is_other_child c.args.ticket.number) r.kept) c.self.view_is
