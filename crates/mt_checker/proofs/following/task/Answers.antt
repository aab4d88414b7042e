use Rattle.std.proofs.Common.{refl, subst, sym, ◌∙◌}
use Rattle.mt_checker.specs.Kept.{Keeps}
use Rattle.mt_checker.specs.declared.state.State.TheVariants as kept
use Rattle.mt_checker.proofs.KeptLines.{task_kept, task_refused}
use Rattle.mt_checker.proofs.following.task.Goals as goal

pub returns-then-not-may_follow : goal.returns-then-not-may_follow
returns-then-not-may_follow c = λ g same stands. subst (Keeps kept.Refused) (sym (task_refused g c.args.sheet c.args.task stands (sym c.may_follow.ensures ∙ c.if-not-may_follow.true))) refl

-- the task stands on the sheet
pub returns : goal.returns
returns c = λ g same stands.
    task_kept g c.args.kinds c.args.sheet c.enter.new.self c.args.task c.in_ok-standing.standing same stands (sym c.may_follow.ensures ∙ c.if-not-may_follow.false) c.in_ok-enter.ensures
    (λ h p alike is. c.in_ok-standing.ensures h p (alike ∙ sym c.deref.ensures.value) is)
