use Rattle.std.proofs.Common.{◌≡◌, sym, ap, subst, ◌∙◌, Some}
use Rattle.std.specs.Prelude.{OnErr, OnOk}
use Rattle.std.specs.BTreeMap.{is_at}
use Rattle.std.specs.Ordering.{nat_cmp}
use Rattle.std.proofs.lemmas.Map.Steps.{set_value_same}
use Rattle.std.proofs.lemmas.Result.{on_err_weaker, on_ok_weaker}
use Rattle.mt_sched.specs.Plan.{Plan}
use Rattle.mt_sched.specs.PlanSteps.{committed_in, with_plan}
use Rattle.mt_sched.proofs.Entries.{no_plan, with_plan_is}
use Rattle.mt_sched.proofs.Looks.{on_err_always, on_ok_always}
use Rattle.mt_sched.proofs.sched.Sched.commit.Goals as goal
use Rattle.mt_sched.proofs.sched.Sched.commit.Goals.{in-Some, in_default}

pub returns-clause-ok : goal.returns-clause-ok
returns-clause-ok c =
    let change = λ (plan : Plan). committed_in plan c.args.task.now.phase c.args.task.now.place in
    elim c.match-get_mut.branch [
      | in-Some w ↦ on_ok_weaker c.match-get_mut.committed
          (λ new. ap (λ s. s.queues.entries) w.self-inside-is
          ∙ (c.get_mut.follows.holds w.commit-committed.new.self).0
          ∙ with_plan_is c.args.task.now.job change c.self.inside.queues.entries w.in-Some.queue.now w.commit-committed.new.self c.self.invariant.rising (sym w.in-Some.ensures.value) new
          ∙ ap (λ l. with_plan l c.args.task.now.job change) c.self.view_is)
          (subst (λ r. OnOk r (w.commit-committed.new.self ≡ committed_in w.in-Some.queue.now c.args.task.now.phase c.args.task.now.place)) (sym w.committed-is) w.commit-committed.ensures.ok)
      | in_default w ↦ on_ok_always c.match-get_mut.committed
          (ap (λ s. s.queues.entries) w.self-inside-is
          ∙ ap (λ m. m.entries) c.get_mut.follows.holds-at-none
          ∙ sym (no_plan c.args.task.now.job change c.self.inside.queues.entries (sym w.in_default.ensures.value))
          ∙ ap (λ l. with_plan l c.args.task.now.job change) c.self.view_is)
    ]

pub returns-clause-err : goal.returns-clause-err
returns-clause-err c =
    elim c.match-get_mut.branch [
      | in-Some w ↦ on_err_weaker c.match-get_mut.committed
          (λ new. ap (λ s. s.queues.entries) w.self-inside-is
          ∙ (c.get_mut.follows.holds w.commit-committed.new.self).0
          ∙ set_value_same (is_at (nat_cmp c.args.task.now.job)) c.self.inside.queues.entries w.commit-committed.new.self (sym w.in-Some.ensures.value ∙ ap Some (sym new))
          ∙ c.self.view_is)
          (subst (λ r. OnErr r (w.commit-committed.new.self ≡ w.in-Some.queue.now)) (sym w.committed-is) w.commit-committed.ensures.err)
      | in_default w ↦ on_err_always c.match-get_mut.committed
          (ap (λ s. s.queues.entries) w.self-inside-is ∙ ap (λ m. m.entries) c.get_mut.follows.holds-at-none ∙ c.self.view_is)
    ]
