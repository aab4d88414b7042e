-- The plan of a job after a commit and after the end of its input, and what a ready task says of its job.
use Rattle.std.proofs.Common.{◌≡◌, ℕ, ◌+◌, ◌==◌, Bool, true, false, not, cond, List, [], ◌∷◌, length, Some, None, refl, sym, ap, ◌∙◌}
use Rattle.std.specs.Option.{option_map}
use Rattle.std.specs.BTreeMap.{is_at}
use Rattle.std.specs.Ordering.{nat_cmp}
use Rattle.mt_types.specs.declared.job.Job.{Job}
use Rattle.mt_types.specs.declared.job.TraceEntry.{TraceEntry}
use Rattle.mt_model.specs.Feed.{items_of}
use Rattle.mt_model.specs.JobSteps.{commit_refusal, with_end, with_entry}
use Rattle.mt_model.specs.Sound.{Sound}
use Rattle.mt_model.specs.Tasks.{is_committed, is_ready, may_run}
use Rattle.mt_model.proofs.Entry.{holds_if}
use Rattle.mt_model.proofs.LawfulInputs.{and_both}
use Rattle.mt_model.proofs.RowLaws.{neither, not_refused}
use Rattle.mt_sched.specs.Plans.{plan_at}
use Rattle.mt_sched.specs.Plan.{Plan}
use Rattle.mt_sched.specs.PlanOfJob.{plan_of}
use Rattle.mt_sched.specs.PlanSteps.{committed_in, ended_plan, grown, with_plan}
use Rattle.mt_sched.proofs.Changes.{plan_commit, plan_end}
use Rattle.mt_sched.proofs.Orders.{same_test}

-- ---- the plan of a number after a change

with_case : (number : ℕ) (f : Plan → Plan) (e : ℕ × Plan) (es : List (ℕ × Plan)) (b : Bool) → e.0 == number ≡ b → plan_at (with_plan es number f) number ≡ option_map f (plan_at es number)
    → cond (is_at (nat_cmp number) (cond b (e.0, f e.1) e).0) (Some (cond b (e.0, f e.1) e).1) (plan_at (with_plan es number f) number) ≡ option_map f (cond (is_at (nat_cmp number) e.0) (Some e.1) (plan_at es number))
with_case number f e es true at more =
    let here : is_at (nat_cmp number) e.0 ≡ true = same_test number e.0 ∙ at in
    ap (λ b. cond b (Some (f e.1)) (plan_at (with_plan es number f) number)) here ∙ sym (ap (λ b. option_map f (cond b (Some e.1) (plan_at es number))) here)
with_case number f e es false at more =
    let away : is_at (nat_cmp number) e.0 ≡ false = same_test number e.0 ∙ at in
    ap (λ b. cond b (Some e.1) (plan_at (with_plan es number f) number)) away ∙ more ∙ sym (ap (λ b. option_map f (cond b (Some e.1) (plan_at es number))) away)

pub plan_at_with : (number : ℕ) (f : Plan → Plan) (plans : List (ℕ × Plan)) → plan_at (with_plan plans number f) number ≡ option_map f (plan_at plans number)
plan_at_with number f [] = refl
plan_at_with number f (e ∷ es) = with_case number f e es (e.0 == number) refl (plan_at_with number f es)

module _ {B : Type 0} where
  -- a commit leads to the plan of the job with its entry
  pub plan_entered : (job : Job B) (e : TraceEntry B) (number : ℕ) (plans : List (ℕ × Plan)) → Sound job → plan_at plans number ≡ Some (plan_of job)
      → plan_at (with_plan (with_plan plans number (λ plan. committed_in plan e.phase e.place)) number (λ plan. grown plan (e.phase + 1) (length (items_of e.outcome)))) number ≡ Some (plan_of (with_entry e job))
  plan_entered job e number plans sound at =
      plan_at_with number (λ plan. grown plan (e.phase + 1) (length (items_of e.outcome))) (with_plan plans number (λ plan. committed_in plan e.phase e.place))
      ∙ ap (option_map (λ plan. grown plan (e.phase + 1) (length (items_of e.outcome)))) (plan_at_with number (λ plan. committed_in plan e.phase e.place) plans ∙ ap (option_map (λ plan. committed_in plan e.phase e.place)) at)
      ∙ sym (ap (λ p. Some p) (plan_commit job e sound))

  -- and so does the end of the input
  pub plan_ended : (job : Job B) (number : ℕ) (plans : List (ℕ × Plan)) → plan_at plans number ≡ Some (plan_of job) → plan_at (with_plan plans number ended_plan) number ≡ Some (plan_of (with_end job))
  plan_ended job number plans at = plan_at_with number ended_plan plans ∙ ap (option_map ended_plan) at ∙ sym (ap (λ p. Some p) (plan_end job))

  -- a task that is not refused is ready
  pub allowed_ready : (job : Job B) (phase place : ℕ) → commit_refusal phase place job ≡ None → is_ready job phase place ≡ true
  allowed_ready job phase place none =
      let first = neither _ _ none in
      let second = neither _ _ first.1 in
      and_both (may_run job phase place) (not (is_committed job.trace phase place)) (holds_if (may_run job phase place) (not_refused _ _ second.0))
      (ap not (not_refused _ _ second.1))
