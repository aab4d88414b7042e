-- The plans of the jobs change as the jobs do.
use Rattle.std.proofs.Common.{◌≡◌, ℕ, ◌==◌, Bool, true, false, not, cond, List, [], ◌∷◌, ◌++◌, map, refl, sym, ap, ◌∙◌}
use Rattle.std.specs.List.{filter}
use Rattle.std.proofs.lemmas.Bool.{eqb-true}
use Rattle.std.proofs.lemmas.List.Elements.{All-head, All-tail, filter-append}
use Rattle.mt_types.specs.declared.job.Job.{Job}
use Rattle.mt_model.specs.JobSteps.{done_at}
use Rattle.mt_model.specs.State.{with_job}
use Rattle.mt_model.specs.Tasks.{is_running}
use Rattle.mt_model.proofs.Maps.{map-append}
use Rattle.mt_sched.specs.Laws.{IsFollowed, PlansFollow, PlansOfDone, PlansOfNew}
use Rattle.mt_sched.specs.Plan.{Plan}
use Rattle.mt_sched.specs.PlanOfJob.{plan_of, plans_of}
use Rattle.mt_sched.specs.PlanSteps.{with_plan, without_plan}

module _ {B : Type 0} where
  -- a job beside its number, as plans are kept
  abbrev entry : Job B → ℕ × Plan
  entry j = (j.number, plan_of j)

  pub plans_of_new : PlansOfNew B
  plans_of_new jobs job runs =
      ap (map entry) (filter-append is_running jobs (job ∷ []) ∙ ap (λ b. filter is_running jobs ++ cond b (job ∷ []) []) runs)
      ∙ map-append entry (filter is_running jobs) (job ∷ [])

  done_case : (number moment : ℕ) (cancelled : Bool) (j : Job B) (js : List (Job B)) (a r : Bool) → j.number == number ≡ a → is_running j ≡ r
      → plans_of (with_job js number (done_at moment cancelled)) ≡ without_plan (plans_of js) number
      → map entry (cond (is_running (cond a (done_at moment cancelled j) j)) (cond a (done_at moment cancelled j) j ∷ filter is_running (with_job js number (done_at moment cancelled))) (filter is_running (with_job js number (done_at moment cancelled))))
      ≡ without_plan (map entry (cond r (j ∷ filter is_running js) (filter is_running js))) number
  done_case number moment cancelled j js true true p q more = more ∙ sym (ap (λ b. cond (not b) (entry j ∷ without_plan (plans_of js) number) (without_plan (plans_of js) number)) p)
  done_case number moment cancelled j js true false p q more = more
  done_case number moment cancelled j js false true p q more =
      ap (λ b. map entry (cond b (j ∷ filter is_running (with_job js number (done_at moment cancelled))) (filter is_running (with_job js number (done_at moment cancelled))))) q
      ∙ ap (λ l. entry j ∷ l) more
      ∙ sym (ap (λ b. cond (not b) (entry j ∷ without_plan (plans_of js) number) (without_plan (plans_of js) number)) p)
  done_case number moment cancelled j js false false p q more =
      ap (λ b. map entry (cond b (j ∷ filter is_running (with_job js number (done_at moment cancelled))) (filter is_running (with_job js number (done_at moment cancelled))))) q ∙ more

  pub plans_of_done : PlansOfDone B
  plans_of_done [] number moment cancelled = refl
  plans_of_done (j ∷ js) number moment cancelled = done_case number moment cancelled j js (j.number == number) (is_running j) refl refl (plans_of_done js number moment cancelled)

  follow_case : (number : ℕ) (change : Job B → Job B) (change_plan : Plan → Plan) (j : Job B) (js : List (Job B)) (a r : Bool) → j.number == number ≡ a → is_running j ≡ r
      → (j.number ≡ number → IsFollowed change change_plan j)
      → plans_of (with_job js number change) ≡ with_plan (plans_of js) number change_plan
      → map entry (cond (is_running (cond a (change j) j)) (cond a (change j) j ∷ filter is_running (with_job js number change)) (filter is_running (with_job js number change)))
      ≡ with_plan (map entry (cond r (j ∷ filter is_running js) (filter is_running js))) number change_plan
  follow_case number change change_plan j js true true p q follows more =
      let f = follows (eqb-true j.number number p) in
      ap (λ b. map entry (cond b (change j ∷ filter is_running (with_job js number change)) (filter is_running (with_job js number change)))) (f.runs ∙ q)
      ∙ ap {B = List (ℕ × Plan)} (λ n. (n, plan_of (change j)) ∷ plans_of (with_job js number change)) f.number
      ∙ ap {B = List (ℕ × Plan)} (λ x. (j.number, x) ∷ plans_of (with_job js number change)) f.plan
      ∙ ap {B = List (ℕ × Plan)} (λ l. (j.number, change_plan (plan_of j)) ∷ l) more
      ∙ sym (ap {B = List (ℕ × Plan)} (λ b. cond b (j.number, change_plan (plan_of j)) (entry j) ∷ with_plan (plans_of js) number change_plan) p)
  follow_case number change change_plan j js true false p q follows more =
      let f = follows (eqb-true j.number number p) in
      ap (λ b. map entry (cond b (change j ∷ filter is_running (with_job js number change)) (filter is_running (with_job js number change)))) (f.runs ∙ q) ∙ more
  follow_case number change change_plan j js false true p q follows more =
      ap (λ b. map entry (cond b (j ∷ filter is_running (with_job js number change)) (filter is_running (with_job js number change)))) q
      ∙ ap {B = List (ℕ × Plan)} (λ l. entry j ∷ l) more
      ∙ sym (ap {B = List (ℕ × Plan)} (λ b. cond b (j.number, change_plan (plan_of j)) (entry j) ∷ with_plan (plans_of js) number change_plan) p)
  follow_case number change change_plan j js false false p q follows more =
      ap (λ b. map entry (cond b (j ∷ filter is_running (with_job js number change)) (filter is_running (with_job js number change)))) q ∙ more

  pub plans_follow : PlansFollow B
  plans_follow [] number change change_plan follows = refl
  plans_follow (j ∷ js) number change change_plan follows =
      follow_case number change change_plan j js (j.number == number) (is_running j) refl refl
      (All-head (λ j. j.number ≡ number → IsFollowed change change_plan j) j js follows)
      (plans_follow js number change change_plan (All-tail (λ j. j.number ≡ number → IsFollowed change change_plan j) j js follows))
