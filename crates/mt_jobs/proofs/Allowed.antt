-- What a command that is allowed says of its job, and what is kept of a job that is found.
use Rattle.std.proofs.Common.{◌≡◌, ℕ, Bool, true, false, cond, not, List, [], ◌∷◌, Option, Some, None, refl, sym, ap, subst, ◌∙◌, zero, suc}
use Rattle.std.specs.Prelude.{All}
use Rattle.std.specs.List.{slice_get}
use Rattle.std.specs.List.Sorted.{IsStrictlySortedBy}
use Rattle.std.specs.Option.{unwrap_or}
use Rattle.std.specs.Ordering.{nat_cmp}
use Rattle.std.proofs.lemmas.List.Elements.{All-head, All-tail}
use Rattle.mt_types.specs.declared.document.InputLine.{InputLine}
use Rattle.mt_types.specs.declared.job.Job.{Job}
use Rattle.mt_types.specs.declared.refusal.Refusal.{Refusal}
use Rattle.mt_model.specs.JobSteps.{add_inputs_refusal, input_refusal, job_refusal}
use Rattle.mt_model.specs.Tasks.{is_running}
use Rattle.mt_model.proofs.LawfulInputs.{or_none}
use Rattle.mt_model.proofs.RowLaws.{neither, not_refused}
use Rattle.mt_sched.specs.Plans.{plan_at}
use Rattle.mt_sched.specs.Plan.{Plan}
use Rattle.mt_sched.specs.PlanOfJob.{plan_of, plans_of}
use Rattle.mt_feeds.specs.declared.kept.FedJob.{FedJob}
use Rattle.mt_feeds.specs.FedJob.{IsKept}
use Rattle.mt_jobs.specs.JobList.{IsJobs, jobs_in}
use Rattle.mt_jobs.proofs.Numbers.{IsJobAt, plan_if, plan_where}

not_not : (b : Bool) → not b ≡ false → b ≡ true
not_not true none = refl
not_not false none = cc

none_rise : IsStrictlySortedBy nat_cmp []
unfolding IsStrictlySortedBy
none_rise = tt

module _ {B : Type 0} where
  pub refusal_of : (o : Option (Job B)) (job : Job B) (test : Job B → Option Refusal) → o ≡ Some job → job_refusal o test ≡ None → test job ≡ None
  refusal_of o job test found none = sym (ap (λ x. job_refusal x test) found) ∙ none

  -- there is a job
  pub record IsThere (o : Option (Job B)) : Type 0 where
    pub job : Job B
    pub is : o ≡ Some job

  -- where a command on a job is not refused there is one
  pub there : (o : Option (Job B)) (test : Job B → Option Refusal) → job_refusal o test ≡ None → IsThere o
  there None test none = cc
  there (Some job) test none = record { job = job; is = refl }

  -- its input is open
  pub record IsOpen (job : Job B) : Type 0 where
    pub so_far : job.ended ≡ false
    pub runs : is_running job ≡ true

  pub input_open : (job : Job B) → input_refusal job ≡ None → IsOpen job
  input_open job none =
      let both = or_none job.ended (not (is_running job)) (not_refused _ _ none) in
      record { so_far = both.0; runs = not_not (is_running job) both.1 }

  pub lines_open : (lines : List InputLine) (job : Job B) → add_inputs_refusal lines job ≡ None → IsOpen job
  lines_open lines job none = input_open job (neither _ _ none).0

  -- a fact of all jobs holds of one of them
  pub all_at : (P : Job B → Type 0) (jobs : List (Job B)) (k : ℕ) (job : Job B) → All P jobs → slice_get jobs k ≡ Some job → P job
  all_at P [] k job all at = cc
  all_at P (x ∷ xs) zero job all at = subst P (ap (λ o. unwrap_or o x) at) (All-head P x xs all)
  all_at P (x ∷ xs) (suc k) job all at = all_at P xs k job (All-tail P x xs all) at

  pub kept_at : (kept : List (FedJob B)) (k : ℕ) (old : FedJob B) → All IsKept kept → slice_get kept k ≡ Some old → IsKept old
  kept_at [] k old all at = cc
  kept_at (x ∷ xs) zero old all at = subst IsKept (ap (λ o. unwrap_or o x) at) (All-head IsKept x xs all)
  kept_at (x ∷ xs) (suc k) old all at = kept_at xs k old (All-tail IsKept x xs all) at

  -- the plan of a job that runs is kept beside its number
  pub plan_here : (number : ℕ) (kept : List (FedJob B)) (plans : List (ℕ × Plan)) (running done : List ℕ) (k : ℕ) (old : FedJob B) → IsJobs kept plans running done → IsJobAt number kept k old → is_running old.job ≡ true → plan_at plans old.job.number ≡ Some (plan_of old.job)
  plan_here number kept plans running done k old is at runs =
      ap (λ p. plan_at p old.job.number) is.plans_are
      ∙ ap (plan_at (plans_of (jobs_in kept))) at.number_is
      ∙ plan_where number (jobs_in kept) is.rising
      ∙ ap plan_if at.job
      ∙ ap (λ b. cond b (Some (plan_of old.job)) None) runs
