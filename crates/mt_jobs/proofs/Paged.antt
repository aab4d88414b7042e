-- A page of jobs, found one by one by their numbers.
use Rattle.std.proofs.Common.{◌≡◌, ℕ, ◌==◌, false, cond, nat_le, List, [], ◌∷◌, take, Some, refl, sym, ap, ◌∙◌, eq-eqb}
use Rattle.std.specs.Prelude.{All}
use Rattle.std.specs.List.{AllByRecursion, cons_option, filter, filter_map}
use Rattle.std.specs.List.Sorted.{IsStrictlySortedBy}
use Rattle.std.specs.Ordering.{nat_cmp, is_eq, ordering_reverse}
use Rattle.std.specs.declared.cmp.Ordering.TheVariants.{Less}
use Rattle.std.proofs.lemmas.Cmp.{nat_cmp_total}
use Rattle.std.proofs.lemmas.List.Elements.{All-cons, All-filter, All-head, All-nil, All-tail, All-take}
use Rattle.std.proofs.lemmas.Map.Keys.{sorted_head, sorted_tail}
use Rattle.mt_types.specs.declared.job.Job.{Job}
use Rattle.mt_model.specs.State.{job_at}
use Rattle.mt_model.proofs.Maps.{filter-map, take-map}
use Rattle.mt_sched.proofs.Orders.{same_test}
use Rattle.mt_types.specs.declared.live.JobStand.{JobStand}
use Rattle.mt_jobs.specs.JobList.{numbers_of}
use Rattle.mt_jobs.specs.Pages.{page_of, standing, stands}

module _ {B : Type 0} where
  lift : (j : Job B) (js xs : List (Job B)) → AllByRecursion (λ n. nat_cmp j.number n ≡ Less) (numbers_of xs) → All (λ x. job_at js x.number ≡ Some x) xs → All (λ x. job_at (j ∷ js) x.number ≡ Some x) xs
  lift j js [] above all = All-nil (λ x. job_at (j ∷ js) x.number ≡ Some x)
  lift j js (x ∷ xs) above all =
      let off : (j.number == x.number) ≡ false = sym (same_test x.number j.number) ∙ ap is_eq (nat_cmp_total.antisymm x.number j.number ∙ ap ordering_reverse above.0) in
      All-cons (λ x. job_at (j ∷ js) x.number ≡ Some x) x xs
      (ap (λ b. cond b (Some j) (job_at js x.number)) off ∙ All-head (λ x. job_at js x.number ≡ Some x) x xs all)
      (lift j js xs above.1 (All-tail (λ x. job_at js x.number ≡ Some x) x xs all))

  -- each job is found by its number
  pub all_found : (jobs : List (Job B)) → IsStrictlySortedBy nat_cmp (numbers_of jobs) → All (λ x. job_at jobs x.number ≡ Some x) jobs
  all_found [] rising = All-nil (λ x. job_at [] x.number ≡ Some x)
  all_found (j ∷ js) rising =
      All-cons (λ x. job_at (j ∷ js) x.number ≡ Some x) j js
      (ap (λ b. cond b (Some j) (job_at js j.number)) (eq-eqb j.number j.number refl))
      (lift j js js (sorted_head nat_cmp j.number (numbers_of js) rising) (all_found js (sorted_tail nat_cmp j.number (numbers_of js) rising)))

  found_again : (jobs xs : List (Job B)) → All (λ x. job_at jobs x.number ≡ Some x) xs → filter_map (job_at jobs) (numbers_of xs) ≡ xs
  found_again jobs [] all = refl
  found_again jobs (x ∷ xs) all =
      ap (λ o. cons_option o (filter_map (job_at jobs) (numbers_of xs))) (All-head (λ x. job_at jobs x.number ≡ Some x) x xs all)
      ∙ ap (λ l. x ∷ l) (found_again jobs xs (All-tail (λ x. job_at jobs x.number ≡ Some x) x xs all))

  -- the jobs of a page of numbers are the page
  pub page_found : (stand : JobStand) (first limit : ℕ) (jobs : List (Job B)) → IsStrictlySortedBy nat_cmp (numbers_of jobs) → filter_map (job_at jobs) (take limit (filter (λ k. nat_le first k) (numbers_of (standing stand jobs)))) ≡ page_of stand first limit jobs
  page_found stand first limit jobs rising =
      ap (λ l. filter_map (job_at jobs) (take limit l)) (filter-map (λ (j : Job B). j.number) (λ k. nat_le first k) (standing stand jobs))
      ∙ ap (filter_map (job_at jobs)) (take-map (λ (j : Job B). j.number) limit (filter (λ j. nat_le first j.number) (standing stand jobs)))
      ∙ found_again jobs (page_of stand first limit jobs)
      (All-take (λ x. job_at jobs x.number ≡ Some x) limit (filter (λ j. nat_le first j.number) (standing stand jobs))
      (All-filter (λ j. nat_le first j.number) (λ x. job_at jobs x.number ≡ Some x) (standing stand jobs)
      (All-filter (stands stand) (λ x. job_at jobs x.number ≡ Some x) jobs (all_found jobs rising))))
