-- A look at one job after another, for the first ready task.
use Rattle.std.proofs.Common.{◌≡◌, ℕ, ◌<◌, true, false, not, is_some, List, [], ◌∷◌, length, Option, Some, None, Result, Ok, Err, Bor, refl, sym, ap, ◌∙◌, ◌↔◌, true≢false, arith}
use Rattle.std.specs.Prelude.{IfSome, IsSome}
use Rattle.std.specs.List.{flat_map, slice_get}
use Rattle.std.specs.Option.{option_copied, option_or}
use Rattle.std.specs.Result.{OnErr, OnOk}
use Rattle.std.proofs.lemmas.List.Folds.{find-append}
use Rattle.mt_types.specs.declared.job.Task.{Task}
use Rattle.mt_sched.specs.Plans.{ready_at}
use Rattle.mt_sched.specs.Plan.{Plan, first_but, has_task}
use Rattle.mt_sched.proofs.Phases.{none_first, some_first}
use Rattle.mt_sched.proofs.Walks.{first_number}

module _ (plans : List (ℕ × Plan)) (skip : List Task) (job : ℕ) (before rest : List ℕ) (found all : Option Task) (step : before ≡ job ∷ rest) (is : found ≡ first_but skip (ready_at plans job)) where
  look_split : first_but skip (flat_map (ready_at plans) before) ≡ option_or found (first_but skip (flat_map (ready_at plans) rest))
  look_split =
      ap (λ l. first_but skip (flat_map (ready_at plans) l)) step
      ∙ find-append (λ t. not (has_task skip t)) (ready_at plans job) (flat_map (ready_at plans) rest)
      ∙ ap (λ o. option_or o (first_but skip (flat_map (ready_at plans) rest))) (sym is)

  -- a job of which nothing is found
  pub look_on : is_some found ≡ false → first_but skip (flat_map (ready_at plans) before) ≡ all → first_but skip (flat_map (ready_at plans) rest) ≡ all
  look_on none so_far = sym (look_split ∙ none_first found (first_but skip (flat_map (ready_at plans) rest)) none) ∙ so_far

  -- the first job of which something is found
  pub look_found : is_some found ≡ true → first_but skip (flat_map (ready_at plans) before) ≡ all → found ≡ all
  look_found some so_far = sym (look_split ∙ some_first found (first_but skip (flat_map (ready_at plans) rest)) some) ∙ so_far

-- the first number of a set
pub first_read : (numbers : List ℕ) (r : Option (Bor ℕ)) → (IsSome r ↔ (0 < length numbers)) → IfSome r (λ k. slice_get numbers 0 ≡ Some k.now) → option_copied r ≡ first_number numbers
first_read [] None some is = refl
first_read [] (Some k) some is = absurd cc
first_read (x ∷ xs) None some is = absurd (true≢false (sym (some.1 (omega arith))))
first_read (x ∷ xs) (Some k) some is = sym is

-- a fact holds whatever an outcome is
pub on_ok_always : {T E P : Type 0} (r : Result T E) → P → OnOk r P
on_ok_always (Ok x) p = p
on_ok_always (Err e) p = tt

pub on_err_always : {T E P : Type 0} (r : Result T E) → P → OnErr r P
on_err_always (Ok x) p = tt
on_err_always (Err e) p = p
