-- The last element of a list, and jobs of which the last one changes.
use Rattle.std.proofs.Common.{◌≡◌, ℕ, ◌-◌, ◌<◌, ◌==◌, cond, List, [], ◌∷◌, ◌++◌, length, map, set, Some, None, refl, sym, ap, subst, ◌∙◌, arith, suc, eq-eqb}
use Rattle.std.specs.Prelude.{All}
use Rattle.std.specs.List.{AllByRecursion, slice_get}
use Rattle.std.specs.List.Sorted.{IsStrictlySortedBy}
use Rattle.std.specs.Option.{option_map, unwrap_or}
use Rattle.std.specs.Ordering.{MatchOrdering, nat_cmp}
use Rattle.std.specs.declared.cmp.Ordering.TheVariants.{Less}
use Rattle.std.specs.Cmp.{ranks}
use Rattle.std.proofs.lemmas.List.Elements.{All-cons, All-head, All-nil, All-tail}
use Rattle.std.proofs.lemmas.Map.Keys.{sorted_head, sorted_tail}
use Rattle.mt_types.specs.declared.job.Job.{Job}
use Rattle.mt_model.specs.Lawful.{LawfulJob}
use Rattle.mt_model.specs.State.{job_at, with_job}
use Rattle.mt_sched.proofs.Filters.{differ}
use Rattle.mt_jobs.specs.JobList.{numbers_of}
use Rattle.mt_jobs.specs.Listed.{LawfulList, last_of, with_last}
use Rattle.mt_jobs.proofs.Numbers.{with_job_is}

pub less : (x y : ℕ) → nat_cmp x y ≡ Less → x < y
less x y e = subst (λ o. MatchOrdering o (x < y) (x ≡ y) (y < x)) e (ranks x y)

module _ {X : Type 0} where
  -- ---- the last element

  pub last_by_place : (xs : List X) → slice_get xs (length xs - 1) ≡ last_of xs
  last_by_place [] = refl
  last_by_place (x ∷ []) = refl
  last_by_place (x ∷ y ∷ ys) =
      let here : length (x ∷ y ∷ ys) - 1 ≡ suc (length ys) = omega arith in
      let next : length ys ≡ length (y ∷ ys) - 1 = omega arith in
      ap (slice_get (x ∷ y ∷ ys)) here ∙ ap (slice_get (y ∷ ys)) next ∙ last_by_place (y ∷ ys)

  pub last_push : (xs : List X) (x : X) → last_of (xs ++ x ∷ []) ≡ Some x
  last_push [] x = refl
  last_push (y ∷ []) x = refl
  last_push (y ∷ z ∷ zs) x = last_push (z ∷ zs) x

  pub with_last_push : (f : X → X) (xs : List X) (x : X) → with_last f (xs ++ x ∷ []) ≡ xs ++ f x ∷ []
  with_last_push f [] x = refl
  with_last_push f (y ∷ []) x = refl
  with_last_push f (y ∷ z ∷ zs) x = ap (λ l. y ∷ l) (with_last_push f (z ∷ zs) x)

  pub last_map : {Y : Type 0} (f : X → Y) (xs : List X) → last_of (map f xs) ≡ option_map f (last_of xs)
  last_map f [] = refl
  last_map f (x ∷ []) = refl
  last_map f (x ∷ y ∷ ys) = last_map f (y ∷ ys)

  set_last : (f : X → X) (xs : List X) (x : X) → last_of xs ≡ Some x → set xs (length xs - 1) (f x) ≡ with_last f xs
  set_last f [] x is = cc
  set_last f (y ∷ []) x is = ap (λ z. f z ∷ []) (ap (λ o. unwrap_or o x) (sym is))
  set_last f (y ∷ z ∷ zs) x is =
      let here : length (y ∷ z ∷ zs) - 1 ≡ suc (length zs) = omega arith in
      let next : length zs ≡ length (z ∷ zs) - 1 = omega arith in
      ap (λ k. set (y ∷ z ∷ zs) k (f x)) here ∙ ap (λ k. y ∷ set (z ∷ zs) k (f x)) next ∙ ap (λ l. y ∷ l) (set_last f (z ∷ zs) x is)

  pub All-last : (P : X → Type 0) (xs : List X) (x : X) → All P xs → last_of xs ≡ Some x → P x
  All-last P [] x all is = cc
  All-last P (y ∷ []) x all is = subst P (ap (λ o. unwrap_or o x) is) (All-head P y [] all)
  All-last P (y ∷ z ∷ zs) x all is = All-last P (z ∷ zs) x (All-tail P y (z ∷ zs) all) is

  All-with_last : (P : X → Type 0) (f : X → X) (xs : List X) (x : X) → All P xs → last_of xs ≡ Some x → P (f x) → All P (with_last f xs)
  All-with_last P f [] x all is new = cc
  All-with_last P f (y ∷ []) x all is new = All-cons P (f y) [] (subst (λ z. P (f z)) (ap (λ o. unwrap_or o x) (sym is)) new) (All-nil P)
  All-with_last P f (y ∷ z ∷ zs) x all is new = All-cons P y (with_last f (z ∷ zs)) (All-head P y (z ∷ zs) all) (All-with_last P f (z ∷ zs) x (All-tail P y (z ∷ zs) all) is new)

  -- a key that a change keeps
  map_with_last : {Y : Type 0} (key : X → Y) (f : X → X) (xs : List X) → ((x : X) → key (f x) ≡ key x) → map key (with_last f xs) ≡ map key xs
  map_with_last key f [] same = refl
  map_with_last key f (x ∷ []) same = ap (λ y. y ∷ []) (same x)
  map_with_last key f (x ∷ y ∷ ys) same = ap (λ l. key x ∷ l) (map_with_last key f (y ∷ ys) same)

  -- ---- keys that rise

  -- what is above the last one is above all
  pub all_below : (key : X → ℕ) (n : ℕ) (xs : List X) (x : X) → IsStrictlySortedBy nat_cmp (map key xs) → last_of xs ≡ Some x → key x < n → All (λ y. key y < n) xs
  all_below key n [] x rising is under = All-nil (λ y. key y < n)
  all_below key n (y ∷ []) x rising is under = All-cons (λ z. key z < n) y [] (subst (λ z. key z < n) (ap (λ o. unwrap_or o x) (sym is)) under) (All-nil (λ z. key z < n))
  all_below key n (y ∷ z ∷ zs) x rising is under =
      let more = all_below key n (z ∷ zs) x (sorted_tail nat_cmp (key y) (map key (z ∷ zs)) rising) is under in
      let first : key y < key z = less (key y) (key z) (sorted_head nat_cmp (key y) (map key (z ∷ zs)) rising).0 in
      let second : key z < n = All-head (λ w. key w < n) z zs more in
      All-cons (λ w. key w < n) y (z ∷ zs) (omega (arith, first, second)) more

  -- the last one of a front is below what comes behind it
  pub last_below : (key : X → ℕ) (xs : List X) (next : X) (more : List X) (x : X) → IsStrictlySortedBy nat_cmp (map key (xs ++ next ∷ more)) → last_of xs ≡ Some x → key x < key next
  last_below key [] next more x rising is = cc
  last_below key (y ∷ []) next more x rising is =
      subst (λ z. key z < key next) (ap (λ o. unwrap_or o x) is) (less (key y) (key next) (sorted_head nat_cmp (key y) (map key (next ∷ more)) rising).0)
  last_below key (y ∷ z ∷ zs) next more x rising is =
      last_below key (z ∷ zs) next more x (sorted_tail nat_cmp (key y) (map key (z ∷ zs ++ next ∷ more)) rising) is

module _ {B : Type 0} where
  -- ---- the job of the last number

  never_above : (number : ℕ) (jobs : List (Job B)) (j : Job B) → AllByRecursion (λ n. nat_cmp number n ≡ Less) (numbers_of jobs) → last_of jobs ≡ Some j → number < j.number
  never_above number [] j above is = cc
  never_above number (x ∷ []) j above is = subst (λ (y : Job B). number < y.number) (ap (λ o. unwrap_or o j) is) (less number x.number above.0)
  never_above number (x ∷ y ∷ ys) j above is = never_above number (y ∷ ys) j above.1 is

  pub last_found : (jobs : List (Job B)) (j : Job B) → IsStrictlySortedBy nat_cmp (numbers_of jobs) → last_of jobs ≡ Some j → job_at jobs j.number ≡ Some j
  last_found [] j rising is = cc
  last_found (x ∷ []) j rising is =
      let same : x ≡ j = ap (λ o. unwrap_or o j) is in
      ap (λ b. cond b (Some x) None) (eq-eqb x.number j.number (ap (λ (y : Job B). y.number) same)) ∙ is
  last_found (x ∷ y ∷ ys) j rising is =
      let under : x.number < j.number = never_above x.number (y ∷ ys) j (sorted_head nat_cmp x.number (numbers_of (y ∷ ys)) rising) is in
      ap (λ b. cond b (Some x) (job_at (y ∷ ys) j.number)) (differ x.number j.number (λ same. absurd (omega (arith, same, under))) (x.number == j.number) refl)
      ∙ last_found (y ∷ ys) j (sorted_tail nat_cmp x.number (numbers_of (y ∷ ys)) rising) is

  -- to change the job of its number is to change the last one
  pub last_changed : (f : Job B → Job B) (jobs : List (Job B)) (j : Job B) → IsStrictlySortedBy nat_cmp (numbers_of jobs) → last_of jobs ≡ Some j → with_job jobs j.number f ≡ with_last f jobs
  last_changed f jobs j rising is =
      sym (with_job_is j.number f jobs (length jobs - 1) j (f j) rising (last_by_place jobs ∙ is) refl refl) ∙ set_last f jobs j is

  -- ---- a lawful list of which the last job changes

  pub lawful_last : (count : ℕ) (f : Job B → Job B) (jobs : List (Job B)) (j : Job B) → LawfulList count jobs → last_of jobs ≡ Some j → ((x : Job B) → (f x).number ≡ x.number) → LawfulJob count (f j) → LawfulList count (with_last f jobs)
  lawful_last count f jobs j lawful is same new = record {
    rising = subst (IsStrictlySortedBy nat_cmp) (sym (map_with_last (λ (x : Job B). x.number) f jobs same)) lawful.rising;
    each = All-with_last (LawfulJob count) f jobs j lawful.each is new;
  }
