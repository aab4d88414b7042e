-- The number of a job of a lawful state.
use Rattle.std.proofs.Common.{◌≡◌, ℕ, ◌*◌, ◌%◌, ◌<◌, ◌≤◌, ◌==◌, ◌&&◌, Bool, true, false, cond, nat_lt, List, [], ◌∷◌, Option, Some, None, is_some, All, IsTrue, refl, sym, ap, ◌∙◌, subst, arith}
use Rattle.std.proofs.lemmas.Bool.{eq-eqb, eqb-true, lt-ltb}
use Rattle.std.proofs.lemmas.List.Elements.{All-head, All-tail}
use Rattle.mt_types.specs.Limits.{is_number}
use Rattle.mt_types.specs.declared.body.Body.{Body}
use Rattle.mt_types.specs.declared.job.Job.{Job}
use Rattle.mt_types.specs.declared.limits.TheConstants.{MOST_COMMANDS}
use Rattle.mt_jobtext.proofs.Showable.{jobs_showable}
use Rattle.mt_jobtext.specs.Pieces.{IsShowable}
use Rattle.mt_model.specs.Honest.{OfFound}
use Rattle.mt_model.specs.Keeping.{KeepsLimits}
use Rattle.mt_model.specs.Lawful.{Lawful, LawfulJob}
use Rattle.mt_model.specs.State.{State, job_at}

-- so few commands that it has an identifier
pub number_small : (s : State Body) (n : ℕ) (job : Job Body) → Lawful s → KeepsLimits s → s.count ≤ MOST_COMMANDS → job_at s.jobs n ≡ Some job → job.number < 4611686018427387904
number_small s n job lawful limits few found =
    let showable : IsShowable job = subst (λ (o : Option (Job Body)). OfFound IsShowable o) found (jobs_showable s n lawful limits few) in
    omega (arith, showable.number)

number_is : (count : ℕ) (j : Job Body) (n : ℕ) → count ≤ MOST_COMMANDS → LawfulJob count j → j.number ≡ n → is_number n ≡ true
number_is count j n few lawful same =
    let below : j.number < count * 4096 = lawful.number.below in
    let first : (n % 4096 == 0) ≡ true = eq-eqb (n % 4096) 0 (ap (λ (m : ℕ). m % 4096) (sym same) ∙ lawful.number.first) in
    let small : nat_lt n 4611686018427387904 ≡ true = lt-ltb n 4611686018427387904 (omega (arith, below, few, same)) in
    λ i. first i && small i

by_test : (count n : ℕ) (j : Job Body) (rest : Option (Job Body)) → count ≤ MOST_COMMANDS → LawfulJob count j → OfFound (λ (j : Job Body). is_number n ≡ true) rest → (b : Bool) → (j.number == n) ≡ b → OfFound (λ (j : Job Body). is_number n ≡ true) (cond b (Some j) rest)
by_test count n j rest few lawful more true is = number_is count j n few lawful (eqb-true j.number n is)
by_test count n j rest few lawful more false is = more

found_number : (count n : ℕ) (jobs : List (Job Body)) → count ≤ MOST_COMMANDS → All (LawfulJob count) jobs → OfFound (λ (j : Job Body). is_number n ≡ true) (job_at jobs n)
found_number count n [] few lawful = tt
found_number count n (j ∷ js) few lawful =
    by_test count n j (job_at js n) few (All-head (LawfulJob count) j js lawful) (found_number count n js few (All-tail (LawfulJob count) j js lawful)) (j.number == n) refl

there : (o : Option (Job Body)) → is_some o ≡ true → (job : Job Body) × (o ≡ Some job)
there None is = cc
there (Some job) is = (job, refl)

-- it is one of a job
pub has_number : (s : State Body) (n : ℕ) → Lawful s → s.count ≤ MOST_COMMANDS → is_some (job_at s.jobs n) ≡ true → IsTrue (is_number n)
has_number s n lawful few found =
    let job = there (job_at s.jobs n) found in
    subst (λ (o : Option (Job Body)). OfFound (λ (j : Job Body). is_number n ≡ true) o) job.1 (found_number s.count n s.jobs few lawful.jobs.each)
