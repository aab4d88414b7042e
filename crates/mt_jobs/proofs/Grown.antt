-- Plans that grow item by item.
use Rattle.std.proofs.Common.{◌≡◌, ℕ, ◌+◌, ◌==◌, Bool, true, false, cond, List, [], ◌∷◌, refl, sym, ap, ◌∙◌, arith, zero, suc}
use Rattle.std.proofs.lemmas.List.Sums.{sum_by-append}
use Rattle.mt_types.specs.declared.document.InputLine.{InputLine}
use Rattle.mt_model.specs.Rows.{Rows}
use Rattle.mt_sched.specs.Plan.{Plan}
use Rattle.mt_sched.specs.PlanOfJob.{inputs_in, is_input}
use Rattle.mt_sched.specs.PlanSteps.{grown, with_plan}
use Rattle.mt_sched.proofs.Again.{grown_again, grown_by_none}
use Rattle.mt_jobs.proofs.Changes.{with_plan_twice}

grown_twice : (plan : Plan) (phase a b : ℕ) → grown (grown plan phase a) phase b ≡ grown plan phase (a + b)
grown_twice plan phase a zero = grown_by_none (grown plan phase a) phase ∙ (let same : a ≡ a + 0 = omega arith in ap (grown plan phase) same)
grown_twice plan phase a (suc b) =
    let one : suc b ≡ b + 1 = omega arith in
    let all : a + b + 1 ≡ a + suc b = omega arith in
    ap (grown (grown plan phase a) phase) one
    ∙ sym (grown_again (grown plan phase a) phase b)
    ∙ ap (λ q. grown q phase 1) (grown_twice plan phase a b)
    ∙ grown_again plan phase (a + b)
    ∙ ap (grown plan phase) all

-- a plan that grows twice grows by both
pub plans_grown : (plans : List (ℕ × Plan)) (job phase a b : ℕ) → with_plan (with_plan plans job (λ plan. grown plan phase a)) job (λ plan. grown plan phase b) ≡ with_plan plans job (λ plan. grown plan phase (a + b))
plans_grown plans job phase a b =
    with_plan_twice job (λ plan. grown plan phase a) (λ plan. grown plan phase b) plans ∙ (λ i. with_plan plans job (λ plan. grown_twice plan phase a b i))

one_same : (e : ℕ × Plan) (t : Bool) → cond t (e.0, e.1) e ≡ e
one_same e true = refl
one_same e false = refl

with_same : (plans : List (ℕ × Plan)) (job : ℕ) → with_plan plans job (λ plan. plan) ≡ plans
with_same [] job = refl
with_same (e ∷ es) job = λ i. one_same e (e.0 == job) i ∷ with_same es job i

-- and by none not at all
pub plans_none : (plans : List (ℕ × Plan)) (job phase : ℕ) → with_plan plans job (λ plan. grown plan phase 0) ≡ plans
plans_none plans job phase = (λ i. with_plan plans job (λ plan. grown_by_none plan phase i)) ∙ with_same plans job

-- a line that becomes an input, and one that becomes none
pub plans_line : {B : Type 0} (rows : Rows B) (line : InputLine) (plans : List (ℕ × Plan)) (job : ℕ) → is_input rows line ≡ true → with_plan plans job (λ plan. grown plan 0 1) ≡ with_plan plans job (λ plan. grown plan 0 (inputs_in rows (line ∷ [])))
plans_line rows line plans job is =
    let here : 1 ≡ 0 + 1 = omega arith in ap (λ n. with_plan plans job (λ plan. grown plan 0 n)) (here ∙ ap (λ b. 0 + cond b 1 0) (sym is))

pub plans_other : {B : Type 0} (rows : Rows B) (line : InputLine) (plans : List (ℕ × Plan)) (job : ℕ) → is_input rows line ≡ false → plans ≡ with_plan plans job (λ plan. grown plan 0 (inputs_in rows (line ∷ [])))
plans_other rows line plans job is =
    let here : 0 ≡ 0 + 0 = omega arith in
    sym (plans_none plans job 0) ∙ ap (λ n. with_plan plans job (λ plan. grown plan 0 n)) (here ∙ ap (λ b. 0 + cond b 1 0) (sym is))

-- one line, and then the rest
pub plans_lines : {B : Type 0} (rows : Rows B) (line : InputLine) (rest : List InputLine) (plans : List (ℕ × Plan)) (job : ℕ)
    → with_plan (with_plan plans job (λ plan. grown plan 0 (inputs_in rows (line ∷ [])))) job (λ plan. grown plan 0 (inputs_in rows rest)) ≡ with_plan plans job (λ plan. grown plan 0 (inputs_in rows (line ∷ rest)))
plans_lines rows line rest plans job =
    plans_grown plans job 0 (inputs_in rows (line ∷ [])) (inputs_in rows rest)
    ∙ ap (λ n. with_plan plans job (λ plan. grown plan 0 n)) (sym (sum_by-append (λ l. cond (is_input rows l) 1 0) (line ∷ []) rest))
