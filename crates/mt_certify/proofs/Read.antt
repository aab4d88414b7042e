-- Certificates over references and over bytes.
use Rattle.std.proofs.Common.{◌≡◌, ℕ, Bool, true, false, not, List, [], ◌∷◌, map, length, refl, sym, ap, ◌∙◌}
use Rattle.mt_body.specs.Stored.{IsStored, bytes_of}
use Rattle.mt_body.proofs.Keeping.{length-bytes_of}
use Rattle.mt_cert.specs.Certifying.{sum_of_body, sum_of_bytes}
use Rattle.mt_certline.specs.Certificate.{certificate_of}
use Rattle.mt_certline.specs.declared.line.Sum.{Sum}
use Rattle.mt_checker.specs.Judge.{judge}
use Rattle.mt_checker.specs.Texts.{certificate_text}
use Rattle.mt_model.specs.Bodies.{OfJob}
use Rattle.mt_model.specs.Finished.{is_finished}
use Rattle.mt_model.specs.Sound.{Sound}
use Rattle.mt_model.specs.State.{State}
use Rattle.mt_model.specs.Tasks.{all_complete}
use Rattle.mt_model.specs.Types.{Body, Item, Job, Outcome, TraceEntry}
use Rattle.mt_model.proofs.Agree.{state-agree}
use Rattle.mt_model.proofs.Held.{state_weaker}
use Rattle.mt_model.proofs.LawfulInputs.{and_left, and_right}
use Rattle.mt_model.proofs.Maps.{map-map, same_function}
use Rattle.mt_types.specs.Values.{item_with, job_with, outcome_with, trace_entry_with}
use Rattle.mt_types.specs.declared.job.Outcome.TheVariants.{Good, Bad}
use Rattle.mt_certify.specs.Certified.{CertificatesAreRead, FinishedIsAccepted}

-- ---- two readings, one behind the other

module _ {A B C : Type 0} (f : B → C) (g : A → B) where
  abbrev both : A → C
  both a = f (g a)

  items_twice : (is : List (Item A)) → map (item_with f) (map (item_with g) is) ≡ map (item_with both) is
  items_twice is = map-map (item_with f) (item_with g) is

  outcome_twice : (o : Outcome A) → outcome_with f (outcome_with g o) ≡ outcome_with both o
  outcome_twice (Good items) = ap Good (items_twice items)
  outcome_twice (Bad failure status stderr) = refl

  entry_twice : (e : TraceEntry A) → trace_entry_with f (trace_entry_with g e) ≡ trace_entry_with both e
  entry_twice e = ap (λ (o : Outcome C). record { phase = e.phase; place = e.place; position = e.position; outcome = o }) (outcome_twice e.outcome)

  trace_twice : (es : List (TraceEntry A)) → map (trace_entry_with f) (map (trace_entry_with g) es) ≡ map (trace_entry_with both) es
  trace_twice es = map-map (trace_entry_with f) (trace_entry_with g) es
      ∙ ap (λ h. map h es) (same_function (λ e. trace_entry_with f (trace_entry_with g e)) (trace_entry_with both) entry_twice)

  assets_twice : (bs : List (List A)) → map (map f) (map (map g) bs) ≡ map (map both) bs
  assets_twice bs = map-map (map f) (map g) bs ∙ ap (λ h. map h bs) (same_function (λ b. map f (map g b)) (map both) (map-map f g))

  job_twice : (j : Job A) → job_with f (job_with g j) ≡ job_with both j
  job_twice j =
      ap (λ (bs : List (List C)). record (job_with f (job_with g j)) { assets = bs }) (assets_twice j.assets)
      ∙ ap (λ (is : List (Item C)). record (job_with f (job_with g j)) { assets = map (map both) j.assets; inputs = is }) (items_twice j.inputs)
      ∙ ap (λ (es : List (TraceEntry C)). record (job_with both j) { trace = es }) (trace_twice j.trace)

-- ---- readings that agree

-- a state of one job
abbrev alone : {B : Type 0} → Job B → State B
alone j = record { count = 0; rows = []; jobs = j ∷ []; uploads = [] }

abbrev first_or : {B : Type 0} → Job B → List (Job B) → Job B
first_or d [] = d
first_or d (j ∷ js) = j

module _ {A B : Type 0} (f g : A → B) where
  job_agree : (j : Job A) → OfJob (λ a. f a ≡ g a) j → job_with f j ≡ job_with g j
  job_agree j same = ap (λ (s : State B). first_or (job_with f j) s.jobs) (state-agree f g (alone j) (record { rows = tt; jobs = (same, tt); uploads = tt }))

job_weaker : {A : Type 0} (P Q : A → Type 0) → ((a : A) → P a → Q a) → (j : Job A) → OfJob P j → OfJob Q j
job_weaker P Q each j is = (state_weaker P Q each (alone j) (record { rows = tt; jobs = (is, tt); uploads = tt })).jobs.0

-- ---- certificates

-- a sum of these parts
abbrev sum_by : List ℕ → ℕ → Sum
sum_by digest size = record { md5 = digest; size = size }

sum_is : (ps : List (List ℕ)) (b : Body) → IsStored ps b → sum_of_bytes (bytes_of ps b) ≡ sum_of_body b
sum_is ps b is = ap (λ d. sum_by d (length (bytes_of ps b))) (sym is.digest) ∙ ap (λ n. sum_by b.md5 n) (length-bytes_of ps b)

pub certificates_read : CertificatesAreRead
certificates_read ps job stored =
    ap certificate_of (job_twice sum_of_bytes (bytes_of ps) job
    ∙ job_agree (λ b. sum_of_bytes (bytes_of ps b)) sum_of_body job (job_weaker (IsStored ps) (λ b. sum_of_bytes (bytes_of ps b) ≡ sum_of_body b) (sum_is ps) job stored))

not_true : (b : Bool) → not b ≡ true → b ≡ false
not_true true e = cc
not_true false e = refl

-- a finished job is complete
complete : (job : Job Body) → Sound job → is_finished job ≡ true → all_complete job ≡ true
complete job s done = (s.finished (and_left _ _ done) (not_true _ (and_right _ _ done))).1

pub finished_accepted : FinishedIsAccepted
finished_accepted ps login count job stored named few lawful kept done accepts =
    ap (λ c. judge login (certificate_text login c)) (certificates_read ps job stored) ∙ accepts count named few lawful kept (complete job lawful.sound done)
