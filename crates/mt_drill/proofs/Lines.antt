-- The line of a drill, part by part.
use Rattle.std.proofs.Common.{◌≡◌, ℕ, ◌-◌, true, List, [], ◌∷◌, ◌++◌, length, map, take, drop, Option, Some, ap, sym, ◌∙◌, subst, append_assoc, arith}
use Rattle.std.specs.Prelude.{IfSome, option_map}
use Rattle.std.specs.Option.{ForSome}
use Rattle.std.proofs.lemmas.List.{append-nil, length-map, take_all}
use Rattle.mt_body.specs.Stored.{IsStored, bytes_of}
use Rattle.mt_disk.specs.Files.{Files}
use Rattle.mt_opening.specs.Current.{EngineState, IsCurrent}
use Rattle.mt_opening.specs.History.{Bytes, History, position}
use Rattle.mt_opening.proofs.Held.{told_now}
use Rattle.mt_engine.proofs.Objects.{jobs_read}
use Rattle.mt_gen.specs.Messages.{job_number}
use Rattle.mt_log.specs.LogImage.{payloads_of}
use Rattle.mt_log.specs.LogState.{told}
use Rattle.mt_model.specs.Bodies.{OfJob}
use Rattle.mt_model.specs.Finished.{is_finished}
use Rattle.mt_model.specs.State.{State, first_state, job_at}
use Rattle.mt_types.specs.Values.{job_with, trace_entry_with}
use Rattle.mt_types.specs.declared.body.Body.{Body}
use Rattle.mt_types.specs.declared.job.Job.{Job}
use Rattle.mt_drill.specs.DrillLine.{IsLineOf, counts_text, figure, figures, given_by}
use Rattle.mt_drill.proofs.Outputs.{given_by-with, given_of}

-- ---- a figure

-- a body that was read whole, behind a blank and without its last byte
pub figure_read : (bytes into out out' out2 : List ℕ) (n : ℕ) → length bytes ≡ n → into ≡ take n (drop 0 bytes) → out' ≡ out ++ 32 ∷ [] → out2 ≡ out' ++ take (n - 1) into → out2 ≡ out ++ figure (Some bytes)
figure_read bytes into out out' out2 n len read first grew =
    let whole : into ≡ bytes = read ∙ take_all n bytes (omega (arith, len)) in
    grew ∙ (ap (λ (o : List ℕ). o ++ take (n - 1) into) first
    ∙ (ap (λ (i : List ℕ). (out ++ 32 ∷ []) ++ take (n - 1) i) whole
    ∙ (append_assoc out (32 ∷ []) (take (n - 1) bytes) ∙ ap (λ (m : ℕ). out ++ 32 ∷ take (m - 1) bytes) (sym len))))

-- the body that a reducer gave stands in the log
pub stored_body : (o : Option (List (List ℕ))) (job : Job Body) (r : ℕ) (body : Body) → ForSome o (λ ps. OfJob (IsStored ps) job) → given_by r job.trace ≡ Some body → ForSome o (λ ps. IsStored ps body)
stored_body o job r body all is ps there = subst (λ (b : Option Body). IfSome b (IsStored ps)) is (given_of (IsStored ps) r job.trace (all ps there).trace)

-- and is the one that was put
pub figure_given : (o : Option (List (List ℕ))) (job : Job Body) (r : ℕ) (body : Body) (out out' : List ℕ) → given_by r job.trace ≡ Some body → ForSome o (λ ps. out' ≡ out ++ figure (Some (bytes_of ps body)))
    → ForSome o (λ ps. out' ≡ out ++ figure (option_map (bytes_of ps) (given_by r job.trace)))
figure_given o job r body out out' is put ps there = subst (λ (b : Option Body). out' ≡ out ++ figure (option_map (bytes_of ps) b)) (sym is) (put ps there)

four : (o a b c d : List ℕ) → (((o ++ a) ++ b) ++ c) ++ d ≡ o ++ (a ++ (b ++ (c ++ (d ++ []))))
four o a b c d =
    let joined : (((o ++ a) ++ b) ++ c) ++ d ≡ o ++ (a ++ (b ++ (c ++ d))) = simp append_assoc in
    joined ∙ ap (λ (x : List ℕ). o ++ (a ++ (b ++ (c ++ x)))) (sym (append-nil d))

-- the figures of the four reducers
pub four_figures : (f : Body → List ℕ) (job : Job Body) (o o1 o2 o3 o4 : List ℕ) → o1 ≡ o ++ figure (option_map f (given_by 0 job.trace)) → o2 ≡ o1 ++ figure (option_map f (given_by 1 job.trace))
    → o3 ≡ o2 ++ figure (option_map f (given_by 2 job.trace)) → o4 ≡ o3 ++ figure (option_map f (given_by 3 job.trace)) → o4 ≡ o ++ figures (job_with f job)
four_figures f job o o1 o2 o3 o4 a b c d =
    let old : (r : ℕ) → List ℕ = λ r. figure (option_map f (given_by r job.trace)) in
    let new : (r : ℕ) → List ℕ = λ r. figure (given_by r (map (trace_entry_with f) job.trace)) in
    let same : (r : ℕ) → old r ≡ new r = λ r. ap figure (sym (given_by-with f r job.trace)) in
    let all : o4 ≡ (((o ++ old 0) ++ old 1) ++ old 2) ++ old 3 =
    d ∙ ap (λ (x : List ℕ). x ++ old 3) (c ∙ ap (λ (x : List ℕ). x ++ old 2) (b ∙ ap (λ (x : List ℕ). x ++ old 1) a)) in
    all ∙ (four o (old 0) (old 1) (old 2) (old 3)
    ∙ (ap (λ (x : List ℕ). o ++ (x ++ (old 1 ++ (old 2 ++ (old 3 ++ []))))) (same 0)
    ∙ (ap (λ (x : List ℕ). o ++ (new 0 ++ (x ++ (old 2 ++ (old 3 ++ []))))) (same 1)
    ∙ (ap (λ (x : List ℕ). o ++ (new 0 ++ (new 1 ++ (x ++ (old 3 ++ []))))) (same 2)
    ∙ ap (λ (x : List ℕ). o ++ (new 0 ++ (new 1 ++ (new 2 ++ (x ++ []))))) (same 3)))))

-- ---- the line

-- the front of the line, behind nothing
pub counts_put : (o o1 : List ℕ) (count replies commands commands' tasks tasks' : ℕ) → o ≡ [] → commands ≡ commands' → tasks ≡ tasks' → o1 ≡ o ++ counts_text count replies commands tasks → o1 ≡ counts_text count replies commands' tasks'
counts_put o o1 count replies commands commands' tasks tasks' none first second put =
    put ∙ (ap (λ (x : List ℕ). x ++ counts_text count replies commands tasks) none ∙ (ap (λ (c : ℕ). counts_text count replies c tasks) first ∙ ap (λ (n : ℕ). counts_text count replies commands' n) second))

-- it says what the history has that the engine stands for
pub tells_line : (seen : Option Files) (engine : EngineState) (k : History) (i : IsCurrent seen engine first_state k) (count replies : ℕ) (job : Job Body) (o1 o2 o3 : List ℕ) → job_at engine.state.jobs (job_number count) ≡ Some job → is_finished job ≡ true
    → o1 ≡ counts_text count replies engine.state.count (length job.trace) → ForSome (told seen) (λ ps. o2 ≡ o1 ++ figures (job_with (bytes_of ps) job)) → o3 ≡ o2 ++ 10 ∷ [] → IsLineOf count replies k o3
tells_line seen engine k i count replies job o1 o2 o3 found done counts put last =
    let ps = payloads_of i.is_read.files in
    let f = bytes_of ps in
    let commands : engine.state.count ≡ position first_state k = ap (λ (s : State Bytes). s.count) i.is_read.state in
    let tasks : length job.trace ≡ length (map (trace_entry_with f) job.trace) = sym (length-map job.trace (trace_entry_with f)) in
    let front : o1 ≡ counts_text count replies (position first_state k) (length (map (trace_entry_with f) job.trace)) =
    counts ∙ (ap (λ (c : ℕ). counts_text count replies c (length job.trace)) commands ∙ ap (λ (n : ℕ). counts_text count replies (position first_state k) n) tasks) in
    record {
      job = job_with f job;
      job_is = jobs_read seen engine first_state k i (job_number count) ∙ ap (option_map (job_with f)) found;
      finished = done;
      line_is = last ∙ ap (λ (o : List ℕ). o ++ 10 ∷ []) (put ps (told_now seen engine first_state k i) ∙ ap (λ (o : List ℕ). o ++ figures (job_with f job)) front);
    }
