-- What a job keeps by the types of its values.
use Rattle.std.proofs.Common.{◌≡◌, ℕ, ◌+◌, ◌<◌, ◌≤◌, ◌^◌, ◌==◌, zero, suc, Bool, true, false, cond, List, [], ◌∷◌, ◌++◌, length, take, get_or, sym, ap, subst, ◌∙◌, arith, append-nil, length-append}
use Rattle.std.specs.List.{AllByRecursion}
use Rattle.std.proofs.lemmas.Grind.{flat_map-append}
use Rattle.std.proofs.lemmas.List.Concat.{flat_map-cons}
use Rattle.mt_model.specs.Types.{Body, Job, TraceEntry}
use Rattle.mt_model.specs.Feed.{entries_of, feed, items_in, items_of}
use Rattle.mt_certline.specs.Laws.{IsOfTexts, IsWhole}
use Rattle.mt_cert.specs.Accepting.{IsHeld}
use Rattle.mt_cert.specs.Certifying.{sum_of_body}
use Rattle.mt_cert.specs.Seen.{AreSums, IsSeenEntry, IsSeenTrace}
use Rattle.mt_cert.proofs.JobLines.{every_append}
use Rattle.mt_cert.proofs.Layings.{take_on}

every_into : {A : Type 0} (P Q : A → Type 0) → ((x : A) → P x → Q x) → (xs : List A) → AllByRecursion P xs → AllByRecursion Q xs
every_into P Q into [] all = tt
every_into P Q into (x ∷ xs) all = (into x all.0, every_into P Q into xs all.1)

-- one element more
pub every_take : {A : Type 0} (P : A → Type 0) (xs : List A) (k : ℕ) (x : A) → k < length xs → x ≡ get_or xs k x → AllByRecursion P (take k xs) → P x → AllByRecursion P (take (k + 1) xs)
every_take P xs k x less is all here = subst (AllByRecursion P) (take_on [] xs k x less is) (every_append P (take k xs) (x ∷ []) all (here, tt))

-- one committed task more
pub seen_more : (xs : List (TraceEntry Body)) (k : ℕ) (e : TraceEntry Body) (n m : ℕ) → k < length xs → e ≡ get_or xs k e → IsSeenTrace (take k xs) n → IsSeenEntry e → m ≡ length (items_of e.outcome) → n + m < 2 ^ 64 → IsSeenTrace (take (k + 1) xs) (n + m)
seen_more xs k e n m less is seen here count few =
    let more : items_in (take k xs ++ e ∷ []) ≡ items_in (take k xs) ++ (items_of e.outcome ++ []) = flat_map-append (λ (e : TraceEntry Body). items_of e.outcome) (take k xs) (e ∷ []) in
    let same : length (items_in (take k xs ++ e ∷ [])) ≡ length (items_in (take k xs) ++ items_of e.outcome) = ap length more ∙ ap (λ l. length (items_in (take k xs) ++ l)) (append-nil (items_of e.outcome)) in
    let whole : length (items_in (take (k + 1) xs)) ≡ length (items_in (take k xs) ++ items_of e.outcome) = ap (λ l. length (items_in l)) (sym (take_on [] xs k e less is)) ∙ same in
    record {
      each = every_take IsSeenEntry xs k e less is seen.each here;
      outputs = omega (arith, seen.outputs, count, whole, length-append (items_in (take k xs)) (items_of e.outcome));
      few = few;
    }

-- the tasks of a phase gave no more than all did
given_few : (phase : ℕ) (es : List (TraceEntry Body)) → length (items_in (entries_of phase es)) ≤ length (items_in es)
given_few phase [] = omega arith
given_few phase (e ∷ es) = by (e.phase == phase) (given_few phase es)
  where
    by : (b : Bool) → length (items_in (entries_of phase es)) ≤ length (items_in es) → length (items_in (cond b (e ∷ entries_of phase es) (entries_of phase es))) ≤ length (items_in (e ∷ es))
    by true more =
        let first : length (items_in (e ∷ entries_of phase es)) ≡ length (items_of e.outcome ++ items_in (entries_of phase es)) = ap length (flat_map-cons (λ (e : TraceEntry Body). items_of e.outcome) e (entries_of phase es)) in
        let all : length (items_in (e ∷ es)) ≡ length (items_of e.outcome ++ items_in es) = ap length (flat_map-cons (λ (e : TraceEntry Body). items_of e.outcome) e es) in
        omega (arith, more, first, all, length-append (items_of e.outcome) (items_in (entries_of phase es)), length-append (items_of e.outcome) (items_in es))
    by false more =
        let all : length (items_in (e ∷ es)) ≡ length (items_of e.outcome ++ items_in es) = ap length (flat_map-cons (λ (e : TraceEntry Body). items_of e.outcome) e es) in
        omega (arith, more, all, length-append (items_of e.outcome) (items_in es))

-- the whole job
pub held_by : (job : Job Body) (count : ℕ) → AllByRecursion IsOfTexts job.document.phases → AreSums job.inputs → length job.inputs < 2 ^ 64 → IsSeenTrace job.trace count → IsHeld Body sum_of_body job
held_by job count texts inputs few seen = record {
  texts = texts;
  inputs = inputs;
  phases = every_into IsSeenEntry (λ e. IsWhole e.phase) (λ e s. s.phase) job.trace seen.each;
  places = every_into IsSeenEntry (λ e. IsWhole e.place) (λ e s. s.place) job.trace seen.each;
  outputs = every_into IsSeenEntry (λ e. AreSums (items_of e.outcome)) (λ e s. s.outputs) job.trace seen.each;
  feeds = feeds;
}
  where
    feeds : (n : ℕ) → length (feed job n) < 2 ^ 64
    feeds zero = few
    feeds (suc n) = let less = given_few n job.trace in omega (arith, less, seen.outputs, seen.few)
