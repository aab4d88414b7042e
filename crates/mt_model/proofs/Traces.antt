-- What the trace of a sound job holds.
use Rattle.std.proofs.Common.{◌≡◌, ℕ, ◌+◌, ◌<◌, ◌≤◌, ◌==◌, nat_lt, Bool, true, false, cond, ◌&&◌, ◌||◌, List, [], ◌∷◌, ◌++◌, length, Option, Some, None, refl, sym, ap, subst, ◌∙◌, arith, zero, suc, eq-eqb, true≢false, length-append}
use Rattle.std.specs.Prelude.{take, drop}
use Rattle.std.specs.List.{count_by, slice_get, list_all, enumerate_from, range_with_len}
use Rattle.std.specs.Option.{unwrap_or}
use Rattle.std.proofs.lemmas.Bool.{eqb-true, ltb-true, ltb-false}
use Rattle.std.proofs.lemmas.List.Sums.{sum_by-cons}
use Rattle.std.proofs.lemmas.List.Elements.{filter-append}
use Rattle.std.proofs.lemmas.List.{take-append-drop}
use Rattle.std.proofs.lemmas.Grind.{flat_map-append}
use Rattle.mt_types.specs.declared.document.Phase.{Phase}
use Rattle.mt_types.specs.declared.document.PhaseKind.{PhaseKind}
use Rattle.mt_types.specs.declared.document.PhaseKind.TheVariants.{Map, Reduce}
use Rattle.mt_types.specs.declared.job.Job.{Job}
use Rattle.mt_types.specs.declared.job.TraceEntry.{TraceEntry}
use Rattle.mt_model.specs.Feed.{entries_of, feed, items_in}
use Rattle.mt_model.specs.Meaning.{IsEachTaskOnce}
use Rattle.mt_model.specs.Sound.{Sound, before}
use Rattle.mt_model.specs.Tasks.{all_complete, is_committed, is_complete, is_task_of, may_begin, task_count}
use Rattle.mt_model.proofs.LawfulInputs.{and_left, and_right, and_both, or_none}

or_false : (a b : Bool) → a ≡ false → b ≡ false → (a || b) ≡ false
or_false true b e f = absurd (true≢false e)
or_false false b e f = f

not_equal : (a b : ℕ) (t : Bool) → b == a ≡ t → (a == b) ≡ false → t ≡ false
not_equal a b true same e = let is : a == b ≡ true = eq-eqb a b (sym (eqb-true b a same)) in absurd (true≢false (sym is ∙ e))
not_equal a b false same e = refl

pub some_same : (q p : Phase) → Some q ≡ Some p → q ≡ p
some_same q p at = ap (λ o. unwrap_or o q) at

flip_case : (a b c d : ℕ) (t u : Bool) → b == a ≡ t → d == c ≡ u → ((a == b) && (c == d)) ≡ false → (t && u) ≡ false
flip_case a b c d true true p q e =
    let first : a == b ≡ true = eq-eqb a b (sym (eqb-true b a p)) in
    let second : c == d ≡ true = eq-eqb c d (sym (eqb-true d c q)) in
    absurd (true≢false (sym (and_both (a == b) (c == d) first second) ∙ e))
flip_case a b c d true false p q e = refl
flip_case a b c d false u p q e = refl

pub all_range : (test : ℕ → Bool) (a c k : ℕ) → list_all test (range_with_len a c) ≡ true → k < c → test (a + k) ≡ true
all_range test a zero k e less = absurd (omega arith)
all_range test a (suc c) zero e less = let same : a ≡ a + 0 = omega arith in subst (λ m. test m ≡ true) same (and_left _ _ e)
all_range test a (suc c) (suc k) e less = let same : a + 1 + k ≡ a + suc k = omega arith in subst (λ m. test m ≡ true) same (all_range test (a + 1) c k (and_right (test a) _ e) (omega arith))

all_phases_at : (test : ℕ × Phase → Bool) (m n : ℕ) (ps : List Phase) (p : Phase) → list_all test (enumerate_from m ps) ≡ true → slice_get ps n ≡ Some p → test (m + n, p) ≡ true
all_phases_at test m n [] p e at = cc
all_phases_at test m zero (q ∷ ps) p e at = let same : m ≡ m + 0 = omega arith in subst (λ x. test (x, p) ≡ true) same (subst (λ x. test (m, x) ≡ true) (some_same q p at) (and_left _ _ e))
all_phases_at test m (suc n) (q ∷ ps) p e at = let same : m + 1 + n ≡ m + suc n = omega arith in subst (λ x. test (x, p) ≡ true) same (all_phases_at test (m + 1) n ps p (and_right (test (m, q)) _ e) at)

module _ {B : Type 0} where
  -- the entry is of this task
  abbrev pub is_at : ℕ → ℕ → TraceEntry B → Bool
  is_at n k e = (e.phase == n) && (e.place == k)

  -- ---- counting the tasks of a phase

  filter_case : (b : Bool) (k : ℕ) (e : TraceEntry B) (rest : List (TraceEntry B)) → count_by (λ e. e.place == k) (cond b (e ∷ rest) rest) ≡ cond (b && (e.place == k)) 1 0 + count_by (λ e. e.place == k) rest
  filter_case true k e rest = sum_by-cons (λ e. cond (e.place == k) 1 0) e rest
  filter_case false k e rest = omega arith

  pub count_filter : (n k : ℕ) (es : List (TraceEntry B)) → count_by (λ e. e.place == k) (entries_of n es) ≡ count_by (is_at n k) es
  count_filter n k [] = refl
  count_filter n k (e ∷ es) =
      filter_case (e.phase == n) k e (entries_of n es)
      ∙ ap (λ x. cond (is_at n k e) 1 0 + x) (count_filter n k es)
      ∙ sym (sum_by-cons (λ e. cond (is_at n k e) 1 0) e es)

  -- ---- each task stands once

  abbrev pub Fresh : List (TraceEntry B) → Type 0
  Fresh es = (i : ℕ) (e : TraceEntry B) → slice_get es i ≡ Some e → is_committed (take i es) e.phase e.place ≡ false

  fresh_tail : (e : TraceEntry B) (es : List (TraceEntry B)) → Fresh (e ∷ es) → Fresh es
  fresh_tail e es f i d at = (or_none _ _ (f (suc i) d at)).1

  first_alone : (e : TraceEntry B) (es : List (TraceEntry B)) → Fresh (e ∷ es) → (i : ℕ) (d : TraceEntry B) → slice_get es i ≡ Some d → is_at d.phase d.place e ≡ false
  first_alone e es f i d at = (or_none _ _ (f (suc i) d at)).0

  flip : (e d : TraceEntry B) → is_at d.phase d.place e ≡ false → is_at e.phase e.place d ≡ false
  flip e d h = flip_case e.phase d.phase e.place d.place (d.phase == e.phase) (d.place == e.place) refl refl h

  none_after : (e : TraceEntry B) (es : List (TraceEntry B)) → ((i : ℕ) (d : TraceEntry B) → slice_get es i ≡ Some d → is_at d.phase d.place e ≡ false) → is_committed es e.phase e.place ≡ false
  none_after e [] h = refl
  none_after e (d ∷ ds) h = or_false _ _ (flip e d (h 0 d refl)) (none_after e ds (λ i x at. h (suc i) x at))

  once_case : (n k : ℕ) (e : TraceEntry B) (es : List (TraceEntry B)) (t u : Bool) → e.phase == n ≡ t → e.place == k ≡ u → is_committed es e.phase e.place ≡ false
      → count_by (is_at n k) es ≡ cond (is_committed es n k) 1 0 → cond (t && u) 1 0 + count_by (is_at n k) es ≡ cond ((t && u) || is_committed es n k) 1 0
  once_case n k e es true true p q none rest =
      let here : is_committed es n k ≡ false = subst (λ m. is_committed es m k ≡ false) (eqb-true e.phase n p) (subst (λ m. is_committed es e.phase m ≡ false) (eqb-true e.place k q) none) in
      let zero_more : count_by (is_at n k) es ≡ 0 = rest ∙ ap (λ b. cond b 1 0) here in
      omega (arith, zero_more)
  once_case n k e es true false p q none rest = let more : count_by (is_at n k) es ≡ cond (is_committed es n k) 1 0 = rest in omega (arith, more)
  once_case n k e es false u p q none rest = let more : count_by (is_at n k) es ≡ cond (is_committed es n k) 1 0 = rest in omega (arith, more)

  pub count_once : (n k : ℕ) (es : List (TraceEntry B)) → Fresh es → count_by (is_at n k) es ≡ cond (is_committed es n k) 1 0
  count_once n k [] f = refl
  count_once n k (e ∷ es) f =
      sum_by-cons (λ e. cond (is_at n k e) 1 0) e es
      ∙ once_case n k e es (e.phase == n) (e.place == k) refl refl (none_after e es (first_alone e es f)) (count_once n k es (fresh_tail e es f))

  -- ---- which tasks stand

  -- ---- a feed only grows

  pub items_front : (n i : ℕ) (es : List (TraceEntry B)) → items_in (entries_of n es) ≡ items_in (entries_of n (take i es)) ++ items_in (entries_of n (drop i es))
  items_front n i es =
      ap (λ x. items_in (entries_of n x)) (sym (take-append-drop i es))
      ∙ ap items_in (filter-append (λ e. e.phase == n) (take i es) (drop i es))
      ∙ flat_map-append _ (entries_of n (take i es)) (entries_of n (drop i es))

  feed_grows : (job : Job B) (i n : ℕ) → length (feed (before job i) n) ≤ length (feed job n)
  feed_grows job i zero = omega arith
  feed_grows job i (suc n) =
      let all : length (items_in (entries_of n job.trace)) ≡ length (items_in (entries_of n (take i job.trace)) ++ items_in (entries_of n (drop i job.trace))) = ap length (items_front n i job.trace) in
      let parts = length-append (items_in (entries_of n (take i job.trace))) (items_in (entries_of n (drop i job.trace))) in
      omega (arith, all, parts)

  pub counts_grow : (job : Job B) (i n : ℕ) (kind : PhaseKind) → task_count kind (feed (before job i) n) ≤ task_count kind (feed job n)
  counts_grow job i n Map = feed_grows job i n
  counts_grow job i n (Reduce count) = omega arith

  -- ---- what is committed is a task

  any_at : (n k : ℕ) (es : List (TraceEntry B)) → is_committed es n k ≡ true → (i : ℕ) × (e : TraceEntry B) × (slice_get es i ≡ Some e) × (e.phase ≡ n) × (e.place ≡ k)
  any_at n k [] t = absurd (true≢false (sym t))
  any_at n k (e ∷ es) t = by (e.phase == n) (e.place == k) refl refl t (any_at n k es)
    where
      by : (b c : Bool) → e.phase == n ≡ b → e.place == k ≡ c → ((b && c) || is_committed es n k) ≡ true → (is_committed es n k ≡ true → (i : ℕ) × (d : TraceEntry B) × (slice_get es i ≡ Some d) × (d.phase ≡ n) × (d.place ≡ k))
          → (i : ℕ) × (d : TraceEntry B) × (slice_get (e ∷ es) i ≡ Some d) × (d.phase ≡ n) × (d.place ≡ k)
      by true true p q t more = (0, e, refl, eqb-true e.phase n p, eqb-true e.place k q)
      by true false p q t more = let m = more t in (suc m.0, m.1, m.2, m.3, m.4)
      by false c p q t more = let m = more t in (suc m.0, m.1, m.2, m.3, m.4)

  pub task_within : (job : Job B) (i phase place : ℕ) (o : Option Phase) (p : Phase) → o ≡ Some p → is_task_of (before job i) phase place o ≡ true → place < task_count p.kind (feed job phase)
  task_within job i phase place None p at t = cc
  task_within job i phase place (Some q) p at t =
      let less : place < task_count q.kind (feed (before job i) phase) = ltb-true place (task_count q.kind (feed (before job i) phase)) (and_right (may_begin (before job i) phase q.kind) _ t) in
      let grown = counts_grow job i phase q.kind in
      let within : place < task_count q.kind (feed job phase) = omega (arith, less, grown) in
      subst (λ x. place < task_count x.kind (feed job phase)) (some_same q p at) within

  pub beyond : (job : Job B) → Sound job → (n k : ℕ) (p : Phase) → slice_get job.document.phases n ≡ Some p → task_count p.kind (feed job n) ≤ k → (b : Bool) → is_committed job.trace n k ≡ b → b ≡ false
  beyond job s n k p at past true t =
      let m = any_at n k job.trace t in
      let within : m.1.place < task_count p.kind (feed job m.1.phase) =
      task_within job m.0 m.1.phase m.1.place (slice_get job.document.phases m.1.phase) p (ap (slice_get job.document.phases) m.3 ∙ at) (s.tasks m.0 m.1 m.2) in
      let there : k < task_count p.kind (feed job n) = subst (λ x. k < task_count p.kind (feed job x)) m.3 (subst (λ x. x < task_count p.kind (feed job m.1.phase)) m.4 within) in
      absurd (omega (arith, there, past))
  beyond job s n k p at past false t = refl

  committed_case : (job : Job B) → Sound job → all_complete job ≡ true → (n k : ℕ) (p : Phase) → slice_get job.document.phases n ≡ Some p → (b : Bool) → nat_lt k (task_count p.kind (feed job n)) ≡ b → is_committed job.trace n k ≡ b
  committed_case job s all n k p at true t =
      let start : 0 + n ≡ n = omega arith in
      let first : 0 + k ≡ k = omega arith in
      let whole : is_complete job (n, p) ≡ true = subst (λ m. is_complete job (m, p) ≡ true) start (all_phases_at (is_complete job) 0 n job.document.phases p all at) in
      subst (λ m. is_committed job.trace n m ≡ true) first (all_range (is_committed job.trace n) 0 (task_count p.kind (feed job n)) k whole (ltb-true k (task_count p.kind (feed job n)) t))
  committed_case job s all n k p at false t = beyond job s n k p at (ltb-false k (task_count p.kind (feed job n)) t) (is_committed job.trace n k) refl

  -- each task of each phase of a sound job that is complete stands once in the trace
  pub once_each : (job : Job B) → Sound job → all_complete job ≡ true → (n : ℕ) (p : Phase) → slice_get job.document.phases n ≡ Some p → IsEachTaskOnce p.kind (feed job n) (entries_of n job.trace)
  once_each job s all n p at k =
      count_filter n k job.trace
      ∙ count_once n k job.trace s.once
      ∙ ap (λ b. cond b 1 0) (committed_case job s all n k p at (nat_lt k (task_count p.kind (feed job n))) refl)
