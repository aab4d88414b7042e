-- Tasks that follow each other stand phase by phase, rise within each, and are committed once.
use Rattle.std.proofs.Common.{◌≡◌, ℕ, ◌+◌, ◌<◌, ◌≤◌, ◌==◌, nat_lt, zero, suc, Bool, true, false, cond, not, ◌||◌, List, [], ◌∷◌, ◌++◌, map, length, Option, Some, None, refl, sym, ap, subst, ◌∙◌, arith, append-nil, inl, inr}
use Rattle.std.specs.Prelude.{All, ⊤}
use Rattle.std.specs.List.{AllByRecursion, count_by, enumerate_from, filter, list_all, slice_get}
use Rattle.std.specs.List.Sorted.{IsStrictlySortedBy}
use Rattle.std.specs.Option.{option_map_or}
use Rattle.std.specs.Ordering.{nat_cmp}
use Rattle.std.proofs.lemmas.Bool.{and_parts, cases_lt, eqb-true, false_from_ne_true, ltb-false, ltb-true, or_from, true≢false}
use Rattle.std.proofs.lemmas.List.Elements.{All-cons, All-from_recursion, All-nil, filter-append}
use Rattle.std.proofs.lemmas.Slice.Eq.{bytes_eq-Decides}
use Rattle.mt_model.specs.Types.{AccountPath, Item, Phase, TraceEntry}
use Rattle.mt_model.specs.Feed.{entries_of, feed, items_in}
use Rattle.mt_model.specs.Finished.{outputs_of}
use Rattle.mt_model.specs.Meaning.{IsEachTaskOnce, Means}
use Rattle.mt_model.specs.Tasks.{is_committed, is_complete, task_count}
use Rattle.mt_model.proofs.LawfulNewJob.{sorted_push}
use Rattle.mt_model.proofs.Traces.{all_range, count_filter, is_at, some_same}
use Rattle.mt_certline.specs.Certificate.{AddsUp, Certificate, Progress, ReadsIts, entry_of, first_open, follows_in, is_later, is_of_phase, reads_of, task_follows}
use Rattle.mt_certline.specs.declared.line.Listed.{Listed}
use Rattle.mt_certline.specs.declared.line.Sum.{Sum}
use Rattle.mt_checker.proofs.Firsts.{FirstAt, find_first, none_passes}
use Rattle.mt_checker.proofs.Fronts.{any_append, complete_front, count_append, entries, every_push, every_weaker, feed_front, job, map_append}
use Rattle.mt_checker.proofs.Ordered.{AllUpTo, by_phases, phases_push}

from_not : (b : Bool) → not b ≡ true → b ≡ false
from_not true e = cc
from_not false e = refl

from_not_false : (b : Bool) → not b ≡ false → b ≡ true
from_not_false true e = refl
from_not_false false e = cc

within : {A : Type 0} (xs : List A) (k : ℕ) (x : A) → slice_get xs k ≡ Some x → k < length xs
within [] k x at = cc
within (y ∷ ys) zero x at = omega arith
within (y ∷ ys) (suc k) x at = omega (arith, within ys k x at)

-- a count of at most one, and one more where it was none
one_counts : (c : ℕ) (b t : Bool) → c ≡ cond b 1 0 → (t ≡ true → b ≡ false) → c + (0 + cond t 1 0) ≡ cond (b || (t || false)) 1 0
one_counts c true true e fresh = absurd (true≢false (fresh refl))
one_counts c true false e fresh = let is : c ≡ 1 = e in omega (arith, is)
one_counts c false true e fresh = let is : c ≡ 0 = e in omega (arith, is)
one_counts c false false e fresh = let is : c ≡ 0 = e in omega (arith, is)

positions_below : (n : ℕ) (ts : List Listed) → list_all (λ k. nat_lt k.position n) ts ≡ true → All (λ x. x < n) (map (λ u. u.position) ts)
positions_below n [] all = All-nil (λ x. x < n)
positions_below n (t ∷ ts) all =
    let parts = and_parts _ _ all in
    All-cons (λ x. x < n) t.position (map (λ u. u.position) ts) (ltb-true t.position n parts.0) (positions_below n ts parts.1)

module _ (phases : List Phase) (inputs : List (Item Sum)) where
  abbrev pub progress : List Listed → List AccountPath → Progress
  progress ts names = record { phases = phases; inputs = inputs; tasks = ts; outputs = names }

  -- a listed task is one of its phase, it lists what it read, and the phases before its own are complete
  pub record IsOne (ts : List Listed) (t : Listed) : Type 0 where
    pub phase : Phase
    pub at : slice_get phases t.phase ≡ Some phase
    pub within : t.place < task_count phase.kind (feed (job phases inputs ts) t.phase)
    pub reads : t.reads ≡ reads_of phase.kind (feed (job phases inputs ts) t.phase) t.place
    pub behind : (k : ℕ) (q : Phase) → k < t.phase → slice_get phases k ≡ Some q → is_complete (job phases inputs ts) (k, q) ≡ true

  abbrev Positions : ℕ → List Listed → Type 0
  Positions n ts = IsStrictlySortedBy nat_cmp (map (λ l. l.position) (filter (is_of_phase n) ts))

  -- what holds of tasks each of which follows those before it
  pub record Standing (ts : List Listed) : Type 0 where
    pub each : AllByRecursion (IsOne ts) ts
    pub once : (n k : ℕ) → count_by (is_at n k) (entries ts) ≡ cond (is_committed (entries ts) n k) 1 0
    pub rising : (n : ℕ) → Positions n ts
    pub by_phase : by_phases ts 0 phases ≡ ts

  nothing_rises : (n : ℕ) → Positions n []
  unfolding IsStrictlySortedBy
  nothing_rises n = tt

  no_phases : (m : ℕ) (ps : List Phase) → by_phases [] m ps ≡ []
  no_phases m [] = refl
  no_phases m (p ∷ ps) = no_phases (m + 1) ps

  pub standing_none : Standing []
  standing_none = record { each = tt; once = λ n k. refl; rising = nothing_rises; by_phase = no_phases 0 phases }

  -- ---- one task more

  module _ (ts : List Listed) (l : Listed) where
    abbrev more : List Listed
    more = ts ++ l ∷ []

    one_on : (t : Listed) → t.phase ≤ l.phase → IsOne ts t → IsOne more t
    one_on t le is =
        let same : feed (job phases inputs more) t.phase ≡ feed (job phases inputs ts) t.phase = feed_front phases inputs l.phase ts (l ∷ []) (omega arith, tt) t.phase le in
        record {
          phase = is.phase;
          at = is.at;
          within = subst (λ f. t.place < task_count is.phase.kind f) (sym same) is.within;
          reads = is.reads ∙ ap (λ f. reads_of is.phase.kind f t.place) (sym same);
          behind = λ k q lt at. complete_front phases inputs l.phase ts (l ∷ []) (omega arith, tt) k q (omega (arith, lt, le)) ∙ is.behind k q lt at;
        }

    all_on : (us : List Listed) → AllUpTo l.phase us → AllByRecursion (IsOne ts) us → AllByRecursion (IsOne more) us
    all_on [] upto all = tt
    all_on (u ∷ us) upto all = (one_on u upto.0 all.0, all_on us upto.1 all.1)

    -- the task was not committed before
    once_push : is_committed (entries ts) l.phase l.place ≡ false → ((n k : ℕ) → count_by (is_at n k) (entries ts) ≡ cond (is_committed (entries ts) n k) 1 0)
        → (n k : ℕ) → count_by (is_at n k) (entries more) ≡ cond (is_committed (entries more) n k) 1 0
    once_push fresh once n k =
        ap (count_by (is_at n k)) (map_append entry_of ts (l ∷ []))
        ∙ (count_append (is_at n k) (entries ts) (entry_of l ∷ [])
        ∙ (one_counts (count_by (is_at n k) (entries ts)) (is_committed (entries ts) n k) (is_at n k (entry_of l)) (once n k)
        (λ same.
        let parts = and_parts (l.phase == n) (l.place == k) same in
        subst (λ m. is_committed (entries ts) m k ≡ false) (eqb-true l.phase n parts.0) (subst (λ m. is_committed (entries ts) l.phase m ≡ false) (eqb-true l.place k parts.1) fresh))
        ∙ ap (λ b. cond b 1 0) (sym (ap (λ es. is_committed es n k) (map_append entry_of ts (l ∷ [])) ∙ any_append (is_at n k) (entries ts) (entry_of l ∷ [])))))

    rising_push : is_later ts l ≡ true → ((n : ℕ) → Positions n ts) → (n : ℕ) → Positions n more
    rising_push later rising n =
        subst (λ us. IsStrictlySortedBy nat_cmp (map (λ u. u.position) us)) (sym (filter-append (is_of_phase n) ts (l ∷ []))) (by (l.phase == n) refl)
      where
        by : (b : Bool) → l.phase == n ≡ b → IsStrictlySortedBy nat_cmp (map (λ u. u.position) (filter (is_of_phase n) ts ++ cond b (l ∷ []) []))
        by true is =
            let above = subst (λ m. list_all (λ k. nat_lt k.position l.position) (filter (is_of_phase m) ts) ≡ true) (eqb-true l.phase n is) later in
            subst (IsStrictlySortedBy nat_cmp) (sym (map_append (λ u. u.position) (filter (is_of_phase n) ts) (l ∷ [])))
            (sorted_push (map (λ u. u.position) (filter (is_of_phase n) ts)) l.position (rising n) (positions_below l.position (filter (is_of_phase n) ts) above))
        by false is = subst (λ us. IsStrictlySortedBy nat_cmp (map (λ u. u.position) us)) (sym (append-nil (filter (is_of_phase n) ts))) (rising n)

    standing_push : Standing ts → AllUpTo l.phase ts → IsOne ts l → l.phase < length phases → is_committed (entries ts) l.phase l.place ≡ false → is_later ts l ≡ true → Standing more
    standing_push s upto one below fresh later = record {
      each = every_push (IsOne more) ts l (all_on ts upto s.each) (one_on l (omega arith) one);
      once = once_push fresh s.once;
      rising = rising_push later s.rising;
      by_phase = phases_push ts l upto 0 phases (omega arith) (omega (arith, below)) ∙ ap (λ us. us ++ l ∷ []) s.by_phase;
    }

  -- none of the tasks so far is of a later phase than one with a place that is not listed
  upto_open : (ts us : List Listed) (n : ℕ) (p : Phase) → slice_get phases n ≡ Some p → is_complete (job phases inputs ts) (n, p) ≡ false → AllByRecursion (IsOne ts) us → AllUpTo n us
  upto_open ts [] n p at none all = tt
  upto_open ts (u ∷ us) n p at none all = (elim (cases_lt n u.phase) [ inl later ↦ absurd (true≢false (sym (all.0.behind n p later at) ∙ none)) | inr upto ↦ upto ], upto_open ts us n p at none all.1)

  pub standing_task : (ts : List Listed) (l : Listed) (names : List AccountPath) → Standing ts → task_follows (progress ts names) l ≡ true → Standing (ts ++ l ∷ [])
  standing_task ts l names s follows = by (first_open (progress ts names)) refl follows
    where
      by : (o : Option (ℕ × Phase)) → first_open (progress ts names) ≡ o → option_map_or (follows_in (progress ts names) l) o false ≡ true → Standing (ts ++ l ∷ [])
      by None found holds = cc
      by (Some (n, p)) found holds =
          let there : FirstAt (λ q. not (is_complete (job phases inputs ts) q)) 0 phases n p = find_first (λ q. not (is_complete (job phases inputs ts) q)) 0 phases n p found in
          let e = and_parts _ _ holds in
          let d = and_parts _ _ e.0 in
          let c = and_parts _ _ d.0 in
          let b = and_parts _ _ c.0 in
          let same : l.phase ≡ n = eqb-true l.phase n b.0 in
          let is : n ≡ there.place = omega (arith, there.is) in
          let at : slice_get phases n ≡ Some p = subst (λ m. slice_get phases m ≡ Some p) (sym is) there.at in
          let none : is_complete (job phases inputs ts) (n, p) ≡ false = from_not _ there.passes in
          let fresh : is_committed (entries ts) l.phase l.place ≡ false = from_not _ c.1 in
          let reads : l.reads ≡ reads_of p.kind (feed (job phases inputs ts) n) l.place = (bytes_eq-Decides l.reads (reads_of p.kind (feed (job phases inputs ts) n) l.place)).0 e.1 in
          let one : IsOne ts l = record {
            phase = p;
            at = subst (λ m. slice_get phases m ≡ Some p) (sym same) at;
            within = subst (λ m. l.place < task_count p.kind (feed (job phases inputs ts) m)) (sym same) (ltb-true _ _ b.1);
            reads = subst (λ m. l.reads ≡ reads_of p.kind (feed (job phases inputs ts) m) l.place) (sym same) reads;
            behind = λ k q lt here.
                let none_at : 0 + k ≡ k = omega arith in
                from_not_false _ (subst (λ m. not (is_complete (job phases inputs ts) (m, q)) ≡ false) none_at (there.before k q (omega (arith, lt, same, is)) here));
          } in
          standing_push ts l s (subst (λ m. AllUpTo m ts) (sym same) (upto_open ts ts n p at none s.each)) one (omega (arith, same, within phases n p at)) fresh d.1

  -- ---- all of them

  abbrev pub Stand : ℕ → List Phase → Type 0
  Stand n ps = (k : ℕ) (p : Phase) → slice_get ps k ≡ Some p → slice_get phases (n + k) ≡ Some p

  stand_here : (n : ℕ) (p : Phase) (ps : List Phase) → Stand n (p ∷ ps) → slice_get phases n ≡ Some p
  stand_here n p ps stand = let e : n + 0 ≡ n = omega arith in subst (λ m. slice_get phases m ≡ Some p) e (stand 0 p refl)

  stand_on : (n : ℕ) (p : Phase) (ps : List Phase) → Stand n (p ∷ ps) → Stand (n + 1) ps
  stand_on n p ps stand k q at = let e : n + suc k ≡ (n + 1) + k = omega arith in subst (λ m. slice_get phases m ≡ Some q) e (stand (suc k) q at)

  all_stand : Stand 0 phases
  all_stand k p at = let e : k ≡ 0 + k = omega arith in subst (λ m. slice_get phases m ≡ Some p) e at

  module _ (ts : List Listed) (s : Standing ts) (none : first_open (progress ts []) ≡ None) where
    complete_at : (k : ℕ) (q : Phase) → slice_get phases k ≡ Some q → is_complete (job phases inputs ts) (k, q) ≡ true
    complete_at k q at =
        let e : 0 + k ≡ k = omega arith in
        from_not_false _ (subst (λ m. not (is_complete (job phases inputs ts) (m, q)) ≡ false) e (none_passes (λ r. not (is_complete (job phases inputs ts) r)) 0 phases none k q at))

    -- no task beyond those of its phase is listed
    not_at : (n k : ℕ) (p : Phase) → slice_get phases n ≡ Some p → task_count p.kind (feed (job phases inputs ts) n) ≤ k → (u : Listed) → IsOne ts u → is_at n k (entry_of u) ≡ false
    not_at n k p at past u is = false_from_ne_true (is_at n k (entry_of u)) (λ same.
        let parts = and_parts (u.phase == n) (u.place == k) same in
        let phase : u.phase ≡ n = eqb-true u.phase n parts.0 in
        let place : u.place ≡ k = eqb-true u.place k parts.1 in
        let alike : is.phase ≡ p = some_same is.phase p (sym is.at ∙ (ap (slice_get phases) phase ∙ at)) in
        let inside : u.place < task_count p.kind (feed (job phases inputs ts) n) = subst (λ m. u.place < task_count p.kind (feed (job phases inputs ts) m)) phase (subst (λ q. u.place < task_count q.kind (feed (job phases inputs ts) u.phase)) alike is.within) in
        absurd (omega (arith, inside, place, past)))

    beyond : (us : List Listed) → AllByRecursion (IsOne ts) us → (n k : ℕ) (p : Phase) → slice_get phases n ≡ Some p → task_count p.kind (feed (job phases inputs ts) n) ≤ k → is_committed (entries us) n k ≡ false
    beyond [] all n k p at past = refl
    beyond (u ∷ us) all n k p at past = or_from _ _ (not_at n k p at past u all.0) (beyond us all.1 n k p at past)

    committed_is : (n k : ℕ) (p : Phase) → slice_get phases n ≡ Some p → is_committed (entries ts) n k ≡ nat_lt k (task_count p.kind (feed (job phases inputs ts) n))
    committed_is n k p at = by (nat_lt k (task_count p.kind (feed (job phases inputs ts) n))) refl
      where
        by : (b : Bool) → nat_lt k (task_count p.kind (feed (job phases inputs ts) n)) ≡ b → is_committed (entries ts) n k ≡ b
        by true is = let e : 0 + k ≡ k = omega arith in subst (λ m. is_committed (entries ts) n m ≡ true) e (all_range (is_committed (entries ts) n) 0 (task_count p.kind (feed (job phases inputs ts) n)) k (complete_at n p at) (ltb-true _ _ is))
        by false is = beyond ts s.each n k p at (ltb-false _ _ is)

    each_once : (n : ℕ) (p : Phase) → slice_get phases n ≡ Some p → IsEachTaskOnce p.kind (feed (job phases inputs ts) n) (entries_of n (entries ts))
    each_once n p at k = count_filter n k (entries ts) ∙ (s.once n k ∙ ap (λ b. cond b 1 0) (committed_is n k p at))

    feed_suc : (n : ℕ) → items_in (entries_of n (entries ts)) ≡ feed (job phases inputs ts) (n + 1)
    feed_suc n = let e : suc n ≡ n + 1 = omega arith in ap (feed (job phases inputs ts)) e

    all_true : (es : List (TraceEntry Sum)) → All (λ e. ⊤) es
    all_true [] = All-nil (λ e. ⊤)
    all_true (e ∷ es) = All-cons (λ e. ⊤) e es tt (all_true es)

    abbrev From : ℕ → List Phase → List (Item Sum) → List (Item Sum) → Type 0
    From n ps items outputs = Means (λ n p items e. ⊤) n ps items (map (λ p. entries_of p.0 (entries ts)) (enumerate_from n ps)) outputs

    phases_from : (n : ℕ) (ps : List Phase) (items : List (Item Sum)) → items ≡ feed (job phases inputs ts) n → Stand n ps → From n ps items (feed (job phases inputs ts) (n + length ps))
    phases_from n [] items is stand = let e : n ≡ n + 0 = omega arith in is ∙ ap (feed (job phases inputs ts)) e
    phases_from n (p ∷ ps) items is stand =
        let at : slice_get phases n ≡ Some p = stand_here n p ps stand in
        let e : (n + 1) + length ps ≡ n + length (p ∷ ps) = omega arith in (
          subst (λ x. IsEachTaskOnce p.kind x (entries_of n (entries ts))) (sym is) (each_once n p at),
          all_true (entries_of n (entries ts)),
          subst (λ x. From (n + 1) ps (items_in (entries_of n (entries ts))) (feed (job phases inputs ts) x)) e
              (phases_from (n + 1) ps (items_in (entries_of n (entries ts))) (feed_suc n) (stand_on n p ps stand)),
        )

  -- tasks each of which follows those before it, with none left out, and the names of what they make, add up
  pub standing_adds_up : (number : ℕ) (ts : List Listed) (names : List AccountPath) → Standing ts → first_open (progress ts []) ≡ None → map (λ i. i.name) (outputs_of (job phases inputs ts)) ≡ names
      → AddsUp (record { number = number; phases = phases; inputs = inputs; tasks = ts; outputs = names })
  standing_adds_up number ts names s none named =
      let c : Certificate = record { number = number; phases = phases; inputs = inputs; tasks = ts; outputs = names } in
      record {
        by_phase = s.by_phase;
        rising = s.rising;
        made = outputs_of (job phases inputs ts);
        means = let e : 0 + length phases ≡ length phases = omega arith in subst (λ x. From ts s none 0 phases inputs (feed (job phases inputs ts) x)) e (phases_from ts s none 0 phases inputs refl all_stand);
        named = named;
        reads = All-from_recursion (ReadsIts c) ts (every_weaker (IsOne ts) (ReadsIts c) (λ t is p at. is.reads ∙ ap (λ q. reads_of q.kind (feed (job phases inputs ts) t.phase) t.place) (some_same is.phase p (sym is.at ∙ at))) ts s.each);
      }
