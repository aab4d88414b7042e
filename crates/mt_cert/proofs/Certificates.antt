-- The certificate of a finished job adds up.
use Rattle.std.proofs.Common.{◌≡◌, ℕ, ◌+◌, ◌==◌, ◌<◌, Bool, true, false, cond, List, [], ◌∷◌, ◌++◌, map, length, Option, Some, None, refl, sym, ap, subst, ◌∙◌, arith, zero, suc, append-nil, eq-eqb, ne_eqb}
use Rattle.std.specs.Prelude.{All, ◌≢◌, ⊤}
use Rattle.std.specs.List.{AllByRecursion, count_by, enumerate_from, filter, flat_map, slice_get}
use Rattle.std.specs.List.Sorted.{IsStrictlySortedBy}
use Rattle.std.specs.Ordering.{nat_cmp}
use Rattle.std.specs.declared.cmp.Ordering.TheVariants.{Less}
use Rattle.std.proofs.lemmas.Bool.{eqb-true}
use Rattle.std.proofs.lemmas.List.Concat.{flat_map-cons}
use Rattle.std.proofs.lemmas.List.Elements.{All-append, All-cons, All-nil, All-same, filter-append}
use Rattle.std.proofs.lemmas.List.Sums.{sum_by-cons}
use Rattle.mt_types.specs.declared.document.Phase.{Phase}
use Rattle.mt_types.specs.declared.job.Item.{Item}
use Rattle.mt_types.specs.declared.job.Job.{Job}
use Rattle.mt_types.specs.declared.job.Outcome.{Outcome}
use Rattle.mt_types.specs.declared.job.Outcome.TheVariants as outcome
use Rattle.mt_types.specs.declared.job.TraceEntry.{TraceEntry}
use Rattle.mt_certline.specs.Certificate.{AddsUp, Certificate, ReadsIts, certificate_of, entry_of, good_items, is_of_phase, job_in, listed_in, listed_of, outcome_of, reads_of}
use Rattle.mt_certline.specs.declared.line.Listed.{Listed}
use Rattle.mt_certline.specs.declared.line.Sum.{Sum}
use Rattle.mt_model.specs.Feed.{entries_of, feed, items_in, items_of}
use Rattle.mt_model.specs.Finished.{outputs_of}
use Rattle.mt_model.specs.Meaning.{IsEachTaskOnce, Means}
use Rattle.mt_model.specs.Sound.{Sound}
use Rattle.mt_model.specs.Tasks.{all_complete}
use Rattle.mt_model.proofs.Traces.{once_each, some_same}

unequal : (a b : ℕ) → a ≢ b → a == b ≡ false
unequal a b h = ne_eqb a b h

none_empty : (n : ℕ) (p : Phase) → slice_get [] n ≡ Some p → ⊥
none_empty zero p e = cc
none_empty (suc n) p e = cc

before_some : (ps : List Phase) (m : ℕ) (p : Phase) → slice_get ps (suc m) ≡ Some p → (q : Phase) × (slice_get ps m ≡ Some q)
before_some [] m p e = cc
before_some (q ∷ ps) zero p e = (q, refl)
before_some (q ∷ ps) (suc m) p e = before_some ps m p e

same_outcome : (o : Outcome Sum) → items_of (outcome_of (good_items o)) ≡ items_of o
same_outcome (outcome.Good items) = refl
same_outcome (outcome.Bad failure status stderr) = refl

all_true : (es : List (TraceEntry Sum)) → All (λ e. ⊤) es
all_true [] = All-nil (λ e. ⊤)
all_true (e ∷ es) = All-cons (λ e. ⊤) e es tt (all_true es)

module _ (job : Job Sum) where
  abbrev phases : List Phase
  phases = job.document.phases

  abbrev c : Certificate
  c = certificate_of job

  -- ---- the listed tasks of a phase

  filter_listed : (p : ℕ × Phase) (n : ℕ) (xs : List (TraceEntry Sum)) → filter (is_of_phase n) (map (listed_of job p) xs) ≡ map (listed_of job p) (entries_of n xs)
  filter_listed p n [] = refl
  filter_listed p n (e ∷ xs) = by (e.phase == n) (filter_listed p n xs)
    where
      by : (b : Bool) → filter (is_of_phase n) (map (listed_of job p) xs) ≡ map (listed_of job p) (entries_of n xs)
          → cond b (listed_of job p e ∷ filter (is_of_phase n) (map (listed_of job p) xs)) (filter (is_of_phase n) (map (listed_of job p) xs)) ≡ map (listed_of job p) (cond b (e ∷ entries_of n xs) (entries_of n xs))
      by true r = ap (λ t. listed_of job p e ∷ t) r
      by false r = r

  entries_twice : (n m : ℕ) (xs : List (TraceEntry Sum)) (t : Bool) → m == n ≡ t → entries_of n (entries_of m xs) ≡ cond t (entries_of m xs) []
  entries_twice n m [] true is = refl
  entries_twice n m [] false is = refl
  entries_twice n m (e ∷ xs) t is = by (e.phase == m) refl (entries_twice n m xs t is)
    where
      one : (u : Bool) → entries_of n (entries_of m xs) ≡ cond u (entries_of m xs) [] → cond u (e ∷ entries_of n (entries_of m xs)) (entries_of n (entries_of m xs)) ≡ cond u (e ∷ entries_of m xs) []
      one true r = ap (λ x. e ∷ x) r
      one false r = r

      by : (b : Bool) → e.phase == m ≡ b → entries_of n (entries_of m xs) ≡ cond t (entries_of m xs) []
          → entries_of n (cond b (e ∷ entries_of m xs) (entries_of m xs)) ≡ cond t (cond b (e ∷ entries_of m xs) (entries_of m xs)) []
      by true at r =
          let same : e.phase == n ≡ t = ap (λ x. x == n) (eqb-true e.phase m at) ∙ is in
          ap (λ u. cond u (e ∷ entries_of n (entries_of m xs)) (entries_of n (entries_of m xs))) same ∙ one t r
      by false at r = r

  map_cond : (p : ℕ × Phase) (t : Bool) (xs : List (TraceEntry Sum)) → map (listed_of job p) (cond t xs []) ≡ cond t (map (listed_of job p) xs) []
  map_cond p true xs = refl
  map_cond p false xs = refl

  filter_in : (n m : ℕ) (p : Phase) → filter (is_of_phase n) (listed_in job (m, p)) ≡ cond (m == n) (listed_in job (m, p)) []
  filter_in n m p =
      filter_listed (m, p) n (entries_of m job.trace)
      ∙ (ap (map (listed_of job (m, p))) (entries_twice n m job.trace (m == n) refl) ∙ map_cond (m, p) (m == n) (entries_of m job.trace))

  abbrev here : ℕ → ℕ → List Phase → List (Listed)
  here n m [] = []
  here n m (p ∷ ps) = cond (m == n) (listed_in job (m, p)) [] ++ here n (m + 1) ps

  filter_all : (n m : ℕ) (ps : List Phase) → filter (is_of_phase n) (flat_map (listed_in job) (enumerate_from m ps)) ≡ here n m ps
  filter_all n m [] = refl
  filter_all n m (p ∷ ps) =
      ap (filter (is_of_phase n)) (flat_map-cons (listed_in job) (m, p) (enumerate_from (m + 1) ps))
      ∙ (filter-append (is_of_phase n) (listed_in job (m, p)) (flat_map (listed_in job) (enumerate_from (m + 1) ps))
      ∙ (ap (λ x. x ++ filter (is_of_phase n) (flat_map (listed_in job) (enumerate_from (m + 1) ps))) (filter_in n m p)
      ∙ ap (λ x. cond (m == n) (listed_in job (m, p)) [] ++ x) (filter_all n (m + 1) ps)))

  none_here : (n m : ℕ) (ps : List Phase) → n < m → here n m ps ≡ []
  none_here n m [] lt = refl
  none_here n m (p ∷ ps) lt =
      let apart : m == n ≡ false = unequal m n (λ e. let e : m ≡ n = e in absurd (omega (arith, e, lt))) in
      ap (λ b. cond b (listed_in job (m, p)) [] ++ here n (m + 1) ps) apart ∙ none_here n (m + 1) ps (omega (arith, lt))

  -- past the phases that are skipped
  skip : (n m : ℕ) (p : Phase) (ps : List Phase) → m < n → here n m (p ∷ ps) ≡ here n (m + 1) ps
  skip n m p ps lt =
      let apart : m == n ≡ false = unequal m n (λ e. let e : m ≡ n = e in absurd (omega (arith, e, lt))) in
      ap (λ b. cond b (listed_in job (m, p)) [] ++ here n (m + 1) ps) apart

  at_here : (k m : ℕ) (p : Phase) (ps : List Phase) → slice_get ps k ≡ Some p → here (m + k) m ps ≡ listed_in job (m + k, p)
  at_here k m p [] at = absurd (none_empty k p at)
  at_here zero m p (q ∷ ps) at =
      let same : m + 0 ≡ m = omega arith in
      let is : m == m + 0 ≡ true = eq-eqb m (m + 0) (sym same) in
      ap (λ b. cond b (listed_in job (m, q)) [] ++ here (m + 0) (m + 1) ps) is
      ∙ (ap (λ x. listed_in job (m, q) ++ x) (none_here (m + 0) (m + 1) ps (omega arith)) ∙ (append-nil (listed_in job (m, q))
      ∙ (ap (λ x. listed_in job (m, x)) (some_same q p at) ∙ ap (λ x. listed_in job (x, p)) (sym same))))
  at_here (suc k) m p (q ∷ ps) at =
      let same : m + suc k ≡ (m + 1) + k = omega arith in
      skip (m + suc k) m q ps (omega arith)
      ∙ (ap (λ x. here x (m + 1) ps) same ∙ (at_here k (m + 1) p ps at ∙ ap (λ x. listed_in job (x, p)) (sym same)))

  past_here : (k m : ℕ) (ps : List Phase) → slice_get ps k ≡ None → here (m + k) m ps ≡ []
  past_here k m [] at = refl
  past_here zero m (q ∷ ps) at = cc
  past_here (suc k) m (q ∷ ps) at =
      let same : m + suc k ≡ (m + 1) + k = omega arith in
      skip (m + suc k) m q ps (omega arith) ∙ (ap (λ x. here x (m + 1) ps) same ∙ past_here k (m + 1) ps at)

  in_phase : (n : ℕ) (p : Phase) → slice_get phases n ≡ Some p → filter (is_of_phase n) c.tasks ≡ listed_in job (n, p)
  in_phase n p at =
      let e : n ≡ 0 + n = omega arith in
      filter_all n 0 phases ∙ (ap (λ x. here x 0 phases) e ∙ (at_here n 0 p phases at ∙ ap (λ x. listed_in job (x, p)) (sym e)))

  out_of_phase : (n : ℕ) → slice_get phases n ≡ None → filter (is_of_phase n) c.tasks ≡ []
  out_of_phase n at = let e : n ≡ 0 + n = omega arith in filter_all n 0 phases ∙ (ap (λ x. here x 0 phases) e ∙ past_here n 0 phases at)

  -- ---- phase by phase

  abbrev Stand : ℕ → List Phase → Type 0
  Stand n ps = (k : ℕ) (p : Phase) → slice_get ps k ≡ Some p → slice_get phases (n + k) ≡ Some p

  stand_here : (n : ℕ) (p : Phase) (ps : List Phase) → Stand n (p ∷ ps) → slice_get phases n ≡ Some p
  stand_here n p ps stand = let e : n + 0 ≡ n = omega arith in subst (λ m. slice_get phases m ≡ Some p) e (stand 0 p refl)

  stand_on : (n : ℕ) (p : Phase) (ps : List Phase) → Stand n (p ∷ ps) → Stand (n + 1) ps
  stand_on n p ps stand k q at = let e : n + suc k ≡ (n + 1) + k = omega arith in subst (λ m. slice_get phases m ≡ Some q) e (stand (suc k) q at)

  all_stand : Stand 0 phases
  all_stand k p at = let e : k ≡ 0 + k = omega arith in subst (λ m. slice_get phases m ≡ Some p) e at

  stands_by_phase : (n : ℕ) (ps : List Phase) → Stand n ps → flat_map (λ p. filter (is_of_phase p.0) c.tasks) (enumerate_from n ps) ≡ flat_map (listed_in job) (enumerate_from n ps)
  stands_by_phase n [] stand = refl
  stands_by_phase n (p ∷ ps) stand =
      flat_map-cons (λ p. filter (is_of_phase p.0) c.tasks) (n, p) (enumerate_from (n + 1) ps)
      ∙ (ap (λ x. x ++ flat_map (λ p. filter (is_of_phase p.0) c.tasks) (enumerate_from (n + 1) ps)) (in_phase n p (stand_here n p ps stand))
      ∙ (ap (λ x. listed_in job (n, p) ++ x) (stands_by_phase (n + 1) ps (stand_on n p ps stand)) ∙ sym (flat_map-cons (listed_in job) (n, p) (enumerate_from (n + 1) ps))))

  -- ---- positions

  kept_less : (p : ℕ × Phase) (n x : ℕ) (xs : List (TraceEntry Sum)) → AllByRecursion (λ y. nat_cmp x y ≡ Less) (map (λ e. e.position) xs)
      → AllByRecursion (λ y. nat_cmp x y ≡ Less) (map (λ l. l.position) (map (listed_of job p) (entries_of n xs)))
  kept_less p n x [] all = tt
  kept_less p n x (e ∷ xs) all = by (e.phase == n) (kept_less p n x xs all.1)
    where
      by : (b : Bool) → AllByRecursion (λ y. nat_cmp x y ≡ Less) (map (λ l. l.position) (map (listed_of job p) (entries_of n xs))) → AllByRecursion (λ y. nat_cmp x y ≡ Less) (map (λ l. l.position) (map (listed_of job p) (cond b (e ∷ entries_of n xs) (entries_of n xs))))
      by true more = (all.0, more)
      by false more = more

  kept_rising : (p : ℕ × Phase) (n : ℕ) (xs : List (TraceEntry Sum)) → IsStrictlySortedBy nat_cmp (map (λ e. e.position) xs)
      → IsStrictlySortedBy nat_cmp (map (λ l. l.position) (map (listed_of job p) (entries_of n xs)))
  unfolding IsStrictlySortedBy
  kept_rising p n [] rising = tt
  kept_rising p n (e ∷ xs) rising = by (e.phase == n) (kept_less p n e.position xs rising.0) (kept_rising p n xs rising.1)
    where
      by : (b : Bool) → AllByRecursion (λ y. nat_cmp e.position y ≡ Less) (map (λ l. l.position) (map (listed_of job p) (entries_of n xs))) → IsStrictlySortedBy nat_cmp (map (λ l. l.position) (map (listed_of job p) (entries_of n xs)))
          → IsStrictlySortedBy nat_cmp (map (λ l. l.position) (map (listed_of job p) (cond b (e ∷ entries_of n xs) (entries_of n xs))))
      by true less more = (less, more)
      by false less more = more

  nothing_rises : (ls : List (Listed)) → ls ≡ [] → IsStrictlySortedBy nat_cmp (map (λ l. l.position) ls)
  unfolding IsStrictlySortedBy
  nothing_rises [] e = tt
  nothing_rises (l ∷ ls) e = cc

  all_rising : (n : ℕ) → IsStrictlySortedBy nat_cmp (map (λ e. e.position) job.trace) → IsStrictlySortedBy nat_cmp (map (λ l. l.position) (filter (is_of_phase n) c.tasks))
  all_rising n rising = by (slice_get phases n) refl
    where
      by : (o : Option Phase) → slice_get phases n ≡ o → IsStrictlySortedBy nat_cmp (map (λ l. l.position) (filter (is_of_phase n) c.tasks))
      by (Some p) at = subst (λ ls. IsStrictlySortedBy nat_cmp (map (λ l. l.position) ls)) (sym (in_phase n p at)) (kept_rising (n, p) n job.trace rising)
      by None at = nothing_rises (filter (is_of_phase n) c.tasks) (out_of_phase n at)

  -- ---- what is listed as a trace

  entries_map : (n : ℕ) (ls : List (Listed)) → entries_of n (map entry_of ls) ≡ map entry_of (filter (is_of_phase n) ls)
  entries_map n [] = refl
  entries_map n (l ∷ ls) = by (l.phase == n) (entries_map n ls)
    where
      by : (b : Bool) → entries_of n (map entry_of ls) ≡ map entry_of (filter (is_of_phase n) ls)
          → cond b (entry_of l ∷ entries_of n (map entry_of ls)) (entries_of n (map entry_of ls)) ≡ map entry_of (cond b (l ∷ filter (is_of_phase n) ls) (filter (is_of_phase n) ls))
      by true r = ap (λ x. entry_of l ∷ x) r
      by false r = r

  entries_in : (n : ℕ) (p : Phase) → slice_get phases n ≡ Some p → entries_of n (job_in c).trace ≡ map entry_of (map (listed_of job (n, p)) (entries_of n job.trace))
  entries_in n p at = entries_map n c.tasks ∙ ap (map entry_of) (in_phase n p at)

  same_items : (p : ℕ × Phase) (xs : List (TraceEntry Sum)) → items_in (map entry_of (map (listed_of job p) xs)) ≡ items_in xs
  same_items p [] = refl
  same_items p (e ∷ xs) =
      flat_map-cons (λ e. items_of e.outcome) (entry_of (listed_of job p e)) (map entry_of (map (listed_of job p) xs))
      ∙ (ap (λ x. x ++ items_in (map entry_of (map (listed_of job p) xs))) (same_outcome e.outcome)
      ∙ (ap (λ x. items_of e.outcome ++ x) (same_items p xs) ∙ sym (flat_map-cons (λ e. items_of e.outcome) e xs)))

  same_counts : (p : ℕ × Phase) (k : ℕ) (xs : List (TraceEntry Sum)) → count_by (λ e. e.place == k) (map entry_of (map (listed_of job p) xs)) ≡ count_by (λ e. e.place == k) xs
  same_counts p k [] = refl
  same_counts p k (e ∷ xs) =
      sum_by-cons (λ e. cond (e.place == k) 1 0) (entry_of (listed_of job p e)) (map entry_of (map (listed_of job p) xs))
      ∙ (ap (λ x. cond (e.place == k) 1 0 + x) (same_counts p k xs) ∙ sym (sum_by-cons (λ e. cond (e.place == k) 1 0) e xs))

  items_same : (n : ℕ) (p : Phase) → slice_get phases n ≡ Some p → items_in (entries_of n (job_in c).trace) ≡ items_in (entries_of n job.trace)
  items_same n p at = ap items_in (entries_in n p at) ∙ same_items (n, p) (entries_of n job.trace)

  feed_same : (n : ℕ) (p : Phase) → slice_get phases n ≡ Some p → feed (job_in c) n ≡ feed job n
  feed_same zero p at = refl
  feed_same (suc m) p at = let q = before_some phases m p at in items_same m q.0 q.1

  -- ---- what the phases mean

  module _ (tasks : (n : ℕ) (p : Phase) → slice_get phases n ≡ Some p → IsEachTaskOnce p.kind (feed job n) (entries_of n job.trace)) where
    feed_suc : (n : ℕ) (p : Phase) → slice_get phases n ≡ Some p → items_in (entries_of n (job_in c).trace) ≡ feed job (n + 1)
    feed_suc n p at = let e : suc n ≡ n + 1 = omega arith in items_same n p at ∙ ap (feed job) e

    abbrev From : ℕ → List Phase → List (Item Sum) → List (Item Sum) → Type 0
    From n ps items outputs = Means (λ n p items e. ⊤) n ps items (map (λ p. entries_of p.0 (job_in c).trace) (enumerate_from n ps)) outputs

    phases_from : (n : ℕ) (ps : List Phase) (items : List (Item Sum)) → items ≡ feed job n → Stand n ps → From n ps items (feed job (n + length ps))
    phases_from n [] items is stand = let e : n ≡ n + 0 = omega arith in is ∙ ap (feed job) e
    phases_from n (p ∷ ps) items is stand =
        let at : slice_get phases n ≡ Some p = stand_here n p ps stand in
        let e : (n + 1) + length ps ≡ n + length (p ∷ ps) = omega arith in (
          subst (λ x. IsEachTaskOnce p.kind x (entries_of n (job_in c).trace)) (sym is)
              (λ k. ap (count_by (λ e. e.place == k)) (entries_in n p at) ∙ (same_counts (n, p) k (entries_of n job.trace) ∙ tasks n p at k)),
          all_true (entries_of n (job_in c).trace),
          subst (λ x. From (n + 1) ps (items_in (entries_of n (job_in c).trace)) (feed job x)) e
              (phases_from (n + 1) ps (items_in (entries_of n (job_in c).trace)) (feed_suc n p at) (stand_on n p ps stand)),
        )

  -- ---- what each task read

  reads_in : (n : ℕ) (p : Phase) → slice_get phases n ≡ Some p → (xs : List (TraceEntry Sum)) → All (ReadsIts c) (map (listed_of job (n, p)) (entries_of n xs))
  reads_in n p at [] = All-nil (ReadsIts c)
  reads_in n p at (e ∷ xs) = by (e.phase == n) refl (reads_in n p at xs)
    where
      by : (b : Bool) → e.phase == n ≡ b → All (ReadsIts c) (map (listed_of job (n, p)) (entries_of n xs)) → All (ReadsIts c) (map (listed_of job (n, p)) (cond b (e ∷ entries_of n xs) (entries_of n xs)))
      by true t more =
          let same : e.phase ≡ n = eqb-true e.phase n t in
          All-cons (ReadsIts c) (listed_of job (n, p) e) (map (listed_of job (n, p)) (entries_of n xs))
          (λ q is.
          let alike : p ≡ q = some_same p q (sym at ∙ (ap (slice_get phases) (sym same) ∙ is)) in
          ap (λ x. reads_of x.kind (feed job n) e.place) alike
          ∙ (ap (λ x. reads_of q.kind x e.place) (sym (feed_same n p at)) ∙ ap (λ x. reads_of q.kind (feed (job_in c) x) e.place) (sym same)))
          more
      by false t more = more

  all_read : (n : ℕ) (ps : List Phase) → Stand n ps → All (ReadsIts c) (flat_map (listed_in job) (enumerate_from n ps))
  all_read n [] stand = All-nil (ReadsIts c)
  all_read n (p ∷ ps) stand =
      All-same (ReadsIts c) (flat_map (listed_in job) (enumerate_from n (p ∷ ps))) (listed_in job (n, p) ++ flat_map (listed_in job) (enumerate_from (n + 1) ps))
      (flat_map-cons (listed_in job) (n, p) (enumerate_from (n + 1) ps))
      (All-append (ReadsIts c) (listed_in job (n, p)) (flat_map (listed_in job) (enumerate_from (n + 1) ps)) (reads_in n p (stand_here n p ps stand) job.trace) (all_read (n + 1) ps (stand_on n p ps stand)))

  -- ---- the whole

  pub adds_up : Sound job → all_complete job ≡ true → AddsUp c
  adds_up sound complete = record {
    by_phase = stands_by_phase 0 phases all_stand;
    rising = λ n. all_rising n sound.rising;
    made = outputs_of job;
    means = let e : 0 + length phases ≡ length phases = omega arith in subst (λ x. Means (λ n p items e. ⊤) 0 phases job.inputs (map (λ p. entries_of p.0 (job_in c).trace) (enumerate_from 0 phases)) (feed job x)) e (phases_from (once_each job sound complete) 0 phases job.inputs refl all_stand);
    named = refl;
    reads = all_read 0 phases all_stand;
  }
