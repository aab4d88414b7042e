-- The tasks of a certificate that adds up follow each other.
use Rattle.std.proofs.Common.{◌≡◌, ℕ, ◌+◌, ◌<◌, ◌≤◌, ◌==◌, nat_lt, zero, suc, Bool, true, false, cond, not, ◌||◌, List, [], ◌∷◌, ◌++◌, map, length, Some, None, refl, sym, ap, subst, ◌∙◌, arith}
use Rattle.std.specs.Prelude.{⊤}
use Rattle.std.specs.Cmp.{ranks}
use Rattle.std.specs.List.{AllByRecursion, count_by, enumerate_from, filter, list_all, list_any, range_with_len, slice_get}
use Rattle.std.specs.List.Sorted.{IsStrictlySortedBy}
use Rattle.std.specs.Option.{option_map_or}
use Rattle.std.specs.Ordering.{MatchOrdering, nat_cmp}
use Rattle.std.specs.declared.cmp.Ordering.TheVariants.{Less}
use Rattle.std.proofs.lemmas.Bool.{and_from, eq-eqb, false_from_ne_true, lt-ltb, ltb-true, true≢false}
use Rattle.std.proofs.lemmas.List.Elements.{filter-append, recursion_from_All}
use Rattle.std.proofs.lemmas.List.Sums.{sum_by-cons}
use Rattle.std.proofs.lemmas.Slice.Eq.{bytes_eq-Decides}
use Rattle.mt_model.specs.Types.{AccountPath, Item, Job, Phase}
use Rattle.mt_model.specs.Feed.{entries_of, feed, items_in}
use Rattle.mt_model.specs.Finished.{outputs_of}
use Rattle.mt_model.specs.Meaning.{IsEachTaskOnce, Means}
use Rattle.mt_model.specs.Tasks.{is_committed, is_complete, task_count}
use Rattle.mt_model.proofs.Traces.{all_range, count_filter, is_at, some_same}
use Rattle.mt_certline.specs.Certificate.{AddsUp, Certificate, ReadsIts, entry_of, first_open, follows_in, is_later, is_of_phase, job_in, reads_of, task_follows}
use Rattle.mt_certline.specs.declared.line.Listed.{Listed}
use Rattle.mt_certline.specs.declared.line.Sum.{Sum}
use Rattle.mt_checker.proofs.Firsts.{first_found, none_found}
use Rattle.mt_checker.proofs.Followed.{progress}
use Rattle.mt_checker.proofs.Fronts.{AllFrom, count_append, entries, entries_front, every_middle, feed_front, job, map_append}
use Rattle.mt_checker.proofs.Ordered.{AllBelow, Rises, below_from_phases, rises_from_phases, rises_tail}

-- ---- counts

none_counted : {A : Type 0} (test : A → Bool) (xs : List A) → count_by test xs ≡ 0 → list_any test xs ≡ false
none_counted test [] e = refl
none_counted test (x ∷ xs) e = by (test x) refl (none_counted test xs)
  where
    by : (b : Bool) → test x ≡ b → (count_by test xs ≡ 0 → list_any test xs ≡ false) → (b || list_any test xs) ≡ false
    by true is later = let first : ◌≡◌ {A = ℕ} (cond (test x) 1 0) 1 = ap (λ b. cond b 1 0) is in absurd (omega (arith, first, e, sum_by-cons (λ y. cond (test y) 1 0) x xs))
    by false is later = let first : ◌≡◌ {A = ℕ} (cond (test x) 1 0) 0 = ap (λ b. cond b 1 0) is in later (omega (arith, first, e, sum_by-cons (λ y. cond (test y) 1 0) x xs))

some_counted : {A : Type 0} (test : A → Bool) (xs : List A) → count_by test xs ≡ 1 → list_any test xs ≡ true
some_counted test [] e = absurd (omega (arith, e))
some_counted test (x ∷ xs) e = by (test x) refl (some_counted test xs)
  where
    by : (b : Bool) → test x ≡ b → (count_by test xs ≡ 1 → list_any test xs ≡ true) → (b || list_any test xs) ≡ true
    by true is later = refl
    by false is later = let first : ◌≡◌ {A = ℕ} (cond (test x) 1 0) 0 = ap (λ b. cond b 1 0) is in later (omega (arith, first, e, sum_by-cons (λ y. cond (test y) 1 0) x xs))

one_of : (b : Bool) (a z : ℕ) → a + (1 + z) ≡ cond b 1 0 → (b ≡ true) × (a ≡ 0)
one_of true a z e = let is : a + (1 + z) ≡ 1 = e in (refl, omega (arith, is))
one_of false a z e = let is : a + (1 + z) ≡ 0 = e in absurd (omega (arith, is))

all_from_range : (test : ℕ → Bool) (a c : ℕ) → ((k : ℕ) → k < c → test (a + k) ≡ true) → list_all test (range_with_len a c) ≡ true
all_from_range test a zero each = refl
all_from_range test a (suc c) each =
    let none : a + 0 ≡ a = omega arith in
    and_from _ _ (subst (λ m. test m ≡ true) none (each 0 (omega arith)))
    (all_from_range test (a + 1) c (λ k lt. let same : a + suc k ≡ a + 1 + k = omega arith in subst (λ m. test m ≡ true) same (each (suc k) (omega (arith, lt)))))

some_at : {A : Type 0} (xs : List A) (k : ℕ) → k < length xs → (x : A) × (slice_get xs k ≡ Some x)
some_at [] k lt = absurd (omega (arith, lt))
some_at (x ∷ xs) zero lt = (x, refl)
some_at (x ∷ xs) (suc k) lt = some_at xs k (omega (arith, lt))

less : (x y : ℕ) → nat_cmp x y ≡ Less → x < y
less x y e = subst (λ o. MatchOrdering o (x < y) (x ≡ y) (y < x)) e (ranks x y)

-- what stands before a place of rising positions is below it
sorted_front : (xs : List Listed) (n : ℕ) (later : List ℕ) → IsStrictlySortedBy nat_cmp (map (λ u. u.position) xs ++ n ∷ later) → list_all (λ k. nat_lt k.position n) xs ≡ true
unfolding IsStrictlySortedBy
sorted_front [] n later sorted = refl
sorted_front (x ∷ xs) n later sorted =
    and_from _ _ (lt-ltb x.position n (less x.position n (every_middle (λ y. nat_cmp x.position y ≡ Less) (map (λ u. u.position) xs) n later sorted.0))) (sorted_front xs n later sorted.1)

-- ---- what the phases mean

module _ (j : Job Sum) where
  abbrev From : ℕ → List Phase → List (Item Sum) → List (Item Sum) → Type 0
  From n ps items outputs = Means (λ n p items e. ⊤) n ps items (map (λ p. entries_of p.0 j.trace) (enumerate_from n ps)) outputs

  next_feed : (n : ℕ) → items_in (entries_of n j.trace) ≡ feed j (n + 1)
  next_feed n = let e : suc n ≡ n + 1 = omega arith in ap (feed j) e

  means_once : (n : ℕ) (ps : List Phase) (outputs : List (Item Sum)) → From n ps (feed j n) outputs → (k : ℕ) (p : Phase) → slice_get ps k ≡ Some p → IsEachTaskOnce p.kind (feed j (n + k)) (entries_of (n + k) j.trace)
  means_once n [] outputs means k p at = cc
  means_once n (q ∷ ps) outputs means zero p at =
      let same : n ≡ n + 0 = omega arith in
      subst (λ m. IsEachTaskOnce p.kind (feed j m) (entries_of m j.trace)) same (subst (λ x. IsEachTaskOnce x.kind (feed j n) (entries_of n j.trace)) (some_same q p at) means.0)
  means_once n (q ∷ ps) outputs means (suc k) p at =
      let same : n + 1 + k ≡ n + suc k = omega arith in
      subst (λ m. IsEachTaskOnce p.kind (feed j m) (entries_of m j.trace)) same (means_once (n + 1) ps outputs (subst (λ items. From (n + 1) ps items outputs) (next_feed n) means.2) k p at)

  means_made : (n : ℕ) (ps : List Phase) (outputs : List (Item Sum)) → From n ps (feed j n) outputs → outputs ≡ feed j (n + length ps)
  means_made n [] outputs means = let same : n ≡ n + 0 = omega arith in sym means ∙ ap (feed j) same
  means_made n (q ∷ ps) outputs means =
      let same : n + 1 + length ps ≡ n + length (q ∷ ps) = omega arith in
      means_made (n + 1) ps outputs (subst (λ items. From (n + 1) ps items outputs) (next_feed n) means.2) ∙ ap (feed j) same

module _ (c : Certificate) (adds : AddsUp c) where
  abbrev so_far : List Listed → Job Sum
  so_far ts = job c.phases c.inputs ts

  once_at : (n : ℕ) (p : Phase) → slice_get c.phases n ≡ Some p → IsEachTaskOnce p.kind (feed (job_in c) n) (entries_of n (entries c.tasks))
  once_at n p at = let e : 0 + n ≡ n = omega arith in subst (λ m. IsEachTaskOnce p.kind (feed (job_in c) m) (entries_of m (entries c.tasks))) e (means_once (job_in c) 0 c.phases adds.made adds.means n p at)

  pub made_is : adds.made ≡ outputs_of (job_in c)
  made_is = let e : 0 + length c.phases ≡ length c.phases = omega arith in means_made (job_in c) 0 c.phases adds.made adds.means ∙ ap (feed (job_in c)) e

  count_is : (n k : ℕ) (p : Phase) → slice_get c.phases n ≡ Some p → count_by (is_at n k) (entries c.tasks) ≡ cond (nat_lt k (task_count p.kind (feed (job_in c) n))) 1 0
  count_is n k p at = sym (count_filter n k (entries c.tasks)) ∙ once_at n p at k

  -- at the end no phase is open
  pub none_open : first_open (progress c.phases c.inputs c.tasks []) ≡ None
  none_open = none_found (λ q. not (is_complete (job_in c) q)) 0 c.phases (λ k q at.
      let e : k ≡ 0 + k = omega arith in
      subst (λ m. not (is_complete (job_in c) (m, q)) ≡ false) e (ap not (all_from_range (is_committed (entries c.tasks) k) 0 (task_count q.kind (feed (job_in c) k)) (λ place lt.
      let f : place ≡ 0 + place = omega arith in
      subst (λ m. is_committed (entries c.tasks) k m ≡ true) f (some_counted (is_at k place) (entries c.tasks) (count_is k place q at ∙ ap (λ b. cond b 1 0) (lt-ltb place _ lt)))))))

  module _ (xs : List Listed) (l : Listed) (ys : List Listed) (cut : xs ++ l ∷ ys ≡ c.tasks) where
    from : AllFrom l.phase (l ∷ ys)
    from = rises_tail xs l ys (subst Rises (sym cut) (rises_from_phases c.tasks c.phases adds.by_phase))

    below : l.phase < length c.phases
    below = every_middle (λ t. t.phase < length c.phases) xs l ys (subst (AllBelow (length c.phases)) (sym cut) (below_from_phases c.tasks c.phases adds.by_phase))

    feed_same : (k : ℕ) → k ≤ l.phase → feed (job_in c) k ≡ feed (so_far xs) k
    feed_same k le = ap (λ ts. feed (so_far ts) k) (sym cut) ∙ feed_front c.phases c.inputs l.phase xs (l ∷ ys) from k le

    count_cut : (n k : ℕ) → count_by (is_at n k) (entries c.tasks) ≡ count_by (is_at n k) (entries xs) + (cond (is_at n k (entry_of l)) 1 0 + count_by (is_at n k) (entries ys))
    count_cut n k =
        ap (λ ts. count_by (is_at n k) (entries ts)) (sym cut)
        ∙ (ap (count_by (is_at n k)) (map_append entry_of xs (l ∷ ys))
        ∙ (count_append (is_at n k) (entries xs) (entry_of l ∷ entries ys) ∙ ap (λ m. count_by (is_at n k) (entries xs) + m) (sum_by-cons (λ e. cond (is_at n k e) 1 0) (entry_of l) (entries ys))))

    itself : is_at l.phase l.place (entry_of l) ≡ true
    itself = and_from _ _ (eq-eqb l.phase l.phase refl) (eq-eqb l.place l.place refl)

    -- the phases before its own are complete
    complete_behind : (k : ℕ) (q : Phase) → k < l.phase → slice_get c.phases k ≡ Some q → is_complete (so_far xs) (k, q) ≡ true
    complete_behind k q lt at = all_from_range (is_committed (entries xs) k) 0 (task_count q.kind (feed (so_far xs) k)) (λ place inside.
        let f : place ≡ 0 + place = omega arith in
        let same : task_count q.kind (feed (so_far xs) k) ≡ task_count q.kind (feed (job_in c) k) = ap (task_count q.kind) (sym (feed_same k (omega (arith, lt)))) in
        let within : place < task_count q.kind (feed (job_in c) k) = omega (arith, inside, same) in
        let front : entries_of k (entries c.tasks) ≡ entries_of k (entries xs) = ap (λ ts. entries_of k (entries ts)) (sym cut) ∙ entries_front l.phase k xs (l ∷ ys) from lt in
        let counted : count_by (is_at k place) (entries xs) ≡ 1 =
        sym (count_filter k place (entries xs)) ∙ (ap (count_by (λ e. e.place == place)) (sym front) ∙ (once_at k q at place ∙ ap (λ b. cond b 1 0) (lt-ltb place _ within))) in
        subst (λ m. is_committed (entries xs) k m ≡ true) f (some_counted (is_at k place) (entries xs) counted))

    later : is_later xs l ≡ true
    later =
        let cut_phase : filter (is_of_phase l.phase) c.tasks ≡ filter (is_of_phase l.phase) xs ++ l ∷ filter (is_of_phase l.phase) ys =
        ap (filter (is_of_phase l.phase)) (sym cut) ∙ (filter-append (is_of_phase l.phase) xs (l ∷ ys)
        ∙ ap (λ b. filter (is_of_phase l.phase) xs ++ cond b (l ∷ filter (is_of_phase l.phase) ys) (filter (is_of_phase l.phase) ys)) (eq-eqb l.phase l.phase refl)) in
        sorted_front (filter (is_of_phase l.phase) xs) l.position (map (λ u. u.position) (filter (is_of_phase l.phase) ys))
        (subst (IsStrictlySortedBy nat_cmp) (ap (map (λ u. u.position)) cut_phase ∙ map_append (λ u. u.position) (filter (is_of_phase l.phase) xs) (l ∷ filter (is_of_phase l.phase) ys)) (adds.rising l.phase))

    module _ (p : Phase) (at : slice_get c.phases l.phase ≡ Some p) where
      alone : (nat_lt l.place (task_count p.kind (feed (job_in c) l.phase)) ≡ true) × (count_by (is_at l.phase l.place) (entries xs) ≡ 0)
      alone = one_of (nat_lt l.place (task_count p.kind (feed (job_in c) l.phase))) (count_by (is_at l.phase l.place) (entries xs)) (count_by (is_at l.phase l.place) (entries ys))
          (sym (ap (λ b. count_by (is_at l.phase l.place) (entries xs) + (cond b 1 0 + count_by (is_at l.phase l.place) (entries ys))) itself) ∙ (sym (count_cut l.phase l.place) ∙ count_is l.phase l.place p at))

      inside : nat_lt l.place (task_count p.kind (feed (so_far xs) l.phase)) ≡ true
      inside = ap (λ f. nat_lt l.place (task_count p.kind f)) (sym (feed_same l.phase (omega arith))) ∙ alone.0

      fresh : is_committed (entries xs) l.phase l.place ≡ false
      fresh = none_counted (is_at l.phase l.place) (entries xs) alone.1

      is_open : is_complete (so_far xs) (l.phase, p) ≡ false
      is_open = false_from_ne_true (is_complete (so_far xs) (l.phase, p)) (λ complete.
          let e : 0 + l.place ≡ l.place = omega arith in
          true≢false (sym (subst (λ m. is_committed (entries xs) l.phase m ≡ true) e (all_range (is_committed (entries xs) l.phase) 0 (task_count p.kind (feed (so_far xs) l.phase)) l.place complete (ltb-true _ _ inside))) ∙ fresh))

      first_is : first_open (progress c.phases c.inputs xs []) ≡ Some (l.phase, p)
      first_is =
          let e : 0 + l.phase ≡ l.phase = omega arith in
          first_found (λ q. not (is_complete (so_far xs) q)) 0 c.phases l.phase p at (subst (λ m. not (is_complete (so_far xs) (m, p)) ≡ true) (sym e) (ap not is_open))
          (λ k q lt here. let f : k ≡ 0 + k = omega arith in subst (λ m. not (is_complete (so_far xs) (m, q)) ≡ false) f (ap not (complete_behind k q lt here)))
          ∙ ap (λ m. Some (m, p)) e

      reads_same : l.reads ≡ reads_of p.kind (feed (so_far xs) l.phase) l.place
      reads_same =
          every_middle (ReadsIts c) xs l ys (subst (AllByRecursion (ReadsIts c)) (sym cut) (recursion_from_All (ReadsIts c) c.tasks adds.reads)) p at
          ∙ ap (λ f. reads_of p.kind f l.place) (feed_same l.phase (omega arith))

      follows_at : (names : List AccountPath) → task_follows (progress c.phases c.inputs xs names) l ≡ true
      follows_at names =
          ap (λ o. option_map_or (follows_in (progress c.phases c.inputs xs names) l) o false) first_is
          ∙ and_from _ _ (and_from _ _ (and_from _ _ (and_from _ _ (eq-eqb l.phase l.phase refl) inside) (ap not fresh)) later)
          ((bytes_eq-Decides l.reads (reads_of p.kind (feed (so_far xs) l.phase) l.place)).1 reads_same)

    pub follows : (names : List AccountPath) → task_follows (progress c.phases c.inputs xs names) l ≡ true
    follows names = let p = some_at c.phases l.phase below in follows_at p.0 p.1 names
