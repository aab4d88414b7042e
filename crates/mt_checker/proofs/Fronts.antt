-- What is listed of the phases before one stays as it is where tasks of this phase and later ones come behind.
use Rattle.std.proofs.Common.{◌≡◌, ℕ, ◌+◌, ◌<◌, ◌≤◌, ◌==◌, zero, suc, Bool, true, false, cond, ◌&&◌, ◌||◌, List, [], ◌∷◌, ◌++◌, map, refl, sym, ap, ◌∙◌, arith, append-nil, ne_eqb}
use Rattle.std.specs.List.{AllByRecursion, count_by, filter, list_all, list_any, range_with_len}
use Rattle.std.proofs.lemmas.List.Elements.{filter-append}
use Rattle.std.proofs.lemmas.List.Sums.{sum_by-cons}
use Rattle.mt_model.specs.Types.{Item, Job, Phase, TraceEntry}
use Rattle.mt_model.specs.Feed.{entries_of, feed, items_in}
use Rattle.mt_model.specs.Tasks.{is_committed, is_complete, task_count}
use Rattle.mt_certline.specs.Certificate.{entry_of, is_of_phase, job_of}
use Rattle.mt_certline.specs.declared.line.Listed.{Listed}
use Rattle.mt_certline.specs.declared.line.Sum.{Sum}

-- the listed tasks as a trace
abbrev pub entries : List Listed → List (TraceEntry Sum)
entries ts = map entry_of ts

-- of this phase, or of later ones
abbrev pub AllFrom : ℕ → List Listed → Type 0
AllFrom n ts = AllByRecursion (λ t. n ≤ t.phase) ts

-- ---- lists

pub every_push : {A : Type 0} (P : A → Type 0) (xs : List A) (x : A) → AllByRecursion P xs → P x → AllByRecursion P (xs ++ x ∷ [])
every_push P [] x all is = (is, tt)
every_push P (y ∷ ys) x all is = (all.0, every_push P ys x all.1 is)

pub every_middle : {A : Type 0} (P : A → Type 0) (xs : List A) (x : A) (ys : List A) → AllByRecursion P (xs ++ x ∷ ys) → P x
every_middle P [] x ys all = all.0
every_middle P (y ∷ xs) x ys all = every_middle P xs x ys all.1

pub every_weaker : {A : Type 0} (P Q : A → Type 0) → ((x : A) → P x → Q x) → (xs : List A) → AllByRecursion P xs → AllByRecursion Q xs
every_weaker P Q f [] all = tt
every_weaker P Q f (x ∷ xs) all = (f x all.0, every_weaker P Q f xs all.1)

pub list_all_same : {A : Type 0} (f g : A → Bool) → ((x : A) → f x ≡ g x) → (xs : List A) → list_all f xs ≡ list_all g xs
list_all_same f g same [] = refl
list_all_same f g same (x ∷ xs) = ap (λ b. b && list_all f xs) (same x) ∙ ap (λ b. g x && b) (list_all_same f g same xs)

pub or_none : (a : Bool) → (a || false) ≡ a
or_none true = refl
or_none false = refl

or_group : (a b c : Bool) → ((a || b) || c) ≡ (a || (b || c))
or_group true b c = refl
or_group false b c = refl

pub any_append : {A : Type 0} (test : A → Bool) (xs ys : List A) → list_any test (xs ++ ys) ≡ (list_any test xs || list_any test ys)
any_append test [] ys = refl
any_append test (x ∷ xs) ys = ap (λ b. test x || b) (any_append test xs ys) ∙ sym (or_group (test x) (list_any test xs) (list_any test ys))

pub count_append : {A : Type 0} (test : A → Bool) (xs ys : List A) → count_by test (xs ++ ys) ≡ count_by test xs + count_by test ys
count_append test [] ys = omega arith
count_append test (x ∷ xs) ys =
    let e = sum_by-cons (λ y. cond (test y) 1 0) x (xs ++ ys) in
    let f = sum_by-cons (λ y. cond (test y) 1 0) x xs in
    omega (arith, e, f, count_append test xs ys)

pub map_append : {A B : Type 0} (f : A → B) (xs ys : List A) → map f (xs ++ ys) ≡ map f xs ++ map f ys
map_append f [] ys = refl
map_append f (x ∷ xs) ys = ap (λ l. f x ∷ l) (map_append f xs ys)

-- ---- phases

none_of : (n k : ℕ) (ts : List Listed) → AllFrom n ts → k < n → filter (is_of_phase k) ts ≡ []
none_of n k [] all lt = refl
none_of n k (t ∷ ts) all lt =
    let from : n ≤ t.phase = all.0 in
    let apart : t.phase == k ≡ false = ne_eqb t.phase k (λ e. let e : t.phase ≡ k = e in absurd (omega (arith, e, lt, from))) in
    ap (λ b. cond b (t ∷ filter (is_of_phase k) ts) (filter (is_of_phase k) ts)) apart ∙ none_of n k ts all.1 lt

pub same_front : (n k : ℕ) (xs ys : List Listed) → AllFrom n ys → k < n → filter (is_of_phase k) (xs ++ ys) ≡ filter (is_of_phase k) xs
same_front n k xs ys all lt =
    filter-append (is_of_phase k) xs ys ∙ (ap (λ l. filter (is_of_phase k) xs ++ l) (none_of n k ys all lt) ∙ append-nil (filter (is_of_phase k) xs))

pub entries_map : (n : ℕ) (ls : List Listed) → entries_of n (entries ls) ≡ entries (filter (is_of_phase n) ls)
entries_map n [] = refl
entries_map n (l ∷ ls) = by (l.phase == n) (entries_map n ls)
  where
    by : (b : Bool) → entries_of n (entries ls) ≡ entries (filter (is_of_phase n) ls)
        → cond b (entry_of l ∷ entries_of n (entries ls)) (entries_of n (entries ls)) ≡ entries (cond b (l ∷ filter (is_of_phase n) ls) (filter (is_of_phase n) ls))
    by true r = ap (λ x. entry_of l ∷ x) r
    by false r = r

pub entries_front : (n k : ℕ) (xs ys : List Listed) → AllFrom n ys → k < n → entries_of k (entries (xs ++ ys)) ≡ entries_of k (entries xs)
entries_front n k xs ys all lt = entries_map k (xs ++ ys) ∙ (ap entries (same_front n k xs ys all lt) ∙ sym (entries_map k xs))

-- a task is committed where it is among those of its phase
pub committed_in : (n k : ℕ) (es : List (TraceEntry Sum)) → is_committed es n k ≡ list_any (λ e. e.place == k) (entries_of n es)
committed_in n k [] = refl
committed_in n k (e ∷ es) = by (e.phase == n) (committed_in n k es)
  where
    by : (b : Bool) → is_committed es n k ≡ list_any (λ e. e.place == k) (entries_of n es)
        → ((b && (e.place == k)) || is_committed es n k) ≡ list_any (λ e. e.place == k) (cond b (e ∷ entries_of n es) (entries_of n es))
    by true r = ap (λ x. (e.place == k) || x) r
    by false r = r

pub committed_front : (n k : ℕ) (xs ys : List Listed) → AllFrom n ys → k < n → (place : ℕ) → is_committed (entries (xs ++ ys)) k place ≡ is_committed (entries xs) k place
committed_front n k xs ys all lt place =
    committed_in k place (entries (xs ++ ys)) ∙ (ap (list_any (λ e. e.place == place)) (entries_front n k xs ys all lt) ∙ sym (committed_in k place (entries xs)))

module _ (phases : List Phase) (inputs : List (Item Sum)) where
  abbrev pub job : List Listed → Job Sum
  job ts = job_of phases inputs ts

  pub feed_front : (n : ℕ) (xs ys : List Listed) → AllFrom n ys → (k : ℕ) → k ≤ n → feed (job (xs ++ ys)) k ≡ feed (job xs) k
  feed_front n xs ys all zero le = refl
  feed_front n xs ys all (suc k) le = ap items_in (entries_front n k xs ys all (omega (arith, le)))

  pub complete_front : (n : ℕ) (xs ys : List Listed) → AllFrom n ys → (k : ℕ) (q : Phase) → k < n → is_complete (job (xs ++ ys)) (k, q) ≡ is_complete (job xs) (k, q)
  complete_front n xs ys all k q lt =
      ap (λ f. list_all (is_committed (entries (xs ++ ys)) k) (range_with_len 0 (task_count q.kind f))) (feed_front n xs ys all k (omega (arith, lt)))
      ∙ list_all_same (is_committed (entries (xs ++ ys)) k) (is_committed (entries xs) k) (committed_front n k xs ys all lt) (range_with_len 0 (task_count q.kind (feed (job xs) k)))
