-- The next phase that has a place, and tasks of the one that is being listed.
use Rattle.std.proofs.Common.{◌≡◌, ℕ, ◌+◌, ◌<◌, ◌≤◌, ◌==◌, nat_eq, nat_lt, zero, suc, Bool, true, false, cond, not, ◌&&◌, ◌||◌, List, [], ◌∷◌, ◌++◌, map, length, replicate, set, slice_get, Option, Some, None, option_map, refl, sym, ap, subst, ◌∙◌, arith, append-nil, inl, inr}
use Rattle.std.specs.Cmp.Lexicographic.{pointwise}
use Rattle.std.specs.List.{AllByRecursion, filter, list_all, range_with_len}
use Rattle.std.specs.Option.{option_map_or, unwrap_or}
use Rattle.std.proofs.lemmas.Bool.{and_from, and_parts, and_right, cases_lt, eq-eqb, eqb-true, lt-ltb, ltb-true, ne_eqb, or_from}
use Rattle.std.proofs.lemmas.List.Concat.{flat_map-append, flat_map-cons}
use Rattle.std.proofs.lemmas.List.Elements.{filter-append}
use Rattle.std.proofs.lemmas.List.Folds.{list_all-append}
use Rattle.std.proofs.lemmas.Option.{slice_get_within}
use Rattle.mt_types.specs.declared.document.PhaseKind.{PhaseKind}
use Rattle.mt_model.specs.Types.{Item, Job, Phase}
use Rattle.mt_model.specs.Feed.{entries_of, feed, items_in, items_of}
use Rattle.mt_model.specs.Tasks.{is_committed, is_complete, task_count}
use Rattle.mt_model.proofs.Traces.{is_at, some_same}
use Rattle.mt_certline.specs.Certificate.{Progress, entry_of, first_open, follows_in, is_later, is_of_phase, job_so_far, outcome_of, reads_of, task_follows}
use Rattle.mt_certline.specs.declared.line.Listed.{Listed}
use Rattle.mt_certline.specs.declared.line.Sum.{Sum}
use Rattle.mt_checker.specs.Stages.{with_task}
use Rattle.mt_checker.specs.Feeds.{Feed, feed_of, reads_in, tasks_over, with_all}
use Rattle.mt_checker.specs.Sheets.{Sheet, entered, first_sheet, is_above, is_open, is_whole_list, may_follow}
use Rattle.mt_checker.specs.Kept.{IsBehind, IsNamed, IsOpenSheet, IsSheet, Reaches, kind_at, kinds_of}
use Rattle.mt_checker.proofs.Fed.{fed_all, reads_are, tasks_are}
use Rattle.mt_checker.proofs.Firsts.{first_found, none_found}
use Rattle.mt_checker.proofs.Fronts.{AllFrom, any_append, complete_front, entries, every_push, every_weaker, feed_front, map_append, or_none}
use Rattle.mt_checker.proofs.Places.{none_range, open_range, set_range, whole_range}

-- ---- kinds of phases

kinds_slice : (ps : List Phase) (n : ℕ) → slice_get (kinds_of ps) n ≡ kind_at ps n
kinds_slice [] zero = refl
kinds_slice [] (suc n) = refl
kinds_slice (p ∷ ps) zero = refl
kinds_slice (p ∷ ps) (suc n) = kinds_slice ps n

pub kind_of : (g : Progress) (kinds : List PhaseKind) (n : ℕ) → kinds_of g.phases ≡ kinds → slice_get kinds n ≡ kind_at g.phases n
kind_of g kinds n same = ap (λ ks. slice_get ks n) (sym same) ∙ kinds_slice g.phases n

pub phase_at : (ps : List Phase) (n : ℕ) → n < length (kinds_of ps) → (p : Phase) × (slice_get ps n ≡ Some p)
phase_at [] n lt = absurd (omega (arith, lt))
phase_at (p ∷ ps) zero lt = (p, refl)
phase_at (p ∷ ps) (suc n) lt = phase_at ps n (omega (arith, lt))

pub phases_past : (ps : List Phase) (n : ℕ) → length (kinds_of ps) ≤ n → length ps ≤ n
phases_past [] n past = omega arith
phases_past (p ∷ ps) zero past = absurd (omega (arith, past))
phases_past (p ∷ ps) (suc n) past = let more = phases_past ps n (omega (arith, past)) in omega (arith, more)

kind_past : (ps : List Phase) → kind_at ps (length ps) ≡ None
kind_past [] = refl
kind_past (p ∷ ps) = kind_past ps

-- ---- tasks of earlier phases alone

none_at : (n : ℕ) (ts : List Listed) → AllByRecursion (λ t. t.phase < n) ts → entries_of n (entries ts) ≡ []
none_at n [] all = refl
none_at n (t ∷ ts) all =
    let less : t.phase < n = all.0 in
    let apart : t.phase == n ≡ false = ne_eqb t.phase n (λ e. let e : t.phase ≡ n = e in absurd (omega (arith, e, less))) in
    ap (λ b. cond b (entry_of t ∷ entries_of n (entries ts)) (entries_of n (entries ts))) apart ∙ none_at n ts all.1

none_listed : (n : ℕ) (ts : List Listed) → AllByRecursion (λ t. t.phase < n) ts → filter (is_of_phase n) ts ≡ []
none_listed n [] all = refl
none_listed n (t ∷ ts) all =
    let less : t.phase < n = all.0 in
    let apart : t.phase == n ≡ false = ne_eqb t.phase n (λ e. let e : t.phase ≡ n = e in absurd (omega (arith, e, less))) in
    ap (λ b. cond b (t ∷ filter (is_of_phase n) ts) (filter (is_of_phase n) ts)) apart ∙ none_listed n ts all.1

none_committed : (n : ℕ) (ts : List Listed) → AllByRecursion (λ t. t.phase < n) ts → (place : ℕ) → is_committed (entries ts) n place ≡ false
none_committed n [] all place = refl
none_committed n (t ∷ ts) all place =
    let less : t.phase < n = all.0 in
    let apart : t.phase == n ≡ false = ne_eqb t.phase n (λ e. let e : t.phase ≡ n = e in absurd (omega (arith, e, less))) in
    or_from _ _ (ap (λ b. b && (t.place == place)) apart) (none_committed n ts all.1 place)

some_false : (c : ℕ) → 0 < c → is_whole_list (replicate c false) ≡ false
some_false zero lt = absurd (omega (arith, lt))
some_false (suc c) lt = refl

-- ---- truth values

five : (a b c d e o f h : Bool) → (a ≡ true → (o ≡ (b && c)) × (f ≡ d) × (b ≡ true → h ≡ e)) → (((a && o) && f) && h) ≡ ((((a && b) && c) && d) && e)
five false b c d e o f h by = refl
five true false c d e o f h by = ap (λ x. (x && f) && h) (by refl).0
five true true c d e o f h by =
    let same = by refl in
    ap (λ x. (x && f) && h) same.0 ∙ (ap (λ x. (c && x) && h) same.1 ∙ ap (λ x. (c && d) && x) (same.2 refl))

or_right : (a b : Bool) → b ≡ true → (a || b) ≡ true
or_right true b e = refl
or_right false b e = e

all_later : (xs : List Listed) (n m : ℕ) → list_all (λ k. nat_lt k.position n) xs ≡ true → n < m → list_all (λ k. nat_lt k.position m) xs ≡ true
all_later [] n m all lt = refl
all_later (x ∷ xs) n m all lt =
    let parts = and_parts _ _ all in
    let less : x.position < n = ltb-true x.position n parts.0 in
    and_from _ _ (lt-ltb x.position m (omega (arith, less, lt))) (all_later xs n m parts.1 lt)

last_below : (xs : List Listed) (n m : ℕ) → list_all (λ k. nat_lt k.position n) xs ≡ true → (list_all (λ k. nat_lt k.position m) xs && (nat_lt n m && true)) ≡ nat_lt n m
last_below xs n m all = by (nat_lt n m) refl
  where
    by : (b : Bool) → nat_lt n m ≡ b → (list_all (λ k. nat_lt k.position m) xs && (b && true)) ≡ b
    by true is = ap (λ a. a && true) (all_later xs n m all (ltb-true n m is))
    by false is = and_right (list_all (λ k. nat_lt k.position m) xs) false refl

outputs_are : (o : Option (List (Item Sum))) → items_of (outcome_of o) ≡ unwrap_or o []
outputs_are None = refl
outputs_are (Some items) = refl

module _ (g : Progress) where
  abbrev here : Job Sum
  here = job_so_far g

  no_feed : (n : ℕ) → AllByRecursion (λ t. t.phase < n) g.tasks → feed here (n + 1) ≡ []
  no_feed n below = let e : n + 1 ≡ suc n = omega arith in ap (feed here) e ∙ ap items_in (none_at n g.tasks below)

  behind_on : (n : ℕ) (p : Phase) → IsBehind g n → slice_get g.phases n ≡ Some p → is_complete here (n, p) ≡ true → IsBehind g (n + 1)
  behind_on n p behind at complete k q lt there = elim (cases_lt k n) [
    | inl less ↦ behind k q less there
    | inr past ↦ (
        let same : k ≡ n = omega (arith, lt, past) in
        let alike : q ≡ p = some_same q p (sym there ∙ (ap (slice_get g.phases) same ∙ at)) in
        subst (λ m. is_complete here (m, q) ≡ true) (sym same) (subst (λ x. is_complete here (n, x) ≡ true) (sym alike) complete))
  ]

  below_on : (n : ℕ) → AllByRecursion (λ t. t.phase < n) g.tasks → AllByRecursion (λ t. t.phase < n + 1) g.tasks
  below_on n all = every_weaker (λ t. t.phase < n) (λ t. t.phase < n + 1) (λ t lt. let less : t.phase < n = lt in omega (arith, less)) g.tasks all

  module _ (n : ℕ) (p : Phase) (f : Feed) (r : Reaches g n f) (at : slice_get g.phases n ≡ Some p) where
    reads_is : f ≡ feed_of (Some p.kind) (feed here n)
    reads_is = r.feed ∙ ap (λ k. feed_of k (feed here n)) (ap (option_map (λ q. q.kind)) at)

    count_is : tasks_over f.kind f.count ≡ task_count p.kind (feed here n)
    count_is = ap (λ x. tasks_over x.kind x.count) reads_is ∙ tasks_are p.kind (feed here n)

    -- a phase without a place is listed whole
    pub reach_on : tasks_over f.kind f.count ≡ 0 → Reaches g (n + 1) (feed_of (kind_at g.phases (n + 1)) [])
    reach_on none =
        let complete : is_complete here (n, p) ≡ true = ap (λ c. list_all (is_committed (entries g.tasks) n) (range_with_len 0 c)) (sym count_is ∙ none) in
        let within : n < length g.phases = slice_get_within g.phases n p at in
        record {
          inside = omega (arith, within);
          behind = behind_on n p r.behind at complete;
          below = below_on n r.below;
          outputs = r.outputs;
          feed = ap (feed_of (kind_at g.phases (n + 1))) (sym (no_feed n r.below));
        }

    sheet_begun : (c : ℕ) → c ≡ tasks_over f.kind f.count → IsSheet g p (first_sheet n f c (kind_at g.phases (n + 1)))
    sheet_begun c count = record {
      at = at;
      behind = r.behind;
      upto = every_weaker (λ t. t.phase < n) (λ t. t.phase ≤ n) (λ t lt. let less : t.phase < n = lt in omega (arith, less)) g.tasks r.below;
      outputs = r.outputs;
      reading = reads_is;
      next = ap (feed_of (kind_at g.phases (n + 1))) (sym (no_feed n r.below));
      listed = ap (λ m. replicate m false) (count ∙ count_is) ∙ none_range (is_committed (entries g.tasks) n) 0 (task_count p.kind (feed here n)) (none_committed n g.tasks r.below);
      last = λ m. ap (list_all (λ k. nat_lt k.position m)) (none_listed n g.tasks r.below);
    }

    -- one with a place is the one that is listed
    pub begun_open : (c : ℕ) → c ≡ tasks_over f.kind f.count → 0 < c → IsOpenSheet g (first_sheet n f c (kind_at g.phases (n + 1)))
    begun_open c count lt = record { phase = p; sheet = sheet_begun c count; some = some_false c lt }

  -- past the last phase stand the outputs
  pub named_all : (n : ℕ) (f : Feed) → Reaches g n f → length g.phases ≤ n → IsNamed g f.names 0
  named_all n f r past =
      let same : n ≡ length g.phases = omega (arith, past, r.inside) in
      let kind : kind_at g.phases n ≡ None = ap (kind_at g.phases) same ∙ kind_past g.phases in
      record {
        none = none_found (λ q. not (is_complete here q)) 0 g.phases (λ k q at.
            let e : k ≡ 0 + k = omega arith in
            let within : k < length g.phases = slice_get_within g.phases k q at in
            subst (λ m. not (is_complete here (m, q)) ≡ false) e (ap not (r.behind k q (omega (arith, within, same)) at)));
        named = ap (λ x. x.names) (r.feed ∙ ap (λ k. feed_of k (feed here n)) kind) ∙ ap (λ m. map (λ i. i.name) (feed here m)) same;
        count = ap length (sym r.outputs);
      }

  -- ---- the phase that is being listed

  module _ (p : Phase) (s : Sheet) (is : IsSheet g p s) where
    abbrev items : List (Item Sum)
    items = feed here s.phase

    complete_is : is_whole_list s.listed ≡ is_complete here (s.phase, p)
    complete_is = ap is_whole_list is.listed ∙ whole_range (is_committed (entries g.tasks) s.phase) (range_with_len 0 (task_count p.kind items))

    pub first_is : is_whole_list s.listed ≡ false → first_open g ≡ Some (s.phase, p)
    first_is some =
        let e : 0 + s.phase ≡ s.phase = omega arith in
        first_found (λ q. not (is_complete here q)) 0 g.phases s.phase p is.at (subst (λ m. not (is_complete here (m, p)) ≡ true) (sym e) (ap not (sym complete_is ∙ some)))
        (λ k q lt at. let f : k ≡ 0 + k = omega arith in subst (λ m. not (is_complete here (m, q)) ≡ false) f (ap not (is.behind k q lt at)))
        ∙ ap (λ m. Some (m, p)) e

    follow_in : (l : Listed) → may_follow s l ≡ follows_in g l (s.phase, p)
    follow_in l =
        five (l.phase == s.phase) (nat_lt l.place (task_count p.kind items)) (not (is_committed (entries g.tasks) l.phase l.place)) (is_later g.tasks l) (pointwise nat_eq l.reads (reads_of p.kind items l.place))
        (is_open s.listed l.place) (is_above s.last l.position) (reads_in s.reading.kind s.reading.shares l.place l.reads)
        (λ same.
        let n : l.phase ≡ s.phase = eqb-true l.phase s.phase same in (
          ap (λ bs. is_open bs l.place) is.listed ∙ (open_range (is_committed (entries g.tasks) s.phase) (task_count p.kind items) l.place
              ∙ ap (λ m. nat_lt l.place (task_count p.kind items) && not (is_committed (entries g.tasks) m l.place)) (sym n)),
          sym (is.last l.position) ∙ ap (λ m. list_all (λ k. nat_lt k.position l.position) (filter (is_of_phase m) g.tasks)) (sym n),
          λ within. ap (λ f. reads_in f.kind f.shares l.place l.reads) is.reading ∙ reads_are p.kind items l.place l.reads (ltb-true _ _ within),
        ))

    -- what may follow by what is kept is what may by the lines
    pub follows_same : is_whole_list s.listed ≡ false → (l : Listed) → may_follow s l ≡ task_follows g l
    follows_same some l = follow_in l ∙ sym (ap (λ o. option_map_or (follows_in g l) o false) (first_is some))

    -- a phase that is listed whole leads to the next
    pub whole_on : is_whole_list s.listed ≡ true → Reaches g (s.phase + 1) s.next
    whole_on whole =
        let within : s.phase < length g.phases = slice_get_within g.phases s.phase p is.at in
        record {
          inside = omega (arith, within);
          behind = behind_on s.phase p is.behind is.at (sym complete_is ∙ whole);
          below = every_weaker (λ t. t.phase ≤ s.phase) (λ t. t.phase < s.phase + 1) (λ t le. let upto : t.phase ≤ s.phase = le in omega (arith, upto)) g.tasks is.upto;
          outputs = is.outputs;
          feed = is.next;
        }

    module _ (l : Listed) (phase : l.phase ≡ s.phase) (vacant : is_open s.listed l.place ≡ true) (later : is_above s.last l.position ≡ true) where
      abbrev on : Progress
      on = with_task g l

      from : AllFrom s.phase (l ∷ [])
      from = (omega (arith, phase), tt)

      feed_same : feed (job_so_far on) s.phase ≡ items
      feed_same = feed_front g.phases g.inputs s.phase g.tasks (l ∷ []) from s.phase (omega arith)

      last_items : items_in (entries_of s.phase (entry_of l ∷ [])) ≡ unwrap_or l.outputs []
      last_items =
          ap (λ b. items_in (cond b (entry_of l ∷ []) [])) (eq-eqb l.phase s.phase phase)
          ∙ (flat_map-cons (λ e. items_of e.outcome) (entry_of l) [] ∙ (append-nil (items_of (outcome_of l.outputs)) ∙ outputs_are l.outputs))

      next_feed : feed (job_so_far on) (s.phase + 1) ≡ feed here (s.phase + 1) ++ unwrap_or l.outputs []
      next_feed =
          let e : s.phase + 1 ≡ suc s.phase = omega arith in
          ap (feed (job_so_far on)) e
          ∙ (ap (λ es. items_in (entries_of s.phase es)) (map_append entry_of g.tasks (l ∷ []))
          ∙ (ap items_in (filter-append (λ e. e.phase == s.phase) (entries g.tasks) (entry_of l ∷ []))
          ∙ (flat_map-append (λ e. items_of e.outcome) (entries_of s.phase (entries g.tasks)) (entries_of s.phase (entry_of l ∷ []))
          ∙ (ap (λ xs. items_in (entries_of s.phase (entries g.tasks)) ++ xs) last_items ∙ ap (λ m. feed here m ++ unwrap_or l.outputs []) (sym e)))))

      committed_on : (k : ℕ) → is_committed (entries (g.tasks ++ l ∷ [])) s.phase k ≡ (is_committed (entries g.tasks) s.phase k || (is_at s.phase k (entry_of l) || false))
      committed_on k = ap (λ es. is_committed es s.phase k) (map_append entry_of g.tasks (l ∷ [])) ∙ any_append (is_at s.phase k) (entries g.tasks) (entry_of l ∷ [])

      listed_now : is_committed (entries (g.tasks ++ l ∷ [])) s.phase l.place ≡ true
      listed_now =
          committed_on l.place
          ∙ or_right (is_committed (entries g.tasks) s.phase l.place) (is_at s.phase l.place (entry_of l) || false)
          (ap (λ b. b || false) (and_from _ _ (eq-eqb l.phase s.phase phase) (eq-eqb l.place l.place refl)))

      listed_else : (r : ℕ) → (r ≡ 0 + l.place → ⊥) → is_committed (entries (g.tasks ++ l ∷ [])) s.phase r ≡ is_committed (entries g.tasks) s.phase r
      listed_else r off =
          committed_on r
          ∙ (ap (λ b. is_committed (entries g.tasks) s.phase r || (b || false)) (and_right (l.phase == s.phase) (l.place == r) (ne_eqb l.place r (λ e. let e : l.place ≡ r = e in off (omega (arith, e)))))
          ∙ or_none (is_committed (entries g.tasks) s.phase r))

      within_phase : l.place < task_count p.kind items
      within_phase =
          let both = and_parts (nat_lt l.place (task_count p.kind items)) (not (is_committed (entries g.tasks) s.phase l.place))
          (sym (open_range (is_committed (entries g.tasks) s.phase) (task_count p.kind items) l.place) ∙ (ap (λ bs. is_open bs l.place) (sym is.listed) ∙ vacant)) in
          ltb-true _ _ both.0

      listed_is : set s.listed l.place true ≡ map (is_committed (entries (g.tasks ++ l ∷ [])) s.phase) (range_with_len 0 (task_count p.kind (feed (job_so_far on) s.phase)))
      listed_is =
          let none : 0 + l.place ≡ l.place = omega arith in
          ap (λ bs. set bs l.place true) is.listed
          ∙ (set_range (is_committed (entries g.tasks) s.phase) (is_committed (entries (g.tasks ++ l ∷ [])) s.phase) 0 (task_count p.kind items) l.place within_phase
          (ap (is_committed (entries (g.tasks ++ l ∷ [])) s.phase) none ∙ listed_now) listed_else
          ∙ ap (λ is. map (is_committed (entries (g.tasks ++ l ∷ [])) s.phase) (range_with_len 0 (task_count p.kind is))) (sym feed_same))

      last_is : (m : ℕ) → list_all (λ k. nat_lt k.position m) (filter (is_of_phase s.phase) (g.tasks ++ l ∷ [])) ≡ nat_lt l.position m
      last_is m =
          ap (list_all (λ k. nat_lt k.position m)) (filter-append (is_of_phase s.phase) g.tasks (l ∷ []) ∙ ap (λ b. filter (is_of_phase s.phase) g.tasks ++ cond b (l ∷ []) []) (eq-eqb l.phase s.phase phase))
          ∙ (list_all-append (λ k. nat_lt k.position m) (filter (is_of_phase s.phase) g.tasks) (l ∷ []) ∙ last_below (filter (is_of_phase s.phase) g.tasks) l.position m (is.last l.position ∙ later))

      sheet_on : IsSheet on p (entered s l)
      sheet_on = record {
        at = is.at;
        behind = λ k q lt at. complete_front g.phases g.inputs s.phase g.tasks (l ∷ []) from k q lt ∙ is.behind k q lt at;
        upto = every_push (λ t. t.phase ≤ s.phase) g.tasks l is.upto (omega (arith, phase));
        outputs = is.outputs;
        reading = is.reading ∙ ap (feed_of (Some p.kind)) (sym feed_same);
        next = ap (λ f. with_all f (unwrap_or l.outputs [])) is.next ∙ (fed_all (kind_at g.phases (s.phase + 1)) (feed here (s.phase + 1)) (unwrap_or l.outputs []) ∙ ap (feed_of (kind_at g.phases (s.phase + 1))) (sym next_feed));
        listed = listed_is;
        last = last_is;
      }

    -- a task that may follow goes on the sheet
    pub sheet_with : (l : Listed) → may_follow s l ≡ true → IsSheet (with_task g l) p (entered s l)
    sheet_with l may =
        let d = and_parts _ _ may in
        let c = and_parts _ _ d.0 in
        let b = and_parts _ _ c.0 in
        sheet_on l (eqb-true l.phase s.phase b.0) b.1 c.1

-- ---- the same by what is kept of the kinds

module _ (g : Progress) (kinds : List PhaseKind) (same : kinds_of g.phases ≡ kinds) (n : ℕ) (f : Feed) where
  within_kinds : n < length kinds → (p : Phase) × (slice_get g.phases n ≡ Some p)
  within_kinds lt = phase_at g.phases n (subst (λ ks. n < length ks) (sym same) lt)

  pub opened_on : Reaches g n f → n < length kinds → (c : ℕ) → c ≡ tasks_over f.kind f.count → c ≤ 0 → (k : Option PhaseKind) → k ≡ slice_get kinds (n + 1) → (h : Feed) → h ≡ feed_of k [] → Reaches g (n + 1) h
  opened_on r lt c count none k at h is =
      let p = within_kinds lt in
      subst (Reaches g (n + 1)) (sym (is ∙ ap (λ x. feed_of x []) (at ∙ kind_of g kinds (n + 1) same))) (reach_on g n p.0 f r p.1 (omega (arith, count, none)))

  pub opened_at : Reaches g n f → n < length kinds → (c : ℕ) → c ≡ tasks_over f.kind f.count → 0 < c → (k : Option PhaseKind) → k ≡ slice_get kinds (n + 1) → (s : Sheet) → s ≡ first_sheet n f c k → IsOpenSheet g s
  opened_at r lt c count some k at s is =
      let p = within_kinds lt in
      subst (IsOpenSheet g) (sym (is ∙ ap (first_sheet n f c) (at ∙ kind_of g kinds (n + 1) same))) (begun_open g n p.0 f r p.1 c count some)

  pub opened_past : Reaches g n f → length kinds ≤ n → IsNamed g f.names 0
  opened_past r past = named_all g n f r (phases_past g.phases n (subst (λ ks. length ks ≤ n) (sym same) past))

-- what is behind a sheet that is whole
pub settled_on : (g : Progress) (p : Phase) (s : Sheet) → IsSheet g p s → is_whole_list s.listed ≡ true → (n : ℕ) → n ≡ s.phase + 1 → (f : Feed) → f ≡ s.next → Reaches g n f
settled_on g p s is whole n next f feed = subst (λ m. Reaches g m f) (sym next) (subst (Reaches g (s.phase + 1)) (sym feed) (whole_on g p s is whole))

pub settled_here : (g : Progress) (p : Phase) (s : Sheet) → IsSheet g p s → is_whole_list s.listed ≡ false → IsOpenSheet g s
settled_here g p s is some = record { phase = p; sheet = is; some = some }
