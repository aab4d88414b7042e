-- A walk over the rows of an area from a marker on, which goes on at the next name past what stands below a child.
use Rattle.std.proofs.Common.{◌≡◌, ◌≢◌, ℕ, ◌+◌, ◌-◌, ◌<◌, ◌≤◌, ◌&&◌, ◌==◌, Bool, true, false, cond, List, [], ◌∷◌, ◌++◌, map, length, take, refl, sym, ap, subst, ◌∙◌, arith, zero, suc, append-nil, append_assoc, length-append, drop, get_or, eq-eqb}
use Rattle.std.proofs.lemmas.List.{take_all}
use Rattle.std.proofs.lemmas.List.Kept.{IsStrictlySortedBy-filter}
use Rattle.std.specs.List.{AllByRecursion, filter}
use Rattle.std.specs.List.Sorted.{IsStrictlySortedBy}
use Rattle.std.specs.Cmp.Lexicographic.{lists_total, nat_list_cmp_total}
use Rattle.std.specs.Cmp.{unsigned_Decides}
use Rattle.std.specs.Map.{keys_of}
use Rattle.std.specs.Ordering.{is_le}
use Rattle.std.specs.declared.cmp.Ordering.TheVariants.{Less}
use Rattle.mt_tree.specs.AreaRows.{parts_cmp}
use Rattle.mt_path.specs.Keys.{IsClear, Parts}
use Rattle.mt_tree.specs.Walk.{begins, below_by_one, is_one_below, next_name}
use Rattle.mt_tree.proofs.Intervals.{parts_decide, and_second, both_true, below_cmp, split_at, from_parts, none_after}
use Rattle.mt_tree.proofs.Skips.{skipped, row_below, reversed, between, twice}

not_equal : (a b : Bool) → (a ≡ true → ⊥) → (a && b) ≡ false
not_equal true b n = absurd (n refl)
not_equal false b n = refl

take_nil : {X : Type 0} (n : ℕ) → take {A = X} n [] ≡ []
take_nil zero = refl
take_nil (suc n) = refl

keys_cond : {K X : Type 0} (b : Bool) (e : K × X) (l : List (K × X)) → keys_of (cond b (e ∷ l) l) ≡ cond b (e.0 ∷ keys_of l) (keys_of l)
keys_cond true e l = refl
keys_cond false e l = refl

keys_filter : {K X : Type 0} (p : K → Bool) (es : List (K × X)) → keys_of (filter (λ e. p e.0) es) ≡ filter p (keys_of es)
keys_filter p [] = refl
keys_filter p (e ∷ es) = keys_cond (p e.0) e (filter (λ x. p x.0) es) ∙ ap (λ l. cond (p e.0) (e.0 ∷ l) l) (keys_filter p es)

each_passes : {K : Type 0} (p : K → Bool) (ks : List K) → AllByRecursion (λ k. p k ≡ true) (filter p ks)
each_passes p [] = tt
each_passes p (k ∷ ks) = elim (p k) as (λ b. p k ≡ b → AllByRecursion (λ x. p x ≡ true) (cond b (k ∷ filter p ks) (filter p ks))) [
  | true ↦ λ e. (e, each_passes p ks)
  | false ↦ λ e. each_passes p ks
] refl

all_filter : {K : Type 0} (P : K → Type 0) (p : K → Bool) (ks : List K) → AllByRecursion P ks → AllByRecursion P (filter p ks)
all_filter P p [] all = tt
all_filter P p (k ∷ ks) all = elim (p k) as (λ b. AllByRecursion P (cond b (k ∷ filter p ks) (filter p ks))) [
  | true ↦ (all.0, all_filter P p ks all.1)
  | false ↦ all_filter P p ks all.1
]

fewer : {A : Type 0} (p : A → Bool) (xs : List A) → length (filter p xs) ≤ length xs
fewer p [] = omega arith
fewer p (x ∷ xs) = elim (p x) as (λ b. length (cond b (x ∷ filter p xs) (filter p xs)) ≤ length (x ∷ xs)) [ true ↦ omega (arith, fewer p xs) | false ↦ omega (arith, fewer p xs) ]

module _ {X : Type 0} where
  sorted_from : (start : Parts) (rows : List (Parts × X)) → IsStrictlySortedBy parts_cmp (keys_of rows) → IsStrictlySortedBy parts_cmp (keys_of (from_parts start rows))
  sorted_from start rows s = subst (IsStrictlySortedBy parts_cmp) (sym (keys_filter (λ q. is_le (parts_cmp start q)) rows)) (IsStrictlySortedBy-filter parts_cmp (λ q. is_le (parts_cmp start q)) (keys_of rows) s)

  all_from : (P : Parts → Type 0) (start : Parts) (rows : List (Parts × X)) → AllByRecursion P (keys_of rows) → AllByRecursion P (keys_of (from_parts start rows))
  all_from P start rows all = subst (AllByRecursion P) (sym (keys_filter (λ q. is_le (parts_cmp start q)) rows)) (all_filter P (λ q. is_le (parts_cmp start q)) (keys_of rows) all)

  each_from : (start : Parts) (rows : List (Parts × X)) → AllByRecursion (λ q. is_le (parts_cmp start q) ≡ true) (keys_of (from_parts start rows))
  each_from start rows = subst (AllByRecursion (λ q. is_le (parts_cmp start q) ≡ true)) (sym (keys_filter (λ q. is_le (parts_cmp start q)) rows)) (each_passes (λ q. is_le (parts_cmp start q)) (keys_of rows))

  -- the first row is not from a greater path on
  past_first : (t x : Parts) (e : X) (more : List (Parts × X)) → parts_cmp x t ≡ Less → from_parts t ((x, e) ∷ more) ≡ from_parts t more
  past_first t x e more below = ap (λ b. cond b ((x, e) ∷ from_parts t more) (from_parts t more)) (reversed x t below)

-- no byte 0 stands in a component
abbrev pub AreClear : Parts → Type 0
AreClear parts = AllByRecursion IsClear parts

-- what is found so far, and the children that are left, are the page; what is left is in order and from the marker on,
-- and has all rows that are above its first
pub record Walking {X Y : Type 0} (shows : Parts × X → Y) (rows : List (Parts × X)) (d : Parts) (m : List ℕ) (limit : ℕ) (target : List Y) (out : List Y) (rest : List (Parts × X)) : Type 0 where
  pub found : out ++ map shows (take (limit - length out) (below_by_one rest d)) ≡ target
  pub room : length out ≤ limit
  pub ordered : IsStrictlySortedBy parts_cmp (keys_of rest)
  pub later : AllByRecursion (λ q. is_le (parts_cmp (d ++ m ∷ []) q) ≡ true) (keys_of rest)
  pub each : AllByRecursion AreClear (keys_of rest)
  pub covers : (x : Parts) (e : X) (more : List (Parts × X)) → rest ≡ (x, e) ∷ more → (t : Parts) → parts_cmp x t ≡ Less → from_parts t rows ≡ from_parts t more

module _ {X Y : Type 0} (shows : Parts × X → Y) (rows : List (Parts × X)) (d : Parts) (m : List ℕ) (limit : ℕ) where
  covers_first : (x : Parts) (e : X) (more : List (Parts × X)) → from_parts (d ++ m ∷ []) rows ≡ (x, e) ∷ more → (t : Parts) → parts_cmp x t ≡ Less → from_parts t rows ≡ from_parts t more
  covers_first x e more is t below =
      let not_above = (subst (λ rs. AllByRecursion (λ q. is_le (parts_cmp (d ++ m ∷ []) q) ≡ true) (keys_of rs)) is (each_from (d ++ m ∷ []) rows)).0 in
      sym (twice (d ++ m ∷ []) t (between (d ++ m ∷ []) x t not_above below) rows) ∙ ap (from_parts t) is ∙ past_first t x e more below

  -- the start
  pub begun : IsStrictlySortedBy parts_cmp (keys_of rows) → AllByRecursion AreClear (keys_of rows) → (out : List Y) (rest : List (Parts × X)) → out ≡ [] → rest ≡ from_parts (d ++ m ∷ []) rows
      → Walking shows rows d m limit (map shows (take limit (below_by_one (from_parts (d ++ m ∷ []) rows) d))) out rest
  begun s all out rest none is =
      subst (λ o. Walking shows rows d m limit (map shows (take limit (below_by_one (from_parts (d ++ m ∷ []) rows) d))) o rest) (sym none)
      (subst (Walking shows rows d m limit (map shows (take limit (below_by_one (from_parts (d ++ m ∷ []) rows) d))) []) (sym is)
      (record {
        found = let zero_off : limit - 0 ≡ limit = omega arith in ap (λ n. map shows (take n (below_by_one (from_parts (d ++ m ∷ []) rows) d))) zero_off;
        room = omega arith;
        ordered = sorted_from (d ++ m ∷ []) rows s;
        later = each_from (d ++ m ∷ []) rows;
        each = all_from AreClear (d ++ m ∷ []) rows all;
        covers = covers_first;
      }))

module _ {X Y : Type 0} (shows : Parts × X → Y) (rows : List (Parts × X)) (d : Parts) (m : List ℕ) (limit : ℕ) (target : List Y) (out : List Y) (rest : List (Parts × X)) (w : Walking shows rows d m limit target out rest) where
  pub full : limit ≤ length out → out ≡ target
  full h =
      let none : limit - length out ≡ 0 = omega arith in
      sym (append-nil out) ∙ ap (λ n. out ++ map shows (take n (below_by_one rest d))) (sym none) ∙ w.found

  no_more : below_by_one rest d ≡ [] → out ≡ target
  no_more none = sym (append-nil out) ∙ ap (λ rs. out ++ map shows rs) (sym (take_nil (limit - length out))) ∙ ap (λ rs. out ++ map shows (take (limit - length out) rs)) (sym none) ∙ w.found

  pub done : rest ≡ [] → out ≡ target
  done e = no_more (ap (λ rs. below_by_one rs d) e)

  module _ (x : Parts) (e : X) (more : List (Parts × X)) (first : rest ≡ (x, e) ∷ more) where
    ordered : IsStrictlySortedBy parts_cmp (keys_of ((x, e) ∷ more))
    ordered = subst (λ rs. IsStrictlySortedBy parts_cmp (keys_of rs)) first w.ordered

    ordered_rest : AllByRecursion (λ y. parts_cmp x y ≡ Less) (keys_of more) × IsStrictlySortedBy parts_cmp (keys_of more)
    unfolding IsStrictlySortedBy
    ordered_rest = ordered

    from_marker : is_le (parts_cmp (d ++ m ∷ []) x) ≡ true
    from_marker = (subst (λ rs. AllByRecursion (λ q. is_le (parts_cmp (d ++ m ∷ []) q) ≡ true) (keys_of rs)) first w.later).0

    pub holds : AreClear x
    holds = (subst (λ rs. AllByRecursion AreClear (keys_of rs)) first w.each).0

    pub stop : begins d x ≡ false → out ≡ target
    stop n = no_more (ap (λ rs. below_by_one rs d) first ∙ none_after d m x from_marker n e more ordered)

    -- the directory itself is before the marker
    pub never : begins d x ≡ true → length x ≤ length d → out ≡ target
    never b l =
        let whole : x ≡ d ++ [] = sym (take_all (length d) x l) ∙ (parts_decide (take (length d) x) d).0 (and_second _ _ b) ∙ sym (append-nil d) in
        let wrong : is_le (parts_cmp (m ∷ []) []) ≡ true = ap is_le (sym (below_cmp d (m ∷ []) [])) ∙ ap (λ z. is_le (parts_cmp (d ++ m ∷ []) z)) (sym whole) ∙ from_marker in
        cc

    here : (t : Bool) → is_one_below d x ≡ t → below_by_one rest d ≡ cond t ((x, e) ∷ below_by_one more d) (below_by_one more d)
    here t h = ap (λ rs. below_by_one rs d) first ∙ ap (λ z. cond z ((x, e) ∷ below_by_one more d) (below_by_one more d)) h

    covers_more : (x2 : Parts) (e2 : X) (more2 : List (Parts × X)) → more ≡ (x2, e2) ∷ more2 → (t : Parts) → parts_cmp x2 t ≡ Less → from_parts t rows ≡ from_parts t more2
    covers_more x2 e2 more2 is t below =
        let next : parts_cmp x x2 ≡ Less = (subst (λ rs. AllByRecursion (λ y. parts_cmp x y ≡ Less) (keys_of rs)) is ordered_rest.0).0 in
        w.covers x e more first t ((lists_total nat_list_cmp_total).trans x x2 t next below) ∙ ap (from_parts t) is ∙ past_first t x2 e2 more2 below

    pub added : begins d x ≡ true → length x ≡ length d + 1 → length out < limit → (longer : List Y) → longer ≡ out ++ shows (x, e) ∷ [] → Walking shows rows d m limit target longer more
    added b l room longer grown =
        let child : is_one_below d x ≡ true = both_true _ _ (eq-eqb (length x) (length d + 1) l) (and_second _ _ b) in
        let long : length (out ++ shows (x, e) ∷ []) ≡ length out + 1 = length-append out (shows (x, e) ∷ []) in
        let less : limit - length out ≡ suc (limit - length (out ++ shows (x, e) ∷ [])) = omega arith in
        let same : length longer ≡ length out + 1 = ap length grown ∙ long in
        record {
          found = ap (λ o. o ++ map shows (take (limit - length o) (below_by_one more d))) grown
              ∙ append_assoc out (shows (x, e) ∷ []) _
              ∙ ap (λ n. out ++ map shows (take n ((x, e) ∷ below_by_one more d))) (sym less)
              ∙ ap (λ rs. out ++ map shows (take (limit - length out) rs)) (sym (here true child)) ∙ w.found;
          room = omega arith;
          ordered = ordered_rest.1;
          later = (subst (λ rs. AllByRecursion (λ q. is_le (parts_cmp (d ++ m ∷ []) q) ≡ true) (keys_of rs)) first w.later).1;
          each = (subst (λ rs. AllByRecursion AreClear (keys_of rs)) first w.each).1;
          covers = covers_more;
        }

    pub shorter : length more < length rest
    shorter = omega (arith, ap length first)

    module _ (b : begins d x ≡ true) (l : length d < length x) (next : Parts) (is : next ≡ d ++ next_name (get_or x (length d) []) ∷ []) (new : List (Parts × X)) (again : new ≡ from_parts next rows) where
      below : parts_cmp x next ≡ Less
      below = ap (parts_cmp x) is ∙ ap (λ z. parts_cmp z (d ++ next_name (get_or x (length d) []) ∷ [])) (split_at d x b l) ∙ row_below d (get_or x (length d) []) (drop (suc (length d)) x)

      left_over : new ≡ from_parts next more
      left_over = again ∙ w.covers x e more first next below

      pub fewer_left : length new < length rest
      fewer_left = omega (arith, ap length left_over, fewer (λ r. is_le (parts_cmp next r.0)) more, ap length first)

      same_children : below_by_one new d ≡ below_by_one more d
      same_children =
          ap (λ rs. below_by_one rs d) (left_over ∙ ap (λ n. from_parts n more) is)
          ∙ skipped d (get_or x (length d) []) (drop (suc (length d)) x) more (subst (λ rs. AllByRecursion AreClear (keys_of rs)) first w.each).1 (subst (λ z. AllByRecursion (λ y. parts_cmp z y ≡ Less) (keys_of more)) (split_at d x b l) ordered_rest.0)

      covers_new : (x3 : Parts) (e3 : X) (more3 : List (Parts × X)) → new ≡ (x3, e3) ∷ more3 → (t : Parts) → parts_cmp x3 t ≡ Less → from_parts t rows ≡ from_parts t more3
      covers_new x3 e3 more3 eq t under =
          let all = subst (λ rs. AllByRecursion (λ q. is_le (parts_cmp next q) ≡ true) (keys_of rs)) (sym left_over ∙ eq) (each_from next more) in
          let far : parts_cmp next t ≡ Less = between next x3 t all.0 under in
          w.covers x e more first t ((lists_total nat_list_cmp_total).trans x next t below far)
          ∙ sym (twice next t far more) ∙ ap (from_parts t) (sym left_over ∙ eq) ∙ past_first t x3 e3 more3 under

      no_child : length x ≢ length d + 1 → is_one_below d x ≡ false
      no_child longer = not_equal (length x == length d + 1) _ (λ t. longer ((unsigned_Decides (length x) (length d + 1)).0 t))

      pub skipped_to : length x ≢ length d + 1 → Walking shows rows d m limit target out new
      skipped_to longer = record {
        found = ap (λ rs. out ++ map shows (take (limit - length out) rs)) (same_children ∙ sym (here false (no_child longer))) ∙ w.found;
        room = w.room;
        ordered = subst (λ rs. IsStrictlySortedBy parts_cmp (keys_of rs)) (sym left_over) (sorted_from next more ordered_rest.1);
        later = subst (λ rs. AllByRecursion (λ q. is_le (parts_cmp (d ++ m ∷ []) q) ≡ true) (keys_of rs)) (sym left_over)
            (all_from (λ q. is_le (parts_cmp (d ++ m ∷ []) q) ≡ true) next more (subst (λ rs. AllByRecursion (λ q. is_le (parts_cmp (d ++ m ∷ []) q) ≡ true) (keys_of rs)) first w.later).1);
        each = subst (λ rs. AllByRecursion AreClear (keys_of rs)) (sym left_over) (all_from AreClear next more (subst (λ rs. AllByRecursion AreClear (keys_of rs)) first w.each).1);
        covers = covers_new;
      }
