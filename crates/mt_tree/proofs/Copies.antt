-- Rows that are copied in their order, until there are enough.
use Rattle.std.proofs.Common.{◌≡◌, ℕ, ◌+◌, ◌-◌, ◌<◌, ◌≤◌, Bool, true, false, cond, List, [], ◌∷◌, ◌++◌, map, length, take, Option, Some, None, refl, sym, ap, subst, ◌∙◌, arith, zero, suc, append-nil, append_assoc, length-append}
use Rattle.std.proofs.lemmas.List.{length-map, map-append}
use Rattle.std.proofs.lemmas.List.Elements.{All-from_recursion, recursion_from_All}
use Rattle.std.specs.Prelude.{All}
use Rattle.std.specs.Cmp.{nat_cmp_total}
use Rattle.std.specs.List.{AllByRecursion, filter}
use Rattle.std.specs.Map.{keys_of}
use Rattle.std.specs.Ordering.{is_lt, nat_cmp, ordering_then, ordering_reverse}
use Rattle.std.specs.declared.cmp.Ordering.TheVariants.{Less, Equal, Greater}
use Rattle.mt_path.specs.AccountPath.{AccountPath, IsPath, area_number}
use Rattle.mt_path.specs.PathOrder.{path_cmp}
use Rattle.mt_path.specs.declared.area.Area.{Area}
use Rattle.mt_path.specs.declared.area.Area.TheVariants.{Stor, Public, Jobs}
use Rattle.mt_tree.specs.declared.kept.KeptRow.{KeptRow}
use Rattle.mt_tree.specs.AreaRows.{in_area, joined, parts_cmp, rows_of}
use Rattle.mt_path.specs.Keys.{Parts}
use Rattle.mt_tree.specs.Walk.{rows_after}
use Rattle.mt_tree.proofs.Appended.{filter-append}
use Rattle.mt_tree.proofs.Joined.{Entries, path_in}

take_nil : {X : Type 0} (n : ℕ) → take {A = X} n [] ≡ []
take_nil zero = refl
take_nil (suc n) = refl

pub take_none : {X : Type 0} (n : ℕ) (xs : List X) → xs ≡ [] → take n xs ≡ []
take_none n xs none = ap (take n) none ∙ take_nil n

-- what is copied so far, and the front of what is left, are what is wanted
pub record Copying {X Y : Type 0} (shows : Parts × X → Y) (P : Parts → Type 0) (limit : ℕ) (target : List Y) (out : List Y) (rest : List (Parts × X)) : Type 0 where
  pub found : out ++ map shows (take (limit - length out) rest) ≡ target
  pub each : AllByRecursion P (keys_of rest)

module _ {X Y : Type 0} (shows : Parts × X → Y) (P : Parts → Type 0) (limit : ℕ) (target : List Y) (out : List Y) (rest : List (Parts × X)) (w : Copying shows P limit target out rest) where
  pub enough : limit ≤ length out → out ≡ target
  enough h =
      let none : limit - length out ≡ 0 = omega (arith, h) in
      sym (append-nil out) ∙ ap (λ n. out ++ map shows (take n rest)) (sym none) ∙ w.found

  pub all_copied : rest ≡ [] → out ≡ target
  all_copied e = sym (append-nil out) ∙ ap (λ rs. out ++ map shows rs) (sym (take_nil (limit - length out))) ∙ ap (λ rs. out ++ map shows (take (limit - length out) rs)) (sym e) ∙ w.found

  module _ (x : Parts) (e : X) (more : List (Parts × X)) (first : rest ≡ (x, e) ∷ more) where
    pub held : P x
    held = (subst (λ rs. AllByRecursion P (keys_of rs)) first w.each).0

    pub copied_one : length out < limit → (longer : List Y) → longer ≡ out ++ shows (x, e) ∷ [] → Copying shows P limit target longer more
    copied_one room longer grown =
        let long : length (out ++ shows (x, e) ∷ []) ≡ length out + 1 = length-append out (shows (x, e) ∷ []) in
        let less : limit - length out ≡ suc (limit - length (out ++ shows (x, e) ∷ [])) = omega (arith, long, room) in
        record {
          found = ap (λ o. o ++ map shows (take (limit - length o) more)) grown
              ∙ append_assoc out (shows (x, e) ∷ []) _
              ∙ ap (λ n. out ++ map shows (take n ((x, e) ∷ more))) (sym less)
              ∙ ap (λ rs. out ++ map shows (take (limit - length out) rs)) (sym first) ∙ w.found;
          each = (subst (λ rs. AllByRecursion P (keys_of rs)) first w.each).1;
        }

-- copies of one list and then of another
take_append : {X : Type 0} (n : ℕ) (xs ys : List X) → take n (xs ++ ys) ≡ take n xs ++ take (n - length (take n xs)) ys
take_append zero xs ys = refl
take_append (suc n) [] ys = let all : suc n - 0 ≡ suc n = omega arith in ap (λ k. take k ys) (sym all)
take_append (suc n) (x ∷ xs) ys =
    let less : n - length (take n xs) ≡ suc n - suc (length (take n xs)) = omega arith in
    ap (λ l. x ∷ l) (take_append n xs ys ∙ ap (λ k. take n xs ++ take k ys) less)

module _ {X Y : Type 0} (f : X → Y) (limit : ℕ) where
  then_more : (out next : List Y) (xs ys : List X) → next ≡ out ++ map f (take (limit - length out) xs) → next ++ map f (take (limit - length next) ys) ≡ out ++ map f (take (limit - length out) (xs ++ ys))
  then_more out next xs ys is =
      let long : length next ≡ length out + length (take (limit - length out) xs) = ap length is ∙ length-append out (map f (take (limit - length out) xs)) ∙ ap (λ k. length out + k) (length-map (take (limit - length out) xs) f) in
      let left : limit - length next ≡ limit - length out - length (take (limit - length out) xs) = omega (arith, long) in
      ap (λ k. next ++ map f (take k ys)) left
      ∙ ap (λ o. o ++ map f (take (limit - length out - length (take (limit - length out) xs)) ys)) is
      ∙ append_assoc out (map f (take (limit - length out) xs)) (map f (take (limit - length out - length (take (limit - length out) xs)) ys))
      ∙ ap (λ l. out ++ l) (sym (map-append f (take (limit - length out) xs) (take (limit - length out - length (take (limit - length out) xs)) ys)) ∙ ap (map f) (sym (take_append (limit - length out) xs ys)))

  -- three lists in a row
  pub three : (xs ys zs : List X) (none first second third : List Y) → none ≡ [] → first ≡ none ++ map f (take (limit - length none) xs) → second ≡ first ++ map f (take (limit - length first) ys) → third ≡ second ++ map f (take (limit - length second) zs)
      → third ≡ map f (take limit (xs ++ (ys ++ zs)))
  three xs ys zs none first second third empty is_first is_second is_third =
      let all : limit - 0 ≡ limit = omega arith in
      is_third ∙ then_more first second ys zs is_second ∙ then_more none first xs (ys ++ zs) is_first
      ∙ ap (λ o. o ++ map f (take (limit - length o) (xs ++ (ys ++ zs)))) empty ∙ ap (λ k. map f (take k (xs ++ (ys ++ zs)))) all

filter_true : {X : Type 0} (xs : List X) → filter (λ x. true) xs ≡ xs
filter_true [] = refl
filter_true (x ∷ xs) = ap (λ l. x ∷ l) (filter_true xs)

-- a range without bounds has all entries
pub range-all : {X : Type 0} (es found : List X) → found ≡ filter (λ x. true) es → found ≡ es
range-all es found is = is ∙ filter_true es

module _ {B : Type 0} (area : Area) where
  -- the rows of a lower area are not above a path, and those of a higher area are
  pub after-none : (p : AccountPath) (es : Entries (KeptRow B)) → nat_cmp (area_number area) (area_number p.area) ≡ Less → [] ≡ rows_after (Some p) (rows_of (in_area area es))
  after-none p [] low = refl
  after-none p (e ∷ es) low =
      let high : nat_cmp (area_number p.area) (area_number area) ≡ Greater = nat_cmp_total.antisymm (area_number p.area) (area_number area) ∙ ap ordering_reverse low in
      after-none p es low
      ∙ sym (ap (λ r. cond (is_lt (ordering_then r (parts_cmp p.parts e.0))) ((path_in area e.0, e.1.entry) ∷ rows_after (Some p) (rows_of (in_area area es))) (rows_after (Some p) (rows_of (in_area area es)))) high)

  pub after-all : (p : AccountPath) (es : Entries (KeptRow B)) → nat_cmp (area_number area) (area_number p.area) ≡ Greater → rows_of (in_area area es) ≡ rows_after (Some p) (rows_of (in_area area es))
  after-all p [] high = refl
  after-all p (e ∷ es) high =
      let low : nat_cmp (area_number p.area) (area_number area) ≡ Less = nat_cmp_total.antisymm (area_number p.area) (area_number area) ∙ ap ordering_reverse high in
      ap (λ l. (path_in area e.0, e.1.entry) ∷ l) (after-all p es high)
      ∙ sym (ap (λ r. cond (is_lt (ordering_then r (parts_cmp p.parts e.0))) ((path_in area e.0, e.1.entry) ∷ rows_after (Some p) (rows_of (in_area area es))) (rows_after (Some p) (rows_of (in_area area es)))) low)

  behind_cond : (b : Bool) (e : Parts × KeptRow B) (l : Entries (KeptRow B)) → rows_of (in_area area (cond b (e ∷ l) l)) ≡ cond b ((path_in area e.0, e.1.entry) ∷ rows_of (in_area area l)) (rows_of (in_area area l))
  behind_cond true e l = refl
  behind_cond false e l = refl

  after_same : (p : AccountPath) (es : Entries (KeptRow B)) → nat_cmp (area_number area) (area_number p.area) ≡ Equal → rows_of (in_area area (filter (λ e. is_lt (parts_cmp p.parts e.0)) es)) ≡ rows_after (Some p) (rows_of (in_area area es))
  after_same p [] equal = refl
  after_same p (e ∷ es) equal =
      let tied : nat_cmp (area_number p.area) (area_number area) ≡ Equal = nat_cmp_total.antisymm (area_number p.area) (area_number area) ∙ ap ordering_reverse equal in
      behind_cond (is_lt (parts_cmp p.parts e.0)) e (filter (λ e. is_lt (parts_cmp p.parts e.0)) es)
      ∙ ap (λ l. cond (is_lt (parts_cmp p.parts e.0)) ((path_in area e.0, e.1.entry) ∷ l) l) (after_same p es equal)
      ∙ sym (ap (λ r. cond (is_lt (ordering_then r (parts_cmp p.parts e.0))) ((path_in area e.0, e.1.entry) ∷ rows_after (Some p) (rows_of (in_area area es))) (rows_after (Some p) (rows_of (in_area area es)))) tied)

  -- the rows of the path's own area are those that a range finds
  pub after-own : (p : AccountPath) (parts : Parts) (es found : Entries (KeptRow B)) → parts ≡ p.parts → nat_cmp (area_number area) (area_number p.area) ≡ Equal
      → found ≡ filter (λ e. is_lt (parts_cmp parts e.0)) es → rows_of (in_area area found) ≡ rows_after (Some p) (rows_of (in_area area es))
  after-own p parts es found same equal is =
      ap (λ l. rows_of (in_area area l)) (is ∙ ap (λ x. filter (λ e. is_lt (parts_cmp x e.0)) es) same) ∙ after_same p es equal

  all_found : (test : Parts → Bool) (es : Entries (KeptRow B)) → AllByRecursion IsPath (keys_of (rows_of (in_area area es))) → AllByRecursion IsPath (keys_of (rows_of (in_area area (filter (λ e. test e.0) es))))
  all_found test [] all = tt
  all_found test (e ∷ es) all = elim (test e.0) as (λ b. AllByRecursion IsPath (keys_of (rows_of (in_area area (cond b (e ∷ filter (λ e. test e.0) es) (filter (λ e. test e.0) es)))))) [
    | true ↦ (all.0, all_found test es all.1)
    | false ↦ all_found test es all.1
  ]

  pub paths-found : (test : Parts → Bool) (es found : Entries (KeptRow B)) → found ≡ filter (λ e. test e.0) es → All IsPath (keys_of (rows_of (in_area area es))) → All IsPath (keys_of (rows_of (in_area area found)))
  paths-found test es found is all =
      subst (λ l. All IsPath (keys_of (rows_of (in_area area l)))) (sym is)
      (All-from_recursion IsPath (keys_of (rows_of (in_area area (filter (λ e. test e.0) es)))) (all_found test es (recursion_from_All IsPath (keys_of (rows_of (in_area area es))) all)))

-- the rows after a path, area by area
pub after-joined : {B : Type 0} (after : Option AccountPath) (s u j : Entries (KeptRow B))
    → rows_after after (rows_of (in_area Stor s)) ++ (rows_after after (rows_of (in_area Public u)) ++ rows_after after (rows_of (in_area Jobs j))) ≡ rows_after after (rows_of (joined s u j))
after-joined None s u j =
    sym (map-append (λ k. (k.0, k.1.entry)) (in_area Stor s) (in_area Public u ++ in_area Jobs j) ∙ ap (λ l. rows_of (in_area Stor s) ++ l) (map-append (λ k. (k.0, k.1.entry)) (in_area Public u) (in_area Jobs j)))
after-joined (Some p) s u j =
    sym (
    ap (rows_after (Some p)) (map-append (λ k. (k.0, k.1.entry)) (in_area Stor s) (in_area Public u ++ in_area Jobs j) ∙ ap (λ l. rows_of (in_area Stor s) ++ l) (map-append (λ k. (k.0, k.1.entry)) (in_area Public u) (in_area Jobs j)))
    ∙ filter-append (λ r. is_lt (path_cmp p r.0)) (rows_of (in_area Stor s)) (rows_of (in_area Public u) ++ rows_of (in_area Jobs j))
    ∙ ap (λ l. rows_after (Some p) (rows_of (in_area Stor s)) ++ l) (filter-append (λ r. is_lt (path_cmp p r.0)) (rows_of (in_area Public u)) (rows_of (in_area Jobs j)))
    )
