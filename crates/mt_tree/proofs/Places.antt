-- Where a key stands beside those below a directory, by its components.
use Rattle.std.proofs.Common.{◌≡◌, ℕ, ◌+◌, ◌-◌, ◌<◌, ◌≤◌, Bool, true, false, cond, not, nat_eq, nat_lt, List, [], ◌∷◌, ◌++◌, length, take, drop, get_or, Option, Some, None, refl, sym, ap, ◌∙◌, arith, suc, inl, inr, append_assoc, length-append}
use Rattle.std.specs.Cmp.{unsigned_Decides}
use Rattle.std.specs.Cmp.Lexicographic.{pointwise_decides}
use Rattle.std.specs.List.{AllByRecursion, onto_first, position, position_or_len, slice_split, starts_with}
use Rattle.std.proofs.lemmas.Bool.{cases_Bool, cond-true, cond-false, false≢true, ltb-false}
use Rattle.std.proofs.lemmas.Bool.Decides.{nat_tests}
use Rattle.std.proofs.lemmas.List.{take-append-drop}
use Rattle.std.proofs.lemmas.List.Concat.{flat_map-append}
use Rattle.std.proofs.Math.Seq.{take-append_seam}
use Rattle.mt_tree.specs.declared.listing.Place.TheVariants.{Outside, Child, Below}
use Rattle.mt_path.specs.Keys.{IsClear, IsKey, Parts, key_bytes, parts_of}
use Rattle.mt_path.proofs.Keys.{is_zero, split-before}
use Rattle.mt_tree.specs.Walk.{begins, last_of, name_in, place_in}
use Rattle.mt_tree.proofs.Intervals.{begins_with, split_at}

split_all : (c : List ℕ) (d : Parts) (rest : List ℕ) → IsClear c → slice_split is_zero (c ++ (key_bytes d ++ 0 ∷ rest)) ≡ c ∷ parts_of (key_bytes d ++ 0 ∷ rest)
split_all c [] rest clear = split-before c rest clear
split_all c (e ∷ d) rest clear = split-before c ((e ++ key_bytes d) ++ 0 ∷ rest) clear

-- the components of a key below a directory
pub parts-behind : (dir : Parts) (rest : List ℕ) → AllByRecursion IsClear dir → parts_of (key_bytes dir ++ 0 ∷ rest) ≡ dir ++ slice_split is_zero rest
parts-behind [] rest clear = refl
parts-behind (c ∷ d) rest clear =
    ap (slice_split is_zero) (append_assoc c (key_bytes d) (0 ∷ rest))
    ∙ split_all c d rest clear.0
    ∙ ap (λ l. c ∷ l) (parts-behind d rest clear.1)

onto_some : (x : ℕ) (parts : Parts) → 0 < length (onto_first x parts)
onto_some x [] = omega arith
onto_some x (p ∷ parts) = omega arith

split_some : (xs : List ℕ) → 0 < length (slice_split is_zero xs)
split_some [] = omega arith
split_some (x ∷ xs) = elim (is_zero x) as (λ t. 0 < length (cond t ([] ∷ slice_split is_zero xs) (onto_first x (slice_split is_zero xs)))) [ true ↦ omega arith | false ↦ onto_some x (slice_split is_zero xs) ]

-- without a byte 0 there is one component
one_part : (xs : List ℕ) → length xs ≤ position_or_len is_zero xs → slice_split is_zero xs ≡ xs ∷ []
one_part [] all = refl
one_part (x ∷ xs) all = elim (is_zero x) as (λ t. length (x ∷ xs) ≤ cond (not t) (1 + position_or_len is_zero xs) 0 → cond t ([] ∷ slice_split is_zero xs) (onto_first x (slice_split is_zero xs)) ≡ (x ∷ xs) ∷ []) [
  | true ↦ λ h. absurd (omega (arith, h))
  | false ↦ λ h. ap (onto_first x) (one_part xs (omega (arith, h)))
] all

-- and else the first stands before it
first_part : (xs : List ℕ) → position_or_len is_zero xs < length xs → (rest : Parts) × (slice_split is_zero xs ≡ take (position_or_len is_zero xs) xs ∷ rest) × (0 < length rest)
first_part [] some = absurd (omega (arith, some))
first_part (x ∷ xs) some = elim (is_zero x) as (λ t. cond (not t) (1 + position_or_len is_zero xs) 0 < length (x ∷ xs) → (rest : Parts) × (cond t ([] ∷ slice_split is_zero xs) (onto_first x (slice_split is_zero xs)) ≡ take (cond (not t) (1 + position_or_len is_zero xs) 0) (x ∷ xs) ∷ rest) × (0 < length rest)) [
  | true ↦ λ h. (slice_split is_zero xs, refl, split_some xs)
  | false ↦ λ h.
      let r = first_part xs (omega (arith, h)) in
      let next : suc (position_or_len is_zero xs) ≡ 1 + position_or_len is_zero xs = omega arith in
      (r.0, ap (onto_first x) r.1 ∙ ap (λ n. take n (x ∷ xs) ∷ r.0) next, r.2)
] some

none_at : (xs : List ℕ) → position is_zero xs ≡ None → length xs ≤ position_or_len is_zero xs
none_at xs none =
    elim (cases_Bool (nat_lt (position_or_len is_zero xs) (length xs))) [
      | inl within ↦ let never : None ≡ Some (position_or_len is_zero xs) = sym none ∙ cond-true (nat_lt (position_or_len is_zero xs) (length xs)) (Some (position_or_len is_zero xs)) None within in cc
      | inr past ↦ ltb-false _ _ past
    ]

some_at : (xs : List ℕ) (i : ℕ) → position is_zero xs ≡ Some i → (i ≡ position_or_len is_zero xs) × (position_or_len is_zero xs < length xs)
some_at xs i some =
    elim (cases_Bool (nat_lt (position_or_len is_zero xs) (length xs))) [
      | inl within ↦
          let both : Some i ≡ Some (position_or_len is_zero xs) = sym some ∙ cond-true (nat_lt (position_or_len is_zero xs) (length xs)) (Some (position_or_len is_zero xs)) None within in
          let same : i ≡ position_or_len is_zero xs = cc in
          (same, grind (arith, nat_tests, within))
      | inr past ↦ let never : Some i ≡ None = sym some ∙ cond-false (nat_lt (position_or_len is_zero xs) (length xs)) (Some (position_or_len is_zero xs)) None past in cc
    ]

was_outside : (s : Bool) (n : ℕ) (o : Option ℕ) → Outside ≡ cond s (name_in n o) Outside → s ≡ false
was_outside true n None is = cc
was_outside true n (Some i) is = cc
was_outside false n o is = refl

was_child : (s : Bool) (n : ℕ) (o : Option ℕ) → Child ≡ cond s (name_in n o) Outside → (s ≡ true) × (o ≡ None)
was_child true n None is = (refl, refl)
was_child true n (Some i) is = cc
was_child false n o is = cc

was_below : (s : Bool) (n : ℕ) (o : Option ℕ) (end : ℕ) → Below end ≡ cond s (name_in n o) Outside → (s ≡ true) × ((i : ℕ) × (o ≡ Some i) × (end ≡ n + i))
was_below true n None end is = cc
was_below true n (Some i) end is = let same : end ≡ n + i = cc in (refl, (i, refl, same))
was_below false n o end is = cc

take_behind : (front rest : List ℕ) (i : ℕ) → take (length front + i) (front ++ rest) ≡ front ++ take i rest
take_behind [] rest i = let none : 0 + i ≡ i = omega arith in ap (λ n. take n rest) none
take_behind (b ∷ front) rest i = let next : length (b ∷ front) + i ≡ suc (length front + i) = omega arith in ap (λ n. take n (b ∷ front ++ rest)) next ∙ ap (λ l. b ∷ l) (take_behind front rest i)

get_behind : (d : Parts) (c : List ℕ) (more : Parts) → get_or (d ++ c ∷ more) (length d) [] ≡ c
get_behind [] c more = refl
get_behind (x ∷ d) c more = get_behind d c more

front_is : (front key : List ℕ) → starts_with nat_eq key front ≡ true → key ≡ front ++ drop (length front) key
front_is front key starts =
    let same : front ≡ take (length front) key = (pointwise_decides unsigned_Decides front (take (length front) key)).0 starts in
    sym (take-append-drop (length front) key) ∙ ap (λ f. f ++ drop (length front) key) (sym same)

module _ (dir : Parts) (clear : AllByRecursion IsClear dir) (front key : List ℕ) (is : front ≡ key_bytes dir ++ 0 ∷ []) where
  -- what follows the front of a key
  rest_is : starts_with nat_eq key front ≡ true → parts_of key ≡ dir ++ slice_split is_zero (drop (length front) key)
  rest_is starts =
      ap parts_of (front_is front key starts ∙ ap (λ f. f ++ drop (length front) key) is ∙ append_assoc (key_bytes dir) (0 ∷ []) (drop (length front) key))
      ∙ parts-behind dir (drop (length front) key) clear

  begins_there : starts_with nat_eq key front ≡ true → begins dir (parts_of key) ≡ true
  begins_there starts = ap (begins dir) (rest_is starts) ∙ begins_with dir (slice_split is_zero (drop (length front) key))

  starts : IsKey key → begins dir (parts_of key) ≡ true → length dir < length (parts_of key) → starts_with nat_eq key front ≡ true
  starts k b long =
      let name : List ℕ = get_or (parts_of key) (length dir) [] in
      let more : Parts = drop (suc (length dir)) (parts_of key) in
      let whole : key ≡ front ++ (name ++ key_bytes more) =
      k.whole ∙ ap key_bytes (split_at dir (parts_of key) b long) ∙ flat_map-append (λ part. 0 ∷ part) dir (name ∷ more)
      ∙ sym (append_assoc (key_bytes dir) (0 ∷ []) (name ++ key_bytes more)) ∙ ap (λ f. f ++ (name ++ key_bytes more)) (sym is) in
      (pointwise_decides unsigned_Decides front (take (length front) key)).1 (sym (ap (take (length front)) whole ∙ take-append_seam front (name ++ key_bytes more)))

  -- a key outside doesn't begin with the directory, or it is the directory's
  pub outside : IsKey key → Outside ≡ place_in front key → begins dir (parts_of key) ≡ true → length (parts_of key) ≤ length dir
  outside k place b =
      elim (cases_Bool (nat_lt (length dir) (length (parts_of key)))) [
        | inl long ↦ absurd (false≢true (sym (was_outside (starts_with nat_eq key front) (length front) (position is_zero (drop (length front) key)) place) ∙ starts k b (grind (arith, nat_tests, long))))
        | inr short ↦ ltb-false _ _ short
      ]

  -- what stands behind the front, and the place of its first byte 0
  abbrev left : List ℕ
  left = drop (length front) key

  abbrev at : ℕ
  at = position_or_len is_zero left

  module _ (place : Child ≡ place_in front key) where
    as_child : (starts_with nat_eq key front ≡ true) × (position is_zero left ≡ None)
    as_child = was_child (starts_with nat_eq key front) (length front) (position is_zero left) place

    child_is : parts_of key ≡ dir ++ left ∷ []
    child_is = rest_is as_child.0 ∙ ap (λ ps. dir ++ ps) (one_part left (none_at left as_child.1))

    pub child-begins : begins dir (parts_of key) ≡ true
    child-begins = begins_there as_child.0

    pub child-length : length (parts_of key) ≡ length dir + 1
    child-length = ap length child_is ∙ length-append dir (left ∷ [])

    pub child-name : last_of (parts_of key) ≡ left
    child-name =
        let last : length (dir ++ left ∷ []) - 1 ≡ length dir = omega (arith, length-append dir (left ∷ [])) in
        ap last_of child_is ∙ ap (λ n. get_or (dir ++ left ∷ []) n []) last ∙ get_behind dir left []

    pub child-fits : length front ≤ length key
    child-fits = omega (arith, ap length (front_is front key as_child.0), length-append front left)

  module _ (end : ℕ) (place : Below end ≡ place_in front key) where
    as_below : (starts_with nat_eq key front ≡ true) × ((i : ℕ) × (position is_zero left ≡ Some i) × (end ≡ length front + i))
    as_below = was_below (starts_with nat_eq key front) (length front) (position is_zero left) end place

    there : (as_below.1.0 ≡ at) × (at < length left)
    there = some_at left as_below.1.0 as_below.1.1

    parted : (rest : Parts) × (slice_split is_zero left ≡ take at left ∷ rest) × (0 < length rest)
    parted = first_part left there.1

    below_is : parts_of key ≡ dir ++ take at left ∷ parted.0
    below_is = rest_is as_below.0 ∙ ap (λ ps. dir ++ ps) parted.1

    pub below-begins : begins dir (parts_of key) ≡ true
    below-begins = begins_there as_below.0

    pub below-length : length dir + 1 < length (parts_of key)
    below-length = omega (arith, ap length below_is, length-append dir (take at left ∷ parted.0), parted.2)

    pub below-fits : end ≤ length key
    below-fits = omega (arith, as_below.1.2, there.0, there.1, ap length (front_is front key as_below.0), length-append front left)

    -- the key of the child that is above
    pub below-key : take end key ≡ key_bytes dir ++ 0 ∷ get_or (parts_of key) (length dir) []
    below-key =
        ap (λ n. take n key) as_below.1.2
        ∙ ap (take (length front + as_below.1.0)) (front_is front key as_below.0)
        ∙ take_behind front left as_below.1.0
        ∙ ap (λ n. front ++ take n left) there.0
        ∙ ap (λ name. front ++ name) (sym (ap (λ ps. get_or ps (length dir) []) below_is ∙ get_behind dir (take at left) parted.0))
        ∙ ap (λ f. f ++ get_or (parts_of key) (length dir) []) is
        ∙ append_assoc (key_bytes dir) (0 ∷ []) (get_or (parts_of key) (length dir) [])
