-- A key tells its components, and keys are in the order of the components.
use Rattle.std.proofs.Common.{◌≡◌, ℕ, ◌+◌, ◌-◌, ◌<◌, ◌≤◌, ◌==◌, ◌||◌, Bool, true, false, cond, List, [], ◌∷◌, ◌++◌, length, map, take, drop, get_or, nat_lt, inl, inr, refl, sym, ap, subst, ◌∙◌, arith, zero, suc, append-nil, length-append}
use Rattle.std.specs.List.{AllByRecursion, list_any, onto_first, position_or_len, slice_split}
use Rattle.std.specs.Ordering.{nat_cmp, ordering_then}
use Rattle.std.specs.Cmp.{nat_cmp_is}
use Rattle.std.specs.Cmp.Lexicographic.{slice_cmp}
use Rattle.std.specs.declared.cmp.Ordering.{Ordering}
use Rattle.std.specs.declared.cmp.Ordering.TheVariants.{Less, Equal, Greater}
use Rattle.std.proofs.lemmas.Bool.{cases_order, eqb-true, ltb-false}
use Rattle.std.proofs.lemmas.Bool.Decides.{nat_tests}
use Rattle.std.proofs.lemmas.List.{take-append-drop, take_at, take_all, take_more, drop_at, get_or-append-add, length-drop}
use Rattle.std.proofs.lemmas.List.Concat.{flat_map-append}
use Rattle.std.proofs.lemmas.List.Elements.{recursion_from_All}
use Rattle.memchr.specs.Find.{NoneAfter, Passes, is_byte}
use Rattle.mt_path.specs.AccountPath.{AccountPath, IsComponent, IsPath, is_barred, slash, slashed}
use Rattle.mt_path.specs.Keys.{IsClear, IsKey, Parts, key_bytes, parts_of, shown_byte}

abbrev pub bytes_cmp : List ℕ → List ℕ → Ordering
bytes_cmp = slice_cmp nat_cmp

abbrev pub parts_cmp : Parts → Parts → Ordering
parts_cmp = slice_cmp (slice_cmp nat_cmp)

then_assoc : (r s u : Ordering) → ordering_then (ordering_then r s) u ≡ ordering_then r (ordering_then s u)
then_assoc Less s u = refl
then_assoc Equal s u = refl
then_assoc Greater s u = refl

pub zero_below : (b : ℕ) → 0 < b → nat_cmp 0 b ≡ Less
zero_below b h = sym (nat_cmp_is 0 b Less h)

zero_above : (b : ℕ) → 0 < b → nat_cmp b 0 ≡ Greater
zero_above b h = sym (nat_cmp_is b 0 Greater h)

-- after two components, what follows decides
behind : (c d : List ℕ) (xs ys : Parts) → IsClear c → IsClear d → bytes_cmp (c ++ key_bytes xs) (d ++ key_bytes ys) ≡ ordering_then (bytes_cmp c d) (bytes_cmp (key_bytes xs) (key_bytes ys))
behind [] [] xs ys p q = refl
behind [] (b ∷ d) [] ys p q = refl
behind [] (b ∷ d) (x ∷ xs) ys p q = ap (λ r. ordering_then r (bytes_cmp (x ++ key_bytes xs) (d ++ key_bytes ys))) (zero_below b q.0)
behind (a ∷ c) [] xs [] p q = refl
behind (a ∷ c) [] xs (y ∷ ys) p q = ap (λ r. ordering_then r (bytes_cmp (c ++ key_bytes xs) (y ++ key_bytes ys))) (zero_above a p.0)
behind (a ∷ c) (b ∷ d) xs ys p q = ap (ordering_then (nat_cmp a b)) (behind c d xs ys p.1 q.1) ∙ sym (then_assoc (nat_cmp a b) (bytes_cmp c d) (bytes_cmp (key_bytes xs) (key_bytes ys)))

pub same_order : (p q : Parts) → AllByRecursion IsClear p → AllByRecursion IsClear q → bytes_cmp (key_bytes p) (key_bytes q) ≡ parts_cmp p q
same_order [] [] a b = refl
same_order [] (d ∷ q) a b = refl
same_order (c ∷ p) [] a b = refl
same_order (c ∷ p) (d ∷ q) a b = behind c d p q a.0 b.0 ∙ ap (ordering_then (bytes_cmp c d)) (same_order p q a.1 b.1)

abbrev pub is_zero : ℕ → Bool
is_zero b = b == 0

pub not_zero : (b : ℕ) → 0 < b → is_zero b ≡ false
not_zero b some = grind (arith, nat_tests, some)

-- a component stands before the first byte 0
pub split-before : (c rest : List ℕ) → IsClear c → slice_split is_zero (c ++ 0 ∷ rest) ≡ c ∷ slice_split is_zero rest
split-before [] rest clear = refl
split-before (b ∷ c) rest clear =
    ap (λ t. cond t ([] ∷ slice_split is_zero (c ++ 0 ∷ rest)) (onto_first b (slice_split is_zero (c ++ 0 ∷ rest)))) (not_zero b clear.0)
    ∙ ap (onto_first b) (split-before c rest clear.1)

pub split-last : (c : List ℕ) → IsClear c → slice_split is_zero c ≡ c ∷ []
split-last [] clear = refl
split-last (b ∷ c) clear =
    ap (λ t. cond t ([] ∷ slice_split is_zero c) (onto_first b (slice_split is_zero c))) (not_zero b clear.0)
    ∙ ap (onto_first b) (split-last c clear.1)

split-key : (c : List ℕ) (parts : Parts) → IsClear c → AllByRecursion IsClear parts → slice_split is_zero (c ++ key_bytes parts) ≡ c ∷ parts
split-key c [] clear all = ap (slice_split is_zero) (append-nil c) ∙ split-last c clear
split-key c (d ∷ parts) clear all = split-before c (d ++ key_bytes parts) clear ∙ ap (λ l. c ∷ l) (split-key d parts all.0 all.1)

-- the key of components has these components
pub parts_of-key : (parts : Parts) → AllByRecursion IsClear parts → parts_of (key_bytes parts) ≡ parts
parts_of-key [] all = refl
parts_of-key (c ∷ parts) all = split-key c parts all.0 all.1

pub IsKey-from_parts : (parts : Parts) → AllByRecursion IsClear parts → IsKey (key_bytes parts)
IsKey-from_parts parts all =
    let same = parts_of-key parts all in
    record {
      clear = subst (AllByRecursion IsClear) (sym same) all;
      whole = ap key_bytes (sym same);
    }

pub key_order : (parts : Parts) (key : List ℕ) → AllByRecursion IsClear parts → IsKey key → bytes_cmp (key_bytes parts) key ≡ parts_cmp parts (parts_of key)
key_order parts key all k = ap (bytes_cmp (key_bytes parts)) k.whole ∙ same_order parts (parts_of key) all k.clear

pub keys_order : (a b : List ℕ) → IsKey a → IsKey b → bytes_cmp a b ≡ parts_cmp (parts_of a) (parts_of b)
keys_order a b x y = ap (λ k. bytes_cmp k b) x.whole ∙ key_order (parts_of a) b x.clear y

-- components have no byte 0
or_false : (a b : Bool) → (a || b) ≡ false → (a ≡ false) × (b ≡ false)
or_false true b h = cc
or_false false b h = (refl, h)

clear_name : (name : List ℕ) → list_any is_barred name ≡ false → IsClear name
clear_name [] none = tt
clear_name (b ∷ name) none =
    let both = or_false (is_barred b) (list_any is_barred name) none in
    let low = or_false (nat_lt b 32) _ (or_false _ _ both.0).0 in
    let printed = ltb-false b 32 low.0 in
    (omega (arith, printed), clear_name name both.1)

pub clear_component : (name : List ℕ) → IsComponent name → IsClear name
clear_component name is = clear_name name is.clear

pub clear_names : (parts : Parts) → AllByRecursion IsComponent parts → AllByRecursion IsClear parts
clear_names [] all = tt
clear_names (part ∷ parts) all = (clear_component part all.0, clear_names parts all.1)

pub clear_path : (p : AccountPath) → IsPath p → AllByRecursion IsClear p.parts
clear_path p is = clear_names p.parts (recursion_from_All IsComponent p.parts is.components)

pub length-key : (parts : Parts) → length (key_bytes parts) ≡ length (slashed parts)
length-key [] = refl
length-key (part ∷ parts) = omega (arith, length-append (0 ∷ part) (key_bytes parts), length-append (slash ∷ part) (slashed parts), length-key parts)

-- a key as a text shows its components behind slashes
shown-part : (c rest : List ℕ) → IsClear c → map shown_byte (c ++ rest) ≡ c ++ map shown_byte rest
shown-part [] rest clear = refl
shown-part (b ∷ c) rest clear = ap (λ t. (cond t slash b) ∷ map shown_byte (c ++ rest)) (not_zero b clear.0) ∙ ap (λ l. b ∷ l) (shown-part c rest clear.1)

pub shown-key : (parts : Parts) → AllByRecursion IsClear parts → map shown_byte (key_bytes parts) ≡ slashed parts
shown-key [] all = refl
shown-key (c ∷ parts) all = ap (λ l. slash ∷ l) (shown-part c (key_bytes parts) all.0 ∙ ap (λ l. c ++ l) (shown-key parts all.1))

-- fewer components are clear too
pub clear-take : (n : ℕ) (parts : Parts) → AllByRecursion IsClear parts → AllByRecursion IsClear (take n parts)
clear-take zero parts all = tt
clear-take (suc n) [] all = tt
clear-take (suc n) (c ∷ parts) all = (all.0, clear-take n parts all.1)

pub clear-drop : (n : ℕ) (parts : Parts) → AllByRecursion IsClear parts → AllByRecursion IsClear (drop n parts)
clear-drop zero parts all = all
clear-drop (suc n) [] all = tt
clear-drop (suc n) (c ∷ parts) all = clear-drop n parts all.1

pub clear-push : (parts : Parts) (name : List ℕ) → AllByRecursion IsClear parts → IsClear name → AllByRecursion IsClear (parts ++ name ∷ [])
clear-push [] name all clear = (clear, tt)
clear-push (c ∷ parts) name all clear = (all.0, clear-push parts name all.1 clear)

-- the key with a component more
pub key-push : (parts : Parts) (name : List ℕ) → key_bytes (parts ++ name ∷ []) ≡ key_bytes parts ++ 0 ∷ name
key-push parts name = flat_map-append (λ part. 0 ∷ part) parts (name ∷ []) ∙ ap (λ l. key_bytes parts ++ 0 ∷ l) (append-nil name)

-- a key is that of its first components, and that of the others
pub key-cut : (n : ℕ) (parts : Parts) → key_bytes parts ≡ key_bytes (take n parts) ++ key_bytes (drop n parts)
key-cut n parts = ap key_bytes (sym (take-append-drop n parts)) ∙ flat_map-append (λ part. 0 ∷ part) (take n parts) (drop n parts)

-- the first component ends at the first byte 0 behind it
first_zero : (c : List ℕ) (parts : Parts) → IsClear c → position_or_len is_zero (c ++ key_bytes parts) ≡ length c
first_zero [] [] clear = refl
first_zero [] (d ∷ parts) clear = refl
first_zero (b ∷ c) parts clear = rw (not_zero b clear.0) (omega (arith, first_zero c parts clear.1))

pub record FirstOf (parts : Parts) (rest : List ℕ) : Type 0 where
  pub first : take (position_or_len is_zero rest) rest ≡ get_or parts 0 []
  pub others : drop (position_or_len is_zero rest) rest ≡ key_bytes (drop 1 parts)

pub first_of : (parts : Parts) (b : ℕ) (rest : List ℕ) → AllByRecursion IsClear parts → b ∷ rest ≡ key_bytes parts → FirstOf parts rest
first_of [] b rest all e = cc
first_of (c ∷ parts) b rest all e =
    let is : rest ≡ c ++ key_bytes parts = ap (drop 1) e in
    let end : position_or_len is_zero rest ≡ length c = ap (position_or_len is_zero) is ∙ first_zero c parts all.0 in
    record {
      first = ap (λ n. take n rest) end ∙ ap (take (length c)) is ∙ take_at c (key_bytes parts) (length c) refl;
      others = ap (λ n. drop n rest) end ∙ ap (drop (length c)) is ∙ drop_at c (key_bytes parts) (length c) refl;
    }

rest_is : (key : List ℕ) → take (length key - 1) (drop 1 key) ≡ drop 1 key
rest_is [] = refl
rest_is (b ∷ key) = take_all (length (b ∷ key) - 1) key (omega arith)

pub first_of-key : (key : List ℕ) → IsKey key → 1 ≤ length key → FirstOf (parts_of key) (take (length key - 1) (drop 1 key))
first_of-key [] k some = absurd (omega arith)
first_of-key (b ∷ rest) k some = subst (FirstOf (parts_of (b ∷ rest))) (sym (rest_is (b ∷ rest))) (first_of (parts_of (b ∷ rest)) b rest k.clear k.whole)

pub behind-is : (key : List ℕ) (n : ℕ) → IsKey key → 1 ≤ length key → n ≡ position_or_len is_zero (take (length key - 1) (drop 1 key)) → take (length (take (length key - 1) (drop 1 key)) - n) (drop n (take (length key - 1) (drop 1 key))) ≡ key_bytes (drop 1 (parts_of key))
behind-is key n k some at =
    let rest : List ℕ = take (length key - 1) (drop 1 key) in
    take_all (length rest - n) (drop n rest) (omega (arith, length-drop n rest)) ∙ ap (λ m. drop m rest) at ∙ (first_of-key key k some).others

-- a key that is that of some components
pub parts-from_key : (key : List ℕ) (parts : Parts) → AllByRecursion IsClear parts → key ≡ key_bytes parts → parts_of key ≡ parts
parts-from_key key parts all e = ap parts_of e ∙ parts_of-key parts all

pub IsKey-from_key : (key : List ℕ) (parts : Parts) → AllByRecursion IsClear parts → key ≡ key_bytes parts → IsKey key
IsKey-from_key key parts all e = subst IsKey (sym e) (IsKey-from_parts parts all)

pub key-injective : (xs ys : Parts) → AllByRecursion IsClear xs → AllByRecursion IsClear ys → key_bytes xs ≡ key_bytes ys → xs ≡ ys
key-injective xs ys a b e = sym (parts_of-key xs a) ∙ ap parts_of e ∙ parts_of-key ys b

pub some_parts : (key : List ℕ) → IsKey key → 0 < length key → 0 < length (parts_of key)
some_parts key k some = some_from (parts_of key) k.whole
  where
    some_from : (parts : Parts) → key ≡ key_bytes parts → 0 < length parts
    some_from [] e = absurd (omega (arith, some, ap length e))
    some_from (c ∷ parts) e = omega arith

-- the last byte 0 of a key begins its last component
above_zero : (c : List ℕ) (i : ℕ) → IsClear c → i < length c → 0 < get_or c i 0
above_zero [] i clear within = absurd (omega arith)
above_zero (b ∷ c) zero clear within = clear.0
above_zero (b ∷ c) (suc i) clear within = above_zero c i clear.1 (omega arith)

clear-at : (parts : Parts) (i : ℕ) → AllByRecursion IsClear parts → i < length parts → IsClear (get_or parts i [])
clear-at [] i all within = absurd (omega arith)
clear-at (c ∷ parts) zero all within = all.0
clear-at (c ∷ parts) (suc i) all within = clear-at parts i all.1 (omega arith)

last_part : (parts : Parts) → 0 < length parts → parts ≡ take (length parts - 1) parts ++ get_or parts (length parts - 1) [] ∷ []
last_part parts some =
    sym (take_all (length parts - 1 + 1) parts (omega arith)) ∙ take_more parts (length parts - 1) [] (omega arith)

-- the place of the byte 0 before a last component
last_of : (front c : List ℕ) (key : List ℕ) (i : ℕ) → IsClear c → key ≡ front ++ 0 ∷ c → NoneAfter (Passes (is_byte 0) key) 0 (length key) i → get_or key i 0 ≡ 0 → i ≡ length front
last_of front c key i clear e none passes =
    elim (cases_order i (length front)) [
      | inl same ↦ same
      | inr (inl below) ↦ absurd (none.after (length front) (omega (arith, below)) (omega (arith, long)) (passes_at (length front) zero_there))
      | inr (inr above) ↦
          let k : ℕ = i - length front - 1 in
          let at : get_or key i 0 ≡ get_or c k 0 = ap (λ l. get_or l i 0) e ∙ ap (λ n. get_or (front ++ 0 ∷ c) n 0) (omega (arith, above)) ∙ get_or-append-add front (0 ∷ c) (suc k) 0 in
          absurd (omega (arith, above_zero c k clear (omega (arith, above, none.high, long)), at, passes))
    ]
  where
    long : length key ≡ length front + (1 + length c)
    long = omega (arith, ap length e, length-append front (0 ∷ c))

    zero_there : get_or key (length front) 0 ≡ 0
    zero_there = ap (λ l. get_or l (length front) 0) e ∙ ap (λ n. get_or (front ++ 0 ∷ c) n 0) (omega arith) ∙ get_or-append-add front (0 ∷ c) 0 0

    passes_at : (k : ℕ) → get_or key k 0 ≡ 0 → Passes (is_byte 0) key k
    passes_at k is = ap (is_byte 0) is

-- what stands before the last byte 0 is the key of the path above
pub before_last : (key : List ℕ) (i : ℕ) → IsKey key → NoneAfter (Passes (is_byte 0) key) 0 (length key) i × Passes (is_byte 0) key i → take i key ≡ key_bytes (take (length (parts_of key) - 1) (parts_of key))
before_last key i k last =
    let parts : Parts = parts_of key in
    let n : ℕ = length parts - 1 in
    let within : i < length key = last.0.high in
    let some : 0 < length parts = some_parts key k (omega (arith, within)) in
    let front : List ℕ = key_bytes (take n parts) in
    let c : List ℕ = get_or parts n [] in
    let is : key ≡ front ++ 0 ∷ c = k.whole ∙ ap key_bytes (last_part parts some) ∙ key-push (take n parts) c in
    let end : i ≡ length front = last_of front c key i (clear-at parts n k.clear (omega (arith, some))) is last.0 (eqb-true _ _ last.1) in
    ap (λ m. take m key) end ∙ ap (take (length front)) is ∙ take_at front (0 ∷ c) (length front) refl

-- where no byte 0 stands, there are no components
nowhere : (parts : Parts) (key : List ℕ) → key ≡ key_bytes parts → ((j : ℕ) → 0 ≤ j → j < length key → Passes (is_byte 0) key j → ⊥) → parts ≡ []
nowhere [] key e none = refl
nowhere (c ∷ parts) key e none = absurd (none 0 (omega arith) (omega (arith, ap length e)) (ap (λ l. is_byte 0 (get_or l 0 0)) e))

pub without_zero : (key : List ℕ) → IsKey key → ((j : ℕ) → 0 ≤ j → j < length key → Passes (is_byte 0) key j → ⊥) → key ≡ key_bytes (take (length (parts_of key) - 1) (parts_of key))
without_zero key k none =
    let no : parts_of key ≡ [] = nowhere (parts_of key) key k.whole none in
    k.whole ∙ ap key_bytes no ∙ sym (ap (λ parts. key_bytes (take (length parts - 1) parts)) no)
