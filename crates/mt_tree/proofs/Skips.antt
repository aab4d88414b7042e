-- Past a row below a directory, the next child is that of the next greater name.
use Rattle.std.proofs.Common.{◌≡◌, ℕ, ◌<◌, ◌==◌, Bool, true, false, cond, List, [], ◌∷◌, ◌++◌, refl, sym, ap, subst, ◌∙◌, arith}
use Rattle.std.specs.Cmp.{nat_cmp_is, unsigned_Decides, IsTotalOrder}
use Rattle.std.specs.Cmp.Lexicographic.{lists_total, nat_list_cmp_total}
use Rattle.std.specs.FinMap.{slice_cmp-IsAntisymmetric, nat_cmp-IsAntisymmetric}
use Rattle.std.specs.List.{AllByRecursion, filter}
use Rattle.std.specs.Map.{keys_of}
use Rattle.std.specs.Ordering.{nat_cmp, is_le, ordering_then, ordering_reverse}
use Rattle.std.specs.declared.cmp.Ordering.TheVariants.{Less, Equal, Greater}
use Rattle.std.specs.declared.cmp.Ordering.{Ordering}
use Rattle.std.proofs.lemmas.Bool.Decides.{nat_tests}
use Rattle.std.proofs.lemmas.Cmp.{ranked}
use Rattle.mt_tree.specs.AreaRows.{parts_cmp}
use Rattle.mt_path.specs.Keys.{IsClear, Parts}
use Rattle.mt_path.proofs.Keys.{zero_below}
use Rattle.mt_tree.specs.Walk.{below_by_one, cleared, is_from_name, is_one_below, last_of, next_name}
use Rattle.mt_tree.proofs.Intervals.{name_cmp, below_cmp, one_below-is, later_children, from_parts}

total : IsTotalOrder parts_cmp
total = lists_total nat_list_cmp_total

exact : (p q : Parts) → parts_cmp p q ≡ Equal → p ≡ q
exact = slice_cmp-IsAntisymmetric (slice_cmp-IsAntisymmetric nat_cmp-IsAntisymmetric)

none_first : (bs : List ℕ) → is_le (name_cmp [] bs) ≡ true
none_first [] = refl
none_first (b ∷ bs) = refl

then_agrees : (r s u : Ordering) → is_le s ≡ is_le u → is_le (ordering_then r s) ≡ is_le (ordering_then r u)
then_agrees Less s u e = refl
then_agrees Equal s u e = e
then_agrees Greater s u e = refl

least : (b : ℕ) (bs : List ℕ) → 0 < b → is_le (name_cmp (1 ∷ []) (b ∷ bs)) ≡ true
least b bs some = elim (nat_cmp 1 b) as (λ r. nat_cmp 1 b ≡ r → is_le (ordering_then r (name_cmp [] bs)) ≡ true) [
  | Less ↦ λ e. refl
  | Equal ↦ λ e. none_first bs
  | Greater ↦ λ e. absurd (omega (arith, some, ranked 1 b Greater (sym e)))
] refl

-- what is above a name is from the next name on
from_above : (n m : List ℕ) → IsClear m → name_cmp n m ≡ Less → is_le (name_cmp (next_name n) m) ≡ true
from_above [] [] clear h = cc
from_above [] (b ∷ m) clear h = least b m clear.0
from_above (a ∷ n) [] clear h = cc
from_above (a ∷ n) (b ∷ m) clear h = elim (nat_cmp a b) as (λ r. ordering_then r (name_cmp n m) ≡ Less → is_le (ordering_then r (name_cmp (next_name n) m)) ≡ true) [
  | Less ↦ λ e. refl
  | Equal ↦ λ e. from_above n m clear.1 e
  | Greater ↦ λ e. cc
] h

-- a marker without a byte 0 has the same names above it
pub cleared-agrees : (m n : List ℕ) → IsClear n → is_le (name_cmp (cleared m) n) ≡ is_le (name_cmp m n)
cleared-agrees [] n clear = refl
cleared-agrees (b ∷ m) [] clear = elim (b == 0) as (λ t. is_le (name_cmp (cond t (1 ∷ []) (b ∷ cleared m)) []) ≡ false) [ true ↦ refl | false ↦ refl ]
cleared-agrees (b ∷ m) (x ∷ n) clear = elim (b == 0) as (λ t. (b == 0) ≡ t → is_le (name_cmp (cond t (1 ∷ []) (b ∷ cleared m)) (x ∷ n)) ≡ is_le (ordering_then (nat_cmp b x) (name_cmp m n))) [
  | true ↦ λ e.
      let zero_is : b ≡ 0 = (unsigned_Decides b 0).0 e in
      let low : nat_cmp b x ≡ Less = ap (λ z. nat_cmp z x) zero_is ∙ zero_below x clear.0 in
      least x n clear.0 ∙ sym (ap (λ r. is_le (ordering_then r (name_cmp m n))) low)
  | false ↦ λ e. then_agrees (nat_cmp b x) (name_cmp (cleared m) n) (name_cmp m n) (cleared-agrees m n clear.1)
] refl

-- the next name of a name without a byte 0 has none
pub next-clear : (n : List ℕ) → IsClear n → IsClear (next_name n)
next-clear [] clear = (omega arith, tt)
next-clear (b ∷ n) clear = (clear.0, next-clear n clear.1)

cleared-clear-one : (b : ℕ) (m : List ℕ) (t : Bool) → (b == 0) ≡ t → IsClear (cleared m) → IsClear (cond t (1 ∷ []) (b ∷ cleared m))
cleared-clear-one b m true e rest = (omega arith, tt)
cleared-clear-one b m false e rest = (grind (arith, nat_tests, e), rest)

pub cleared-clear : (m : List ℕ) → IsClear (cleared m)
cleared-clear [] = tt
cleared-clear (b ∷ m) = cleared-clear-one b m (b == 0) refl (cleared-clear m)

not_before : (more : Parts) → parts_cmp more [] ≡ Less → Equal ≡ Less
not_before [] e = e
not_before (x ∷ more) e = cc

first_less : (c : List ℕ) (more : Parts) (n : List ℕ) → parts_cmp (c ∷ more) (n ∷ []) ≡ Less → name_cmp c n ≡ Less
first_less c more n h = elim (name_cmp c n) as (λ r. ordering_then r (parts_cmp more []) ≡ Less → r ≡ Less) [
  | Less ↦ λ e. refl
  | Equal ↦ λ e. not_before more e
  | Greater ↦ λ e. e
] h

-- a child that comes after a row is from the name next to the row's component on
clear_last : (d : Parts) (c : List ℕ) → AllByRecursion IsClear (d ++ c ∷ []) → IsClear c
clear_last [] c all = all.0
clear_last (x ∷ d) c all = clear_last d c all.1

child_above : (d : Parts) (c : List ℕ) (more y : Parts) → AllByRecursion IsClear y → parts_cmp (d ++ c ∷ more) y ≡ Less → is_one_below d y ≡ true → is_from_name (next_name c) y ≡ true
child_above d c more y clear h t =
    let e : parts_cmp (d ++ c ∷ more) (d ++ last_of y ∷ []) ≡ Less = ap (parts_cmp (d ++ c ∷ more)) (sym (one_below-is d y t)) ∙ h in
    from_above c (last_of y) (clear_last d (last_of y) (subst (AllByRecursion IsClear) (one_below-is d y t) clear)) (first_less c more (last_of y) (sym (below_cmp d (c ∷ more) (last_of y ∷ [])) ∙ e))

module _ {X : Type 0} (d : Parts) (c : List ℕ) (more : Parts) where
  one_kept : (y : Parts × X) (b : Bool) → AllByRecursion IsClear y.0 → is_one_below d y.0 ≡ b → parts_cmp (d ++ c ∷ more) y.0 ≡ Less → (l : List (Parts × X))
      → filter (λ r. is_from_name (next_name c) r.0) (cond b (y ∷ l) l) ≡ cond b (y ∷ filter (λ r. is_from_name (next_name c) r.0) l) (filter (λ r. is_from_name (next_name c) r.0) l)
  one_kept y true clear t h l = ap (λ b. cond b (y ∷ filter (λ r. is_from_name (next_name c) r.0) l) (filter (λ r. is_from_name (next_name c) r.0) l)) (child_above d c more y.0 clear h t)
  one_kept y false clear t h l = refl

  -- so no child is lost by going on at the next name
  none_lost : (rest : List (Parts × X)) → AllByRecursion (λ q. AllByRecursion IsClear q) (keys_of rest) → AllByRecursion (λ y. parts_cmp (d ++ c ∷ more) y ≡ Less) (keys_of rest) → filter (λ r. is_from_name (next_name c) r.0) (below_by_one rest d) ≡ below_by_one rest d
  none_lost [] clear a = refl
  none_lost (y ∷ rest) clear a =
      one_kept y (is_one_below d y.0) clear.0 refl a.0 (below_by_one rest d)
      ∙ ap (λ l. cond (is_one_below d y.0) (y ∷ l) l) (none_lost rest clear.1 a.1)

  -- the children among what is left are those from the next name on
  pub skipped : (rest : List (Parts × X)) → AllByRecursion (λ q. AllByRecursion IsClear q) (keys_of rest) → AllByRecursion (λ y. parts_cmp (d ++ c ∷ more) y ≡ Less) (keys_of rest) → below_by_one (from_parts (d ++ next_name c ∷ []) rest) d ≡ below_by_one rest d
  skipped rest clear a = later_children d (next_name c) rest ∙ none_lost rest clear a

weaken : (s t q : Parts) → parts_cmp s t ≡ Less → is_le (parts_cmp t q) ≡ true → is_le (parts_cmp s q) ≡ true
weaken s t q l h = elim (parts_cmp t q) as (λ r. parts_cmp t q ≡ r → is_le r ≡ true → is_le (parts_cmp s q) ≡ true) [
  | Less ↦ λ e g. ap is_le (total.trans s t q l e)
  | Equal ↦ λ e g. ap (λ z. is_le (parts_cmp s z)) (sym (exact t q e)) ∙ ap is_le l
  | Greater ↦ λ e g. cc
] refl h

name_below : (c : List ℕ) → name_cmp c (next_name c) ≡ Less
name_below [] = refl
name_below (a ∷ c) = ap (λ r. ordering_then r (name_cmp c (next_name c))) (sym (nat_cmp_is a a Equal refl)) ∙ name_below c

-- a row is below the next name
pub row_below : (d : Parts) (c : List ℕ) (more : Parts) → parts_cmp (d ++ c ∷ more) (d ++ next_name c ∷ []) ≡ Less
row_below d c more = below_cmp d (c ∷ more) (next_name c ∷ []) ∙ ap (λ r. ordering_then r (parts_cmp more [])) (name_below c)

pub reversed : (x t : Parts) → parts_cmp x t ≡ Less → is_le (parts_cmp t x) ≡ false
reversed x t l = ap is_le (total.antisymm t x ∙ ap ordering_reverse l)

-- what is not above one path and is above another
pub between : (s x t : Parts) → is_le (parts_cmp s x) ≡ true → parts_cmp x t ≡ Less → parts_cmp s t ≡ Less
between s x t h l = elim (parts_cmp s x) as (λ r. parts_cmp s x ≡ r → is_le r ≡ true → parts_cmp s t ≡ Less) [
  | Less ↦ λ e g. total.trans s x t e l
  | Equal ↦ λ e g. total.congr s x t e ∙ l
  | Greater ↦ λ e g. cc
] refl h

module _ {X : Type 0} (s t : Parts) (l : parts_cmp s t ≡ Less) where
  not_there : (r : Parts × X) (rows : List (Parts × X)) (b : Bool) → is_le (parts_cmp t r.0) ≡ b → is_le (parts_cmp s r.0) ≡ false → from_parts t rows ≡ cond b (r ∷ from_parts t rows) (from_parts t rows)
  not_there r rows true e n = let w = weaken s t r.0 l e in cc
  not_there r rows false e n = refl

  -- what is from a path on is so among the rows from a lower one on
  pub twice : (rows : List (Parts × X)) → from_parts t (from_parts s rows) ≡ from_parts t rows
  twice [] = refl
  twice (r ∷ rows) = elim (is_le (parts_cmp s r.0)) as (λ b. is_le (parts_cmp s r.0) ≡ b → from_parts t (cond b (r ∷ from_parts s rows) (from_parts s rows)) ≡ from_parts t (r ∷ rows)) [
    | true ↦ λ e. ap (λ rs. cond (is_le (parts_cmp t r.0)) (r ∷ rs) rs) (twice rows)
    | false ↦ λ e. twice rows ∙ not_there r rows (is_le (parts_cmp t r.0)) refl e
  ] refl
