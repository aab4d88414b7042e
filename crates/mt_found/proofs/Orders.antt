-- Rows in the order of their names: those from a marker on, those above it, and the rest of them behind a page.
use Rattle.std.proofs.Common.{◌≡◌, ℕ, zero, suc, ◌-◌, ◌<◌, ◌≤◌, Bool, true, false, not, ◌||◌, cond, List, [], ◌∷◌, ◌++◌, length, take, drop, map, bytes_eq, slice_get, Option, Some, None, ◌⊎◌, inl, inr, ⊎_elim, refl, sym, ap, subst, ◌∙◌, arith}
use Rattle.std.specs.Cmp.Lexicographic.{nat_list_cmp_total, slice_cmp}
use Rattle.std.specs.FinMap.{nat_cmp-IsAntisymmetric, slice_cmp-IsAntisymmetric}
use Rattle.std.specs.List.{AllByRecursion, filter}
use Rattle.std.specs.Ordering.{is_le, is_lt, nat_cmp, ordering_reverse}
use Rattle.std.specs.declared.cmp.Ordering.{Ordering}
use Rattle.std.specs.declared.cmp.Ordering.TheVariants.{Less, Equal, Greater}
use Rattle.std.proofs.lemmas.Bool.{and_from, false_from_ne_true}
use Rattle.std.proofs.lemmas.Cmp.{tied_itself}
use Rattle.std.proofs.lemmas.List.{length_push}
use Rattle.std.proofs.lemmas.Slice.Eq.{bytes_eq-Decides}
use Rattle.mt_path.specs.AccountPath.{AccountPath}
use Rattle.mt_types.specs.declared.object.Entry.{Entry}
use Rattle.mt_model.specs.Listing.{is_from, name_of}
use Rattle.mt_model.specs.Rows.{Rows}
use Rattle.mt_page.specs.declared.row.PageRow.{PageRow}
use Rattle.mt_page.specs.Pages.{is_in_order, rises_above}
use Rattle.mt_script.specs.Levels.{behind_marker, last_name}
use Rattle.mt_found.proofs.Lists.{Rising, always, each, filter_all, filter_alike, filter_none, filter_or}
use Rattle.mt_found.proofs.Names.{told}

abbrev pub name_cmp : List ℕ → List ℕ → Ordering
name_cmp = slice_cmp nat_cmp

-- ---- parts of lists

module _ {X : Type 0} where
  -- a list at an element
  pub record Cut (n : ℕ) (xs : List X) : Type 0 where
    pub before : List X
    pub item : X
    pub after : List X
    pub whole : xs ≡ before ++ item ∷ after
    pub front : take (suc n) xs ≡ before ++ item ∷ []
    pub rest : drop (suc n) xs ≡ after

  pub cut : (n : ℕ) (xs : List X) → n < length xs → Cut n xs
  cut n [] lt = absurd (omega arith)
  cut zero (x ∷ xs) lt = record { before = []; item = x; after = xs; whole = refl; front = refl; rest = refl }
  cut (suc n) (x ∷ xs) lt =
      let c = cut n xs (omega arith) in
      record { before = x ∷ c.before; item = c.item; after = c.after; whole = ap (λ l. x ∷ l) c.whole; front = ap (λ l. x ∷ l) c.front; rest = c.rest }

  pub each_taken : (P : X → Type 0) (n : ℕ) (xs : List X) → AllByRecursion P xs → AllByRecursion P (take n xs)
  each_taken P zero xs all = tt
  each_taken P (suc n) [] all = tt
  each_taken P (suc n) (x ∷ xs) all = (all.0, each_taken P n xs all.1)

  pub rising_taken : (R : X → X → Type 0) (n : ℕ) (xs : List X) → Rising R xs → Rising R (take n xs)
  rising_taken R zero xs rising = tt
  rising_taken R (suc n) [] rising = tt
  rising_taken R (suc n) (x ∷ xs) rising = (each_taken (R x) n xs rising.0, rising_taken R n xs rising.1)

  pub rising_each : (P : X → Type 0) (R S : X → X → Type 0) → ((x y : X) → P x → P y → R x y → S x y) → (xs : List X) → AllByRecursion P xs → Rising R xs → Rising S xs
  rising_each P R S more [] all rising = tt
  rising_each P R S more (x ∷ xs) all rising = (those xs all.1 rising.0, rising_each P R S more xs all.1 rising.1)
    where
      those : (ys : List X) → AllByRecursion P ys → AllByRecursion (R x) ys → AllByRecursion (S x) ys
      those [] also less = tt
      those (y ∷ ys) also less = (more x y all.0 also.0 less.0, those ys also.1 less.1)

  at_item : (P : X → Type 0) (xs : List X) (x : X) (ys : List X) → AllByRecursion P (xs ++ x ∷ ys) → P x
  at_item P [] x ys all = all.0
  at_item P (y ∷ xs) x ys all = at_item P xs x ys all.1

  last_item : (xs : List X) (x : X) → slice_get (xs ++ x ∷ []) (length xs) ≡ Some x
  last_item [] x = refl
  last_item (y ∷ xs) x = last_item xs x

-- the name of the last row of a page
pub last_name-push : (rows : List PageRow) (r : PageRow) → last_name (rows ++ r ∷ []) ≡ Some r.name
last_name-push rows r =
    let place : length (rows ++ r ∷ []) - 1 ≡ length rows = omega (arith, length_push rows r) in
    ap (λ n. option_name (slice_get (rows ++ r ∷ []) n)) place ∙ ap option_name (last_item rows r)
  where
    option_name : Option PageRow → Option (List ℕ)
    option_name None = None
    option_name (Some x) = Some x.name

-- ---- names

pub name_itself : (m : List ℕ) → name_cmp m m ≡ Equal
name_itself m = tied_itself nat_list_cmp_total m

pub turned : (m n : List ℕ) → name_cmp m n ≡ Less → name_cmp n m ≡ Greater
turned m n less = nat_list_cmp_total.antisymm n m ∙ ap ordering_reverse less

same_name : (m n : List ℕ) → name_cmp m n ≡ Equal → m ≡ n
same_name m n e = slice_cmp-IsAntisymmetric nat_cmp-IsAntisymmetric m n e

from_cases : (o : Ordering) (b : Bool) → (b ≡ true → o ≡ Equal) → (o ≡ Equal → b ≡ true) → is_le o ≡ (b || is_lt o)
from_cases Less true to back = refl
from_cases Less false to back = refl
from_cases Equal true to back = refl
from_cases Equal false to back = let bad = back refl in cc
from_cases Greater true to back = let bad = to refl in cc
from_cases Greater false to back = refl

above_less : (o : Ordering) → is_lt o ≡ true → o ≡ Less
above_less Less t = refl
above_less Equal t = cc
above_less Greater t = cc

not_from : (o : Ordering) → is_le o ≡ false → o ≡ Greater
not_from Less t = cc
not_from Equal t = cc
not_from Greater t = refl

from_or_equal : (o : Ordering) → is_le o ≡ true → (o ≡ Less) ⊎ (o ≡ Equal)
from_or_equal Less t = inl refl
from_or_equal Equal t = inr refl
from_or_equal Greater t = cc

none_below : (n : List ℕ) → is_le (name_cmp [] n) ≡ true
none_below [] = refl
none_below (b ∷ n) = refl

module _ {B : Type 0} where
  -- a row's name is above that of another
  abbrev pub Above : (AccountPath × Entry B) → (AccountPath × Entry B) → Type 0
  Above r s = name_cmp (name_of r.0) (name_of s.0) ≡ Less

  abbrev pub is_above_name : List ℕ → (AccountPath × Entry B) → Bool
  is_above_name m r = is_lt (name_cmp m (name_of r.0))

  abbrev pub has_name : List ℕ → (AccountPath × Entry B) → Bool
  has_name m r = bytes_eq (name_of r.0) m

  abbrev pub from_name : List ℕ → Rows B → Rows B
  from_name m rows = filter (λ r. is_from m r.0) rows

  abbrev pub above_name : List ℕ → Rows B → Rows B
  above_name m rows = filter (is_above_name m) rows

  never_above : (r s : AccountPath × Entry B) → Above r s → Above s r → ⊥
  never_above r s less more = let bad = turned (name_of s.0) (name_of r.0) more in cc

  pub has_name-is : (m : List ℕ) (r : AccountPath × Entry B) → has_name m r ≡ true → name_of r.0 ≡ m
  has_name-is m r t = (bytes_eq-Decides (name_of r.0) m).0 t

  is-has_name : (m : List ℕ) (r : AccountPath × Entry B) → name_of r.0 ≡ m → has_name m r ≡ true
  is-has_name m r e = (bytes_eq-Decides (name_of r.0) m).1 e

  pub from_none : (rows : Rows B) → from_name [] rows ≡ rows
  from_none rows = filter_all (λ r. is_from [] r.0) rows (always (λ r. is_from [] r.0 ≡ true) (λ r. none_below (name_of r.0)) rows)

  -- from a marker on are its own row and those above it
  pub from_split : (m : List ℕ) (rows : Rows B) → Rising Above rows → from_name m rows ≡ filter (has_name m) rows ++ above_name m rows
  from_split m rows rising =
      filter_alike (λ r. is_from m r.0) (λ r. has_name m r || is_above_name m r) rows
      (always (λ r. is_from m r.0 ≡ (has_name m r || is_above_name m r))
      (λ r. from_cases (name_cmp m (name_of r.0)) (has_name m r)
      (λ t. subst (λ n. name_cmp m n ≡ Equal) (sym (has_name-is m r t)) (name_itself m))
      (λ e. is-has_name m r (sym (same_name m (name_of r.0) e))))
      rows)
      ∙ filter_or Above never_above (has_name m) (is_above_name m)
      (λ r s own above. subst (λ n. name_cmp n (name_of s.0) ≡ Less) (sym (has_name-is m r own)) (above_less (name_cmp m (name_of s.0)) above)) rows rising

  -- at most one row has a name
  single_case : (m : List ℕ) (r : AccountPath × Entry B) (rows : Rows B) (b : Bool) → has_name m r ≡ b → AllByRecursion (Above r) rows
      → length (filter (has_name m) rows) ≤ 1 → length (cond b (r ∷ filter (has_name m) rows) (filter (has_name m) rows)) ≤ 1
  single_case m r rows true own above few =
      let none : filter (has_name m) rows ≡ [] = filter_none (has_name m) rows (each (Above r) (λ s. has_name m s ≡ false) (λ s less. false_from_ne_true (has_name m s)
      (λ t. let tied : name_cmp (name_of r.0) (name_of s.0) ≡ Equal = ap (λ n. name_cmp n (name_of s.0)) (has_name-is m r own ∙ sym (has_name-is m s t)) ∙ name_itself (name_of s.0) in cc)) rows above) in
      omega (arith, ap length none)
  single_case m r rows false other above few = few

  pub single : (m : List ℕ) (rows : Rows B) → Rising Above rows → length (filter (has_name m) rows) ≤ 1
  single m [] rising = omega arith
  single m (r ∷ rows) rising = single_case m r rows (has_name m r) refl rising.0 (single m rows rising.1)

  -- what is before a marker comes before what is from it on
  pub before_marker : (m : List ℕ) (rows : Rows B) → Rising Above rows → rows ≡ filter (λ r. not (is_from m r.0)) rows ++ from_name m rows
  before_marker m rows rising =
      sym (filter_all (λ r. not (is_from m r.0) || is_from m r.0) rows (always (λ r. (not (is_from m r.0) || is_from m r.0) ≡ true) (λ r. one_of (is_from m r.0)) rows))
      ∙ filter_or Above never_above (λ r. not (is_from m r.0)) (λ r. is_from m r.0) (λ r s before from. lower (name_of r.0) (name_of s.0) (under r before) from) rows rising
    where
      one_of : (b : Bool) → (not b || b) ≡ true
      one_of true = refl
      one_of false = refl

      not_true : (b : Bool) → not b ≡ true → b ≡ false
      not_true true t = cc
      not_true false t = refl

      under : (r : AccountPath × Entry B) → not (is_from m r.0) ≡ true → name_cmp (name_of r.0) m ≡ Less
      under r t = nat_list_cmp_total.antisymm (name_of r.0) m ∙ ap ordering_reverse (not_from (name_cmp m (name_of r.0)) (not_true (is_from m r.0) t))

      lower : (a b : List ℕ) → name_cmp a m ≡ Less → is_le (name_cmp m b) ≡ true → name_cmp a b ≡ Less
      lower a b less from = ⊎_elim
          (λ more. nat_list_cmp_total.trans a m b less more)
          (λ tied. subst (λ n. name_cmp a n ≡ Less) (same_name m b tied) less)
          (from_or_equal (name_cmp m b) from)

  -- above a row's name are the rows behind it
  pub above_item : (xs : Rows B) (x : AccountPath × Entry B) (ys : Rows B) → Rising Above (xs ++ x ∷ ys) → above_name (name_of x.0) (xs ++ x ∷ ys) ≡ ys
  above_item [] x ys rising =
      ap (λ o. cond (is_lt o) (x ∷ above_name (name_of x.0) ys) (above_name (name_of x.0) ys)) (name_itself (name_of x.0))
      ∙ filter_all (is_above_name (name_of x.0)) ys (each (Above x) (λ s. is_above_name (name_of x.0) s ≡ true) (λ s less. ap is_lt less) ys rising.0)
  above_item (r ∷ xs) x ys rising =
      ap (λ o. cond (is_lt o) (r ∷ above_name (name_of x.0) (xs ++ x ∷ ys)) (above_name (name_of x.0) (xs ++ x ∷ ys))) (turned (name_of r.0) (name_of x.0) (at_item (Above r) xs x ys rising.0))
      ∙ above_item xs x ys rising.1

  -- ---- a page

  -- what is told of rows whose names rise is in order
  rises : (r : AccountPath × Entry B) (rows : Rows B) → AllByRecursion (Above r) rows → Rising Above rows → rises_above (name_of r.0) (map told rows) ≡ true
  rises r [] above rising = refl
  rises r (s ∷ rows) above rising = and_from (is_lt (name_cmp (name_of r.0) (name_of s.0))) (rises_above (name_of s.0) (map told rows)) (ap is_lt above.0) (rises s rows rising.0 rising.1)

  pub page_in_order : (m : List ℕ) (rows : Rows B) → AllByRecursion (λ r. is_from m r.0 ≡ true) rows → Rising Above rows → is_in_order m (map told rows) ≡ true
  page_in_order m [] from rising = refl
  page_in_order m (r ∷ rows) from rising = and_from (is_le (name_cmp m (name_of r.0))) (rises_above (name_of r.0) (map told rows)) from.0 (rises r rows rising.0 rising.1)

  -- the rows of a page without the marker's own, and those that follow, are those above the marker
  pub record Behind (n : ℕ) (marker : Option (List ℕ)) (from above : Rows B) : Type 0 where
    pub these : Rows B
    pub are : behind_marker marker (map told (take n from)) ≡ map told these
    pub whole : these ++ drop n from ≡ above
