-- The lines of a page, by what a page lends.
use Rattle.std.proofs.Common.{◌≡◌, ℕ, Bool, true, false, cond, List, [], ◌∷◌, ◌++◌, map, take, zero, suc, ◌<◌, arith, refl, sym, ap, subst, ◌∙◌}
use Rattle.std.specs.List.{All, AllByRecursion, filter, flat_map}
use Rattle.mt_live.specs.LiveTexts.{IsEntryListable, page_text}
use Rattle.mt_model.specs.Listing.{is_from, listing}
use Rattle.mt_model.specs.Rows.{Rows, children, is_child, row_of}
use Rattle.mt_path.specs.AccountPath.{AccountPath}
use Rattle.mt_tree.specs.Lent.{lent}
use Rattle.mt_tree.specs.Walk.{listed_row}
use Rattle.mt_tree.specs.declared.listing.Listed.{Listed}
use Rattle.mt_types.specs.declared.body.Body.{Body}
use Rattle.mt_types.specs.declared.object.Entry.{Entry}
use Rattle.mt_answer.specs.Judging.{len_of}
use Rattle.mt_answer.specs.Laws.{AreListable}
use Rattle.mt_answer.specs.Lines.{line_of}

-- the lines of rows are those of their names and entries
lines : (rows : Rows Body) → page_text len_of (map row_of rows) ≡ flat_map line_of (map listed_row rows)
lines [] = refl
lines (r ∷ rows) = ap (λ text. line_of (listed_row r) ++ text) (lines rows)

pub page_lines : (rows : Rows Body) (page : List (Listed Body)) → map lent page ≡ map listed_row rows → flat_map line_of (map lent page) ≡ page_text len_of (map row_of rows)
page_lines rows page same = ap (flat_map line_of) same ∙ sym (lines rows)

-- ---- rows of a page can be told

module _ {X : Type 0} (P : X → Type 0) where
  pub kept : (test : X → Bool) (xs : List X) → AllByRecursion P xs → AllByRecursion P (filter test xs)
  kept test [] all = tt
  kept test (x ∷ xs) all = elim (test x) as (λ b. AllByRecursion P (cond b (x ∷ filter test xs) (filter test xs))) [
    | true ↦ (all.0, kept test xs all.1)
    | false ↦ kept test xs all.1
  ]

  pub taken : (n : ℕ) (xs : List X) → AllByRecursion P xs → AllByRecursion P (take n xs)
  taken zero xs all = tt
  taken (suc n) [] all = tt
  taken (suc n) (x ∷ xs) all = (all.0, taken n xs all.1)

listing_listable : (rows : Rows Body) (d : AccountPath) (marker : List ℕ) (limit : ℕ) → AreListable rows → AreListable (listing rows d marker limit)
listing_listable rows d marker limit all =
    taken (λ r. IsEntryListable r.1) limit (filter (λ r. is_from marker r.0) (children rows d))
    (kept (λ r. IsEntryListable r.1) (λ r. is_from marker r.0) (children rows d) (kept (λ r. IsEntryListable r.1) (λ r. is_child d r.0) rows all))

listed_listable : (rows : Rows Body) → AreListable rows → AllByRecursion (λ x. IsEntryListable x.1) (map listed_row rows)
listed_listable [] all = tt
listed_listable (r ∷ rows) all = (all.0, listed_listable rows all.1)

from_lent : (page : List (Listed Body)) → AllByRecursion (λ x. IsEntryListable x.1) (map lent page) → AllByRecursion (λ x. IsEntryListable x.entry.now) page
from_lent [] all = tt
from_lent (x ∷ page) all = (all.0, from_lent page all.1)

page_listable : (rows : Rows Body) (d : AccountPath) (marker : List ℕ) (limit : ℕ) (page : List (Listed Body)) → AreListable rows
    → map lent page ≡ map listed_row (listing rows d marker limit) → AllByRecursion (λ x. IsEntryListable x.entry.now) page
page_listable rows d marker limit page all same =
    from_lent page (subst (λ (xs : List (List ℕ × Entry Body)). AllByRecursion (λ x. IsEntryListable x.1) xs) (sym same) (listed_listable (listing rows d marker limit) (listing_listable rows d marker limit all)))

not_below : (k : ℕ) → k < 0 → ⊥
not_below k below = omega (arith, below)

-- by place
pub by_place : {X : Type 0} (P : X → Type 0) (xs : List X) → AllByRecursion P xs → All P xs
by_place P [] all k d below = absurd (not_below k below)
by_place P (x ∷ xs) all zero d below = all.0
by_place P (x ∷ xs) all (suc k) d below = by_place P xs all.1 k d (omega (arith, below))

pub page_all : (rows : Rows Body) (d : AccountPath) (marker : List ℕ) (limit : ℕ) (page : List (Listed Body)) → AreListable rows
    → map lent page ≡ map listed_row (listing rows d marker limit) → All (λ x. IsEntryListable x.entry.now) page
page_all rows d marker limit page all same = by_place (λ x. IsEntryListable x.entry.now) page (page_listable rows d marker limit page all same)
