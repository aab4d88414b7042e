-- What rows show, one by one.
use Rattle.std.proofs.Common.{◌≡◌, ℕ, Bool, List, [], ◌∷◌, ◌++◌, Some, None, refl, sym, ap, ◌∙◌, append_assoc, append-nil}
use Rattle.mt_path.specs.AccountPath.{AccountPath, path_text}
use Rattle.mt_page.specs.declared.row.PageRow.{PageRow}
use Rattle.mt_script.specs.Levels.{Shown, entered, row_line, shown, shown_by}

-- behind a text the rest shows what the whole shows behind another
pub record StillShows (before : List ℕ) (whole : Shown) (now : List ℕ) (rest : Shown) : Type 0 where
  pub text : now ++ rest.text ≡ before ++ whole.text
  pub into : rest.into ≡ whole.into
  pub left : rest.left ≡ whole.left

pub still_first : (before : List ℕ) (whole : Shown) → StillShows before whole before whole
still_first before whole = record { text = refl; into = refl; left = refl }

module _ (deep : Bool) (login : List ℕ) (dir : AccountPath) (before : List ℕ) (whole : Shown) (now : List ℕ) (r : PageRow) (rows : List PageRow) where
  -- a row that isn't gone into
  pub row_passed : StillShows before whole now (shown deep login dir (r ∷ rows)) → entered deep dir r ≡ None → StillShows before whole (now ++ row_line deep (path_text login dir) r) (shown deep login dir rows)
  row_passed so_far none =
      let line = row_line deep (path_text login dir) r in
      let is = ap (shown_by line rows (shown deep login dir rows)) none in
      record {
        text = append_assoc now line (shown deep login dir rows).text ∙ (ap (λ (s : Shown). now ++ s.text) (sym is) ∙ so_far.text);
        into = ap (λ (s : Shown). s.into) (sym is) ∙ so_far.into;
        left = ap (λ (s : Shown). s.left) (sym is) ∙ so_far.left;
      }

  -- one that is
  pub row_entered : (p : AccountPath) → StillShows before whole now (shown deep login dir (r ∷ rows)) → entered deep dir r ≡ Some p
      → (now ++ row_line deep (path_text login dir) r ≡ before ++ whole.text) × (Some p ≡ whole.into) × (rows ≡ whole.left)
  row_entered p so_far some =
      let line = row_line deep (path_text login dir) r in
      let is = ap (shown_by line rows (shown deep login dir rows)) some in (
        ap (λ (s : Shown). now ++ s.text) (sym is) ∙ so_far.text,
        ap (λ (s : Shown). s.into) (sym is) ∙ so_far.into,
        ap (λ (s : Shown). s.left) (sym is) ∙ so_far.left,
      )

-- no row is left
pub rows_over : (deep : Bool) (login : List ℕ) (dir : AccountPath) (before : List ℕ) (whole : Shown) (now : List ℕ) → StillShows before whole now (shown deep login dir [])
    → (now ≡ before ++ whole.text) × (None ≡ whole.into) × ([] ≡ whole.left)
rows_over deep login dir before whole now so_far = (sym (append-nil now) ∙ so_far.text, so_far.into, so_far.left)
