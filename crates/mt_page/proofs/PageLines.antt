-- The rows of lines, one by one.
use Rattle.std.proofs.Common.{◌≡◌, ℕ, List, [], ◌∷◌, ◌++◌, Option, Some, None, option_map, option_and_then, refl, sym, ap, ◌∙◌, append-nil, append_assoc}
use Rattle.mt_json.specs.Lines.{each, first_line, lines_of}
use Rattle.mt_json.proofs.LineParts.{lines_of-first, lines_of-none}
use Rattle.mt_path.specs.AccountPath.{AccountPath}
use Rattle.mt_page.specs.declared.row.PageRow.{PageRow}
use Rattle.mt_page.specs.Pages.{row_of, rows_in}

-- rows, and those that lines are, if each is one
abbrev pub onto : List PageRow → Option (List PageRow) → Option (List PageRow)
onto rows more = option_map (λ rs. rows ++ rs) more

module _ (dir : AccountPath) where
  rows_in-line : (bytes line behind : List ℕ) → first_line bytes ≡ Some (line, behind) → rows_in dir bytes ≡ option_and_then (λ r. option_map (λ rs. r ∷ rs) (rows_in dir behind)) (row_of dir line)
  rows_in-line bytes line behind is = ap (option_and_then (each (row_of dir))) (lines_of-first bytes line behind is) ∙ split (lines_of behind)
    where
      none : (o : Option PageRow) → ◌≡◌ {A = Option (List PageRow)} None (option_and_then (λ r. option_map (λ rs. r ∷ rs) None) o)
      none None = refl
      none (Some r) = refl

      split : (o : Option (List (List ℕ))) → option_and_then (each (row_of dir)) (option_map (λ ls. line ∷ ls) o) ≡ option_and_then (λ r. option_map (λ rs. r ∷ rs) (option_and_then (each (row_of dir)) o)) (row_of dir line)
      split None = none (row_of dir line)
      split (Some ls) = refl

  onto_cons : (rows : List PageRow) (r : PageRow) (o : Option (List PageRow)) → onto rows (option_map (λ rs. r ∷ rs) o) ≡ onto (rows ++ r ∷ []) o
  onto_cons rows r None = refl
  onto_cons rows r (Some rs) = ap (λ l. Some l) (sym (append_assoc rows (r ∷ []) rs))

  -- none yet
  pub onto_nothing : (o : Option (List PageRow)) → o ≡ onto [] o
  onto_nothing None = refl
  onto_nothing (Some rs) = refl

  module _ (whole bytes : List ℕ) (rows : List PageRow) (so_far : rows_in dir whole ≡ onto rows (rows_in dir bytes)) where
    -- one more
    pub one_more : (line behind : List ℕ) (r : PageRow) → first_line bytes ≡ Some (line, behind) → row_of dir line ≡ Some r → rows_in dir whole ≡ onto (rows ++ r ∷ []) (rows_in dir behind)
    one_more line behind r is row =
        so_far ∙ ap (onto rows) (rows_in-line bytes line behind is ∙ ap (option_and_then (λ x. option_map (λ rs. x ∷ rs) (rows_in dir behind))) row) ∙ onto_cons rows r (rows_in dir behind)

    -- a line is none
    pub no_row : (line behind : List ℕ) → first_line bytes ≡ Some (line, behind) → row_of dir line ≡ None → None ≡ rows_in dir whole
    no_row line behind is row = sym (so_far ∙ ap (onto rows) (rows_in-line bytes line behind is ∙ ap (option_and_then (λ x. option_map (λ rs. x ∷ rs) (rows_in dir behind))) row))

    -- something stands behind the last line
    pub no_line : (bytes ≡ [] → ⊥) → first_line bytes ≡ None → None ≡ rows_in dir whole
    no_line some is = sym (so_far ∙ ap (λ o. onto rows (option_and_then (each (row_of dir)) o)) (lines_of-none bytes some is))

    -- all lines are read
    pub all_rows : bytes ≡ [] → Some rows ≡ rows_in dir whole
    all_rows none = sym (so_far ∙ ap (λ l. onto rows (rows_in dir l)) none ∙ ap (λ l. Some l) (append-nil rows))
