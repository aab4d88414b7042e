-- What a look-up of a kept row says of the rows.
use Rattle.std.proofs.Common.{◌≡◌, ℕ, ◌<◌, List, [], ◌∷◌, length, Option, Some, None, refl, sym, ap, ◌∙◌, arith}
use Rattle.std.specs.Prelude.{IfSome}
use Rattle.std.specs.Map.{lookup}
use Rattle.std.specs.Option.{option_map}
use Rattle.mt_path.specs.AccountPath.{AccountPath}
use Rattle.mt_path.specs.declared.area.Area.{Area}
use Rattle.mt_model.specs.Rows.{Rows, is_path, at, above_refusal, children, directory_refusal, is_directory, parent_refusal}
use Rattle.mt_model.proofs.Children.{above, parent-above, no_children}
use Rattle.mt_tree.specs.declared.kept.KeptRow.{KeptRow}
use Rattle.mt_tree.specs.AreaRows.{IsKept, parts_above, rows_of}
use Rattle.mt_path.specs.Keys.{Parts}
use Rattle.mt_tree.proofs.Grown.{number-is}
use Rattle.mt_tree.proofs.Joined.{path_in}
use Rattle.mt_tree.proofs.Placed.{path_is}
use Rattle.mt_tree.proofs.Valued.{lookup-valued}

same_number : {B : Type 0} (o : Option (KeptRow B)) (row : KeptRow B) (n : ℕ) → o ≡ Some row → IfSome o (λ r. r.children ≡ n) → row.children ≡ n
same_number None row n found counted = cc
same_number (Some r) row n found counted = let same : r ≡ row = cc in ap (λ x. x.children) (sym same) ∙ counted

module _ {B : Type 0} (kept : List (AccountPath × KeptRow B)) (p : AccountPath) where
  pub at-found : (row : KeptRow B) → lookup (is_path p) kept ≡ Some row → at (rows_of kept) p ≡ Some row.entry
  at-found row found = lookup-valued (λ row. row.entry) (is_path p) kept ∙ ap (option_map (λ row. row.entry)) found

  pub at-missing : lookup (is_path p) kept ≡ None → at (rows_of kept) p ≡ None
  at-missing missing = lookup-valued (λ row. row.entry) (is_path p) kept ∙ ap (option_map (λ row. row.entry)) missing

  pub count-found : IsKept kept → (row : KeptRow B) → lookup (is_path p) kept ≡ Some row → row.children ≡ length (children (rows_of kept) p)
  count-found k row found = same_number (lookup (is_path p) kept) row _ found (number-is kept k.counts p)

  pub count-missing : IsKept kept → lookup (is_path p) kept ≡ None → 0 ≡ length (children (rows_of kept) p)
  count-missing k missing = sym (no_children (rows_of kept) k.tree p (ap is_directory (at-missing missing)))

-- the refusal of the parent, below a root
pub parent_refusal-below : {B : Type 0} (rows : Rows B) (p : AccountPath) → 0 < length p.parts → parent_refusal rows p ≡ directory_refusal (at rows (above p))
parent_refusal-below rows p some = ap (above_refusal rows) (parent-above p some)

pub parent_refusal-at : {B : Type 0} (rows : Rows B) (p : AccountPath) (area : Area) (parts : Parts) → area ≡ p.area → parts ≡ parts_above p.parts → (p.parts ≡ [] → ⊥)
    → directory_refusal (at rows (path_in area parts)) ≡ parent_refusal rows p
parent_refusal-at rows p area parts area_is parts_is not_root =
    ap (λ q. directory_refusal (at rows q)) (path_is (above p) area parts area_is parts_is) ∙ sym (parent_refusal-below rows p (some p.parts not_root))
  where
    some : (ps : Parts) → (ps ≡ [] → ⊥) → 0 < length ps
    some [] not_none = absurd (not_none refl)
    some (c ∷ ps) not_none = omega arith
