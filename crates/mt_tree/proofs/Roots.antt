-- Three roots are kept.
use Rattle.std.proofs.Common.{◌≡◌, ℕ, Bool, true, false, cond, List, [], ◌∷◌, Option, Some, None, refl, sym, ap, subst, ◌∙◌, arith}
use Rattle.std.specs.Prelude.{IfSome}
use Rattle.std.specs.Map.{keys_of}
use Rattle.std.proofs.lemmas.List.Elements.{All-from_recursion}
use Rattle.mt_path.specs.AccountPath.{AccountPath, IsPath, root_of}
use Rattle.mt_path.specs.declared.area.Area.{Area}
use Rattle.mt_path.specs.declared.area.Area.TheVariants.{Stor, Public, Jobs}
use Rattle.mt_types.specs.declared.object.Entry.TheVariants.{Directory}
use Rattle.mt_model.specs.Rows.{is_path}
use Rattle.mt_model.proofs.RowLaws.{IsTree-first_rows}
use Rattle.mt_tree.specs.declared.kept.KeptRow.{KeptRow}
use Rattle.mt_tree.specs.AreaRows.{AreCounts, IsKept, IsRootAlone, childless, joined, numbers_of, rows_of}
use Rattle.mt_tree.proofs.Joined.{Entries, path_in}

root_path : (area : Area) → IsPath (root_of area)
root_path Stor = record { components = λ k d within. absurd (omega arith); short = omega arith }
root_path Public = record { components = λ k d within. absurd (omega arith); short = omega arith }
root_path Jobs = record { components = λ k d within. absurd (omega arith); short = omega arith }

none_or : (b : Bool) (o : Option ℕ) → IfSome o (λ n. n ≡ 0) → IfSome (cond b (Some 0) o) (λ n. n ≡ 0)
none_or true o rest = refl
none_or false o rest = rest

module _ (B : Type 0) where
  abbrev root : KeptRow B
  root = childless (Directory 0)

  abbrev first : List (AccountPath × KeptRow B)
  first = (path_in Stor [], root) ∷ (path_in Public [], root) ∷ (path_in Jobs [], root) ∷ []

  no_numbers : AreCounts (rows_of first) (numbers_of first)
  no_numbers p = none_or (is_path p (root_of Stor)) _ (none_or (is_path p (root_of Public)) _ (none_or (is_path p (root_of Jobs)) None tt))

  first_kept : IsKept first
  first_kept = record {
    tree = IsTree-first_rows B;
    paths = All-from_recursion IsPath (keys_of (rows_of first)) (root_path Stor, (root_path Public, (root_path Jobs, tt)));
    counts = no_numbers;
  }

  pub roots-kept : (s u j : Entries (KeptRow B)) → IsRootAlone s → IsRootAlone u → IsRootAlone j → IsKept (joined s u j)
  roots-kept s u j stor public jobs =
      let one : Entries (KeptRow B) = ([], root) ∷ [] in
      let all : joined s u j ≡ first = ap (λ es. joined es u j) stor ∙ ap (λ es. joined one es j) public ∙ ap (λ es. joined one one es) jobs in
      subst IsKept (sym all) first_kept
