-- The names of a page are components.
use Rattle.std.proofs.Common.{◌≡◌, ℕ, ◌-◌, Bool, true, false, cond, List, [], ◌∷◌, length, take, map, refl, sym, subst, arith, zero, suc}
use Rattle.std.specs.Prelude.{All}
use Rattle.std.specs.List.{AllByRecursion, filter}
use Rattle.std.specs.Map.{keys_of}
use Rattle.std.proofs.lemmas.List.Elements.{All-from_recursion, recursion_from_All}
use Rattle.mt_path.specs.AccountPath.{AccountPath, IsComponent, IsPath}
use Rattle.mt_types.specs.declared.object.Entry.{Entry}
use Rattle.mt_model.specs.Listing.{is_from, listing, name_of}
use Rattle.mt_model.specs.Rows.{Rows, children, is_child}
use Rattle.mt_model.proofs.Children.{above-parent}
use Rattle.mt_model.proofs.RowLaws.{parent-is_child}
use Rattle.mt_tree.specs.declared.listing.Listed.{Listed}
use Rattle.mt_tree.specs.Lent.{lent}
use Rattle.mt_tree.specs.Walk.{listed_row}

all_filter : {A : Type 0} (P : A → Type 0) (p : A → Bool) (xs : List A) → AllByRecursion P xs → AllByRecursion P (filter p xs)
all_filter P p [] all = tt
all_filter P p (x ∷ xs) all = elim (p x) as (λ b. AllByRecursion P (cond b (x ∷ filter p xs) (filter p xs))) [
  | true ↦ (all.0, all_filter P p xs all.1)
  | false ↦ all_filter P p xs all.1
]

all_take : {A : Type 0} (P : A → Type 0) (n : ℕ) (xs : List A) → AllByRecursion P xs → AllByRecursion P (take n xs)
all_take P zero xs all = tt
all_take P (suc n) [] all = tt
all_take P (suc n) (x ∷ xs) all = (all.0, all_take P n xs all.1)

child_name : (d p : AccountPath) → IsPath p → is_child d p ≡ true → IsComponent (name_of p)
child_name d p is child =
    let some = (above-parent p d (parent-is_child d p child)).some in
    is.components (length p.parts - 1) [] (omega (arith, some))

module _ {B : Type 0} where
  abbrev IsNamed : AccountPath × Entry B → Type 0
  IsNamed r = IsComponent (name_of r.0)

  children_named : (rows : Rows B) (d : AccountPath) → AllByRecursion IsPath (keys_of rows) → AllByRecursion IsNamed (children rows d)
  children_named [] d all = tt
  children_named (r ∷ rows) d all = elim (is_child d r.0) as (λ b. is_child d r.0 ≡ b → AllByRecursion IsNamed (cond b (r ∷ children rows d) (children rows d))) [
    | true ↦ λ e. (child_name d r.0 all.0 e, children_named rows d all.1)
    | false ↦ λ e. children_named rows d all.1
  ] refl

  shown_named : (rows : Rows B) → AllByRecursion IsNamed rows → AllByRecursion (λ x. IsComponent x.0) (map listed_row rows)
  shown_named [] all = tt
  shown_named (r ∷ rows) all = (all.0, shown_named rows all.1)

  lent_named : (page : List (Listed B)) → AllByRecursion (λ x. IsComponent x.0) (map lent page) → AllByRecursion (λ x. IsComponent x.name.now) page
  lent_named [] all = tt
  lent_named (x ∷ page) all = (all.0, lent_named page all.1)

  pub page-named : (rows : Rows B) (d : AccountPath) (m : List ℕ) (limit : ℕ) (page : List (Listed B)) → All IsPath (keys_of rows) → map lent page ≡ map listed_row (listing rows d m limit) → All (λ x. IsComponent x.name.now) page
  page-named rows d m limit page paths is =
      All-from_recursion (λ x. IsComponent x.name.now) page
      (lent_named page (subst (AllByRecursion (λ x. IsComponent x.0)) (sym is)
      (shown_named (listing rows d m limit) (all_take IsNamed limit (filter (λ r. is_from m r.0) (children rows d)) (all_filter IsNamed (λ r. is_from m r.0) (children rows d) (children_named rows d (recursion_from_All IsPath (keys_of rows) paths)))))))
