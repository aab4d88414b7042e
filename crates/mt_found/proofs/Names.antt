-- The names of children: whole paths of them, what a search goes into, and their order.
use Rattle.std.proofs.Common.{◌≡◌, ℕ, ◌+◌, ◌-◌, ◌≤◌, true, List, [], ◌∷◌, ◌++◌, length, take, IsUtf8, Some, Ok, refl, sym, ap, subst, ◌∙◌, arith, append_assoc, append-nil}
use Rattle.std.specs.Cmp.Lexicographic.{nat_list_cmp_total, slice_cmp}
use Rattle.std.specs.Ordering.{nat_cmp, ordering_then}
use Rattle.std.specs.declared.cmp.Ordering.{Ordering}
use Rattle.std.specs.declared.cmp.Ordering.TheVariants.{Less, Equal, Greater}
use Rattle.std.specs.Result.{result_ok}
use Rattle.std.proofs.lemmas.Cmp.{nat_cmp_total, tied_itself}
use Rattle.std.proofs.lemmas.List.{take_all, take_more}
use Rattle.mt_path.specs.AccountPath.{AccountPath, IsPath, area_name, area_number, local_text, path_text, slash, slashed}
use Rattle.mt_path.specs.Names.{child_of}
use Rattle.mt_path.specs.PathOrder.{path_cmp}
use Rattle.mt_path.specs.declared.limits.TheConstants.{LONGEST_PATH}
use Rattle.mt_path.proofs.Children.{child_of-ok}
use Rattle.mt_path.proofs.Components.{test_from_IsComponent}
use Rattle.mt_path.proofs.Fronts.{length-local_text-push}
use Rattle.mt_types.specs.declared.object.Entry.{Entry}
use Rattle.mt_model.specs.Listing.{name_of}
use Rattle.mt_model.specs.Rows.{is_child, row_of}
use Rattle.mt_page.specs.declared.row.PageRow.{PageRow}
use Rattle.mt_page.specs.declared.row.RowKind.TheVariants.{Directory}
use Rattle.mt_page.specs.Laws.{shown as page_row}
use Rattle.mt_script.specs.Laws.{below}
use Rattle.mt_script.specs.Levels.{entered, row_line}
use Rattle.mt_found.proofs.Fronts.{child-above}

-- a child's path is its directory's with its name
pub child-name : (d p : AccountPath) → is_child d p ≡ true → p ≡ below d (name_of p)
child-name d p t =
    let up = child-above d p t in
    let n = length p.parts - 1 in
    let some = up.0 in
    let whole : p.parts ≡ take n p.parts ++ name_of p ∷ [] = sym (take_all (n + 1) p.parts (omega arith)) ∙ take_more p.parts n [] (omega arith) in
    ap (λ parts. record { area = p.area; parts = parts }) whole ∙ ap (λ q. below q (name_of p)) (sym up.1)

-- a name of a path's last component makes it a path again
pub child-made : (d p : AccountPath) → is_child d p ≡ true → IsPath p → child_of d (name_of p) ≡ Ok p
child-made d p t is =
    let name = child-name d p t in
    let some = (child-above d p t).0 in
    let short : length (local_text (below d (name_of p))) ≤ LONGEST_PATH = subst (λ q. length (local_text q) ≤ LONGEST_PATH) name is.short in
    let pushed = length-local_text-push d (name_of p) in
    let fits : length (local_text d) + length (name_of p) + 1 ≤ LONGEST_PATH = subst (λ n. n ≤ LONGEST_PATH) pushed short in
    child_of-ok d (name_of p) fits (test_from_IsComponent (name_of p) (is.components (length p.parts - 1) [] (omega arith))) ∙ ap Ok (sym name)

-- a name is a text
pub name-text : (d p : AccountPath) → is_child d p ≡ true → IsPath p → IsUtf8 (name_of p)
name-text d p t is = let some = (child-above d p t).0 in (is.components (length p.parts - 1) [] (omega arith)).text

-- ---- texts

slashed_below : (names : List (List ℕ)) (name : List ℕ) → slashed (names ++ name ∷ []) ≡ slashed names ++ slash ∷ name
slashed_below [] name = append-nil (slash ∷ name)
slashed_below (n ∷ names) name = ap (λ l. (slash ∷ n) ++ l) (slashed_below names name) ∙ sym (append_assoc (slash ∷ n) (slashed names) (slash ∷ name))

text_below : (login : List ℕ) (d : AccountPath) (name : List ℕ) → path_text login d ++ slash ∷ name ≡ path_text login (below d name)
unfolding path_text
text_below login d name = sym (slashed_below (login ∷ area_name d.area ∷ d.parts) name)

module _ {B : Type 0} where
  -- what a page tells of a row
  abbrev pub told : (AccountPath × Entry B) → PageRow
  told r = page_row (row_of r)

  -- a search shows the whole name
  pub line-whole : (login : List ℕ) (d : AccountPath) (r : AccountPath × Entry B) → is_child d r.0 ≡ true → row_line true (path_text login d) (told r) ≡ path_text login r.0 ++ 10 ∷ []
  line-whole login d r t = ap (λ text. text ++ 10 ∷ []) (text_below login d (name_of r.0) ∙ ap (path_text login) (sym (child-name d r.0 t)))

-- and goes into a directory
pub entered-directory : (d p : AccountPath) → is_child d p ≡ true → IsPath p → entered true d (record { name = name_of p; kind = Directory }) ≡ Some p
entered-directory d p t is = ap result_ok (child-made d p t is)

-- ---- the order of names

one_each : (o : Ordering) → ordering_then o Equal ≡ o
one_each Less = refl
one_each Equal = refl
one_each Greater = refl

parts_after : (d xs ys : List (List ℕ)) → slice_cmp (slice_cmp nat_cmp) (d ++ xs) (d ++ ys) ≡ slice_cmp (slice_cmp nat_cmp) xs ys
parts_after [] xs ys = refl
parts_after (x ∷ d) xs ys = ap (λ o. ordering_then o (slice_cmp (slice_cmp nat_cmp) (d ++ xs) (d ++ ys))) (tied_itself nat_list_cmp_total x) ∙ parts_after d xs ys

below_cmp : (d : AccountPath) (m n : List ℕ) → path_cmp (below d m) (below d n) ≡ slice_cmp nat_cmp m n
below_cmp d m n =
    ap (λ o. ordering_then o (slice_cmp (slice_cmp nat_cmp) (d.parts ++ m ∷ []) (d.parts ++ n ∷ []))) (tied_itself nat_cmp_total (area_number d.area))
    ∙ parts_after d.parts (m ∷ []) (n ∷ []) ∙ one_each (slice_cmp nat_cmp m n)

-- children are in the order of their names
pub names-less : (d p q : AccountPath) → is_child d p ≡ true → is_child d q ≡ true → path_cmp p q ≡ Less → slice_cmp nat_cmp (name_of p) (name_of q) ≡ Less
names-less d p q first second less =
    sym (below_cmp d (name_of p) (name_of q))
    ∙ subst (λ x. path_cmp x (below d (name_of q)) ≡ Less) (child-name d p first) (subst (λ x. path_cmp p x ≡ Less) (child-name d q second) less)
