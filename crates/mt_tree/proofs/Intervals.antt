-- What lies between two paths below a directory lies below it; its children are in the order of their names.
use Rattle.std.proofs.Common.{◌≡◌, ℕ, ◌+◌, ◌-◌, ◌<◌, ◌≤◌, ◌==◌, ◌&&◌, Bool, true, false, cond, List, [], ◌∷◌, ◌++◌, length, take, drop, refl, sym, ap, subst, ◌∙◌, arith, suc, get_or, length-append, drop-cons, le-leb}
use Rattle.std.proofs.lemmas.List.{take_all, take_more, take-append-drop}
use Rattle.std.proofs.Math.Seq.{take-append_seam}
use Rattle.std.specs.Cmp.{unsigned_Decides}
use Rattle.std.specs.Cmp.Lexicographic.{slice_cmp, nat_list_cmp_total, lists_total, pointwise, pointwise_decides}
use Rattle.std.specs.FinMap.{slice_cmp-IsAntisymmetric, nat_cmp-IsAntisymmetric}
use Rattle.std.specs.List.{filter, AllByRecursion}
use Rattle.std.specs.List.Sorted.{IsStrictlySortedBy}
use Rattle.std.specs.Map.{keys_of}
use Rattle.std.specs.Ordering.{nat_cmp, is_le, ordering_then, ordering_reverse}
use Rattle.std.specs.declared.cmp.Ordering.{Ordering}
use Rattle.std.specs.declared.cmp.Ordering.TheVariants.{Less, Equal, Greater}
use Rattle.std.proofs.lemmas.Cmp.{tied_itself}
use Rattle.mt_tree.specs.AreaRows.{parts_cmp}
use Rattle.mt_path.specs.Keys.{Parts}
use Rattle.mt_tree.specs.Walk.{begins, below_by_one, is_from_name, is_one_below, last_of}

abbrev pub name_cmp : List ℕ → List ℕ → Ordering
name_cmp = slice_cmp nat_cmp

pub parts_decide : (a b : Parts) → (pointwise (pointwise ◌==◌) a b ≡ true → a ≡ b) × (a ≡ b → pointwise (pointwise ◌==◌) a b ≡ true)
parts_decide = pointwise_decides (pointwise_decides unsigned_Decides)

pub both_true : (a b : Bool) → a ≡ true → b ≡ true → (a && b) ≡ true
both_true a b p q = cc

pub and_first : (a b : Bool) → (a && b) ≡ true → a ≡ true
and_first true b h = refl
and_first false b h = cc

pub and_second : (a b : Bool) → (a && b) ≡ true → b ≡ true
and_second true b h = h
and_second false b h = cc

pub self_cmp : (p : Parts) → parts_cmp p p ≡ Equal
self_cmp = tied_itself (lists_total nat_list_cmp_total)

self_name : (c : List ℕ) → name_cmp c c ≡ Equal
self_name = tied_itself nat_list_cmp_total

same_name : (c y : List ℕ) → is_le (name_cmp c y) ≡ true → is_le (name_cmp y c) ≡ true → name_cmp c y ≡ Equal
same_name c y p q = elim (name_cmp y c) as (λ r. name_cmp y c ≡ r → is_le r ≡ true → name_cmp c y ≡ Equal) [
  | Less ↦ λ e l. let f = nat_list_cmp_total.antisymm c y in let g : name_cmp c y ≡ Greater = f ∙ ap ordering_reverse e in cc
  | Equal ↦ λ e l. nat_list_cmp_total.antisymm c y ∙ ap ordering_reverse e
  | Greater ↦ λ e l. cc
] refl q

first_le : (r s : Ordering) → is_le (ordering_then r s) ≡ true → is_le r ≡ true
first_le Less s h = refl
first_le Equal s h = refl
first_le Greater s h = cc

then_le : (r s : Ordering) → r ≡ Equal → is_le (ordering_then r s) ≡ true → is_le s ≡ true
then_le Less s e h = cc
then_le Equal s e h = h
then_le Greater s e h = cc

-- what lies between two paths below a directory lies below it, or is it
pub interval : (d a b x : Parts) → is_le (parts_cmp (d ++ a) x) ≡ true → is_le (parts_cmp x (d ++ b)) ≡ true → (rest : Parts) × (x ≡ d ++ rest)
interval [] a b x p q = (x, refl)
interval (c ∷ d) a b [] p q = cc
interval (c ∷ d) a b (y ∷ x) p q =
    let e : name_cmp c y ≡ Equal = same_name c y (first_le (name_cmp c y) (parts_cmp (d ++ a) x) p) (first_le (name_cmp y c) (parts_cmp x (d ++ b)) q) in
    let f : c ≡ y = slice_cmp-IsAntisymmetric nat_cmp-IsAntisymmetric c y e in
    let g : name_cmp y c ≡ Equal = nat_list_cmp_total.antisymm y c ∙ ap ordering_reverse e in
    let below = interval d a b x (then_le (name_cmp c y) (parts_cmp (d ++ a) x) e p) (then_le (name_cmp y c) (parts_cmp x (d ++ b)) g q) in
    (below.0, ap (λ z. z ∷ x) (sym f) ∙ ap (λ z. c ∷ z) below.1)

pub below_cmp : (d a b : Parts) → parts_cmp (d ++ a) (d ++ b) ≡ parts_cmp a b
below_cmp [] a b = refl
below_cmp (c ∷ d) a b = ap (λ r. ordering_then r (parts_cmp (d ++ a) (d ++ b))) (self_name c) ∙ below_cmp d a b

pub one_below-is : (d q : Parts) → is_one_below d q ≡ true → q ≡ d ++ last_of q ∷ []
one_below-is d q h =
    let long : length q ≡ length d + 1 = (unsigned_Decides (length q) (length d + 1)).0 (and_first _ _ h) in
    let front : take (length d) q ≡ d = (parts_decide (take (length d) q) d).0 (and_second _ _ h) in
    let whole : take (length d + 1) q ≡ q = take_all (length d + 1) q (omega arith) in
    let last : length q - 1 ≡ length d = omega arith in
    sym whole ∙ take_more q (length d) [] (omega arith) ∙ ap (λ p. p ++ get_or q (length d) [] ∷ []) front ∙ ap (λ n. d ++ get_or q n [] ∷ []) (sym last)

-- a path that begins with another and is longer has a component behind it
pub split_at : (d x : Parts) → begins d x ≡ true → length d < length x → x ≡ d ++ get_or x (length d) [] ∷ drop (suc (length d)) x
split_at d x b l =
    let front : take (length d) x ≡ d = (parts_decide (take (length d) x) d).0 (and_second _ _ b) in
    sym (take-append-drop (length d) x) ∙ ap (λ p. p ++ drop (length d) x) front ∙ ap (λ p. d ++ p) (drop-cons x (length d) [] l)

pub begins_with : (d rest : Parts) → begins d (d ++ rest) ≡ true
begins_with d rest =
    let long : length d ≤ length (d ++ rest) = omega (arith, length-append d rest) in
    both_true _ _ (le-leb (length d) (length (d ++ rest)) long) ((parts_decide (take (length d) (d ++ rest)) d).1 (take-append_seam d rest))

le_last : (r : Ordering) → is_le (ordering_then r Equal) ≡ is_le r
le_last Less = refl
le_last Equal = refl
le_last Greater = refl

-- a child is from a marker on where its path is from the marker's on
child_from : (d : Parts) (m : List ℕ) (q : Parts) → is_one_below d q ≡ true → is_le (parts_cmp (d ++ m ∷ []) q) ≡ is_from_name m q
child_from d m q h =
    ap (λ p. is_le (parts_cmp (d ++ m ∷ []) p)) (one_below-is d q h)
    ∙ ap is_le (below_cmp d (m ∷ []) (last_of q ∷ []))
    ∙ le_last (name_cmp m (last_of q))

module _ {X : Type 0} where
  -- the rows from a path on
  abbrev pub from_parts : Parts → List (Parts × X) → List (Parts × X)
  from_parts start rows = filter (λ r. is_le (parts_cmp start r.0)) rows

module _ {X : Type 0} (d : Parts) (m : List ℕ) where
  one_row : (a b f : Bool) (r : Parts × X) (rows : List (Parts × X)) → is_one_below d r.0 ≡ b → is_from_name m r.0 ≡ f → (b ≡ true → a ≡ f)
      → below_by_one (from_parts (d ++ m ∷ []) rows) d ≡ filter (λ x. is_from_name m x.0) (below_by_one rows d)
      → below_by_one (cond a (r ∷ from_parts (d ++ m ∷ []) rows) (from_parts (d ++ m ∷ []) rows)) d ≡ filter (λ x. is_from_name m x.0) (cond b (r ∷ below_by_one rows d) (below_by_one rows d))
  one_row true true true r rows e g h i = ap (λ x. cond x (r ∷ below_by_one (from_parts (d ++ m ∷ []) rows) d) (below_by_one (from_parts (d ++ m ∷ []) rows) d)) e ∙ ap (λ l. r ∷ l) i ∙ sym (ap (λ x. cond x (r ∷ filter (λ x. is_from_name m x.0) (below_by_one rows d)) (filter (λ x. is_from_name m x.0) (below_by_one rows d))) g)
  one_row true true false r rows e g h i = let w = h refl in cc
  one_row false true true r rows e g h i = let w = h refl in cc
  one_row false true false r rows e g h i = i ∙ sym (ap (λ x. cond x (r ∷ filter (λ x. is_from_name m x.0) (below_by_one rows d)) (filter (λ x. is_from_name m x.0) (below_by_one rows d))) g)
  one_row true false f r rows e g h i = ap (λ x. cond x (r ∷ below_by_one (from_parts (d ++ m ∷ []) rows) d) (below_by_one (from_parts (d ++ m ∷ []) rows) d)) e ∙ i
  one_row false false f r rows e g h i = i

  -- the children among the rows from a marker on are those from the marker on
  pub later_children : (rows : List (Parts × X)) → below_by_one (from_parts (d ++ m ∷ []) rows) d ≡ filter (λ r. is_from_name m r.0) (below_by_one rows d)
  later_children [] = refl
  later_children (r ∷ rows) = one_row (is_le (parts_cmp (d ++ m ∷ []) r.0)) (is_one_below d r.0) (is_from_name m r.0) r rows refl refl (child_from d m r.0) (later_children rows)

-- past a row that is behind a marker and not below the directory there is no child
none_passes : (d : Parts) (m : List ℕ) (x y : Parts) → is_le (parts_cmp (d ++ m ∷ []) x) ≡ true → begins d x ≡ false → is_le (parts_cmp x y) ≡ true → (b : Bool) → is_one_below d y ≡ b → b ≡ false
none_passes d m x y p n q true t =
    let between = interval d (m ∷ []) (last_of y ∷ []) x p (subst (λ z. is_le (parts_cmp x z) ≡ true) (one_below-is d y t) q) in
    let b : begins d x ≡ true = ap (begins d) between.1 ∙ begins_with d between.0 in
    cc
none_passes d m x y p n q false t = refl

module _ {X : Type 0} (d : Parts) (m : List ℕ) (x : Parts) (p : is_le (parts_cmp (d ++ m ∷ []) x) ≡ true) (n : begins d x ≡ false) where
  none_later : (rows : List (Parts × X)) → AllByRecursion (λ y. parts_cmp x y ≡ Less) (keys_of rows) → below_by_one rows d ≡ []
  none_later [] a = refl
  none_later (r ∷ rows) a =
      ap (λ b. cond b (r ∷ below_by_one rows d) (below_by_one rows d)) (none_passes d m x r.0 p n (ap is_le a.0) (is_one_below d r.0) refl) ∙ none_later rows a.1

  pub none_after : (r : X) (rows : List (Parts × X)) → IsStrictlySortedBy parts_cmp (keys_of ((x, r) ∷ rows)) → below_by_one ((x, r) ∷ rows) d ≡ []
  unfolding IsStrictlySortedBy
  none_after r rows s =
      ap (λ b. cond b ((x, r) ∷ below_by_one rows d) (below_by_one rows d)) (none_passes d m x x p n (ap is_le (self_cmp x)) (is_one_below d x) refl) ∙ none_later rows s.0
