-- Entries with a part of each value.
use Rattle.std.proofs.Common.{◌≡◌, Bool, true, false, cond, List, [], ◌∷◌, map, Some, refl, ap, ◌∙◌}
use Rattle.std.specs.BTreeMap.{insert_entry}
use Rattle.std.specs.Map.{lookup, remove_entry, keys_of}
use Rattle.std.specs.Option.{option_map}
use Rattle.std.specs.Ordering.{match_ordering}
use Rattle.std.specs.declared.cmp.Ordering.{Ordering}
use Rattle.std.specs.declared.cmp.Ordering.TheVariants.{Less, Equal, Greater}
use Rattle.mt_tree.specs.AreaRows.{changed}

module _ {K X Y : Type 0} (h : X → Y) where
  abbrev pub valued : List (K × X) → List (K × Y)
  valued es = map (λ e. (e.0, h e.1)) es

  pub keys-valued : (es : List (K × X)) → keys_of (valued es) ≡ keys_of es
  keys-valued [] = refl
  keys-valued (e ∷ es) = ap (λ l. e.0 ∷ l) (keys-valued es)

  pub lookup-valued : (test : K → Bool) (es : List (K × X)) → lookup test (valued es) ≡ option_map h (lookup test es)
  lookup-valued test [] = refl
  lookup-valued test (e ∷ es) = elim (test e.0) as (λ b. cond b (Some (h e.1)) (lookup test (valued es)) ≡ option_map h (cond b (Some e.1) (lookup test es))) [ true ↦ refl | false ↦ lookup-valued test es ]

  cond_valued : (b : Bool) (x y : List (K × X)) → valued (cond b x y) ≡ cond b (valued x) (valued y)
  cond_valued true x y = refl
  cond_valued false x y = refl

  pub remove-valued : (test : K → Bool) (es : List (K × X)) → valued (remove_entry test es) ≡ remove_entry test (valued es)
  remove-valued test [] = refl
  remove-valued test (e ∷ es) = cond_valued (test e.0) es (e ∷ remove_entry test es) ∙ ap (λ l. cond (test e.0) (valued es) ((e.0, h e.1) ∷ l)) (remove-valued test es)

  match_valued : (r : Ordering) (a b c : List (K × X)) → valued (match_ordering r a b c) ≡ match_ordering r (valued a) (valued b) (valued c)
  match_valued Less a b c = refl
  match_valued Equal a b c = refl
  match_valued Greater a b c = refl

  pub insert-valued : (R : K → K → Ordering) (es : List (K × X)) (k : K) (v : X) → valued (insert_entry R es k v) ≡ insert_entry R (valued es) k (h v)
  insert-valued R [] k v = refl
  insert-valued R (e ∷ es) k v =
      match_valued (R k e.0) ((k, v) ∷ e ∷ es) ((e.0, v) ∷ es) (e ∷ insert_entry R es k v)
      ∙ ap (λ l. match_ordering (R k e.0) ((k, h v) ∷ valued (e ∷ es)) ((e.0, h v) ∷ valued es) ((e.0, h e.1) ∷ l)) (insert-valued R es k v)

  module _ (f : X → X) (g : Y → Y) (fits : (x : X) → h (f x) ≡ g (h x)) where
    pub changed-valued : (test : K → Bool) (es : List (K × X)) → valued (changed test f es) ≡ changed test g (valued es)
    changed-valued test [] = refl
    changed-valued test (e ∷ es) =
        cond_valued (test e.0) ((e.0, f e.1) ∷ es) (e ∷ changed test f es)
        ∙ ap (λ y. cond (test e.0) ((e.0, y) ∷ valued es) ((e.0, h e.1) ∷ valued (changed test f es))) (fits e.1)
        ∙ ap (λ l. cond (test e.0) ((e.0, g (h e.1)) ∷ valued es) ((e.0, h e.1) ∷ l)) (changed-valued test es)

  module _ (f : X → X) (fits : (x : X) → h (f x) ≡ h x) where
    -- a change of the other part
    pub same-valued : (test : K → Bool) (es : List (K × X)) → valued (changed test f es) ≡ valued es
    same-valued test [] = refl
    same-valued test (e ∷ es) = elim (test e.0) as (λ b. valued (cond b ((e.0, f e.1) ∷ es) (e ∷ changed test f es)) ≡ valued (e ∷ es)) [
      | true ↦ ap (λ y. (e.0, y) ∷ valued es) (fits e.1)
      | false ↦ ap (λ l. (e.0, h e.1) ∷ l) (same-valued test es)
    ]
