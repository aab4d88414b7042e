-- How a put ends by what stood at its key.
use Rattle.std.proofs.Common.{◌≡◌, ◌<◌, true, false, cond, List, [], ◌∷◌, length, Option, Some, None, option_map, refl, sym, ap, ◌∙◌, arith}
use Rattle.std.specs.Prelude.{IfNone, IfSome, IsSome, is_some, not}
use Rattle.std.specs.BTreeMap.{insert_entry}
use Rattle.std.specs.Map.{keys_of, lookup}
use Rattle.std.specs.Ordering.{is_eq, match_ordering}
use Rattle.std.specs.declared.alloc.Global.{Global}
use Rattle.std.specs.declared.boxed.Box.{Box}
use Rattle.std.specs.declared.cmp.Ordering.{Ordering}
use Rattle.std.specs.declared.cmp.Ordering.TheVariants.{Less, Equal, Greater}
use Rattle.mt_path.specs.Keys.{Parts}
use Rattle.mt_model.specs.Rows.{is_directory}
use Rattle.mt_tree.specs.declared.kept.KeptRow.{KeptRow}
use Rattle.mt_tree.specs.AreaRows.{changed, has_directory, is_key, made_room, parts_above, parts_cmp, raised}
use Rattle.mt_tree.proofs.Raised.{put-counted}

-- a row that was put in the place of another, which takes its place again
module _ {X : Type 0} (k : Parts) (v old : X) where
  pub put-back : (es : List (Parts × X)) → keys_of (insert_entry parts_cmp es k v) ≡ keys_of es → lookup (is_key k) es ≡ Some old → changed (is_key k) (λ x. old) (insert_entry parts_cmp es k v) ≡ es
  put-back [] same found = cc
  put-back (e ∷ es) same found = by (parts_cmp k e.0) refl same found (put-back es)
    where
      by : (r : Ordering) → parts_cmp k e.0 ≡ r → keys_of (match_ordering r ((k, v) ∷ e ∷ es) ((e.0, v) ∷ es) (e ∷ insert_entry parts_cmp es k v)) ≡ keys_of (e ∷ es) → cond (is_eq r) (Some e.1) (lookup (is_key k) es) ≡ Some old
          → (keys_of (insert_entry parts_cmp es k v) ≡ keys_of es → lookup (is_key k) es ≡ Some old → changed (is_key k) (λ x. old) (insert_entry parts_cmp es k v) ≡ es)
          → changed (is_key k) (λ x. old) (match_ordering r ((k, v) ∷ e ∷ es) ((e.0, v) ∷ es) (e ∷ insert_entry parts_cmp es k v)) ≡ e ∷ es
      by Less at more here again = absurd (omega (arith, ap length more))
      by Equal at more here again =
          let value : e.1 ≡ old = cc in
          ap (λ b. cond b ((e.0, old) ∷ es) ((e.0, v) ∷ changed (is_key k) (λ x. old) es)) (ap is_eq at) ∙ ap (λ y. (e.0, y) ∷ es) (sym value)
      by Greater at more here again =
          let rest : keys_of (insert_entry parts_cmp es k v) ≡ keys_of es = cc in
          ap (λ b. cond b ((e.0, old) ∷ insert_entry parts_cmp es k v) (e ∷ changed (is_key k) (λ x. old) (insert_entry parts_cmp es k v))) (ap is_eq at) ∙ ap (λ l. e ∷ l) (again rest here)

module _ {B : Type 0} (above p : Parts) (is : above ≡ parts_above p) (below : 0 < length p) (es put : List (Parts × KeptRow B)) (one : KeptRow B) (put_is : put ≡ insert_entry parts_cmp es p one) where
  -- a directory stood there
  pub stood : (old : Option (Box (KeptRow B) Global)) → option_map (λ r. r.value) old ≡ lookup (is_key p) es → is_directory (option_map (λ r. r.value.entry) old) ≡ has_directory p es
  stood old old_is = seen old ∙ ap (λ o. is_directory (option_map (λ row. row.entry) o)) old_is
    where
      seen : (o : Option (Box (KeptRow B) Global)) → is_directory (option_map (λ r. r.value.entry) o) ≡ is_directory (option_map (λ row. row.entry) (option_map (λ r. r.value) o))
      seen None = refl
      seen (Some row) = refl

  module _ (new : List (Parts × KeptRow B)) where
    -- where none did, the row is in its place, and counted if it is new
    pub placed : (old : Option (Box (KeptRow B) Global)) → option_map (λ r. r.value) old ≡ lookup (is_key p) es → IfNone old (new ≡ changed (is_key above) raised put)
        → IfSome old (λ row. is_directory (Some row.value.entry) ≡ false → new ≡ put) → has_directory p es ≡ false → new ≡ insert_entry parts_cmp (made_room p es) p one
    placed None old_is grew stays free =
        put-counted above p is below es put p refl one one refl put_is new true (ap (λ o. not (is_some o)) old_is) (λ t. grew) (λ f. cc)
    placed (Some row) old_is grew stays free =
        put-counted above p is below es put p refl one one refl put_is new false (ap (λ o. not (is_some o)) old_is) (λ t. cc)
        (λ f. stays (stood (Some row) old_is ∙ free))

    -- and where one did, all is as it was
    pub given-back : (old : Option (Box (KeptRow B) Global)) → option_map (λ r. r.value) old ≡ lookup (is_key p) es → (IsSome old → keys_of put ≡ keys_of es)
        → IfSome old (λ row. is_directory (Some row.value.entry) ≡ true → new ≡ changed (is_key p) (λ r. row.value) put) → has_directory p es ≡ true → new ≡ es
    given-back None old_is same back taken = let none : false ≡ has_directory p es = stood None old_is in cc
    given-back (Some row) old_is same back taken =
        back (stood (Some row) old_is ∙ taken) ∙ ap (changed (is_key p) (λ r. row.value)) put_is
        ∙ put-back p one row.value es (ap keys_of (sym put_is) ∙ same refl) (sym old_is)
