-- The entries of a map by their components: look-ups, changes and ranges by keys are those by components.
use Rattle.std.proofs.Common.{◌≡◌, ℕ, ◌&&◌, Bool, true, false, cond, List, [], ◌∷◌, length, Some, refl, sym, ap, ◌∙◌, map}
use Rattle.std.specs.List.{AllByRecursion, filter}
use Rattle.std.specs.List.Sorted.{IsStrictlySortedBy}
use Rattle.std.specs.BTreeMap.{insert_entry, is_at}
use Rattle.std.specs.Map.{lookup, remove_entry, keys_of}
use Rattle.std.specs.Option.{option_map}
use Rattle.std.specs.Ordering.{is_eq, is_le, is_lt, match_ordering}
use Rattle.std.specs.declared.alloc.Global.{Global}
use Rattle.std.specs.declared.boxed.Box.{Box}
use Rattle.std.specs.declared.vec.Vec.{Vec}
use Rattle.std.specs.declared.cmp.Ordering.{Ordering}
use Rattle.std.specs.declared.cmp.Ordering.TheVariants.{Less, Equal, Greater}
use Rattle.std.proofs.lemmas.List.{length-map}
use Rattle.mt_path.specs.Keys.{IsClear, IsKey, Parts, key_bytes, parts_of}
use Rattle.mt_path.proofs.Keys.{bytes_cmp, key_order}
use Rattle.mt_tree.specs.AreaRows.{changed, is_key, parts_cmp}
use Rattle.mt_tree.specs.Keys.{AreKeys, opened}

abbrev pub Stored : Type 0 → Type 0
Stored X = List (Vec ℕ Global × Box X Global)

abbrev pub raw_cmp : Vec ℕ Global → Vec ℕ Global → Ordering
raw_cmp a b = bytes_cmp a.items b.items

-- the key of these components
abbrev pub is_raw : Parts → Vec ℕ Global → Bool
is_raw parts key = is_at (bytes_cmp (key_bytes parts)) key.items

same_test : (parts : Parts) → AllByRecursion IsClear parts → (key : Vec ℕ Global) → IsKey key.items → is_raw parts key ≡ is_key parts (parts_of key.items)
same_test parts all key k = ap is_eq (key_order parts key.items all k)

module _ {X : Type 0} (parts : Parts) (all : AllByRecursion IsClear parts) where
  pub lookup-opened : (es : Stored X) → AreKeys es → option_map (λ b. b.value) (lookup (is_raw parts) es) ≡ lookup (is_key parts) (opened es)
  lookup-opened [] keys = refl
  lookup-opened (e ∷ es) keys =
      ap (λ t. option_map (λ b. b.value) (cond t (Some e.1) (lookup (is_raw parts) es))) (same_test parts all e.0 keys.0)
      ∙ chosen (is_key parts (parts_of e.0.items))
      ∙ ap (cond (is_key parts (parts_of e.0.items)) (Some e.1.value)) (lookup-opened es keys.1)
    where
      chosen : (t : Bool) → option_map (λ b. b.value) (cond t (Some e.1) (lookup (is_raw parts) es)) ≡ cond t (Some e.1.value) (option_map (λ b. b.value) (lookup (is_raw parts) es))
      chosen true = refl
      chosen false = refl

  opened_cond : (t : Bool) (xs ys : Stored X) → opened (cond t xs ys) ≡ cond t (opened xs) (opened ys)
  opened_cond true xs ys = refl
  opened_cond false xs ys = refl

  pub remove-opened : (es : Stored X) → AreKeys es → opened (remove_entry (is_raw parts) es) ≡ remove_entry (is_key parts) (opened es)
  remove-opened [] keys = refl
  remove-opened (e ∷ es) keys =
      ap (λ t. opened (cond t es (e ∷ remove_entry (is_raw parts) es))) (same_test parts all e.0 keys.0)
      ∙ opened_cond (is_key parts (parts_of e.0.items)) es (e ∷ remove_entry (is_raw parts) es)
      ∙ ap (λ l. cond (is_key parts (parts_of e.0.items)) (opened es) ((parts_of e.0.items, e.1.value) ∷ l)) (remove-opened es keys.1)

  pub changed-opened : (f : X → X) (g : Box X Global → Box X Global) → ((b : Box X Global) → (g b).value ≡ f b.value) → (es : Stored X) → AreKeys es → opened (changed (is_raw parts) g es) ≡ changed (is_key parts) f (opened es)
  changed-opened f g fits [] keys = refl
  changed-opened f g fits (e ∷ es) keys =
      ap (λ t. opened (cond t ((e.0, g e.1) ∷ es) (e ∷ changed (is_raw parts) g es))) (same_test parts all e.0 keys.0)
      ∙ opened_cond (is_key parts (parts_of e.0.items)) ((e.0, g e.1) ∷ es) (e ∷ changed (is_raw parts) g es)
      ∙ ap (λ x. cond (is_key parts (parts_of e.0.items)) ((parts_of e.0.items, x) ∷ opened es) ((parts_of e.0.items, e.1.value) ∷ opened (changed (is_raw parts) g es))) (fits e.1)
      ∙ ap (λ l. cond (is_key parts (parts_of e.0.items)) ((parts_of e.0.items, f e.1.value) ∷ opened es) ((parts_of e.0.items, e.1.value) ∷ l)) (changed-opened f g fits es keys.1)

  -- what a range from the key on holds, and one past the key
  pub from-opened : (es : Stored X) → AreKeys es → opened (filter (λ e. is_le (bytes_cmp (key_bytes parts) e.0.items) && true) es) ≡ filter (λ r. is_le (parts_cmp parts r.0)) (opened es)
  from-opened [] keys = refl
  from-opened (e ∷ es) keys =
      ap (λ r. opened (cond (is_le r && true) (e ∷ filter (λ e. is_le (bytes_cmp (key_bytes parts) e.0.items) && true) es) (filter (λ e. is_le (bytes_cmp (key_bytes parts) e.0.items) && true) es))) (key_order parts e.0.items all keys.0)
      ∙ chosen (is_le (parts_cmp parts (parts_of e.0.items)))
      ∙ ap (λ l. cond (is_le (parts_cmp parts (parts_of e.0.items))) ((parts_of e.0.items, e.1.value) ∷ l) l) (from-opened es keys.1)
    where
      chosen : (t : Bool) → opened (cond (t && true) (e ∷ filter (λ e. is_le (bytes_cmp (key_bytes parts) e.0.items) && true) es) (filter (λ e. is_le (bytes_cmp (key_bytes parts) e.0.items) && true) es))
          ≡ cond t ((parts_of e.0.items, e.1.value) ∷ opened (filter (λ e. is_le (bytes_cmp (key_bytes parts) e.0.items) && true) es)) (opened (filter (λ e. is_le (bytes_cmp (key_bytes parts) e.0.items) && true) es))
      chosen true = refl
      chosen false = refl

  pub past-opened : (es : Stored X) → AreKeys es → opened (filter (λ e. is_lt (bytes_cmp (key_bytes parts) e.0.items) && true) es) ≡ filter (λ r. is_lt (parts_cmp parts r.0)) (opened es)
  past-opened [] keys = refl
  past-opened (e ∷ es) keys =
      ap (λ r. opened (cond (is_lt r && true) (e ∷ filter (λ e. is_lt (bytes_cmp (key_bytes parts) e.0.items) && true) es) (filter (λ e. is_lt (bytes_cmp (key_bytes parts) e.0.items) && true) es))) (key_order parts e.0.items all keys.0)
      ∙ chosen (is_lt (parts_cmp parts (parts_of e.0.items)))
      ∙ ap (λ l. cond (is_lt (parts_cmp parts (parts_of e.0.items))) ((parts_of e.0.items, e.1.value) ∷ l) l) (past-opened es keys.1)
    where
      chosen : (t : Bool) → opened (cond (t && true) (e ∷ filter (λ e. is_lt (bytes_cmp (key_bytes parts) e.0.items) && true) es) (filter (λ e. is_lt (bytes_cmp (key_bytes parts) e.0.items) && true) es))
          ≡ cond t ((parts_of e.0.items, e.1.value) ∷ opened (filter (λ e. is_lt (bytes_cmp (key_bytes parts) e.0.items) && true) es)) (opened (filter (λ e. is_lt (bytes_cmp (key_bytes parts) e.0.items) && true) es))
      chosen true = refl
      chosen false = refl

module _ {X : Type 0} where
  pub length-opened : (es : Stored X) → length (opened es) ≡ length es
  length-opened es = length-map es (λ e. (parts_of e.0.items, e.1.value))

  opened_keys : (es : Stored X) → keys_of (opened es) ≡ map (λ k. parts_of k.items) (keys_of es)
  opened_keys [] = refl
  opened_keys (e ∷ es) = ap (λ l. parts_of e.0.items ∷ l) (opened_keys es)

  -- the same keys
  pub opened-keys : (new old : Stored X) → keys_of new ≡ keys_of old → keys_of (opened new) ≡ keys_of (opened old)
  opened-keys new old same = opened_keys new ∙ ap (map (λ k. parts_of k.items)) same ∙ sym (opened_keys old)

  opened_match : (r : Ordering) (a b c : Stored X) → opened (match_ordering r a b c) ≡ match_ordering r (opened a) (opened b) (opened c)
  opened_match Less a b c = refl
  opened_match Equal a b c = refl
  opened_match Greater a b c = refl

  pub insert-opened : (key : Vec ℕ Global) → IsKey key.items → (v : Box X Global) (es : Stored X) → AreKeys es → opened (insert_entry raw_cmp es key v) ≡ insert_entry parts_cmp (opened es) (parts_of key.items) v.value
  insert-opened key k v [] keys = refl
  insert-opened key k v (e ∷ es) keys =
      opened_match (raw_cmp key e.0) ((key, v) ∷ e ∷ es) ((e.0, v) ∷ es) (e ∷ insert_entry raw_cmp es key v)
      ∙ ap (λ r. match_ordering r (opened ((key, v) ∷ e ∷ es)) (opened ((e.0, v) ∷ es)) (opened (e ∷ insert_entry raw_cmp es key v)))
      (ap (λ b. bytes_cmp b e.0.items) k.whole ∙ key_order (parts_of key.items) e.0.items k.clear keys.0)
      ∙ ap (λ l. match_ordering (parts_cmp (parts_of key.items) (parts_of e.0.items)) (opened ((key, v) ∷ e ∷ es)) (opened ((e.0, v) ∷ es)) ((parts_of e.0.items, e.1.value) ∷ l)) (insert-opened key k v es keys.1)

  pub keys-insert : (key : Vec ℕ Global) → IsKey key.items → (v : Box X Global) (es : Stored X) → AreKeys es → AreKeys (insert_entry raw_cmp es key v)
  keys-insert key k v [] keys = (k, tt)
  keys-insert key k v (e ∷ es) keys = elim (raw_cmp key e.0) as (λ r. AreKeys (match_ordering r ((key, v) ∷ e ∷ es) ((e.0, v) ∷ es) (e ∷ insert_entry raw_cmp es key v))) [
    | Less ↦ (k, keys)
    | Equal ↦ keys
    | Greater ↦ (keys.0, keys-insert key k v es keys.1)
  ]

  pub keys-remove : (test : Vec ℕ Global → Bool) (es : Stored X) → AreKeys es → AreKeys (remove_entry test es)
  keys-remove test [] keys = tt
  keys-remove test (e ∷ es) keys = elim (test e.0) as (λ t. AreKeys (cond t es (e ∷ remove_entry test es))) [
    | true ↦ keys.1
    | false ↦ (keys.0, keys-remove test es keys.1)
  ]

  pub keys-changed : (test : Vec ℕ Global → Bool) (g : Box X Global → Box X Global) (es : Stored X) → AreKeys es → AreKeys (changed test g es)
  keys-changed test g [] keys = tt
  keys-changed test g (e ∷ es) keys = elim (test e.0) as (λ t. AreKeys (cond t ((e.0, g e.1) ∷ es) (e ∷ changed test g es))) [
    | true ↦ keys
    | false ↦ (keys.0, keys-changed test g es keys.1)
  ]

  pub keys-filter : (test : Vec ℕ Global × Box X Global → Bool) (es : Stored X) → AreKeys es → AreKeys (filter test es)
  keys-filter test [] keys = tt
  keys-filter test (e ∷ es) keys = elim (test e) as (λ t. AreKeys (cond t (e ∷ filter test es) (filter test es))) [
    | true ↦ (keys.0, keys-filter test es keys.1)
    | false ↦ keys-filter test es keys.1
  ]

  all_opened : (key : Vec ℕ Global) → IsKey key.items → (es : Stored X) → AreKeys es → AllByRecursion (λ y. raw_cmp key y ≡ Less) (keys_of es) → AllByRecursion (λ y. parts_cmp (parts_of key.items) y ≡ Less) (keys_of (opened es))
  all_opened key k [] keys a = tt
  all_opened key k (e ∷ es) keys a =
      (sym (ap (λ b. bytes_cmp b e.0.items) k.whole ∙ key_order (parts_of key.items) e.0.items k.clear keys.0) ∙ a.0, all_opened key k es keys.1 a.1)

  pub sorted-opened : (es : Stored X) → AreKeys es → IsStrictlySortedBy raw_cmp (keys_of es) → IsStrictlySortedBy parts_cmp (keys_of (opened es))
  unfolding IsStrictlySortedBy
  sorted-opened [] keys s = tt
  sorted-opened (e ∷ es) keys s = (all_opened e.0 keys.0 es keys.1 s.0, sorted-opened es keys.1 s.1)
