-- A walk over keys from a marker on is one over the components.
use Rattle.std.proofs.Common.{◌≡◌, ℕ, ◌+◌, ◌<◌, ◌≤◌, ◌&&◌, true, false, cond, List, [], ◌∷◌, ◌++◌, length, take, drop, map, get_or, refl, sym, ap, subst, ◌∙◌, arith, zero, suc, append_assoc, inl, inr}
use Rattle.std.proofs.lemmas.Bool.{cases_Bool}
use Rattle.std.proofs.lemmas.List.{length-map, map-append}
use Rattle.std.specs.List.{AllByRecursion, filter}
use Rattle.std.specs.List.Sorted.{IsStrictlySortedBy}
use Rattle.std.specs.Map.{keys_of}
use Rattle.std.specs.Ordering.{is_le, is_lt}
use Rattle.std.specs.declared.alloc.Global.{Global}
use Rattle.std.specs.declared.boxed.Box.{Box}
use Rattle.std.specs.declared.vec.Vec.{Vec}
use Rattle.mt_types.specs.declared.object.Entry.{Entry}
use Rattle.mt_tree.specs.declared.kept.KeptRow.{KeptRow}
use Rattle.mt_tree.specs.declared.listing.Listed.{Listed}
use Rattle.mt_tree.specs.declared.listing.Place.TheVariants.{Outside, Child, Below}
use Rattle.mt_tree.specs.AreaRows.{parts_cmp}
use Rattle.mt_path.specs.Keys.{IsClear, IsKey, Parts, key_bytes, parts_of}
use Rattle.mt_path.proofs.Keys.{bytes_cmp, clear-push, key-push}
use Rattle.mt_tree.specs.Keys.{AreKeys, opened}
use Rattle.mt_tree.specs.Lent.{lent}
use Rattle.mt_tree.specs.Walk.{begins, below_by_one, cleared, is_from_name, is_one_below, last_of, lent_row, next_name, page_of, place_in}
use Rattle.mt_tree.proofs.Intervals.{from_parts, later_children}
use Rattle.mt_tree.proofs.Keys.{Stored, from-opened, past-opened, keys-filter, raw_cmp, sorted-opened}
use Rattle.mt_tree.proofs.Places.{outside, child-begins, child-length, child-name, below-begins, below-length, below-key}
use Rattle.mt_tree.proofs.Skips.{cleared-agrees, cleared-clear, next-clear}
use Rattle.mt_tree.proofs.Walks.{AreClear, Walking, added, begun, done, fewer_left, full, never, skipped_to, stop}

clear_at : (parts : Parts) (n : ℕ) → AreClear parts → IsClear (get_or parts n [])
clear_at [] n clear = tt
clear_at (x ∷ parts) zero clear = clear.0
clear_at (x ∷ parts) (suc n) clear = clear_at parts n clear.1

-- the key of a name in a directory
key_below : (dir : Parts) (name : List ℕ) → (key_bytes dir ++ 0 ∷ []) ++ name ≡ key_bytes (dir ++ name ∷ [])
key_below dir name =
    append_assoc (key_bytes dir) (0 ∷ []) name ∙ sym (key-push dir name)

module _ {X : Type 0} where
  clear_keys : (es : Stored X) → AreKeys es → AllByRecursion AreClear (keys_of (opened es))
  clear_keys [] keys = tt
  clear_keys (e ∷ es) keys = (keys.0.clear, clear_keys es keys.1)

  page_agrees : (d : Parts) (m : List ℕ) (rows : List (Parts × X)) → AllByRecursion AreClear (keys_of rows) → filter (λ r. is_from_name (cleared m) r.0) (below_by_one rows d) ≡ filter (λ r. is_from_name m r.0) (below_by_one rows d)
  page_agrees d m [] clear = refl
  page_agrees d m (r ∷ rows) clear =
      elim (is_one_below d r.0) as (λ b. filter (λ x. is_from_name (cleared m) x.0) (cond b (r ∷ below_by_one rows d) (below_by_one rows d)) ≡ filter (λ x. is_from_name m x.0) (cond b (r ∷ below_by_one rows d) (below_by_one rows d))) [
        | true ↦
            ap (λ t. cond t (r ∷ filter (λ x. is_from_name (cleared m) x.0) (below_by_one rows d)) (filter (λ x. is_from_name (cleared m) x.0) (below_by_one rows d))) (cleared-agrees m (last_of r.0) (clear_at r.0 _ clear.0))
            ∙ ap (λ l. cond (is_from_name m r.0) (r ∷ l) l) (page_agrees d m rows clear.1)
        | false ↦ page_agrees d m rows clear.1
      ]

  -- what a range from a key on holds
  ranged : (parts : Parts) → AreClear parts → (bytes : List ℕ) → bytes ≡ key_bytes parts → (es found : Stored X) → AreKeys es → found ≡ filter (λ e. is_le (bytes_cmp bytes e.0.items) && true) es → opened found ≡ from_parts parts (opened es)
  ranged parts clear bytes is es found keys between =
      ap opened (between ∙ ap (λ b. filter (λ e. is_le (bytes_cmp b e.0.items) && true) es) is) ∙ from-opened parts clear es keys

  -- and one past a key
  pub ranged-past : (parts : Parts) → AreClear parts → (bytes : List ℕ) → bytes ≡ key_bytes parts → (es found : Stored X) → AreKeys es → found ≡ filter (λ e. is_lt (bytes_cmp bytes e.0.items) && true) es → opened found ≡ filter (λ r. is_lt (parts_cmp parts r.0)) (opened es)
  ranged-past parts clear bytes is es found keys between =
      ap opened (between ∙ ap (λ b. filter (λ e. is_lt (bytes_cmp b e.0.items) && true) es) is) ∙ past-opened parts clear es keys

  pub keys_ranged-past : (bytes : List ℕ) (es found : Stored X) → AreKeys es → found ≡ filter (λ e. is_lt (bytes_cmp bytes e.0.items) && true) es → AreKeys found
  keys_ranged-past bytes es found keys between = subst AreKeys (sym between) (keys-filter (λ e. is_lt (bytes_cmp bytes e.0.items) && true) es keys)

  keys_ranged : (bytes : List ℕ) (es found : Stored X) → AreKeys es → found ≡ filter (λ e. is_le (bytes_cmp bytes e.0.items) && true) es → AreKeys found
  keys_ranged bytes es found keys between = subst AreKeys (sym between) (keys-filter (λ e. is_le (bytes_cmp bytes e.0.items) && true) es keys)

module _ {B : Type 0} (rows : Stored (KeptRow B)) (dir : Parts) (m : List ℕ) (limit : ℕ) where
  abbrev target : List (List ℕ × Entry B)
  target = map lent_row (page_of (opened rows) dir m limit)

  -- how far a walk has come
  pub record Paging (out : List (Listed B)) (rest : Stored (KeptRow B)) : Type 0 where
    pub walking : Walking lent_row (opened rows) dir (cleared m) limit (map lent_row (page_of (opened rows) dir m limit)) (map lent out) (opened rest)
    pub keys : AreKeys rest

  module _ (keys : AreKeys rows) (clear : AreClear dir) (front : List ℕ) (is : front ≡ key_bytes dir ++ 0 ∷ []) where
    pub paging-begun : IsStrictlySortedBy raw_cmp (keys_of rows) → (out : List (Listed B)) (rest : Stored (KeptRow B)) (start : List ℕ) → out ≡ [] → start ≡ front ++ cleared m → rest ≡ filter (λ e. is_le (bytes_cmp start e.0.items) && true) rows → Paging out rest
    paging-begun sorted out rest start none begins_at between = record {
      walking =
          subst (λ t. Walking lent_row (opened rows) dir (cleared m) limit t (map lent out) (opened rest))
          (ap (λ found. map lent_row (take limit found)) (later_children dir (cleared m) (opened rows) ∙ page_agrees dir m (opened rows) (clear_keys rows keys)))
          (begun lent_row (opened rows) dir (cleared m) limit (sorted-opened rows keys sorted) (clear_keys rows keys) (map lent out) (opened rest) (ap (map lent) none)
          (ranged (dir ++ cleared m ∷ []) (clear-push dir (cleared m) clear (cleared-clear m)) start (begins_at ∙ ap (λ f. f ++ cleared m) is ∙ key_below dir (cleared m)) rows rest keys between));
      keys = keys_ranged start rows rest keys between;
    }

    module _ (out : List (Listed B)) (rest : Stored (KeptRow B)) (w : Paging out rest) where
      pub paging-full : limit ≤ length out → map lent out ≡ map lent_row (page_of (opened rows) dir m limit)
      paging-full h = full _ _ _ _ _ _ _ _ w.walking (omega (arith, h, length-map out lent))

      pub paging-done : rest ≡ [] → map lent out ≡ map lent_row (page_of (opened rows) dir m limit)
      paging-done none = done _ _ _ _ _ _ _ _ w.walking (ap opened none)

      module _ (key : Vec ℕ Global) (row : Box (KeptRow B) Global) (more : Stored (KeptRow B)) (first : rest ≡ (key, row) ∷ more) where
        own : IsKey key.items × AreKeys more
        own = subst AreKeys first w.keys

        pub paging-outside : Outside ≡ place_in front key.items → map lent out ≡ map lent_row (page_of (opened rows) dir m limit)
        paging-outside place =
            elim (cases_Bool (begins dir (parts_of key.items))) [
              | inl inside ↦ never _ _ _ _ _ _ _ _ w.walking (parts_of key.items) row.value (opened more) (ap opened first) inside (outside dir clear front key.items is own.0 place inside)
              | inr other ↦ stop _ _ _ _ _ _ _ _ w.walking (parts_of key.items) row.value (opened more) (ap opened first) other
            ]

        pub paging-child : Child ≡ place_in front key.items → length out < limit → (longer : List (Listed B)) (one : Listed B) → longer ≡ out ++ one ∷ [] → one.name.now ≡ drop (length front) key.items → one.entry.now ≡ row.value.entry → Paging longer more
        paging-child place room longer one grown name entry = record {
          walking = added _ _ _ _ _ _ _ _ w.walking (parts_of key.items) row.value (opened more) (ap opened first)
              (child-begins dir clear front key.items is place) (child-length dir clear front key.items is place)
              (omega (arith, room, length-map out lent)) (map lent longer)
              (ap (map lent) grown ∙ map-append lent out (one ∷ []) ∙ ap (λ l. map lent out ++ l ∷ []) (λ i. ((name ∙ sym (child-name dir clear front key.items is place)) i, entry i)));
          keys = own.1;
        }

        module _ (end : ℕ) (place : Below end ≡ place_in front key.items) (next : List ℕ) (next_is : next ≡ take end key.items ++ 1 ∷ []) (new : Stored (KeptRow B)) (between : new ≡ filter (λ e. is_le (bytes_cmp next e.0.items) && true) rows) where
          abbrev name : List ℕ
          name = get_or (parts_of key.items) (length dir) []

          again : opened new ≡ from_parts (dir ++ next_name name ∷ []) (opened rows)
          again =
              ranged (dir ++ next_name name ∷ []) (clear-push dir (next_name name) clear (next-clear name (clear_at (parts_of key.items) (length dir) own.0.clear))) next
              (next_is ∙ ap (λ b. b ++ 1 ∷ []) (below-key dir clear front key.items is end place)
              ∙ append_assoc (key_bytes dir) (0 ∷ name) (1 ∷ []) ∙ sym (append_assoc (key_bytes dir) (0 ∷ []) (next_name name)) ∙ key_below dir (next_name name))
              rows new keys between

          long : length dir + 1 < length (parts_of key.items)
          long = below-length dir clear front key.items is end place

          pub paging-fewer : length (opened new) < length (opened rest)
          paging-fewer = fewer_left _ _ _ _ _ _ _ _ w.walking (parts_of key.items) row.value (opened more) (ap opened first)
              (below-begins dir clear front key.items is end place) (omega (arith, long)) (dir ++ next_name name ∷ []) refl (opened new) again

          pub paging-below : Paging out new
          paging-below = record {
            walking = skipped_to _ _ _ _ _ _ _ _ w.walking (parts_of key.items) row.value (opened more) (ap opened first)
                (below-begins dir clear front key.items is end place) (omega (arith, long)) (dir ++ next_name name ∷ []) refl (opened new) again
                (λ same. omega (arith, same, long));
            keys = keys_ranged next rows new keys between;
          }
