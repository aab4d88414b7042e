-- What is written behind a row that a look-up by its key finds.
use Rattle.std.proofs.Common.{◌≡◌, ℕ, Bool, List, Option, Some, None, refl, sym, ap, subst, ◌∙◌}
use Rattle.std.specs.Box.{with_value}
use Rattle.std.specs.BTreeMap.{is_at}
use Rattle.std.specs.Map.{lookup, remove_entry, set_value}
use Rattle.std.specs.Option.{option_map}
use Rattle.std.specs.declared.alloc.Global.{Global}
use Rattle.std.specs.declared.boxed.Box.{Box}
use Rattle.std.specs.declared.vec.Vec.{Vec}
use Rattle.mt_tree.specs.AreaRows.{changed, is_key}
use Rattle.mt_path.specs.Keys.{IsKey, parts_of}
use Rattle.mt_path.proofs.Keys.{bytes_cmp}
use Rattle.mt_tree.specs.Keys.{AreKeys, opened}
use Rattle.mt_tree.proofs.Changed.{untouched, written}
use Rattle.mt_tree.proofs.Keys.{Stored, changed-opened, is_raw, keys-changed, keys-remove, lookup-opened, remove-opened}

module _ {X : Type 0} (key : List ℕ) (is : IsKey key) (es : Stored X) (keys : AreKeys es) where
  -- a look-up by the key
  abbrev at_key : Vec ℕ Global → Bool
  at_key k = is_at (bytes_cmp key) k.items

  found_is : lookup at_key es ≡ lookup (is_raw (parts_of key)) es
  found_is = ap (λ b. lookup (λ k. is_at (bytes_cmp b) k.items) es) is.whole

  pub opened-row : (row : Box X Global) → Some row ≡ lookup at_key es → Some row.value ≡ lookup (is_key (parts_of key)) (opened es)
  opened-row row found = ap (option_map (λ b. b.value)) (found ∙ found_is) ∙ lookup-opened (parts_of key) is.clear es keys

  pub opened-none : None ≡ lookup at_key es → None ≡ lookup (is_key (parts_of key)) (opened es)
  opened-none none = ap (option_map (λ b. b.value)) (none ∙ found_is) ∙ lookup-opened (parts_of key) is.clear es keys

  -- what stood at the key
  pub opened-old : (old : Option (Box X Global)) → old ≡ lookup at_key es → option_map (λ b. b.value) old ≡ lookup (is_key (parts_of key)) (opened es)
  opened-old old found = ap (option_map (λ b. b.value)) (found ∙ found_is) ∙ lookup-opened (parts_of key) is.clear es keys

  -- without the row at the key
  pub removed-opened : (new : Stored X) → new ≡ remove_entry at_key es → (opened new ≡ remove_entry (is_key (parts_of key)) (opened es)) × AreKeys new
  removed-opened new removed = (
    ap opened (removed ∙ ap (λ b. remove_entry (λ k. is_at (bytes_cmp b) k.items) es) is.whole) ∙ remove-opened (parts_of key) is.clear es keys,
    subst AreKeys (sym removed) (keys-remove at_key es keys),
  )

  module _ (f : X → X) where
    abbrev boxed : Box X Global → Box X Global
    boxed b = with_value b (f b.value)

    pub written-opened : (row : Box X Global) (content : X) → Some row ≡ lookup at_key es → content ≡ row.value → (new : Stored X) → new ≡ set_value at_key es (with_value row (f content))
        → (opened new ≡ changed (is_key (parts_of key)) f (opened es)) × AreKeys new
    written-opened row content found content_is new set =
        let e : new ≡ changed (is_raw (parts_of key)) boxed es = set ∙ ap (λ b. set_value (λ k. is_at (bytes_cmp b) k.items) es (with_value row (f content))) is.whole
        ∙ ap (λ v. set_value (is_raw (parts_of key)) es (with_value row (f v))) content_is ∙ written (is_raw (parts_of key)) boxed es row (sym (found ∙ found_is)) in
        (ap opened e ∙ changed-opened (parts_of key) is.clear f boxed (λ b. refl) es keys, subst AreKeys (sym e) (keys-changed (is_raw (parts_of key)) boxed es keys))

    pub untouched-opened : None ≡ lookup at_key es → (new : Stored X) → new ≡ es → opened new ≡ changed (is_key (parts_of key)) f (opened es)
    untouched-opened none new same = ap opened same ∙ sym (untouched (is_key (parts_of key)) f (opened es) (sym (opened-none none)))

  -- another row in the place of the one at the key
  pub replaced-opened : (row other : Box X Global) → Some row ≡ lookup at_key es → (new : Stored X) → new ≡ set_value at_key es other
      → (opened new ≡ changed (is_key (parts_of key)) (λ x. other.value) (opened es)) × AreKeys new
  replaced-opened row other found new set =
      let e : new ≡ changed (is_raw (parts_of key)) (λ b. other) es = set ∙ ap (λ b. set_value (λ k. is_at (bytes_cmp b) k.items) es other) is.whole
      ∙ written (is_raw (parts_of key)) (λ b. other) es row (sym (found ∙ found_is)) in
      (ap opened e ∙ changed-opened (parts_of key) is.clear (λ x. other.value) (λ b. other) (λ b. refl) es keys, subst AreKeys (sym e) (keys-changed (is_raw (parts_of key)) (λ b. other) es keys))
