-- A window and the whole file show one record.
use Rattle.std.proofs.Common.{◌≡◌, ℕ, ◌-◌, ◌≤◌, Bool, true, false, cond, leb, List, take, Option, Some, None, refl, sym, ap, ◌∙◌}
use Rattle.std.specs.Prelude.{option_map, option_and_then}
use Rattle.std.proofs.lemmas.Bool.{leb-true}
use Rattle.std.proofs.lemmas.List.{take-take}
use Rattle.mt_records.specs.declared.head.RecordHead.{RecordHead}
use Rattle.mt_records.specs.declared.record.RawRecord.{RawRecord}
use Rattle.mt_records.specs.declared.limits.TheConstants.{END_LEN, LONGEST_HEAD}
use Rattle.mt_records.specs.Heads.{head_in_front, whole_head}
use Rattle.mt_records.specs.Windows.{IsSeen, Window, body_len, body_start, head_before, headed, record_of, record_with, window_of, with_body}

-- fronts that agree where a head may stand give one head
pub same_front : (n : ℕ) (xs ys : List ℕ) → (n ≤ LONGEST_HEAD → take n xs ≡ take n ys) → head_in_front n xs ≡ head_in_front n ys
same_front n xs ys same = go (leb n LONGEST_HEAD) refl
  where
    go : (b : Bool) → leb n LONGEST_HEAD ≡ b → cond b (whole_head (take n xs)) None ≡ cond b (whole_head (take n ys)) None
    go true test = ap whole_head (same (leb-true n LONGEST_HEAD test))
    go false test = refl

module _ {B : Type 0} (body : ℕ → ℕ → B) where
  abbrev with_start : ℕ → ℕ → Option RecordHead → Option (RawRecord B)
  with_start from n found = option_map (headed (body from n)) found

  -- records of windows that say one length and show one head
  same_record : (n : ℕ) (v w : Window) → v.len ≡ w.len → (body_start v n ≤ LONGEST_HEAD → take (body_start v n) v.front ≡ take (body_start v n) w.front) → record_of body v n ≡ record_of body w n
  unfolding head_before
  same_record n v w len same =
      ap (λ (o : Option RecordHead). with_start (body_start v n) n (option_and_then (with_body n) o)) (same_front (body_start v n) v.front w.front same)
      ∙ ap (λ (l : ℕ). with_start (l - END_LEN - n) n (option_and_then (with_body n) (head_in_front (l - END_LEN - n) w.front))) len

  then_same : {X Y : Type 0} (o : Option X) (f g : X → Option Y) → ((x : X) → o ≡ Some x → f x ≡ g x) → option_and_then f o ≡ option_and_then g o
  then_same None f g h = refl
  then_same (Some x) f g h = h x refl

  -- a window of a file shows the record that the file is
  pub seen_record : (w : Window) (bytes : List ℕ) → IsSeen w bytes → record_with body w ≡ record_with body (window_of bytes)
  unfolding record_with
  seen_record w bytes seen =
      then_same (body_len w.end w.len) (record_of body w) (record_of body (window_of bytes)) one
      ∙ (λ i. option_and_then (record_of body (window_of bytes)) (body_len (seen.end i) (seen.len i)))
    where
      one : (n : ℕ) → body_len w.end w.len ≡ Some n → record_of body w n ≡ record_of body (window_of bytes) n
      one n said = same_record n w (window_of bytes) seen.len (λ short. seen.head n said short ∙ sym (take-take (body_start w n) LONGEST_HEAD bytes short))
