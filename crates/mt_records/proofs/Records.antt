-- Whole records: what is written is read again, and nothing else is.
use Rattle.std.proofs.Common.{◌≡◌, ℕ, ◌+◌, ◌-◌, ◌<◌, ◌≤◌, ◌^◌, Bool, true, false, cond, leb, List, [], ◌∷◌, ◌++◌, length, take, drop, Option, Some, None, Ok, Err, refl, sym, ap, subst, ◌∙◌, arith, append_assoc, inl, inr}
use Rattle.std.specs.Prelude.{◌↔◌, ◌==◌, option_map, option_and_then}
use Rattle.std.proofs.lemmas.Bool.{cases_lt, le-leb, leb-true, eqb-true}
use Rattle.std.proofs.lemmas.List.{length-append, length-drop, length-take-le, take_at, drop_at, take-take, take-append-drop, drop-drop}
use Rattle.mt_codec.proofs.Options.{guard_some}
use Rattle.mt_records.specs.declared.error.RecordError.TheVariants.{Torn}
use Rattle.mt_records.specs.declared.head.RecordHead.{RecordHead}
use Rattle.mt_records.specs.declared.head.RecordHead.TheVariants.{Emit, Keep, Ref}
use Rattle.mt_records.specs.declared.limits.TheConstants.{END_LEN, LONGEST_HEAD}
use Rattle.mt_records.specs.Heads.{IsHead, has_body, head_bytes, head_in_front, whole_head}
use Rattle.mt_records.specs.Records.{AreBytes, IsRecord, IsTorn, Record, answer_of, decoded, record_bytes}
use Rattle.mt_records.specs.Windows.{body_len, end_bytes, head_before, headed, last_of, record_in, record_of, record_with, window_of, with_body}
use Rattle.mt_records.proofs.Ends.{IsBytes-drop, IsBytes-take, end_says, is_end_bytes, len_said, number_below, some_len}
use Rattle.mt_records.proofs.Heads.{head_len, whole_again, whole_takes}

-- ---- with a body

body_allowed : (head : RecordHead) (body : List ℕ) → (has_body head ≡ false → body ≡ []) → with_body (length body) head ≡ Some head
body_allowed (Emit place reducer) body none = refl
body_allowed (Keep place) body none = refl
body_allowed (Ref name) [] none = refl
body_allowed (Ref name) (b ∷ body) none = absurd (apart (none refl))
  where
    apart : b ∷ body ≡ [] → ⊥
    apart e = absurd cc

no_bytes : (n : ℕ) (head other : RecordHead) → with_body n head ≡ Some other → (head ≡ other) × (has_body head ≡ false → n ≡ 0)
no_bytes n (Emit place reducer) other e = (cc, λ none. absurd cc)
no_bytes n (Keep place) other e = (cc, λ none. absurd cc)
no_bytes n (Ref name) other e =
    let g = guard_some (n == 0) (Ref name) other e in
    (g.1, λ none. eqb-true n 0 g.0)

-- ---- what is written

-- where the parts of the bytes stand
pub record Lies (r : Record) (bytes : List ℕ) : Type 0 where
  pub len : length bytes ≡ length (head_bytes r.head) + length r.body + END_LEN
  pub end : last_of END_LEN bytes ≡ end_bytes (length r.body)
  pub head : take (length (head_bytes r.head)) bytes ≡ head_bytes r.head
  pub body : take (length r.body) (drop (length (head_bytes r.head)) bytes) ≡ r.body

lies : (r : Record) → Lies r (record_bytes r)
lies r =
    let h = head_bytes r.head in
    let b = r.body in
    let e = end_bytes (length b) in
    let twelve : length e ≡ END_LEN = refl in
    let count : length ((h ++ b) ++ e) ≡ length h + length b + END_LEN = omega (arith, length-append (h ++ b) e, length-append h b, twelve) in
    let behind : length (h ++ b) ≡ length ((h ++ b) ++ e) - END_LEN = omega (arith, length-append h b, count) in
    let regrouped : (h ++ b) ++ e ≡ h ++ (b ++ e) = append_assoc h b e in
    record {
      len = count;
      end = drop_at (h ++ b) e (length ((h ++ b) ++ e) - END_LEN) behind;
      head = ap (take (length h)) regrouped ∙ take_at h (b ++ e) (length h) refl;
      body = ap (λ (t : List ℕ). take (length b) (drop (length h) t)) regrouped ∙ ap (take (length b)) (drop_at h (b ++ e) (length h) refl) ∙ take_at b e (length b) refl;
    }

-- a head has one byte at least
some_head : (x : RecordHead) → 0 < length (head_bytes x)
unfolding head_bytes
some_head (Emit place reducer) = omega arith
some_head (Keep place) = omega arith
some_head (Ref name) = omega arith

-- by the parts of the bytes
record_lies : (r : Record) (bytes : List ℕ) → IsRecord r → Lies r bytes → (body_len (last_of END_LEN bytes) (length bytes) ≡ Some (length r.body)) × (record_in bytes ≡ Some r)
unfolding record_with head_before
record_lies r bytes is lie =
    let h = head_bytes r.head in
    let n = length r.body in
    let said : body_len (end_bytes n) (length bytes) ≡ Some n =
    len_said (end_bytes n) (length bytes) n (end_says (length bytes) n is.small (omega (arith, lie.len, some_head r.head)) (omega (arith, lie.len))) in
    let shown : body_len (last_of END_LEN bytes) (length bytes) ≡ Some n = ap (λ (e : List ℕ). body_len e (length bytes)) lie.end ∙ said in
    let start : length bytes - END_LEN - n ≡ length h = omega (arith, lie.len) in
    let short : length h ≤ LONGEST_HEAD = head_len r.head is.head in
    let front : take (length h) (take LONGEST_HEAD bytes) ≡ h = take-take (length h) LONGEST_HEAD bytes short ∙ lie.head in
    let found : head_in_front (length h) (take LONGEST_HEAD bytes) ≡ Some r.head =
    ap (λ b. cond b (whole_head (take (length h) (take LONGEST_HEAD bytes))) None) (le-leb (length h) LONGEST_HEAD short) ∙ ap whole_head front ∙ whole_again r.head is.head in
    let whole : option_and_then (with_body n) (head_in_front (length h) (take LONGEST_HEAD bytes)) ≡ Some r.head =
    ap (option_and_then (with_body n)) found ∙ body_allowed r.head r.body is.none in
    let made : option_map (headed (take n (drop (length h) bytes))) (option_and_then (with_body n) (head_in_front (length h) (take LONGEST_HEAD bytes))) ≡ Some r =
    ap (option_map (headed (take n (drop (length h) bytes)))) whole ∙ ap (λ (b : List ℕ). Some (headed b r.head)) lie.body in (
      shown,
      ap (option_and_then (record_of (λ from len. take len (drop from bytes)) (window_of bytes))) shown
          ∙ ap (λ (k : ℕ). option_map (headed (take n (drop k bytes))) (option_and_then (with_body n) (head_in_front k (take LONGEST_HEAD bytes)))) start
          ∙ made,
    )

pub written_is_read : (r : Record) → IsRecord r → decoded (record_bytes r) ≡ Ok r
written_is_read r is =
    let found = record_lies r (record_bytes r) is (lies r) in
    (λ i. answer_of (found.0 i) (found.1 i))

-- ---- what is read

answered : (o : Option ℕ) (x : Option Record) (r : Record) → answer_of o x ≡ Ok r → (n : ℕ) × (o ≡ Some n) × (x ≡ Some r)
answered None x r e = absurd cc
answered (Some n) None r e = absurd cc
answered (Some n) (Some s) r e = (n, refl, cc)

pub mapped_some : {X Y : Type 0} (f : X → Y) (o : Option X) (y : Y) → option_map f o ≡ Some y → (x : X) × (o ≡ Some x) × (f x ≡ y)
mapped_some f None y e = absurd cc
mapped_some f (Some x) y e = (x, refl, cc)

pub then_some : {X Y : Type 0} (f : X → Option Y) (o : Option X) (y : Y) → option_and_then f o ≡ Some y → (x : X) × (o ≡ Some x) × (f x ≡ Some y)
then_some f None y e = absurd cc
then_some f (Some x) y e = (x, refl, e)

chosen_some : {X : Type 0} (b : Bool) (o : Option X) (y : X) → cond b o None ≡ Some y → (b ≡ true) × (o ≡ Some y)
chosen_some true o y e = (refl, e)
chosen_some false o y e = absurd cc

-- the head that is found before a body
pub found_head : (from n : ℕ) (front : List ℕ) (x : RecordHead) → head_before from n front ≡ Some x
    → (from ≤ LONGEST_HEAD) × (whole_head (take from front) ≡ Some x) × (has_body x ≡ false → n ≡ 0)
unfolding head_before
found_head from n front x e =
    let a = then_some (with_body n) (head_in_front from front) x e in
    let b = no_bytes n a.0 x a.2 in
    let c = chosen_some (leb from LONGEST_HEAD) (whole_head (take from front)) x (a.1 ∙ ap (λ (h : RecordHead). Some h) b.0) in
    (leb-true from LONGEST_HEAD c.0, c.1, λ none. b.1 (ap has_body b.0 ∙ none))

empty_list : (xs : List ℕ) → length xs ≡ 0 → xs ≡ []
empty_list [] e = refl
empty_list (x ∷ xs) e = absurd (omega (arith, e))

pub read_is_written : (bytes : List ℕ) (r : Record) → AreBytes bytes → decoded bytes ≡ Ok r → (record_bytes r ≡ bytes) × IsRecord r
unfolding record_with
read_is_written bytes r fits e =
    let a = answered (body_len (last_of END_LEN bytes) (length bytes)) (record_in bytes) r e in
    let n = a.0 in
    let says = some_len (last_of END_LEN bytes) (length bytes) n a.1 in
    let from = length bytes - END_LEN - n in
    let shown : record_of (λ from len. take len (drop from bytes)) (window_of bytes) n ≡ Some r =
    ap (option_and_then (record_of (λ from len. take len (drop from bytes)) (window_of bytes))) (sym a.1) ∙ a.2 in
    let m = mapped_some (headed (take n (drop from bytes))) (head_before from n (take LONGEST_HEAD bytes)) r shown in
    let f = found_head from n (take LONGEST_HEAD bytes) m.0 m.1 in
    let head : r.head ≡ m.0 = ap (λ (s : Record). s.head) (sym m.2) in
    let body : take n (drop from bytes) ≡ r.body = ap (λ (s : Record). s.body) m.2 in
    let front : take from (take LONGEST_HEAD bytes) ≡ take from bytes = take-take from LONGEST_HEAD bytes f.0 in
    let w = whole_takes (take from bytes) m.0 (IsBytes-take from bytes fits) (ap whole_head (sym front) ∙ f.1) in
    let count : length (take n (drop from bytes)) ≡ n = length-take-le n (drop from bytes) (omega (arith, length-drop from bytes, says.room, says.long)) in
    let size : length r.body ≡ n = ap length (sym body) ∙ count in
    let end : last_of END_LEN bytes ≡ end_bytes n = is_end_bytes (last_of END_LEN bytes) (length bytes) n (IsBytes-drop (length bytes - END_LEN) bytes fits) says in
    let behind : drop n (drop from bytes) ≡ last_of END_LEN bytes =
    drop-drop n from bytes ∙ ap (λ (k : ℕ). drop k bytes) (omega (arith, says.room, says.long)) in
    let tail : drop from bytes ≡ r.body ++ end_bytes (length r.body) =
    sym (take-append-drop n (drop from bytes)) ∙ (λ i. body i ++ (behind ∙ end ∙ ap end_bytes (sym size)) i) in
    let whole : bytes ≡ record_bytes r =
    sym (take-append-drop from bytes) ∙ (λ i. (w.0 ∙ ap head_bytes (sym head)) i ++ tail i) ∙ sym (append_assoc (head_bytes r.head) r.body (end_bytes (length r.body))) in (
      sym whole,
      record {
        head = subst IsHead (sym head) w.1;
        none = λ none. empty_list r.body (size ∙ f.2 (ap has_body (sym head) ∙ none));
        small = subst (λ (k : ℕ). k < 2 ^ 64) (sym size) (number_below (last_of END_LEN bytes) (length bytes) n (IsBytes-drop (length bytes - END_LEN) bytes fits) says);
      },
    )

-- ---- torn files

torn_answer : (o : Option ℕ) (x : Option Record) → answer_of o x ≡ Err Torn → o ≡ None
torn_answer None x e = refl
torn_answer (Some n) None e = absurd cc
torn_answer (Some n) (Some s) e = absurd cc

none_some : (n : ℕ) (P : Type 0) → None ≡ Some n → P
none_some n P e = absurd cc

torn_from : (bytes : List ℕ) → body_len (last_of END_LEN bytes) (length bytes) ≡ None → IsTorn bytes
torn_from bytes none =
    elim (cases_lt (length bytes) (1 + END_LEN)) [
      | inl short ↦ inl short
      | inr long ↦ inr (λ n fits small same.
          none_some n ⊥ (sym none ∙ ap (λ (e : List ℕ). body_len e (length bytes)) same ∙ len_said (end_bytes n) (length bytes) n (end_says (length bytes) n small (omega (arith, long)) (omega (arith, fits, long)))))
    ]

torn_to : (bytes : List ℕ) → AreBytes bytes → IsTorn bytes → body_len (last_of END_LEN bytes) (length bytes) ≡ None
torn_to bytes fits torn = go (body_len (last_of END_LEN bytes) (length bytes)) refl
  where
    go : (o : Option ℕ) → body_len (last_of END_LEN bytes) (length bytes) ≡ o → o ≡ None
    go None e = refl
    go (Some n) e =
        let says = some_len (last_of END_LEN bytes) (length bytes) n e in
        let end_fits = IsBytes-drop (length bytes - END_LEN) bytes fits in
        elim torn [
          | inl short ↦ absurd (omega (arith, says.long, short))
          | inr never ↦ absurd (never n (omega (arith, says.room, says.long)) (number_below (last_of END_LEN bytes) (length bytes) n end_fits says) (is_end_bytes (last_of END_LEN bytes) (length bytes) n end_fits says))
        ]

pub torn_is_torn : (bytes : List ℕ) → AreBytes bytes → (decoded bytes ≡ Err Torn) ↔ IsTorn bytes
torn_is_torn bytes fits =
    (λ e. torn_from bytes (torn_answer (body_len (last_of END_LEN bytes) (length bytes)) (record_in bytes) e), λ torn. ap (λ (o : Option ℕ). answer_of o (record_in bytes)) (torn_to bytes fits torn))
