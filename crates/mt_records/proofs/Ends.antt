-- The end of a file: what it says of the body.
use Rattle.std.proofs.Common.{◌≡◌, ℕ, ◌+◌, ◌-◌, ◌<◌, ◌≤◌, ◌^◌, true, cond, List, ◌++◌, length, take, drop, Some, None, refl, sym, ap, subst, ◌∙◌, arith, inl, inr}
use Rattle.std.specs.Prelude.{◌&&◌, ◌==◌, nat_lt, nat_le, bytes_eq, codes}
use Rattle.std.specs.Int.{w64, from_be_bytes}
use Rattle.std.proofs.lemmas.Bool.{cases_lt, and_parts, and_from, leb-true, le-leb, ltb-true, lt-ltb, eqb-true, eq-eqb}
use Rattle.std.proofs.lemmas.List.{length-take, length-drop, take-append-drop, get_or-drop, get_or-take, get_or_past}
use Rattle.std.proofs.lemmas.Nat.{be_bytes_8, from_be_bytes-to_be_bytes_8}
use Rattle.std.proofs.lemmas.Slice.Eq.{bytes_eq-Decides}
use Rattle.mt_base.specs.Numbers.{big_endian_64}
use Rattle.mt_codec.proofs.Forms.{IsBytes}
use Rattle.mt_codec.proofs.Options.{guard_some}
use Rattle.mt_records.specs.declared.limits.TheConstants.{END_LEN}
use Rattle.mt_records.specs.Windows.{body_len, end_bytes, is_end, number_in}

-- what a file's end says, where it says something
pub record SaysLen (end : List ℕ) (len n : ℕ) : Type 0 where
  pub long : END_LEN < len
  pub size : length end ≡ END_LEN
  pub mark : take 4 end ≡ codes "MREC"
  pub number : number_in end ≡ n
  pub room : n ≤ len - END_LEN

pub some_len : (end : List ℕ) (len n : ℕ) → body_len end len ≡ Some n → SaysLen end len n
unfolding body_len
some_len end len n e =
    let g = guard_some (nat_lt END_LEN len && is_end end len) (number_in end) n e in
    let a = and_parts (nat_lt END_LEN len) (is_end end len) g.0 in
    let b = and_parts (length end == END_LEN) (bytes_eq (take 4 end) (codes "MREC") && nat_le (number_in end) (len - END_LEN)) a.1 in
    let c = and_parts (bytes_eq (take 4 end) (codes "MREC")) (nat_le (number_in end) (len - END_LEN)) b.1 in
    record {
      long = ltb-true END_LEN len a.0;
      size = eqb-true (length end) END_LEN b.0;
      mark = (bytes_eq-Decides (take 4 end) (codes "MREC")).0 c.0;
      number = g.1;
      room = subst (λ (m : ℕ). m ≤ len - END_LEN) g.1 (leb-true (number_in end) (len - END_LEN) c.1);
    }

pub len_said : (end : List ℕ) (len n : ℕ) → SaysLen end len n → body_len end len ≡ Some n
unfolding body_len
len_said end len n h =
    let room : number_in end ≤ len - END_LEN = subst (λ (m : ℕ). m ≤ len - END_LEN) (sym h.number) h.room in
    let mark : bytes_eq (take 4 end) (codes "MREC") ≡ true = (bytes_eq-Decides (take 4 end) (codes "MREC")).1 h.mark in
    let test : (nat_lt END_LEN len && is_end end len) ≡ true =
    and_from _ _ (lt-ltb END_LEN len h.long) (and_from _ _ (eq-eqb (length end) END_LEN h.size) (and_from _ _ mark (le-leb (number_in end) (len - END_LEN) room))) in
    ap (λ b. cond b (Some (number_in end)) None) test ∙ ap (λ (m : ℕ). Some m) h.number

-- the number behind the mark
pub number_again : (n : ℕ) → n < 2 ^ 64 → number_in (end_bytes n) ≡ n
number_again n small = from_be_bytes-to_be_bytes_8 n small

-- the end of a body is one
pub end_says : (len n : ℕ) → n < 2 ^ 64 → END_LEN < len → n ≤ len - END_LEN → SaysLen (end_bytes n) len n
end_says len n small long room = record { long = long; size = refl; mark = refl; number = number_again n small; room = room }

-- ---- numbers that are bytes

pub IsBytes-drop : (n : ℕ) (bytes : List ℕ) → IsBytes bytes → IsBytes (drop n bytes)
IsBytes-drop n bytes h i = rw get_or-drop (h (n + i))

pub IsBytes-take : (n : ℕ) (bytes : List ℕ) → IsBytes bytes → IsBytes (take n bytes)
IsBytes-take n bytes h i =
    elim (cases_lt i n) [
      | inl lt ↦ rw (get_or-take n bytes i 0 lt) (h i)
      | inr le ↦ rw (get_or_past (take n bytes) i 0 (omega (arith, length-take n bytes))) (omega arith)
    ]

eight_below : (bytes : List ℕ) → IsBytes bytes → from_be_bytes w64 bytes < 2 ^ 64
eight_below bytes fits = omega (arith, fits 0, fits 1, fits 2, fits 3, fits 4, fits 5, fits 6, fits 7)

pub number_below : (end : List ℕ) (len n : ℕ) → IsBytes end → SaysLen end len n → n < 2 ^ 64
number_below end len n fits h = subst (λ (m : ℕ). m < 2 ^ 64) h.number (eight_below (drop 4 end) (IsBytes-drop 4 end fits))

-- what says so is that end
pub is_end_bytes : (end : List ℕ) (len n : ℕ) → IsBytes end → SaysLen end len n → end ≡ end_bytes n
is_end_bytes end len n fits h =
    let eight : length (drop 4 end) ≡ 8 = omega (arith, length-drop 4 end, h.size) in
    let number : big_endian_64 n ≡ drop 4 end = be_bytes_8 (drop 4 end) n eight (IsBytes-drop 4 end fits) (sym h.number) in
    sym (take-append-drop 4 end) ∙ (λ i. h.mark i ++ sym number i)
