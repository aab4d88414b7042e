-- What is read of a log, one record after another.
use Rattle.std.proofs.Common.{◌≡◌, ◌⊎◌, inl, inr, ℕ, ◌+◌, ◌-◌, ◌<◌, ◌≤◌, ◌^◌, Bool, true, false, true≢false, if◌then◌else◌, ◌==◌, nat_eq, nat_lt, nat_le, List, [], ◌∷◌, ◌++◌, length, get_or, take, drop, Option, Some, None, Result, Err, Ok, refl, sym, ◌∙◌, ap, subst, arith, length-append, length-drop}
use Rattle.std.specs.Prelude.{◌&&◌, ◌||◌, IfErr, IsErrAnd}
use Rattle.std.specs.Int.{w32, to_be_bytes, from_be_bytes}
use Rattle.std.specs.List.{flat_map}
use Rattle.std.specs.Cmp.Lexicographic.{pointwise}
use Rattle.std.proofs.Math.Seq.{take-add}
use Rattle.std.proofs.lemmas.Bool.{cases_eq}
use Rattle.std.proofs.lemmas.Bool.Decides.{Decides-eqb, nat_tests}
use Rattle.std.proofs.lemmas.List.{drop-drop, drop-take, flat_map_more, length-take-le, take-take}
use Rattle.std.proofs.lemmas.Nat.{from_be_bytes-to_be_bytes_4}
use Rattle.std.proofs.lemmas.Slice.Eq.{slice_eq-Decides}
use Rattle.md5.specs.Md5.{md5}
use Rattle.mt_disk.specs.declared.disk.FileNo.{FileNo}
use Rattle.mt_disk.specs.Files.{Files, contents}
use Rattle.mt_log.specs.LogImage.{Damaged, LogFault, NotALog, OldVersion, Short, begins_with, fault_in, head_of, is_old_log, length_in, log_by, log_in, log_magic, magic_of, old_magic, payload_in, payloads_from, record_of}
use Rattle.mt_log.specs.Scan.{OpensAs, EndsWith, GateIs, HasRecord, IsHead, IsOpenGate, Walked, WindowState, fault_of}
use Rattle.mt_log.proofs.Appended.{fit-append}
use Rattle.mt_log.proofs.Records.{length-head_of}
use Rattle.mt_log.specs.declared.open_error.OpenError.{OpenError}
use Rattle.mt_log.proofs.Walks.{ends_fault, ends_none, read_by}

-- the parts of what is read
abbrev judged : ℕ → List ℕ → Option LogFault
judged at tail = if pointwise nat_eq (take 16 (drop 4 tail)) (md5 (payload_in tail)) then None else Some (Damaged at (take 16 (drop 4 tail)) (md5 (payload_in tail)))

abbrev sized : ℕ → List ℕ → Option LogFault
sized at tail = if nat_lt (length tail) (20 + length_in tail) then Some (Short at (21 + length_in tail) (length tail + 1)) else judged at tail

abbrev read_on : List ℕ → Result (List (List ℕ)) LogFault
read_on bytes = if (begins_with log_magic bytes || begins_with old_magic bytes) then payloads_from (length bytes) 8 (drop 8 bytes) else Err NotALog

-- nothing is left
pub stops_at_end : (at : ℕ) (rest : List ℕ) → length rest ≡ 0 → EndsWith at rest (Err (Short at 1 0))
stops_at_end at [] none = ends_none at
stops_at_end at (b ∷ rest) none = absurd (omega arith)

-- the first byte in front
pub first_byte : (rest : List ℕ) (byte : ℕ) → 0 < length rest → byte ≡ get_or (take 1 rest) 0 0 → (tail : List ℕ) × (rest ≡ byte ∷ tail)
first_byte [] byte some is = absurd (omega arith)
first_byte (b ∷ rest) byte some is = (rest, ap (λ x. x ∷ rest) (sym is))

-- fewer bytes than a record's head
pub short_head : (at left : ℕ) (rest : List ℕ) → IsOpenGate rest → left ≡ length rest → left < 21 → EndsWith at rest (Err (Short at 21 left))
unfolding fault_in
short_head at left rest gate size few =
    subst (λ (l : List ℕ). EndsWith at l (Err (Short at 21 left))) (sym gate.is)
    (ends_fault at gate.tail _ (faulty gate.tail left (omega (arith, size, ap length gate.is)) few))
  where
    faulty : (tail : List ℕ) (left : ℕ) → left ≡ length tail + 1 → left < 21 → fault_in at tail ≡ Some (Short at 21 left)
    faulty tail left size few =
        let short : nat_lt (length tail) 20 ≡ true = grind (arith, nat_tests) in
        ap (λ b. if b then Some (Short at 21 (length tail + 1)) else sized at tail) short ∙ ap (λ (n : ℕ). Some (Short at 21 n)) (sym size)

-- the length in a head
length_is : (tail : List ℕ) (len : ℕ) (sum : List ℕ) → IsHead tail len sum → len < 2 ^ 32 → length_in tail ≡ len
unfolding length_in
length_is tail len sum head fits = ap (λ (l : List ℕ). from_be_bytes w32 l) head.len_is ∙ from_be_bytes-to_be_bytes_4 len fits

-- fewer bytes than the payload's
pub short_payload : (at left len : ℕ) (rest sum : List ℕ) → IsOpenGate rest → IsHead (drop 1 rest) len sum → len < 2 ^ 32 → left ≡ length rest → 21 ≤ left → left < 21 + len
    → EndsWith at rest (Err (Short at (21 + len) left))
unfolding fault_in
short_payload at left len rest sum gate head fits size enough few =
    subst (λ (l : List ℕ). EndsWith at l (Err (Short at (21 + len) left))) (sym gate.is)
    (ends_fault at gate.tail _ (faulty gate.tail left (subst (λ (l : List ℕ). IsHead (drop 1 l) len sum) gate.is head) (omega (arith, size, ap length gate.is)) enough few))
  where
    faulty : (tail : List ℕ) (left : ℕ) → IsHead tail len sum → left ≡ length tail + 1 → 21 ≤ left → left < 21 + len → fault_in at tail ≡ Some (Short at (21 + len) left)
    faulty tail left head size enough few =
        let n = length tail in
        let is = length_is tail len sum head fits in
        let long : nat_lt n 20 ≡ false = grind (arith, nat_tests) in
        let short : nat_lt n (20 + length_in tail) ≡ true = grind (arith, nat_tests, is) in
        ap (λ b. if b then Some (Short at 21 (n + 1)) else sized at tail) long
        ∙ ap (λ b. if b then Some (Short at (21 + length_in tail) (n + 1)) else judged at tail) short
        ∙ (λ i. Some (Short at (21 + is i) (sym size i)))

-- a payload with another MD5 than its head keeps
pub damaged : (at left len : ℕ) (rest behind sum computed : List ℕ) → IsOpenGate rest → IsHead (drop 1 rest) len sum → len < 2 ^ 32 → left ≡ length rest → 21 + len ≤ left
    → behind ≡ drop 21 rest → computed ≡ md5 (take len behind) → pointwise nat_eq sum computed ≡ false → EndsWith at rest (Err (Damaged at sum computed))
unfolding fault_in payload_in
damaged at left len rest behind sum computed gate head fits size enough from is differs =
    subst (λ (l : List ℕ). EndsWith at l (Err (Damaged at sum computed))) (sym gate.is)
    (ends_fault at gate.tail _ (faulty gate.tail (subst (λ (l : List ℕ). IsHead (drop 1 l) len sum) gate.is head) (omega (arith, size, ap length gate.is))
    (is ∙ ap (λ (l : List ℕ). md5 (take len l)) (from ∙ ap (λ (l : List ℕ). drop 21 l) gate.is))))
  where
    faulty : (tail : List ℕ) → IsHead tail len sum → 20 + len ≤ length tail → computed ≡ md5 (take len (drop 20 tail)) → fault_in at tail ≡ Some (Damaged at sum computed)
    faulty tail head enough now =
        let n = length tail in
        let len_is = length_is tail len sum head fits in
        let long : nat_lt n 20 ≡ false = grind (arith, nat_tests) in
        let whole : nat_lt n (20 + length_in tail) ≡ false = grind (arith, nat_tests, len_is) in
        let digest : md5 (take (length_in tail) (drop 20 tail)) ≡ computed = ap (λ (k : ℕ). md5 (take k (drop 20 tail))) len_is ∙ sym now in
        let kept = take 16 (drop 4 tail) in
        let other = md5 (take (length_in tail) (drop 20 tail)) in
        let same : pointwise nat_eq kept other ≡ false = (λ i. pointwise nat_eq (head.sum_is i) (digest i)) ∙ differs in
        ap (λ b. if b then Some (Short at 21 (n + 1)) else sized at tail) long
        ∙ ap (λ b. if b then Some (Short at (21 + length_in tail) (n + 1)) else judged at tail) whole
        ∙ ap (λ b. if b then None else Some (Damaged at kept other)) same
        ∙ (λ i. Some (Damaged at (head.sum_is i) (digest i)))

-- a payload with the MD5 that its head keeps
pub whole_record : (left len size : ℕ) (rest behind sum computed : List ℕ) → IsOpenGate rest → IsHead (drop 1 rest) len sum → len < 2 ^ 32 → left ≡ length rest → 21 + len ≤ left
    → behind ≡ drop 21 rest → computed ≡ md5 (take len behind) → pointwise nat_eq sum computed ≡ true → size ≡ 21 + len → HasRecord rest size
unfolding head_of
whole_record left len size rest behind sum computed gate head fits count enough from is same size_is =
    subst (λ (l : List ℕ). HasRecord l size) (sym gate.is)
    (record_at gate.tail (subst (λ (l : List ℕ). IsHead (drop 1 l) len sum) gate.is head) (omega (arith, count, ap length gate.is))
    (is ∙ ap (λ (l : List ℕ). md5 (take len l)) (from ∙ ap (λ (l : List ℕ). drop 21 l) gate.is)))
  where
    record_at : (tail : List ℕ) → IsHead tail len sum → 20 + len ≤ length tail → computed ≡ md5 (take len (drop 20 tail)) → HasRecord (1 ∷ tail) size
    record_at tail head enough now =
        let payload = take len (drop 20 tail) in
        let long : length payload ≡ len = length-take-le len (drop 20 tail) (omega (arith, length-drop 20 tail)) in
        let digest : sum ≡ md5 payload = (slice_eq-Decides Decides-eqb sum computed true (sym same)).0 refl ∙ now in
        let first : take 20 tail ≡ to_be_bytes w32 (length payload) ++ md5 payload =
        take-add 4 16 tail ∙ (λ i. head.len_is i ++ head.sum_is i) ∙ (λ i. to_be_bytes w32 (sym long i) ++ digest i) in
        let all : take (20 + len) tail ≡ (to_be_bytes w32 (length payload) ++ md5 payload) ++ payload = take-add 20 len tail ∙ ap (λ (l : List ℕ). l ++ payload) first in
        let count : size ≡ 1 + (20 + len) = omega (arith, size_is) in
        record {
          payload = payload;
          fits = omega (arith, long, fits);
          size_is = omega (arith, long, size_is);
          whole = ap (λ (k : ℕ). take k (1 ∷ tail)) count ∙ take-add 1 (20 + len) (1 ∷ tail) ∙ ap (λ (l : List ℕ). 1 ∷ l) all;
        }

-- one record further
pub walked_on : (old : Bool) (bytes : List ℕ) (at next : ℕ) → Walked old bytes at → HasRecord (drop at bytes) (next - at) → at ≤ next → Walked old bytes next
walked_on old bytes at next walked passed le =
    let ps = walked.payloads in
    let p = passed.payload in
    let size = next - at in
    let count : next ≡ at + size = omega arith in
    let more : (magic_of old ++ flat_map record_of ps) ++ record_of p ≡ magic_of old ++ flat_map record_of (ps ++ p ∷ []) = flat_map_more record_of (magic_of old) ps p in
    let front : take next bytes ≡ magic_of old ++ flat_map record_of (ps ++ p ∷ []) =
    ap (λ (k : ℕ). take k bytes) count ∙ take-add at size bytes ∙ (λ i. walked.front i ++ passed.whole i) ∙ more in
    record {
      payloads = ps ++ p ∷ [];
      front = front;
      place = omega (arith, count, walked.place, ap length more, length-append (magic_of old ++ flat_map record_of ps) (record_of p), passed.size_is, record_size p);
      each = fit-append ps (p ∷ []) walked.each (passed.fits, tt);
    }
  where
    record_size : (p : List ℕ) → length (record_of p) ≡ 21 + length p
    record_size p = omega (arith, length-append (head_of p) p, length-head_of p)

-- the first bytes of a version
pub walked_none : (old : Bool) (bytes : List ℕ) → take 8 bytes ≡ magic_of old → Walked old bytes 8
walked_none true bytes front = record { payloads = []; front = front; place = refl; each = tt }
walked_none false bytes front = record { payloads = []; front = front; place = refl; each = tt }

-- fewer bytes than an empty log
pub too_short : (any : Bool) (bytes : List ℕ) → length bytes < 9 → log_by any bytes ≡ Err NotALog
unfolding log_in is_old_log
too_short true bytes few = let short : nat_lt (length bytes) 9 ≡ true = grind (arith, nat_tests) in ap (λ b. if b then Err NotALog else read_on bytes) short
too_short false bytes few =
    let short : nat_lt (length bytes) 9 ≡ true = grind (arith, nat_tests) in
    let not_long : nat_le 9 (length bytes) ≡ false = grind (arith, nat_tests) in
    ap (λ b. if (b && begins_with old_magic bytes) then Err OldVersion else log_in bytes) not_long ∙ ap (λ b. if b then Err NotALog else read_on bytes) short

-- the first bytes of no version
pub other_magic : (any : Bool) (bytes : List ℕ) → 9 ≤ length bytes → begins_with log_magic bytes ≡ false → begins_with old_magic bytes ≡ false → log_by any bytes ≡ Err NotALog
unfolding is_old_log log_in
other_magic any bytes long not_new not_old = by any
  where
    read : log_in bytes ≡ Err NotALog
    read =
        let enough : nat_lt (length bytes) 9 ≡ false = grind (arith, nat_tests) in
        ap (λ b. if b then Err NotALog else read_on bytes) enough
        ∙ (λ i. if (not_new i || not_old i) then payloads_from (length bytes) 8 (drop 8 bytes) else Err NotALog)

    by : (any : Bool) → log_by any bytes ≡ Err NotALog
    by true = read
    by false =
        let enough : nat_le 9 (length bytes) ≡ true = grind (arith, nat_tests) in
        (λ i. if (enough i && not_old i) then Err OldVersion else log_in bytes) ∙ read

-- the first bytes of the old version
pub old_refused : (bytes : List ℕ) → 9 ≤ length bytes → take 8 bytes ≡ old_magic → log_by false bytes ≡ Err OldVersion
unfolding is_old_log
old_refused bytes long front =
    let enough : nat_le 9 (length bytes) ≡ true = grind (arith, nat_tests) in
    (λ i. if (enough i && pointwise nat_eq (front i) old_magic) then Err OldVersion else log_in bytes)

-- the length and the MD5 behind a gate, by the first 21 bytes
pub head_is : (rest front sum : List ℕ) (len : ℕ) → front ≡ take 21 rest → to_be_bytes w32 len ≡ take (5 - 1) (drop 1 front) → sum ≡ take (21 - 5) (drop 5 front) → IsHead (drop 1 rest) len sum
head_is rest front sum len is len_is sum_is =
    let part : drop 1 front ≡ take 20 (drop 1 rest) = ap (λ (l : List ℕ). drop 1 l) is ∙ drop-take 1 20 rest in
    let behind : drop 5 front ≡ take 16 (drop 4 (drop 1 rest)) = ap (λ (l : List ℕ). drop 5 l) is ∙ drop-take 5 16 rest ∙ ap (λ (l : List ℕ). take 16 l) (sym (drop-drop 4 1 rest)) in
    record {
      len_is = sym (len_is ∙ ap (λ (l : List ℕ). take 4 l) part ∙ take-take 4 20 (drop 1 rest) (omega arith));
      sum_is = sym (sum_is ∙ ap (λ (l : List ℕ). take 16 l) behind ∙ take-take 16 16 (drop 4 (drop 1 rest)) (omega arith));
    }

-- which version the first bytes are of
pub version_is : (front : List ℕ) (is_new is_old : Bool) → is_new ≡ pointwise nat_eq front log_magic → is_old ≡ pointwise nat_eq front old_magic → (is_new ≡ true) ⊎ (is_old ≡ true) → front ≡ magic_of is_old
version_is front is_new is_old new old (inl holds) =
    let same : front ≡ log_magic = (slice_eq-Decides Decides-eqb front log_magic is_new new).0 holds in
    same ∙ ap magic_of (sym (old ∙ ap (λ (l : List ℕ). pointwise nat_eq l old_magic) same))
version_is front is_new is_old new old (inr holds) =
    (slice_eq-Decides Decides-eqb front old_magic is_old old).0 holds ∙ ap magic_of (sym holds)

-- the gate in front, by the first byte
pub gate_is : (rest front : List ℕ) → front ≡ take 1 rest → 0 < length rest → GateIs (get_or front 0 0 == 1) rest
gate_is [] front is some = absurd (omega arith)
gate_is (b ∷ rest) front is some = by (cases_eq b 1)
  where
    first : get_or front 0 0 ≡ b
    first = ap (λ (l : List ℕ). get_or l 0 0) is

    by : (b ≡ 1) ⊎ (b ≡ 1 → ⊥) → GateIs (get_or front 0 0 == 1) (b ∷ rest)
    by (inl holds) =
        let test : (get_or front 0 0 == 1) ≡ true = grind (arith, nat_tests, first, holds) in
        subst (λ t. GateIs t (b ∷ rest)) (sym test) (record { tail = rest; is = ap (λ x. x ∷ rest) holds })
    by (inr other) =
        let test : (get_or front 0 0 == 1) ≡ false = grind (arith, nat_tests, first, other) in
        subst (λ t. GateIs t (b ∷ rest)) (sym test) (record { byte = b; tail = rest; is = refl; shut = other })

-- the exit of a `?`
pub answers_err : {T : Type 0} (r : Result T OpenError) (e : OpenError) (read : Result (List (List ℕ)) LogFault) → IsErrAnd r (λ x. x ≡ e) → ((fault : LogFault) → fault_of e ≡ Some fault → read ≡ Err fault) → OpensAs r read
answers_err (Ok x) e read is says = absurd is
answers_err (Err x) e read is says = λ fault named. says fault (sym (ap fault_of is) ∙ named)

pub at_err : {T : Type 0} (r : Result T OpenError) (e : OpenError) (P : OpenError → Type 0) → IsErrAnd r (λ x. x ≡ e) → P e → IfErr r P
at_err (Ok x) e P is says = absurd is
at_err (Err x) e P is says = subst P (sym is) says

-- a version that is taken
pub read_taken : (any old : Bool) (read : Result (List (List ℕ)) LogFault) → ((old ≡ true) × (any ≡ true)) ⊎ (old ≡ false) → read_by any old read ≡ read
read_taken true old read taken = refl
read_taken false false read taken = refl
read_taken false true read (inl taken) = absurd (true≢false (sym taken.1))
read_taken false true read (inr taken) = absurd (true≢false taken)

-- the window behind the first bytes
pub begun_at : (files : Files) (old : Bool) (window : WindowState) (file : FileNo) → window.file ≡ file → window.at ≡ 8 → take 8 (contents files file) ≡ magic_of old → Walked old (contents files window.file) window.at
begun_at files old window file is place front =
    subst (λ (n : ℕ). Walked old (contents files window.file) n) (sym place) (subst (λ f. Walked old (contents files f) 8) (sym is) (walked_none old (contents files file) front))
