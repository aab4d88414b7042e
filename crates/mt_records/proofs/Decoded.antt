-- What the steps of reading a file add up to.
use Rattle.std.proofs.Common.{◌≡◌, ◌≢◌, ℕ, ◌-◌, true, false, cond, List, [], ◌∷◌, length, take, drop, Option, Some, None, Ok, Err, refl, sym, ap, ◌∙◌}
use Rattle.std.specs.Prelude.{◌||◌, ◌==◌, option_map, option_and_then}
use Rattle.std.proofs.lemmas.List.{take-take}
use Rattle.mt_codec.specs.Reading.{◌>>=◌}
use Rattle.mt_records.specs.declared.error.RecordError.{RecordError}
use Rattle.mt_records.specs.declared.error.RecordError.TheVariants.{Torn, Malformed, Memory}
use Rattle.mt_records.specs.declared.head.RecordHead.{RecordHead}
use Rattle.mt_records.specs.declared.limits.TheConstants.{END_LEN, LONGEST_HEAD}
use Rattle.mt_records.specs.Heads.{Gives, Makes, has_body, only}
use Rattle.mt_records.specs.Records.{IsUnlessMemory, answer_of, decoded}
use Rattle.mt_records.specs.Seen.{range_in, range_record}
use Rattle.mt_records.specs.Windows.{Window, body_len, body_start, head_before, headed, last_of, record_in, record_of, record_with, window_of, with_body}
use Rattle.mt_records.proofs.Windows.{same_front}

-- an error of one step is that of the next
pub passed_on : {A B : Type 0} (f : A → Option B) (o : Option A) (e : RecordError) → Makes {A = A} (Err e) o → Makes {A = B} (Err e) (option_and_then f o)
passed_on f o Torn made = made
passed_on f o Malformed made = ap (option_and_then f) made
passed_on f o Memory made = tt

-- an error of a reader is that of what it reads
pub read_error : {A B : Type 0} (f : A × List ℕ → Option B) (rest : List ℕ) (o : Option (A × List ℕ)) (e : RecordError) → Gives {A = A} (Err e) rest o → Makes {A = B} (Err e) (o >>= f)
read_error f rest o Torn given = given
read_error f rest o Malformed given = ap (λ p. p >>= f) given
read_error f rest o Memory given = tt

-- bytes are left behind a head
pub not_only : (head : RecordHead) (rest : List ℕ) → (rest ≡ [] → ⊥) → only (head, rest) ≡ None
not_only head [] some = absurd (some refl)
not_only head (b ∷ rest) some = refl

pub is_only : (head : RecordHead) (rest : List ℕ) → rest ≡ [] → only (head, rest) ≡ Some head
is_only head rest none = ap (λ (r : List ℕ). only (head, r)) none

-- a body that a head may have
pub body_taken : (n : ℕ) (head : RecordHead) (o : Option RecordHead) → (has_body head || (n == 0)) ≡ true → o ≡ Some head → option_and_then (with_body n) o ≡ Some head
body_taken n head o may is = ap (option_and_then (with_body n)) is ∙ ap (λ b. cond b (Some head) None) may

pub body_refused : (n : ℕ) (head : RecordHead) (o : Option RecordHead) → (has_body head || (n == 0)) ≡ false → o ≡ Some head → option_and_then (with_body n) o ≡ None
body_refused n head o may is = ap (option_and_then (with_body n)) is ∙ ap (λ b. cond b (Some head) None) may

-- ---- whole files

pub decoded_torn : (bytes : List ℕ) → body_len (last_of END_LEN bytes) (length bytes) ≡ None → decoded bytes ≡ Err Torn
decoded_torn bytes none = ap (λ (o : Option ℕ). answer_of o (record_in bytes)) none

-- a head is no longer than the front that is looked at
same_head : (from n : ℕ) (bytes : List ℕ) → head_before from n (take LONGEST_HEAD bytes) ≡ head_before from n bytes
unfolding head_before
same_head from n bytes = ap (option_and_then (with_body n)) (same_front from (take LONGEST_HEAD bytes) bytes (λ short. take-take from LONGEST_HEAD bytes short))

-- the bytes between head and end
abbrev pub body_in : List ℕ → ℕ → List ℕ
body_in bytes n = take n (drop (length bytes - END_LEN - n) bytes)

decoded_by : (bytes : List ℕ) (n : ℕ) → body_len (last_of END_LEN bytes) (length bytes) ≡ Some n → (o : Option RecordHead) → head_before (length bytes - END_LEN - n) n bytes ≡ o
    → decoded bytes ≡ answer_of (Some n) (option_map (headed (body_in bytes n)) o)
unfolding record_with
decoded_by bytes n said o found =
    let whole : record_in bytes ≡ option_map (headed (body_in bytes n)) o =
    ap (option_and_then (record_of (λ from len. take len (drop from bytes)) (window_of bytes))) said
    ∙ ap (option_map (headed (body_in bytes n))) (same_head (length bytes - END_LEN - n) n bytes ∙ found) in
    (λ i. answer_of (said i) (whole i))

pub decoded_fault : (bytes : List ℕ) (n : ℕ) → body_len (last_of END_LEN bytes) (length bytes) ≡ Some n
    → (e : RecordError) → Makes {A = RecordHead} (Err e) (head_before (length bytes - END_LEN - n) n bytes) → IsUnlessMemory (decoded bytes) (Err e)
decoded_fault bytes n said Torn made = absurd made
decoded_fault bytes n said Malformed made = decoded_by bytes n said None made
decoded_fault bytes n said Memory made = tt

pub decoded_found : (bytes : List ℕ) (n : ℕ) → body_len (last_of END_LEN bytes) (length bytes) ≡ Some n
    → (head : RecordHead) (body : List ℕ) → head_before (length bytes - END_LEN - n) n bytes ≡ Some head → body ≡ body_in bytes n → decoded bytes ≡ Ok (headed body head)
decoded_found bytes n said head body found is = decoded_by bytes n said (Some head) found ∙ ap (λ (b : List ℕ). Ok (headed b head)) (sym is)

-- ---- windows

pub range_none : (k : ℕ) (w : Window) → body_len w.end w.len ≡ None → range_record k w ≡ None
unfolding record_with
range_none k w none = ap (option_and_then (record_of (range_in k) w)) none

pub range_by : (k : ℕ) (w : Window) (n : ℕ) → body_len w.end w.len ≡ Some n → (o : Option RecordHead) → head_before (body_start w n) n w.front ≡ o
    → range_record k w ≡ option_map (headed (range_in k (body_start w n) n)) o
unfolding record_with
range_by k w n said o found = ap (option_and_then (record_of (range_in k) w)) said ∙ ap (option_map (headed (range_in k (body_start w n) n))) found

pub range_fault : (k : ℕ) (w : Window) (n : ℕ) → body_len w.end w.len ≡ Some n → (e : RecordError) → e ≢ Memory → Makes {A = RecordHead} (Err e) (head_before (body_start w n) n w.front)
    → range_record k w ≡ None
range_fault k w n said Torn other made = absurd made
range_fault k w n said Malformed other made = range_by k w n said None made
range_fault k w n said Memory other made = absurd (other refl)
