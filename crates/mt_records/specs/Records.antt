-- Whole records, and why bytes are none.
use Rattle.std.specs.Prelude.{◌≡◌, ◌≢◌, ℕ, ◌+◌, ◌<◌, ◌≤◌, ◌^◌, ◌⊎◌, false, ⊤, List, [], ◌++◌, length, Option, Some, None, Result, Ok, Err, slice_index_or}
use Rattle.mt_records.specs.declared.error.RecordError.{RecordError}
use Rattle.mt_records.specs.declared.error.RecordError.TheVariants.{Torn, Malformed, Memory}
use Rattle.mt_records.specs.declared.limits.TheConstants.{END_LEN}
use Rattle.mt_records.specs.declared.record.RawRecord.{RawRecord}
use Rattle.mt_records.specs.Heads.{IsHead, has_body, head_bytes}
use Rattle.mt_records.specs.Windows.{body_len, end_bytes, last_of, record_in}

-- a record whose body is its bytes
abbrev pub Record : Type 0
Record = RawRecord (List ℕ)

-- the bytes of a record: its head, its body, and its end
abbrev pub record_bytes : Record → List ℕ
record_bytes r = head_bytes r.head ++ r.body ++ end_bytes (length r.body)

-- its head is one, a ref has no body, and no body is longer than eight bytes say
pub record IsRecord (r : Record) : Type 0 where
  pub head : IsHead r.head
  pub none : has_body r.head ≡ false → r.body ≡ []
  pub small : length r.body < 2 ^ 64

-- a file is torn where it has fewer than 13 bytes, or does not end in the end of a body that it has room for
abbrev pub IsTorn : List ℕ → Type 0
IsTorn bytes = (length bytes < 1 + END_LEN) ⊎ ((n : ℕ) → n + END_LEN ≤ length bytes → n < 2 ^ 64 → last_of END_LEN bytes ≢ end_bytes n)

-- numbers that are bytes
abbrev pub AreBytes : List ℕ → Type 0
AreBytes bytes = (i : ℕ) → slice_index_or bytes i 0 < 256

abbrev pub answer_of : Option ℕ → Option Record → Result Record RecordError
answer_of None r = Err Torn
answer_of (Some len) None = Err Malformed
answer_of (Some len) (Some r) = Ok r

-- the record that bytes are, or why they are none
abbrev pub decoded : List ℕ → Result Record RecordError
decoded bytes = answer_of (body_len (last_of END_LEN bytes) (length bytes)) (record_in bytes)

-- the answer is this one, but for want of memory
abbrev pub IsUnlessMemory : {A : Type 0} → Result A RecordError → Result A RecordError → Type 0
IsUnlessMemory answer (Err Memory) = ⊤
IsUnlessMemory answer result = answer ≡ result
