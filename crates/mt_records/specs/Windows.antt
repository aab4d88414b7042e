-- What of a record file tells what it is: its length, its front and its end. The body is not looked at.
use Rattle.std.specs.Prelude.{◌≡◌, ℕ, ◌-◌, ◌≤◌, Bool, ◌&&◌, ◌||◌, ◌==◌, nat_lt, nat_le, ⊤, List, [], ◌∷◌, ◌++◌, length, take, drop, codes, bytes_eq, Option, Some, None, option_map, option_and_then, if◌then◌else◌}
use Rattle.std.specs.Int.{w64, from_be_bytes}
use Rattle.mt_base.specs.Numbers.{big_endian_64}
use Rattle.mt_types.specs.declared.task.RecordFile.{RecordFile}
use Rattle.mt_records.specs.declared.head.RecordHead.{RecordHead}
use Rattle.mt_records.specs.declared.record.RawRecord.{RawRecord}
use Rattle.mt_records.specs.declared.limits.TheConstants.{LONGEST_HEAD, END_LEN}
use Rattle.mt_records.specs.Heads.{has_body, head_in_front}

-- the length of a file, its first 1,209 bytes, or more, and its last 12, or all where it is shorter
pub record Window : Type 0 where
  pub len : ℕ
  pub front : List ℕ
  pub end : List ℕ

-- the last bytes, so many, or all
abbrev pub last_of : ℕ → List ℕ → List ℕ
last_of n bytes = drop (length bytes - n) bytes

abbrev pub window_of : List ℕ → Window
window_of bytes = record { len = length bytes; front = take LONGEST_HEAD bytes; end = last_of END_LEN bytes }

-- the end of a record file: a mark, and the length of the body
abbrev pub end_bytes : ℕ → List ℕ
end_bytes len = codes "MREC" ++ big_endian_64 len

-- the number behind the mark
abbrev pub number_in : List ℕ → ℕ
number_in end = from_be_bytes w64 (drop 4 end)

-- these are 12 bytes with the mark before a number, which says no longer a body than a file of this length has room for
abbrev pub is_end : List ℕ → ℕ → Bool
is_end end len = (length end == END_LEN) && (bytes_eq (take 4 end) (codes "MREC") && nat_le (number_in end) (len - END_LEN))

-- the length of the body that the end says, in a file of at least 13 bytes; none where the file is torn
unfoldable pub body_len : List ℕ → ℕ → Option ℕ
body_len end len = if nat_lt END_LEN len && is_end end len then Some (number_in end) else None

-- where the body begins, which is where the head ends
abbrev pub body_start : Window → ℕ → ℕ
body_start w len = w.len - END_LEN - len

-- a head has the body that it may have: a ref has none
abbrev pub with_body : ℕ → RecordHead → Option RecordHead
with_body len head = if has_body head || len == 0 then Some head else None

-- the head before a body of this length
unfoldable pub head_before : ℕ → ℕ → List ℕ → Option RecordHead
head_before from len front = option_and_then (with_body len) (head_in_front from front)

-- a head with what stands for the body
abbrev pub headed : {B : Type 0} → B → RecordHead → RawRecord B
headed body head = record { head = head; body = body }

-- the record whose body has this length
abbrev pub record_of : {B : Type 0} → (ℕ → ℕ → B) → Window → ℕ → Option (RawRecord B)
record_of body w len = option_map (headed (body (body_start w len) len)) (head_before (body_start w len) len w.front)

-- the record that a window shows, if it shows one; its body stands for the bytes from a place on, so many
unfoldable pub record_with : {B : Type 0} → (ℕ → ℕ → B) → Window → Option (RawRecord B)
record_with body w = option_and_then (record_of body w) (body_len w.end w.len)

-- the record that the bytes of a file are
abbrev pub record_in : List ℕ → Option (RawRecord (List ℕ))
record_in bytes = record_with (λ from len. take len (drop from bytes)) (window_of bytes)

-- a window shows of a file its length and its end, and, where the end says how long the head is, the head
pub record IsSeen (w : Window) (bytes : List ℕ) : Type 0 where
  pub len : w.len ≡ length bytes
  pub end : w.end ≡ last_of END_LEN bytes
  pub head : (n : ℕ) → body_len w.end w.len ≡ Some n → body_start w n ≤ LONGEST_HEAD → take (body_start w n) w.front ≡ take (body_start w n) bytes

-- windows of the first files
abbrev pub AreSeen : List Window → List RecordFile → Type 0
AreSeen [] files = ⊤
AreSeen (w ∷ ws) [] = ⊥
AreSeen (w ∷ ws) (f ∷ files) = IsSeen w f.bytes × AreSeen ws files
