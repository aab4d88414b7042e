-- What three files stand for as a log of payloads. A log is eight bytes and then records, each behind a gate of one byte; it
-- ends at the first gate that isn't open, and what follows that one isn't read.
use Rattle.std.specs.Prelude.{◌≡◌, ◌≢◌, ◌⊎◌, ◌<◌, ℕ, zero, suc, ◌+◌, ◌^◌, Bool, true, false, ◌&&◌, ◌||◌, if◌then◌else◌, ◌==◌, nat_eq, nat_lt, nat_le, codes, List, [], ◌∷◌, ◌++◌, length, take, drop, sum_by, Option, Some, None, Result, Ok, Err, IsOk}
use Rattle.std.specs.Int.{w32, to_be_bytes, from_be_bytes}
use Rattle.std.specs.List.{flat_map}
use Rattle.std.specs.Result.{result_unwrap_or}
use Rattle.std.specs.Cmp.Lexicographic.{pointwise}
use Rattle.md5.specs.Md5.{md5}
use Rattle.mt_disk.specs.declared.disk.FileNo.{FileNo}
use Rattle.mt_disk.specs.declared.disk.FileNo.TheVariants.{One, Two}
use Rattle.mt_disk.specs.Files.{Files, contents}

-- the bytes that a log begins with, and those that one of the old version began with
abbrev pub log_magic : List ℕ
log_magic = codes "MTLOG002"

abbrev pub old_magic : List ℕ
old_magic = codes "MTLOG001"

-- the first bytes of a log of the old version, or of this one
abbrev pub magic_of : Bool → List ℕ
magic_of true = old_magic
magic_of false = log_magic

-- how many bytes a log begins with
abbrev pub magic_size : ℕ
magic_size = 8

-- the bytes of a log without a payload: the first eight and a gate
abbrev pub empty_size : ℕ
empty_size = magic_size + 1

-- what a record has beside its payload: gate, length and MD5
abbrev pub record_head : ℕ
record_head = 1 + 4 + 16

-- the length, highest byte first, and the MD5 of a payload
unfoldable pub head_of : List ℕ → List ℕ
head_of payload = to_be_bytes w32 (length payload) ++ md5 payload

-- an open record
abbrev pub record_of : List ℕ → List ℕ
record_of payload = 1 ∷ head_of payload ++ payload

-- the bytes of a log of these payloads, its closed gate among them
abbrev pub log_size : List (List ℕ) → ℕ
log_size ps = empty_size + sum_by (λ p. record_head + length p) ps

-- why files can't be read as a log
pub data LogFault : Type 0 where
  -- the chosen file is shorter than an empty log, or begins with other bytes
  NotALog : LogFault
  -- the chosen file begins as a log of the old version
  OldVersion : LogFault
  -- the open record at this place keeps this MD5, and its payload has that one
  Damaged : ℕ → List ℕ → List ℕ → LogFault
  -- from this place on, a record or a gate wants so many bytes, and only so many are there
  Short : ℕ → ℕ → ℕ → LogFault

-- the length that stands behind an open gate, and the payload of that length
unfoldable pub length_in : List ℕ → ℕ
length_in rest = from_be_bytes w32 (take 4 rest)

unfoldable pub payload_in : List ℕ → List ℕ
payload_in rest = take (length_in rest) (drop 20 rest)

-- what is wrong with the record whose open gate is at this place, with this rest behind the gate
unfoldable pub fault_in : ℕ → List ℕ → Option LogFault
fault_in at rest =
    if nat_lt (length rest) 20 then Some (Short at record_head (length rest + 1))
    else if nat_lt (length rest) (20 + length_in rest) then Some (Short at (record_head + length_in rest) (length rest + 1))
    else if pointwise nat_eq (take 16 (drop 4 rest)) (md5 (payload_in rest)) then None
    else Some (Damaged at (take 16 (drop 4 rest)) (md5 (payload_in rest)))

-- a fault, or else this result
abbrev pub fault_or : {T : Type 0} → Option LogFault → Result T LogFault → Result T LogFault
fault_or None r = r
fault_or (Some fault) r = Err fault

-- a payload before others
abbrev pub payload_before : List ℕ → Result (List (List ℕ)) LogFault → Result (List (List ℕ)) LogFault
payload_before payload (Ok ps) = Ok (payload ∷ ps)
payload_before payload (Err fault) = Err fault

-- the payloads of the open records in these bytes, which stand at this place; the first number is above their count
abbrev pub payloads_from : ℕ → ℕ → List ℕ → Result (List (List ℕ)) LogFault
payloads_from most at [] = Err (Short at 1 0)
payloads_from zero at (gate ∷ rest) = Ok []
payloads_from (suc most) at (gate ∷ rest) =
    if gate == 1
    then fault_or (fault_in at rest) (payload_before (payload_in rest) (payloads_from most (at + record_head + length_in rest) (drop (20 + length_in rest) rest)))
    else Ok []

-- whether a file's first bytes are these
abbrev pub begins_with : List ℕ → List ℕ → Bool
begins_with magic bytes = pointwise nat_eq (take magic_size bytes) magic

-- the payloads of a file, of either version
unfoldable pub log_in : List ℕ → Result (List (List ℕ)) LogFault
log_in bytes =
    if nat_lt (length bytes) empty_size then Err NotALog
    else if begins_with log_magic bytes || begins_with old_magic bytes then payloads_from (length bytes) magic_size (drop magic_size bytes)
    else Err NotALog

-- whether a file is as long as a log, and begins as one of the old version
unfoldable pub is_old_log : List ℕ → Bool
is_old_log bytes = nat_le empty_size (length bytes) && begins_with old_magic bytes

-- the file that holds the log, by what Head and Two hold: Two where the first byte of Head is 2 and Two is long enough, else One
abbrev pub chosen_by : List ℕ → List ℕ → Option FileNo
chosen_by [] two = None
chosen_by (byte ∷ more) two = Some (if byte == 2 then if nat_le empty_size (length two) then Two else One else One)

-- the file that holds the log, or none where Head is empty
abbrev pub chosen_file : Files → Option FileNo
chosen_file files = chosen_by files.head files.two

-- the payloads of a file, as an opening reads it that takes the old version too, or doesn't
abbrev pub log_by : Bool → List ℕ → Result (List (List ℕ)) LogFault
log_by true bytes = log_in bytes
log_by false bytes = if is_old_log bytes then Err OldVersion else log_in bytes

-- the payloads of the log in this file; without one the log is empty
abbrev pub payloads_in : Bool → Option FileNo → Files → Result (List (List ℕ)) LogFault
payloads_in any None files = Ok []
payloads_in any (Some file) files = log_by any (contents files file)

abbrev pub payloads_by : Bool → Files → Result (List (List ℕ)) LogFault
payloads_by any files = payloads_in any (chosen_file files) files

-- the payloads of the files' log, or the first fault from the front
abbrev pub payloads : Files → Result (List (List ℕ)) LogFault
payloads files = payloads_by false files

-- the same, of a log of either version
abbrev pub payloads_any : Files → Result (List (List ℕ)) LogFault
payloads_any files = payloads_by true files

-- the payloads, and none where the log can't be read
abbrev pub payloads_of : Files → List (List ℕ)
payloads_of files = result_unwrap_or (payloads_any files) []

-- not both is Head empty and Two as long as a log: the byte that Head gets may not name Two, even torn
abbrev pub Fit : Files → Type 0
Fit files = files.head ≡ [] → length files.two < empty_size

-- each payload's length has four bytes
abbrev pub AllFit : List (List ℕ) → Type 0
AllFit [] = Unit {0}
AllFit (p ∷ ps) = (length p < 2 ^ 32) × AllFit ps

-- a file holds, behind the first bytes of its version, the records of these payloads, and then a closed gate at this place
pub record Holds (old : Bool) (bytes : List ℕ) (gate : ℕ) (ps : List (List ℕ)) : Type 0 where
  pub byte : ℕ
  pub tail : List ℕ
  pub shut : byte ≢ 1
  pub place : gate ≡ length (magic_of old ++ flat_map record_of ps)
  pub whole : bytes ≡ (magic_of old ++ flat_map record_of ps) ++ byte ∷ tail
  pub each : AllFit ps

-- the files' log is in this file, with its closed gate at this place, and of the old version or not
pub record IsLogOf (files : Files) (file : FileNo) (gate : ℕ) (old : Bool) : Type 0 where
  pub is_chosen : chosen_file files ≡ Some file
  pub holds : Holds old (contents files file) gate (payloads_of files)

-- whichever versions an opening takes: where the old files' log can be read, the new ones' can, and it has these payloads
pub record ReadsAs (old new : Files) (ps : List (List ℕ)) : Type 0 where
  pub reads : (any : Bool) → IsOk (payloads_by any old) → payloads_by any new ≡ Ok ps
  pub fit : Fit new

-- whichever versions an opening takes: the same payloads or the same fault, in files in which a log can be opened
pub record SameLog (old new : Files) : Type 0 where
  pub same : (any : Bool) → payloads_by any new ≡ payloads_by any old
  pub fit : Fit new

-- the payloads of before, or these and then all of these
abbrev pub IsBeforeOrAfter : Files → List (List ℕ) → Files → Type 0
IsBeforeOrAfter old more new = ReadsAs old new (payloads_of old) ⊎ ReadsAs old new (payloads_of old ++ more)
