-- What the device calls of opening and of an append make of the files.
use Rattle.std.specs.Prelude.{◌≡◌, ℕ, ◌+◌, ◌≤◌, ◌<◌, Bool, List, [], ◌∷◌, ◌++◌, length, take, drop, Option, option_map}
use Rattle.std.specs.List.{flat_map}
use Rattle.mt_disk.specs.declared.disk.FileNo.{FileNo}
use Rattle.mt_disk.specs.declared.disk.FileNo.TheVariants.{Head, One}
use Rattle.mt_disk.specs.Files.{Files, contents, with_contents, overwritten}
use Rattle.mt_disk.specs.CrashModel.{Torn}
use Rattle.mt_log.specs.LogImage.{AllFit, IsLogOf, empty_size, head_of, log_magic, record_head, record_of}

-- a log without a payload
abbrev pub empty_log : List ℕ
empty_log = log_magic ++ 0 ∷ []

-- the files with an empty log in One, and with Head naming One
abbrev pub with_empty_log : Files → Files
with_empty_log files = with_contents files One empty_log

abbrev pub with_one_named : Files → Files
with_one_named files = with_contents files Head (1 ∷ drop 1 files.head)

-- Head is empty, and Two is as it was
pub record IsHeadless (files : Files) (c : Files) : Type 0 where
  pub head : c.head ≡ []
  pub two_is : c.two ≡ files.two

-- the files but for Head, whose first byte may be any
pub record IsNaming (files : Files) (c : Files) : Type 0 where
  pub torn : Torn 0 1 files.head c.head
  pub others : c ≡ with_contents files Head c.head

-- Head has a byte, and Two is no log
pub record IsMissing (files : Files) : Type 0 where
  pub some : 0 < length files.head
  pub short : length files.two < empty_size

-- a record behind the closed gate, and the gate that follows it
abbrev pub staged : List ℕ → ℕ → List ℕ → List ℕ
staged bytes gate payload = overwritten (overwritten (overwritten bytes (gate + 1) (head_of payload)) (gate + record_head) payload) (gate + record_head + length payload) (0 ∷ [])

-- one file's bytes are changed, the others stay
abbrev pub changed : FileNo → (List ℕ → List ℕ) → Option Files → Option Files
changed file f seen = option_map (λ files. with_contents files file (f (contents files file))) seen

-- up to and with the gate the file is as before, and so are the other files
pub record KeepsFront (files : Files) (file : FileNo) (gate : ℕ) (c : Files) : Type 0 where
  pub front : take (gate + 1) (contents c file) ≡ take (gate + 1) (contents files file)
  pub others : c ≡ with_contents files file (contents c file)
  pub long : gate + 1 ≤ length (contents c file)

-- behind the closed gate stand these records, but for the first one's gate, and then a closed gate at this place
pub record Laid (files : Files) (file : FileNo) (gate next : ℕ) (old : Bool) (records : List (List ℕ)) : Type 0 where
  pub log : IsLogOf files file gate old
  pub body : List ℕ
  pub rest : List ℕ
  pub opens : 1 ∷ body ≡ flat_map record_of records
  pub each : AllFit records
  pub laid : drop (gate + 1) (contents files file) ≡ body ++ 0 ∷ rest
  pub place : next ≡ gate + 1 + length body

-- the files' log, of either version, is in this file, with its closed gate at this place
abbrev pub HasLogAt : Files → FileNo → ℕ → Type 0
HasLogAt files file gate = (old : Bool) × IsLogOf files file gate old

-- behind the closed gate stand these records, but for the first one's gate; the next one's place is this
pub record Laying (files : Files) (file : FileNo) (gate next : ℕ) (old : Bool) (records : List (List ℕ)) : Type 0 where
  pub log : IsLogOf files file gate old
  pub rest : List ℕ
  pub each : AllFit records
  pub laid : drop (gate + 1) (contents files file) ≡ drop 1 (flat_map record_of records) ++ rest
  pub place : next ≡ gate + length (flat_map record_of records)
