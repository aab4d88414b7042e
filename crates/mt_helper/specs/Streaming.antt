-- What is read and goes on into a file of the spool, and into the sink where it is copied.
use Rattle.std.specs.Prelude.{◌≡◌, ◌<◌, ◌≤◌, ◌↔◌, ℕ, Bool, ⊤, List, [], ◌++◌, length, Option, option_map, Result, Ok, Err, if◌then◌else◌}
use Rattle.mt_base.specs.Counts.{Rose}
use Rattle.mt_base.specs.Lists.{IsPrefixOf}
use Rattle.mt_edge.specs.Stream.{GotMore, LeftAfter}
use Rattle.mt_spawn.specs.Spools.{SpoolFile, with_bytes}
use Rattle.mt_records.specs.Windows.{end_bytes}
use Rattle.mt_helper.specs.declared.limits.TheConstants.{LARGEST_INPUT}
use Rattle.mt_helper.specs.declared.spooling.Halt.{Halt}
use Rattle.mt_helper.specs.declared.spooling.Halt.TheVariants.{Taken, Fault}
use Rattle.mt_helper.specs.declared.status.Status.{Status}
use Rattle.mt_helper.specs.declared.status.Status.TheVariants.{Done, Usage, BadPath, SourceFault, SinkFault, SpoolFault, NumbersTaken, InputTooLarge, OutOfMemory}
use Rattle.mt_helper.specs.Ends.{Ends, HasCount, HasEnded, IsRunEnd}
use Rattle.mt_helper.specs.Spooling.{Puts}

-- what is copied of what was read
abbrev pub copied_of : Bool → List ℕ → List ℕ
copied_of copies input = if copies then input else []

-- all of the bytes went on: to the sink where they are copied, and into the file
pub record Moved (number : ℕ) (copies : Bool) (input : List ℕ) (got got' : Option (List ℕ)) (files files' : Option (List SpoolFile)) : Type 0 where
  pub copy : GotMore got (copied_of copies input) got'
  pub add : files' ≡ option_map (with_bytes number input) files

-- a front of them went on, to each
pub record MovedFront (number : ℕ) (copies : Bool) (input : List ℕ) (got got' : Option (List ℕ)) (files files' : Option (List SpoolFile)) : Type 0 where
  pub copied : List ℕ
  pub copy : GotMore got copied got'
  pub front : IsPrefixOf copied (copied_of copies input)
  pub added : List ℕ
  pub add : files' ≡ option_map (with_bytes number added) files
  pub begins : IsPrefixOf added input

-- a piece goes on, or a front of it
abbrev pub Passes : ℕ → Bool → List ℕ → Result (Unit {0}) Status → Option (List ℕ) → Option (List ℕ) → Option (List SpoolFile) → Option (List SpoolFile) → Type 0
Passes number copies piece (Ok _) got got' files files' = Moved number copies piece got got' files files'
Passes number copies piece (Err status) got got' files files' = MovedFront number copies piece got got' files files'

-- why a piece did not go on
abbrev pub HasPassed : {A : Type 0} → Result A Status → ℕ → ℕ → ℕ → ℕ → Type 0
HasPassed (Ok _) writes writes' spools spools' = ⊤
HasPassed (Err SinkFault) writes writes' spools spools' = Rose writes writes'
HasPassed (Err SpoolFault) writes writes' spools spools' = Rose spools spools'
HasPassed (Err SourceFault) writes writes' spools spools' = ⊥
HasPassed (Err InputTooLarge) writes writes' spools spools' = ⊥
HasPassed (Err Done) writes writes' spools spools' = ⊥
HasPassed (Err Usage) writes writes' spools spools' = ⊥
HasPassed (Err BadPath) writes writes' spools spools' = ⊥
HasPassed (Err NumbersTaken) writes writes' spools spools' = ⊥
HasPassed (Err OutOfMemory) writes writes' spools spools' = ⊥

-- the causes of a stream's end
abbrev pub IsCut : Status → Type 0
IsCut SourceFault = ⊤
IsCut SinkFault = ⊤
IsCut SpoolFault = ⊤
IsCut InputTooLarge = ⊤
IsCut Done = ⊥
IsCut Usage = ⊥
IsCut BadPath = ⊥
IsCut NumbersTaken = ⊥
IsCut OutOfMemory = ⊥

-- all that is left goes on, and is counted
pub record PumpedAll (number : ℕ) (copies : Bool) (len : ℕ) (was now : Ends) : Type 0 where
  pub input : List ℕ
  pub read : LeftAfter was.left input now.left
  pub ended : HasEnded now
  pub counted : len ≡ length input
  pub small : length input ≤ LARGEST_INPUT
  pub moved : Moved number copies input was.got now.got was.files now.files

-- a front of what was read went on
pub record PumpedFront (number : ℕ) (copies : Bool) (status : Status) (was now : Ends) : Type 0 where
  pub input : List ℕ
  pub read : LeftAfter was.left input now.left
  pub large : (status ≡ InputTooLarge) ↔ (LARGEST_INPUT < length input)
  pub moved : MovedFront number copies input was.got now.got was.files now.files
  pub count : HasCount status was now
  pub cut : IsCut status

abbrev pub Pumps : ℕ → Bool → Result ℕ Status → Ends → Ends → Type 0
Pumps number copies (Ok len) was now = PumpedAll number copies len was now
Pumps number copies (Err status) was now = PumpedFront number copies status was now

-- the bytes of a record whose head is these bytes
abbrev pub stream_bytes : List ℕ → List ℕ → List ℕ
stream_bytes head input = head ++ input ++ end_bytes (length input)

-- how a file was made by what ended so
abbrev pub put_by : Status → Result (Unit {0}) Halt
put_by Done = Ok tt
put_by NumbersTaken = Err Taken
put_by Usage = Err Fault
put_by BadPath = Err Fault
put_by SourceFault = Err Fault
put_by SinkFault = Err Fault
put_by SpoolFault = Err Fault
put_by InputTooLarge = Err Fault
put_by OutOfMemory = Err Fault

-- a record with these bytes as its head is made of all that is left
pub record Streamed (head : List ℕ) (copies : Bool) (status : Status) (was now : Ends) : Type 0 where
  pub input : List ℕ
  pub read : LeftAfter was.left input now.left
  pub ended : status ≡ Done → HasEnded now
  pub large : (status ≡ InputTooLarge) ↔ (LARGEST_INPUT < length input)
  pub copied : List ℕ
  pub copy : GotMore was.got copied now.got
  pub front : IsPrefixOf copied (copied_of copies input)
  pub whole : status ≡ Done → copied ≡ copied_of copies input
  pub put : Puts was.files (stream_bytes head input) (put_by status) now.files
  pub early : status ≡ NumbersTaken → input ≡ []
  pub count : HasCount status was now
  pub ends : IsRunEnd status
