-- What a helper does: the records of its tool stand in the spool, and mtee's input in the sink too.
use Rattle.std.specs.Prelude.{◌≡◌, ◌<◌, ◌≤◌, ◌↔◌, ◌⊎◌, ℕ, Bool, true, false, ⊤, IsTrue, List, [], ◌∷◌, length, map, Option, Some, None, IfSome, Result, Ok, Err}
use Rattle.std.specs.List.{AllByRecursion, range_with_len}
use Rattle.mt_base.specs.Counts.{NeverFell, Rose}
use Rattle.mt_base.specs.Lists.{IsPrefixOf}
use Rattle.mt_edge.specs.Stream.{GotMore, LeftAfter}
use Rattle.mt_split.specs.Partition.{part_of}
use Rattle.mt_split.specs.declared.key.KeyRule.{KeyRule}
use Rattle.mt_spawn.specs.Spools.{SpoolFile}
use Rattle.mt_records.specs.Heads.{is_short}
use Rattle.mt_records.specs.Records.{Record, record_bytes}
use Rattle.mt_records.specs.declared.head.RecordHead.TheVariants as head
use Rattle.mt_helper.specs.declared.limits.TheConstants.{LARGEST_INPUT}
use Rattle.mt_helper.specs.declared.status.Refusal.{Refusal}
use Rattle.mt_helper.specs.declared.status.Refusal.TheVariants as refusal
use Rattle.mt_helper.specs.declared.status.Status.{Status}
use Rattle.mt_helper.specs.declared.status.Status.TheVariants.{Done, Usage, BadPath, SourceFault, SinkFault, SpoolFault, NumbersTaken, InputTooLarge, OutOfMemory}
use Rattle.mt_helper.specs.declared.status.WordsError.{WordsError}
use Rattle.mt_helper.specs.declared.status.WordsError.TheVariants as word
use Rattle.mt_helper.specs.declared.tool.Tool.{Tool}
use Rattle.mt_helper.specs.declared.tool.Tool.TheVariants.{Pipe, Tee, Cat, Split}
use Rattle.mt_helper.specs.Ends.{AreSame, Ends, HasCount, HasEnded, IsRunEnd}
use Rattle.mt_helper.specs.Spooling.{Added, AddedFront, AreTaken, Goes}

-- a reference to an object
abbrev pub ref_of : List ℕ → Record
ref_of name = record { head = head.Ref name; body = [] }

-- the lines of a reducer, as an output for it
abbrev pub part_record : ℕ → List ℕ → Record
part_record reducer lines = record { head = head.Emit None (Some reducer); body = lines }

-- what is read, shared out among so many reducers
abbrev pub part_records : ℕ → KeyRule → List ℕ → List Record
part_records count rule input = map (λ r. part_record r (part_of input count rule r)) (range_with_len 0 count)

-- the records of a tool, by what was read
abbrev pub tool_records : Tool → List ℕ → List Record
tool_records (Pipe place reducer) input = record { head = head.Emit place reducer; body = input } ∷ []
tool_records (Tee place) input = record { head = head.Keep place; body = input } ∷ []
tool_records (Cat names) input = map ref_of names
tool_records (Split count rule) input = part_records count rule input

-- its texts are short enough for records, and it makes one record at least
abbrev pub IsFit : Tool → Type 0
IsFit (Pipe place reducer) = IfSome place (λ t. IsTrue (is_short t))
IsFit (Tee place) = IsTrue (is_short place)
IsFit (Cat names) = (0 < length names) × AllByRecursion (λ t. IsTrue (is_short t)) names
IsFit (Split count rule) = 0 < count

-- what a tool copies of what was read
abbrev pub copy_of : Tool → List ℕ → List ℕ
copy_of (Pipe place reducer) input = []
copy_of (Tee place) input = input
copy_of (Cat names) input = []
copy_of (Split count rule) input = []

-- whether a tool reads
abbrev pub reads : Tool → Bool
reads (Pipe place reducer) = true
reads (Tee place) = true
reads (Cat names) = false
reads (Split count rule) = true

-- whether a tool makes its records only when all is read
abbrev pub waits : Tool → Bool
waits (Pipe place reducer) = false
waits (Tee place) = false
waits (Cat names) = false
waits (Split count rule) = true

-- how the making of records ends, and how reading does
abbrev pub IsMakingEnd : Status → Type 0
IsMakingEnd Done = ⊤
IsMakingEnd SpoolFault = ⊤
IsMakingEnd NumbersTaken = ⊤
IsMakingEnd OutOfMemory = ⊤
IsMakingEnd Usage = ⊥
IsMakingEnd BadPath = ⊥
IsMakingEnd SourceFault = ⊥
IsMakingEnd SinkFault = ⊥
IsMakingEnd InputTooLarge = ⊥

abbrev pub IsReadingEnd : Status → Type 0
IsReadingEnd SourceFault = ⊤
IsReadingEnd InputTooLarge = ⊤
IsReadingEnd OutOfMemory = ⊤
IsReadingEnd Done = ⊥
IsReadingEnd Usage = ⊥
IsReadingEnd BadPath = ⊥
IsReadingEnd SinkFault = ⊥
IsReadingEnd SpoolFault = ⊥
IsReadingEnd NumbersTaken = ⊥

-- all records, or fewer
abbrev pub AddedBy : Status → List (List ℕ) → List SpoolFile → List SpoolFile → Type 0
AddedBy Done rs fs gs = Added rs fs gs
AddedBy Usage rs fs gs = ⊥
AddedBy BadPath rs fs gs = ⊥
AddedBy SourceFault rs fs gs = AddedFront rs fs gs
AddedBy SinkFault rs fs gs = AddedFront rs fs gs
AddedBy SpoolFault rs fs gs = AddedFront rs fs gs
AddedBy NumbersTaken rs fs gs = AddedFront rs fs gs
AddedBy InputTooLarge rs fs gs = AddedFront rs fs gs
AddedBy OutOfMemory rs fs gs = AddedFront rs fs gs

-- what a tool did that ended so
pub record Ran (tool : Tool) (status : Status) (was now : Ends) : Type 0 where
  -- what was read
  pub input : List ℕ
  pub read : LeftAfter was.left input now.left
  -- mcat reads nothing, all others read all before they are done
  pub unread : reads tool ≡ false → input ≡ []
  pub ended : status ≡ Done → reads tool ≡ true → HasEnded now
  pub large : (status ≡ InputTooLarge) ↔ (LARGEST_INPUT < length input)
  -- the sink got mtee's copy, or a front of it, and nothing else
  pub copied : List ℕ
  pub copy : GotMore was.got copied now.got
  pub front : IsPrefixOf copied (copy_of tool input)
  pub whole : status ≡ Done → copied ≡ copy_of tool input
  -- the records, or the first of them
  pub added : Goes was.files (AddedBy status (map record_bytes (tool_records tool input))) now.files
  pub late : waits tool ≡ true → HasEnded now ⊎ (now.files ≡ was.files)
  -- a tool that makes its records as it reads finds all numbers taken before it reads
  pub taken : status ≡ NumbersTaken → IfSome now.files AreTaken × (waits tool ≡ false → input ≡ [])
  pub count : HasCount status was now
  pub ends : IsRunEnd status

-- records that are made one by one, until one is not
pub record Made (wanted : List (List ℕ)) (status : Status) (files : Option (List SpoolFile)) (faults : ℕ) (files' : Option (List SpoolFile)) (faults' : ℕ) : Type 0 where
  pub added : Goes files (AddedBy status wanted) files'
  pub taken : status ≡ NumbersTaken → IfSome files' AreTaken
  pub later : NeverFell faults faults'
  pub fault : status ≡ SpoolFault → Rose faults faults'
  pub ends : IsMakingEnd status

-- all that is left was read, up to the limit
pub record ReadAll (input : List ℕ) (left left' : Option (List ℕ)) : Type 0 where
  pub read : LeftAfter left input left'
  pub ended : IfSome left' (λ rest. rest ≡ [])
  pub small : length input ≤ LARGEST_INPUT

-- reading ended before
pub record ReadFront (status : Status) (left left' : Option (List ℕ)) (faults faults' : ℕ) : Type 0 where
  pub input : List ℕ
  pub read : LeftAfter left input left'
  pub large : (status ≡ InputTooLarge) ↔ (LARGEST_INPUT < length input)
  pub fault : status ≡ SourceFault → Rose faults faults'
  pub ends : IsReadingEnd status

abbrev pub ReadsInput : Option (List ℕ) → Result (List ℕ) Status → Option (List ℕ) → ℕ → ℕ → Type 0
ReadsInput left (Ok input) left' faults faults' = ReadAll input left left'
ReadsInput left (Err status) left' faults faults' = ReadFront status left left' faults faults'

-- what is read is shared out: all of it is read before the first record is made
pub record Shared (count : ℕ) (rule : KeyRule) (status : Status) (left left' : Option (List ℕ)) (reads reads' : ℕ) (files files' : Option (List SpoolFile)) (spools spools' : ℕ) : Type 0 where
  pub input : List ℕ
  pub read : LeftAfter left input left'
  pub ended : status ≡ Done → IfSome left' (λ rest. rest ≡ [])
  pub large : (status ≡ InputTooLarge) ↔ (LARGEST_INPUT < length input)
  pub added : Goes files (AddedBy status (map record_bytes (part_records count rule input))) files'
  pub late : IfSome left' (λ rest. rest ≡ []) ⊎ (files' ≡ files)
  pub taken : status ≡ NumbersTaken → IfSome files' AreTaken
  pub source : status ≡ SourceFault → Rose reads reads'
  pub spool : status ≡ SpoolFault → Rose spools spools'
  pub sink : status ≡ SinkFault → ⊥
  pub ends : IsRunEnd status

-- the status of a refusal
abbrev pub status_of : Refusal → Status
status_of refusal.Usage = Usage
status_of refusal.BadPath = BadPath

-- the status of words that were not read
abbrev pub words_status : WordsError → Status
words_status (word.Refused e) = status_of e
words_status word.Memory = OutOfMemory

-- what a helper did whose words ask for this
abbrev pub Helped : Result Tool Refusal → Status → Ends → Ends → Type 0
Helped (Ok tool) status was now = Ran tool status was now
Helped (Err refusal) status was now = ((status ≡ status_of refusal) ⊎ (status ≡ OutOfMemory)) × AreSame was now
