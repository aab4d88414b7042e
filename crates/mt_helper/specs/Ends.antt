-- What is told of the ends of a helper, how often each has failed, and how a helper ends.
use Rattle.std.specs.Prelude.{◌≡◌, ℕ, ⊤, List, [], Option, IfSome}
use Rattle.mt_base.specs.Counts.{NeverFell, Rose}
use Rattle.mt_spawn.specs.Spools.{SpoolFile}
use Rattle.mt_helper.specs.declared.spooling.Halt.{Halt}
use Rattle.mt_helper.specs.declared.spooling.Halt.TheVariants.{Taken, Fault}
use Rattle.mt_helper.specs.declared.status.Status.{Status}
use Rattle.mt_helper.specs.declared.status.Status.TheVariants.{Done, Usage, BadPath, SourceFault, SinkFault, SpoolFault, NumbersTaken, InputTooLarge, OutOfMemory}

-- the exit status of the program
abbrev pub code_of : Status → ℕ
code_of Done = 0
code_of Usage = 1
code_of BadPath = 2
code_of SourceFault = 3
code_of SinkFault = 4
code_of SpoolFault = 5
code_of NumbersTaken = 6
code_of InputTooLarge = 7
code_of OutOfMemory = 8

-- what is told of a source, a sink and a spool, and how often each has failed
pub record Ends : Type 0 where
  pub left : Option (List ℕ)
  pub got : Option (List ℕ)
  pub files : Option (List SpoolFile)
  pub read_faults : ℕ
  pub write_faults : ℕ
  pub spool_faults : ℕ

abbrev pub ends : Option (List ℕ) → Option (List ℕ) → Option (List SpoolFile) → ℕ → ℕ → ℕ → Ends
ends left got files reads writes spools = record { left = left; got = got; files = files; read_faults = reads; write_faults = writes; spool_faults = spools }

-- nothing was read, written or made
pub record AreSame (was now : Ends) : Type 0 where
  pub left : now.left ≡ was.left
  pub got : now.got ≡ was.got
  pub files : now.files ≡ was.files

-- counts never fall
pub record AreLater (was now : Ends) : Type 0 where
  pub read : NeverFell was.read_faults now.read_faults
  pub write : NeverFell was.write_faults now.write_faults
  pub spool : NeverFell was.spool_faults now.spool_faults

-- a fault was counted
abbrev pub HasCount : Status → Ends → Ends → Type 0
HasCount SourceFault was now = Rose was.read_faults now.read_faults
HasCount SinkFault was now = Rose was.write_faults now.write_faults
HasCount SpoolFault was now = Rose was.spool_faults now.spool_faults
HasCount Done was now = ⊤
HasCount Usage was now = ⊤
HasCount BadPath was now = ⊤
HasCount NumbersTaken was now = ⊤
HasCount InputTooLarge was now = ⊤
HasCount OutOfMemory was now = ⊤

-- nothing is left of the source
abbrev pub HasEnded : Ends → Type 0
HasEnded now = IfSome now.left (λ rest. rest ≡ [])

-- the words were fine
abbrev pub IsRunEnd : Status → Type 0
IsRunEnd Usage = ⊥
IsRunEnd BadPath = ⊥
IsRunEnd Done = ⊤
IsRunEnd SourceFault = ⊤
IsRunEnd SinkFault = ⊤
IsRunEnd SpoolFault = ⊤
IsRunEnd NumbersTaken = ⊤
IsRunEnd InputTooLarge = ⊤
IsRunEnd OutOfMemory = ⊤

-- the status of a file that was not made
abbrev pub halt_status : Halt → Status
halt_status Taken = NumbersTaken
halt_status Fault = SpoolFault
