-- What a device hands on through an adapter that counts its faults.
use Rattle.std.specs.Prelude.{◌≡◌, ℕ, ◌+◌, min, Bool, true, false, List, take, Option, Result, Ok, Err, ⊤}
use Rattle.std.specs.Io.KnownBytes.{Consumes, Appends, Keeps, IsAtEnd}
use Rattle.mt_edge.specs.declared.next.Next.{Next}
use Rattle.mt_edge.specs.declared.next.Next.TheVariants as came
use Rattle.mt_edge.specs.declared.source.ReadStep.{ReadStep}
use Rattle.mt_edge.specs.declared.source.ReadStep.TheVariants as read
use Rattle.mt_edge.specs.declared.sink.WriteStep.{WriteStep}
use Rattle.mt_edge.specs.declared.sink.WriteStep.TheVariants as write

-- a device, and how often a call of it has failed
pub record CountedState (D : Type 0) : Type 0 where
  pub device : D
  pub faults : ℕ

-- a count that ends at 2 ^ 64 - 1, after one fault more
abbrev pub one_more : ℕ → ℕ
one_more faults = min 18446744073709551615 (faults + 1)

-- the count after a call that answered so: a fault is counted exactly where the call fails
abbrev pub faults_after_read : ℕ → ReadStep → ℕ
faults_after_read faults (read.Took n) = faults
faults_after_read faults read.End = faults
faults_after_read faults read.Failed = one_more faults

abbrev pub faults_after_write : ℕ → WriteStep → ℕ
faults_after_write faults (write.Took n) = faults
faults_after_write faults write.Failed = one_more faults

abbrev pub faults_after : {T E : Type 0} → ℕ → Result T E → ℕ
faults_after faults (Ok x) = faults
faults_after faults (Err e) = one_more faults

-- the counts of a link: of reads that failed, and of writes
pub record LinkState : Type 0 where
  pub read_faults : ℕ
  pub write_faults : ℕ

-- a link of which no call has failed yet
abbrev pub first_link : LinkState
first_link = record { read_faults = 0; write_faults = 0 }

-- the counts of a door: of links that it gave, of those that are over, of those that it keeps, and of calls that failed
pub record DoorState : Type 0 where
  pub taken : ℕ
  pub over : ℕ
  pub kept : ℕ
  pub faults : ℕ

-- a door that has given no link yet
abbrev pub first_door : DoorState
first_door = record { taken = 0; over = 0; kept = 0; faults = 0 }

-- a new link is one of which no call has failed
abbrev pub IsFirst : Next LinkState → Type 0
IsFirst (came.New link) = link ≡ first_link
IsFirst (came.Again link) = ⊤
IsFirst came.Woken = ⊤
IsFirst came.Failed = ⊤

-- the counts before and after a call for a link: a new one was taken, or one is no longer kept, or the call has failed. A new link and
-- a failure come only where a new link was asked for
abbrev pub AfterNext : {L : Type 0} → Bool → DoorState → Next L → DoorState → Type 0
AfterNext fresh d (came.New link) d' = (fresh ≡ true) × (d' ≡ record d { taken = d.taken + 1 })
AfterNext fresh d (came.Again link) d' = d ≡ record d' { kept = d'.kept + 1 }
AfterNext fresh d came.Woken d' = d' ≡ d
AfterNext fresh d came.Failed d' = (fresh ≡ true) × (d' ≡ record d { faults = one_more d.faults })

-- the counts after a link was given back: it is over, or kept
abbrev pub after_done : DoorState → Bool → DoorState
after_done d true = record d { over = d.over + 1 }
after_done d false = record d { kept = d.kept + 1 }

-- a clock of the system: the last moment that it gave, at first 0, and how often it was asked
pub record SystemClockState : Type 0 where
  pub last : ℕ
  pub asked : ℕ

-- a read into a piece, where the device knows what is left: what it gave came into the piece, and nothing is lost
abbrev pub HandsOn : Option (List ℕ) → List ℕ → ReadStep → Option (List ℕ) → Type 0
HandsOn left into (read.Took n) left' = Consumes left left' (take n into)
HandsOn left into read.End left' = Keeps left left' × IsAtEnd left'
HandsOn left into read.Failed left' = Keeps left left'

-- a write of a piece, where the device knows what it holds: what it took was appended, and nothing else
abbrev pub HandsOut : Option (List ℕ) → List ℕ → WriteStep → Option (List ℕ) → Type 0
HandsOut got piece (write.Took n) got' = Appends got got' (take n piece)
HandsOut got piece write.Failed got' = Keeps got got'
