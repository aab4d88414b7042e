-- How a body is stored from a source in a run of records.
use Rattle.std.specs.Prelude.{◌≡◌, ◌≢◌, ℕ, ◌+◌, ◌≤◌, ◌<◌, true, IsTrue, List, ◌++◌, length, Option, Some}
use Rattle.md5.specs.Md5.{Holds, md5}
use Rattle.md5.specs.declared.Md5.{Md5}
use Rattle.mt_base.specs.Lists.{IsPrefixOf}
use Rattle.mt_disk.specs.Files.{Files}
use Rattle.mt_edge.specs.Stream.{LeftAfter}
use Rattle.mt_log.specs.LogState.{LogState, told}
use Rattle.mt_log.specs.RunState.{HasTaken, RunState}
use Rattle.mt_types.specs.Limits.{is_placed}
use Rattle.mt_types.specs.declared.body.Body.{Body}
use Rattle.mt_body.specs.Filling.{AtEnd}
use Rattle.mt_body.specs.Stored.{IsCut, IsStored, bytes_of, pieces_size, pieces_that_fit}
use Rattle.mt_body.specs.declared.fill.End.{End}
use Rattle.mt_body.specs.declared.fill.End.TheVariants as end
use Rattle.mt_body.specs.declared.pieces.Storing.{Storing}
use Rattle.mt_body.specs.declared.pieces.Storing.TheVariants as storing
use Rattle.mt_body.specs.declared.digest.Drained.{Drained}
use Rattle.mt_body.specs.declared.digest.Drained.TheVariants as drained

-- the run gets these records more
abbrev pub TakesMore : Option Files → LogState → RunState → List (List ℕ) → Option Files → RunState → Type 0
TakesMore seen log run more seen' run' = (records : List (List ℕ)) → HasTaken seen log run records → HasTaken seen' log run' (records ++ more)

-- the body stands behind the payloads that are told and the records of the run, and stands for these bytes
abbrev pub StandsBehind : Option Files → LogState → RunState → List (List ℕ) → Body → List ℕ → Type 0
StandsBehind seen log run pieces body bytes = (ps records : List (List ℕ)) → told seen ≡ Some ps → HasTaken seen log run records
    → IsStored ((ps ++ records) ++ pieces) body × (bytes_of ((ps ++ records) ++ pieces) body ≡ bytes)

-- all bytes of the source were read and digested, and are in the run as a body
pub record Whole (body : Body) (left left' : Option (List ℕ)) (sum' : Md5) (seen seen' : Option Files) (log : LogState) (run run' : RunState) : Type 0 where
  pub bytes : List ℕ
  pub took : LeftAfter left bytes left'
  pub ended : AtEnd left'
  pub digested : Holds sum' bytes
  pub pieces : List (List ℕ)
  pub cut : IsCut pieces bytes
  pub taken : TakesMore seen log run pieces seen' run'
  pub len : body.len ≡ length bytes
  pub placed : IsTrue (is_placed body)
  pub digest : body.md5 ≡ md5 bytes
  pub stands : StandsBehind seen log run pieces body bytes
  pub next : run'.next ≡ run.next + pieces_size (length bytes)
  -- where the log was not over its limit before
  pub fits : run.next + 1 ≤ log.limit → run'.next + 1 ≤ log.limit

-- some bytes of the source were read and digested, and those of the front that had room are in the run as pieces
pub record Part (left left' : Option (List ℕ)) (sum' : Md5) (seen seen' : Option Files) (log : LogState) (run run' : RunState) : Type 0 where
  pub bytes : List ℕ
  pub took : LeftAfter left bytes left'
  pub digested : Holds sum' bytes
  pub pieces : List (List ℕ)
  pub front : List ℕ
  pub cut : IsCut pieces front
  pub is_front : IsPrefixOf front bytes
  pub taken : TakesMore seen log run pieces seen' run'
  pub next : run'.next ≡ run.next + pieces_that_fit log.limit (run.next + 1) (length bytes)
  pub all : run.next + pieces_size (length bytes) + 1 ≤ log.limit → front ≡ bytes

-- a disk fault: some bytes of the source were read and digested, and the log is closed
pub record Broken (left left' : Option (List ℕ)) (sum' : Md5) (log log' : LogState) : Type 0 where
  pub bytes : List ℕ
  pub took : LeftAfter left bytes left'
  pub digested : Holds sum' bytes
  pub closed : log' ≡ record log { closed = true }

-- what became of a body
abbrev pub Stores : Storing → Option (List ℕ) → Option (List ℕ) → Md5 → Option Files → Option Files → LogState → LogState → RunState → RunState → Type 0
Stores (storing.Stored body) left left' sum' seen seen' log log' run run' = Whole body left left' sum' seen seen' log run run' × (log' ≡ log)
Stores storing.Full left left' sum' seen seen' log log' run run' =
    (p : Part left left' sum' seen seen' log run run') × (log.limit < run.next + pieces_size (length p.bytes) + 1) × (log' ≡ log)
Stores storing.SourceFault left left' sum' seen seen' log log' run run' = Part left left' sum' seen seen' log run run' × (log' ≡ log)
Stores storing.Disk left left' sum' seen seen' log log' run run' = Broken left left' sum' log log'
Stores storing.Memory left left' sum' seen seen' log log' run run' = (left' ≡ left) × (log' ≡ log) × (run' ≡ run)

-- pieces of all bytes that were read are in the run, and these are their number and the place of the first
pub record Begun (left left' : Option (List ℕ)) (sum' : Md5) (seen seen' : Option Files) (log : LogState) (run run' : RunState) (total first : ℕ) : Type 0 where
  pub bytes : List ℕ
  pub took : LeftAfter left bytes left'
  pub digested : Holds sum' bytes
  pub pieces : List (List ℕ)
  pub cut : IsCut pieces bytes
  pub taken : TakesMore seen log run pieces seen' run'
  pub next : run'.next ≡ run.next + pieces_size (length bytes)
  pub fits : 0 < length bytes → run'.next + 1 ≤ log.limit
  pub total_is : total ≡ length bytes
  pub none : total ≡ 0 → first ≡ 0
  pub some : 0 < total → first ≡ run.next

-- what is answered where no more is read, by why
abbrev pub LastIs : End → Storing → ℕ → ℕ → Md5 → Type 0
LastIs e (storing.Stored body) first len sum = (e ≢ end.Failed) × (body.first ≡ first) × (body.len ≡ len) × ((bytes : List ℕ) → Holds sum bytes → body.md5 ≡ md5 bytes)
LastIs e storing.SourceFault first len sum = e ≡ end.Failed
LastIs e _ first len sum = ⊥

-- what is answered where a piece has no room
abbrev pub LackIs : End → Storing
LackIs end.Failed = storing.SourceFault
LackIs _ = storing.Full

abbrev pub DrainsSo : Drained → List ℕ → Option (List ℕ) → Type 0
DrainsSo drained.Ended bytes left' = AtEnd left'
DrainsSo drained.SourceFault bytes left' = Unit {0}
DrainsSo drained.Endless bytes left' = 18446744073709551615 ≤ length bytes

-- bytes were read and digested, and maybe nothing is left
abbrev pub Drains : Drained → Option (List ℕ) → Option (List ℕ) → Md5 → Md5 → Type 0
Drains result left left' sum sum' = (bytes : List ℕ) × LeftAfter left bytes left' × ((front : List ℕ) → Holds sum front → Holds sum' (front ++ bytes)) × DrainsSo result bytes left'
