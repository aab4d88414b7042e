-- The five texts of a job as it ends: how much they add to a log, and how they are stored.
use Rattle.std.specs.Prelude.{◌≡◌, ◌≢◌, ⊤, ℕ, ◌+◌, ◌<◌, true, Bool, IsTrue, List, ◌++◌, length, Option, Some, option_map}
use Rattle.std.specs.Option.{option_map_or}
use Rattle.mt_base.specs.Counts.{Rose}
use Rattle.mt_disk.specs.CrashModel.{LeavesOnly}
use Rattle.mt_disk.specs.Files.{Files}
use Rattle.mt_log.specs.RunState.{RunState}
use Rattle.mt_body.specs.Growth.{archive_pieces}
use Rattle.mt_body.specs.Stored.{IsStored, bytes_of, pieces_size}
use Rattle.mt_body.specs.declared.pieces.Storing.{Storing}
use Rattle.mt_body.specs.declared.pieces.Storing.TheVariants as storing
use Rattle.mt_jobtext.specs.JobTexts.{archive_of}
use Rattle.mt_model.specs.Bodies.{OfArchive}
use Rattle.mt_model.specs.JobSteps.{done_at}
use Rattle.mt_model.specs.State.{State, job_at}
use Rattle.mt_types.specs.Limits.{is_placed}
use Rattle.mt_types.specs.Values.{archive_with}
use Rattle.mt_types.specs.declared.body.Body.{Body}
use Rattle.mt_types.specs.declared.command.Archive.{Archive}
use Rattle.mt_opening.specs.Current.{EngineState, IsWriting}
use Rattle.mt_opening.specs.History.{Bytes, HasHistory, History}
use Rattle.mt_engine.specs.Ready.{EngineStays, RunGoesOn}
use Rattle.mt_engine.specs.declared.archiving.Archiving.{Archiving}
use Rattle.mt_engine.specs.declared.archiving.Archiving.TheVariants as archiving

-- the pieces of the texts of a job as it is once it is done so; none where there is no such job
abbrev pub texts_size : List ℕ → EngineState → ℕ → Bool → ℕ → ℕ
texts_size login engine number cancelled moment = option_map_or (λ j. archive_pieces (archive_of login (done_at moment cancelled j))) (job_at engine.state.jobs number) 0

-- a text is in the run behind the payloads, as a body that reads as it
pub record TextIn (text : List ℕ) (body : Body) (seen' : Option Files) (engine' : EngineState) (run' : RunState) (base : State Bytes) (h : History) (qs : List (List ℕ)) : Type 0 where
  pub pieces : List (List ℕ)
  pub writing : IsWriting seen' engine' run' base h (qs ++ pieces)
  pub stands : IsStored (qs ++ pieces) body
  pub reads : bytes_of (qs ++ pieces) body ≡ text

-- the run goes on, with pieces more
pub record MoreIn (seen' : Option Files) (engine' : EngineState) (run' : RunState) (base : State Bytes) (h : History) (qs : List (List ℕ)) : Type 0 where
  pub pieces : List (List ℕ)
  pub writing : IsWriting seen' engine' run' base h (qs ++ pieces)

-- what became of a text that was to be stored behind these payloads
abbrev pub StoresText : Storing → List ℕ → Option Files → EngineState → RunState → State Bytes → History → List (List ℕ) → Type 0
StoresText (storing.Stored body) text seen' engine' run' base h qs = TextIn text body seen' engine' run' base h qs
StoresText storing.Full text seen' engine' run' base h qs = MoreIn seen' engine' run' base h qs
StoresText storing.SourceFault text seen' engine' run' base h qs = ⊥
StoresText storing.Disk text seen' engine' run' base h qs = engine'.log.closed ≡ true
StoresText storing.Memory text seen' engine' run' base h qs = MoreIn seen' engine' run' base h qs

-- and over any disk: how far the run came, or why not
abbrev pub PlacesText : Storing → List ℕ → EngineState → RunState → RunState → Type 0
PlacesText (storing.Stored body) text engine run run' = IsTrue (is_placed body) × (run'.next ≡ run.next + pieces_size (length text))
PlacesText storing.Full text engine run run' = engine.log.limit < run.next + pieces_size (length text) + 1
PlacesText storing.SourceFault text engine run run' = ⊥
PlacesText storing.Disk text engine run run' = ⊤
PlacesText storing.Memory text engine run run' = ⊤

-- the five texts stand behind the payloads, as bodies with their bytes
pub record ArchiveIn (texts : Archive (List ℕ)) (a : Archive Body) (seen' : Option Files) (engine' : EngineState) (run' : RunState) (base : State Bytes) (h : History) (qs : List (List ℕ)) : Type 0 where
  pub pieces : List (List ℕ)
  pub writing : IsWriting seen' engine' run' base h (qs ++ pieces)
  pub stands : OfArchive (IsStored (qs ++ pieces)) a
  pub reads : archive_with (bytes_of (qs ++ pieces)) a ≡ texts

-- what became of the texts of a job
abbrev pub StoresArchive : Archiving → Archive (List ℕ) → Option Files → EngineState → RunState → State Bytes → History → List (List ℕ) → Type 0
StoresArchive (archiving.Stored a) texts seen' engine' run' base h qs = ArchiveIn texts a seen' engine' run' base h qs
StoresArchive archiving.Full texts seen' engine' run' base h qs = MoreIn seen' engine' run' base h qs
StoresArchive archiving.Disk texts seen' engine' run' base h qs = engine'.log.closed ≡ true
StoresArchive archiving.Memory texts seen' engine' run' base h qs = MoreIn seen' engine' run' base h qs

-- the texts are those of a job, once it is done so
abbrev pub AreTextsOf : List ℕ → EngineState → ℕ → Bool → ℕ → Archive (List ℕ) → Type 0
AreTextsOf login engine number cancelled moment texts = option_map (λ j. archive_of login (done_at moment cancelled j)) (job_at engine.state.jobs number) ≡ Some texts

-- and over any disk: how far the run came, or why not
abbrev pub PlacesArchive : Archiving → List ℕ → EngineState → ℕ → Bool → ℕ → RunState → RunState → Type 0
PlacesArchive (archiving.Stored a) login engine number cancelled moment run run' =
    OfArchive (λ b. IsTrue (is_placed b)) a × (run'.next ≡ run.next + texts_size login engine number cancelled moment)
PlacesArchive archiving.Full login engine number cancelled moment run run' = engine.log.limit < run.next + texts_size login engine number cancelled moment + 1
PlacesArchive archiving.Disk login engine number cancelled moment run run' = ⊤
PlacesArchive archiving.Memory login engine number cancelled moment run run' = ⊤

-- how the storing of five texts ends where one of them was not stored
abbrev pub ended_by : Storing → Archiving
ended_by storing.Full = archiving.Full
ended_by storing.Disk = archiving.Disk
ended_by other = archiving.Memory

-- what the storing of a text does in a run, over any disk and over one that tells what it holds
pub record TextGoes {D : Type 0} (seen : D → Option Files) (may_leave : D → Files → Type 0) (moment : D → ℕ) (left_since : D → ℕ → Files → Type 0) (count : D → ℕ) (old new : D) (engine engine' : EngineState) (run run' : RunState) (text : List ℕ) (result : Storing) : Type 0 where
  pub places : PlacesText result text engine run run'
  pub told : (base : State Bytes) (h : History) (qs : List (List ℕ)) → IsWriting (seen old) engine run base h qs → StoresText result text (seen new) engine' run' base h qs
  pub any_moment : (base : State Bytes) (h : History) (qs : List (List ℕ)) → IsWriting (seen old) engine run base h qs → LeavesOnly moment left_since old new (HasHistory base h)
  pub goes_on : RunGoesOn seen may_leave new engine' run'
  pub keeps : EngineStays seen count old new engine engine'
  pub still_open : result ≢ storing.Disk → engine' ≡ engine
  pub closed : result ≡ storing.Disk → engine'.log.closed ≡ true
  pub disk : result ≡ storing.Disk → Rose (count old) (count new)

-- and what the storing of the five texts of a job does
pub record ArchiveGoes {D : Type 0} (seen : D → Option Files) (may_leave : D → Files → Type 0) (moment : D → ℕ) (left_since : D → ℕ → Files → Type 0) (count : D → ℕ) (old new : D) (engine engine' : EngineState) (run run' : RunState) (login : List ℕ) (number : ℕ) (cancelled : Bool) (at : ℕ) (result : Archiving) : Type 0 where
  pub places : PlacesArchive result login engine number cancelled at run run'
  pub archive : (base : State Bytes) (h : History) (qs : List (List ℕ)) → IsWriting (seen old) engine run base h qs → (texts : Archive (List ℕ)) → AreTextsOf login engine number cancelled at texts
      → StoresArchive result texts (seen new) engine' run' base h qs
  pub any_moment : (base : State Bytes) (h : History) (qs : List (List ℕ)) → IsWriting (seen old) engine run base h qs → LeavesOnly moment left_since old new (HasHistory base h)
  pub goes_on : RunGoesOn seen may_leave new engine' run'
  pub keeps : EngineStays seen count old new engine engine'
  pub still_open : result ≢ archiving.Disk → engine' ≡ engine
  pub closed : result ≡ archiving.Disk → engine'.log.closed ≡ true
  pub disk : result ≡ archiving.Disk → Rose (count old) (count new)
