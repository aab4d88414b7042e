-- What the session of a drill does.
use Rattle.std.specs.Prelude.{◌≡◌, ℕ, Bool, true, List, [], ◌∷◌, codes, Option, Some, None}
use Rattle.mt_disk.specs.Files.{Files}
use Rattle.mt_opening.specs.History.{Bytes, History}
use Rattle.mt_model.specs.State.{first_state}
use Rattle.mt_runner.specs.Account.{Tasks, account_side}
use Rattle.mt_connection.specs.Sides.{LinkSide, joined, link_side}
use Rattle.mt_connection.specs.Transcript.{setting}
use Rattle.mt_settings.specs.declared.settings.Mode.TheVariants as mode
use Rattle.mt_settings.specs.declared.settings.Settings.{Settings}
use Rattle.mt_server.specs.Events.{size_of}
use Rattle.mt_server.specs.Guarantees.{HasRun, scene}
use Rattle.mt_server.specs.Statuses.{code_of}
use Rattle.mt_server.specs.declared.status.Status.{Status}
use Rattle.mt_gen.specs.Messages.{drill_bytes}
use Rattle.mt_gen.specs.Work.{raw_of_drill}
use Rattle.mt_types.specs.declared.task.Raw.{Raw}
use Rattle.mt_types.specs.declared.task.Run.{Run}

-- the words of a session of the account `l`
abbrev pub session_words : List Bytes
session_words = codes "session" ∷ codes "--login" ∷ codes "l" ∷ codes "--store" ∷ codes "s" ∷ []

-- what they ask for
abbrev pub session_settings : Settings
session_settings = record {
  mode = mode.Session;
  login = codes "l";
  store = codes "s";
  slots = 4;
  log_limit = 1073741824;
  work = codes "s/tasks";
  helper = codes "marlin_helper";
  launcher = None;
  at = None;
}

-- what a child of a drill may give, run so on these bytes
abbrev pub gives_of_drill : Run → Bytes → Raw → Type 0
gives_of_drill run input raw = (otherwise : Bool) × (raw ≡ raw_of_drill run input otherwise)

-- A session over the messages of a drill led from the empty account to this history, said this, and ended with 0. Its moments are those of
-- the clock's calls from this one on, and its children the two commands of a drill, four at a time.
pub record HasDrilled {D : Type 0} (seen : D → Option Files) (may_leave : D → Files → Type 0) (left_since : D → ℕ → Files → Type 0) (faults moment : D → ℕ) (moments : ℕ → ℕ → Type 0) (asked count : ℕ) (k : History) (said : Bytes) : Type 0 where
  pub before : D
  pub after : D
  pub tasks : Tasks
  pub tasks' : Tasks
  pub link : LinkSide
  pub used : ℕ
  pub asked' : ℕ
  pub end : Status
  pub ended : code_of end ≡ 0
  pub said_is : link.got ≡ Some said
  pub run : HasRun (setting true true moments gives_of_drill (codes "l") 4 1073741824 first_state)
      (scene seen may_leave left_since before (joined (link_side (Some (drill_bytes count)) (Some []) 0 0) (account_side [] (size_of (seen before)) (faults before) (moment before) asked tasks))) end
      (scene seen may_leave left_since after (joined link (account_side k used (faults after) (moment after) asked' tasks')))
