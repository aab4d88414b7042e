-- The history that a list of payloads stands for: commands with their bytes, behind a base.
use Rattle.std.specs.Prelude.{◌≡◌, ◌⊎◌, ℕ, ◌<◌, Bool, true, false, List, [], ◌∷◌, ◌++◌, length, None, Ok}
use Rattle.mt_codec.specs.Pieces.{is_piece}
use Rattle.mt_codec.specs.Spelling.{Spells}
use Rattle.mt_disk.specs.Files.{Files}
use Rattle.mt_log.specs.LogImage.{Fit, payloads_by}
use Rattle.mt_log.specs.Places.{end_of}
use Rattle.mt_body.specs.Stored.{bytes_of, is_stored}
use Rattle.mt_model.specs.Bodies.{OfCommand}
use Rattle.mt_model.specs.CommandStep.{allowed, replay}
use Rattle.mt_model.specs.State.{State, first_state}
use Rattle.mt_types.specs.Kinds.{kind_of}
use Rattle.mt_types.specs.Values.{command_with}
use Rattle.mt_types.specs.declared.body.Body.{Body}
use Rattle.mt_types.specs.declared.command.Command.{Command}
use Rattle.mt_types.specs.declared.limits.TheConstants.{MOST_COMMANDS}
use Rattle.mt_account.specs.Taken.{IsTaken}

-- the bytes of a body
abbrev pub Bytes : Type 0
Bytes = List ℕ

-- commands, each with the bytes of its bodies
abbrev pub History : Type 0
History = List (Command Bytes)

-- The payload is this command, which may stand behind these payloads in this state: it is on rows or jobs, its bodies stand
-- before it, and it is allowed.
pub record Tells (before : List (List ℕ)) (s : State Bytes) (p : List ℕ) (c : Command Body) : Type 0 where
  pub spelled : Spells p c
  pub built : IsTaken (kind_of c)
  pub stored : OfCommand (λ b. is_stored before b ≡ true) c
  pub few : s.count < MOST_COMMANDS
  pub allowed : allowed length s (command_with (bytes_of before) c) ≡ None

-- what a payload adds to a history: nothing, where it is a piece, or the command that it is
abbrev pub Adds : List (List ℕ) → State Bytes → List ℕ → History → Type 0
Adds before s p added =
    ((is_piece p ≡ true) × (added ≡ [])) ⊎ ((c : Command Body) × Tells before s p c × (added ≡ command_with (bytes_of before) c ∷ []))

-- behind these payloads and this history, these payloads lead to this history
abbrev pub Leads : State Bytes → List (List ℕ) → History → List (List ℕ) → History → Type 0
Leads base before h [] k = k ≡ h
Leads base before h (p ∷ ps) k = (added : History) × Adds before (replay base h) p added × Leads base (before ++ p ∷ []) (h ++ added) ps k

-- a log begins with these payloads, which stand for this state: none of them, and the empty account
abbrev pub Begins : List (List ℕ) → State Bytes → Type 0
Begins front base = (front ≡ []) × (base ≡ first_state)

-- the payloads stand for a base, and for this history behind it
pub record IsHistoryOf (ps : List (List ℕ)) (base : State Bytes) (h : History) : Type 0 where
  pub front : List (List ℕ)
  pub rest : List (List ℕ)
  pub split : ps ≡ front ++ rest
  pub begins : Begins front base
  pub leads : Leads base front [] rest h

-- the files' log stands for a base and this history, and can be opened: by an opening that takes the old version too, or doesn't
pub record HasHistoryBy (any : Bool) (base : State Bytes) (h : History) (files : Files) : Type 0 where
  pub ps : List (List ℕ)
  pub read : payloads_by any files ≡ Ok ps
  pub fit : Fit files
  pub is : IsHistoryOf ps base h

-- by one that doesn't
abbrev pub HasHistory : State Bytes → History → Files → Type 0
HasHistory base h files = HasHistoryBy false base h files

-- the first payload that is neither a piece nor a command that may stand there is at this place
pub record IsForeignAt (ps : List (List ℕ)) (at : ℕ) : Type 0 where
  pub before : List (List ℕ)
  pub payload : List ℕ
  pub more : List (List ℕ)
  pub base : State Bytes
  pub history : History
  pub split : ps ≡ before ++ payload ∷ more
  pub reads : IsHistoryOf before base history
  pub strange : (added : History) → ¬ (Adds before (replay base history) payload added)
  pub place : at ≡ end_of before

-- how many commands led to where a history leads
abbrev pub position : State Bytes → History → ℕ
position base h = (replay base h).count
