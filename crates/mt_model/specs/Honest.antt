-- Histories whose commits came of children: what a promise of a finished job is asked of.
use Rattle.std.specs.Prelude.{◌≡◌, ℕ, ◌<◌, ⊤, List, [], ◌∷◌, length, Option, Some, None}
use Rattle.std.specs.List.{flat_map, slice_get}
use Rattle.mt_model.specs.Types.{Command, Commit, CommitUpload, Fate, IsWellMade, Item, Job, MOST_COMMANDS, Phase, Raw, Run, Upload}
use Rattle.mt_model.specs.CommandStep.{allowed, step}
use Rattle.mt_model.specs.Feed.{feed}
use Rattle.mt_model.specs.State.{State, first_state, job_at, upload_at}
use Rattle.mt_model.specs.Tasks.{input_of, run_over}
use Rattle.mt_model.specs.UploadSteps.{listed}

-- a body that is its bytes
abbrev pub Bytes : Type 0
Bytes = List ℕ

-- its bytes
abbrev pub itself : Bytes → Bytes
itself bytes = bytes

-- a fact of what is found, if something is
abbrev pub OfFound : {X : Type 0} → (X → Type 0) → Option X → Type 0
OfFound P None = ⊤
OfFound P (Some x) = P x

-- the object of an upload is made of the parts that its commit lists, joined
abbrev pub IsJoined : List ℕ → Bytes → Upload Bytes → Type 0
IsJoined parts body u = body ≡ flat_map (λ p. p.body) (listed u.parts parts)

-- what children may give where they are run so and read this, and how an outcome is judged
module _ (login : List ℕ) (gives : Run → Bytes → Raw → Type 0) (fate_of : Raw → Fate Bytes) where
  -- a child may give this, run as the task at this place of a phase over these items
  abbrev pub MayGive : Job Bytes → ℕ → ℕ → Phase → List (Item Bytes) → Raw → Type 0
  MayGive job phase place p items raw = gives (run_over itself login job phase place p items) (input_of itself p.kind items place) raw

  -- a fate is what an outcome is judged to be that a child may give, run as this task of a job
  pub record CameOfChild (job : Job Bytes) (phase place : ℕ) (fate : Fate Bytes) : Type 0 where
    pub of_phase : Phase
    pub raw : Raw
    pub has : slice_get job.document.phases phase ≡ Some of_phase
    pub given : MayGive job phase place of_phase (feed job phase) raw
    pub judged : fate ≡ fate_of raw

  -- a commit came of a child, and the object of an upload of its parts
  abbrev pub IsHonest : State Bytes → Command Bytes → Type 0
  IsHonest s (Commit job phase place fate moment) = OfFound (λ j. CameOfChild j phase place fate) (job_at s.jobs job)
  IsHonest s (CommitUpload upload parts body moment) = OfFound (IsJoined parts body) (upload_at s.uploads upload)
  IsHonest s other = ⊤

  -- a command that is well made, allowed and honest in a state that has room for one more
  pub record IsStep (s : State Bytes) (c : Command Bytes) : Type 0 where
    pub room : s.count < MOST_COMMANDS
    pub made : IsWellMade c
    pub free : allowed length s c ≡ None
    pub honest : IsHonest s c

  -- each command is one, in the state before it
  unfoldable pub HonestFrom : State Bytes → List (Command Bytes) → Type 0
  HonestFrom s [] = ⊤
  HonestFrom s (c ∷ cs) = IsStep s c × HonestFrom (step s c) cs

  -- a whole history is honest
  abbrev pub Honest : List (Command Bytes) → Type 0
  Honest h = HonestFrom first_state h
