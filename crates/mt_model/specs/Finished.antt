-- What is promised of a finished job.
use Rattle.std.specs.Prelude.{◌≡◌, ℕ, ◌<◌, Bool, true, not, ◌&&◌, is_some, ⊤, List, [], ◌∷◌, ◌++◌, length, map}
use Rattle.std.specs.List.{count_by, flat_map, Contains}
use Rattle.mt_model.specs.Types.{Command, Commit, Fate, Item, Job, Phase, PhaseKind, Raw, Run, TraceEntry, path_text}
use Rattle.mt_model.specs.CommandStep.{replay}
use Rattle.mt_model.specs.Feed.{entries_of, feed}
use Rattle.mt_model.specs.Honest.{Bytes, Honest, MayGive}
use Rattle.mt_model.specs.Meaning.{Means}
use Rattle.mt_model.specs.Posted.{posted_from}
use Rattle.mt_model.specs.Resolve.{OutputsStand, resolve}
use Rattle.mt_model.specs.State.{first_state}
use Rattle.mt_model.specs.Tasks.{phases_of, reads_place, root_at}

module _ {B : Type 0} where
  -- a job that is done and was not cancelled
  abbrev pub is_finished : Job B → Bool
  is_finished job = is_some job.done && not job.cancelled

  -- its outputs: what a phase past the last one would read
  abbrev pub outputs_of : Job B → List (Item B)
  outputs_of job = feed job (length job.document.phases)

  -- their names
  abbrev pub names_out : List ℕ → Job B → List (List ℕ)
  names_out login job = map (λ i. path_text login i.name) (outputs_of job)

  -- the listing live/out: each name and a line end
  abbrev pub live_out : List ℕ → Job B → List ℕ
  live_out login job = flat_map (λ n. n ++ 10 ∷ []) (names_out login job)

  -- the committed tasks of each phase, in the order of their commits
  abbrev pub recorded : Job B → List (List (TraceEntry B))
  recorded job = map (λ p. entries_of p.0 job.trace) (phases_of job)

  -- each item of a feed is read by one of these tasks, and by one alone
  abbrev pub IsReadOnce : PhaseKind → List (Item B) → List (TraceEntry B) → Type 0
  IsReadOnce kind items entries = (k : ℕ) → k < length items → count_by (λ e. reads_place kind items k e.place) entries ≡ 1

  -- so is each item of what each of these phases reads
  abbrev pub AreReadOnce : Job B → List (ℕ × Phase) → Type 0
  AreReadOnce job [] = ⊤
  AreReadOnce job (p ∷ ps) = IsReadOnce p.1.kind (feed job p.0) (entries_of p.0 job.trace) × AreReadOnce job ps

module _ (login : List ℕ) (gives : Run → Bytes → Raw → Type 0) (fate_of : Raw → Fate Bytes) where
  -- an entry of the trace is what a commit of the history made of an outcome that a child may give over these items:
  -- the account at that moment decides what its records become, and behind the commit each output stands at its name
  pub record IsGiven (h : List (Command Bytes)) (job : Job Bytes) (phase : ℕ) (p : Phase) (items : List (Item Bytes)) (e : TraceEntry Bytes) : Type 0 where
    pub before : List (Command Bytes)
    pub after : List (Command Bytes)
    pub raw : Raw
    pub moment : ℕ
    pub stands : h ≡ before ++ Commit job.number phase e.place (fate_of raw) moment ∷ after
    pub position : e.position ≡ length before
    pub of_phase : e.phase ≡ phase
    pub given : MayGive login gives fate_of job phase e.place p items raw
    pub outcome : e.outcome ≡ (resolve (record { job = job.number; phase = phase; root = root_at p.kind items e.place; position = e.position; moment = moment }) (replay first_state before).rows (fate_of raw)).outcome
    pub held : OutputsStand (replay first_state (before ++ Commit job.number phase e.place (fate_of raw) moment ∷ [])).rows (fate_of raw) e.outcome

  -- the input has ended, the inputs of a job are what was posted, its outputs are what its phases mean over them in
  -- the recorded order, and each item is read by one task
  pub record IsMeant (h : List (Command Bytes)) (job : Job Bytes) : Type 0 where
    pub ended : job.ended ≡ true
    pub inputs : job.inputs ≡ posted_from first_state h job.number
    pub means : Means (IsGiven h job) 0 job.document.phases job.inputs (recorded job) (outputs_of job)
    pub once : AreReadOnce job (phases_of job)

  -- each finished job of an honest history is meant
  abbrev pub FinishedJobsMean : Type 0
  FinishedJobsMean = (h : List (Command Bytes)) → Honest login gives fate_of h → (job : Job Bytes)
      → Contains (replay first_state h).jobs job → is_finished job ≡ true → IsMeant h job
