-- Jobs that are taken from a list, as the base of a log lists them: each with its inputs and missing lines, then the end of its
-- input, then its trace, entry by entry, then how it was done.
use Rattle.std.specs.Prelude.{◌≡◌, ℕ, ◌≤◌, ◌*◌, ◌%◌, ◌==◌, ◌&&◌, Bool, true, false, nat_lt, List, [], ◌∷◌, ◌++◌, length, map, take, All, None, Some, Option, Result, Ok, Err, ⊤}
use Rattle.std.specs.List.{AllByRecursion}
use Rattle.std.specs.List.Sorted.{IsStrictlySortedBy}
use Rattle.std.specs.Option.{option_map_or}
use Rattle.std.specs.Ordering.{nat_cmp}
use Rattle.mt_types.specs.WellMade.{IsDocument, IsWellMadeLine}
use Rattle.mt_types.specs.declared.job.Job.{Job}
use Rattle.mt_types.specs.declared.job.TraceEntry.{TraceEntry}
use Rattle.mt_types.specs.declared.limits.TheConstants.{MOST_RECORDS, NUMBERS_A_COMMAND}
use Rattle.mt_model.specs.Feed.{items_of}
use Rattle.mt_model.specs.Lawful.{LawfulItem, LawfulJob}
use Rattle.mt_jobs.specs.JobList.{numbers_of}

-- P, where it was taken
abbrev pub WhenTaken : {E : Type 0} → Result Bool E → Type 0 → Type 0
WhenTaken (Ok true) P = P
WhenTaken (Ok false) P = ⊤
WhenTaken (Err error) P = ⊤

-- P, where it was refused
abbrev pub WhenRefused : {E : Type 0} → Result Bool E → Type 0 → Type 0
WhenRefused (Ok true) P = ⊤
WhenRefused (Ok false) P = P
WhenRefused (Err error) P = ⊤

-- the last element, if there is one
abbrev pub last_of : {X : Type 0} → List X → Option X
last_of [] = None
last_of (x ∷ []) = Some x
last_of (x ∷ y ∷ ys) = last_of (y ∷ ys)

-- the last element changed, if there is one
abbrev pub with_last : {X : Type 0} → (X → X) → List X → List X
with_last change [] = []
with_last change (x ∷ []) = change x ∷ []
with_last change (x ∷ y ∷ ys) = x ∷ with_last change (y ∷ ys)

module _ {B : Type 0} where
  -- ---- what is lawful of jobs apart from rows

  -- their numbers rise, and each is lawful: that is `LawfulJobs` but for the area of jobs
  pub record LawfulList (count : ℕ) (jobs : List (Job B)) : Type 0 where
    pub rising : IsStrictlySortedBy nat_cmp (numbers_of jobs)
    pub each : All (LawfulJob count) jobs

  -- ---- what is listed

  -- a job as it is listed first: its parts are what reading keeps, its input is open, it runs, and no task is committed
  pub record IsHead (job : Job B) : Type 0 where
    pub inputs : All LawfulItem job.inputs
    pub missing : AllByRecursion IsWellMadeLine job.missing
    pub document : IsDocument job.document
    pub assets : map length job.assets ≡ map (λ p. length p.assets) job.document.phases
    pub ended : job.ended ≡ false
    pub cancelled : job.cancelled ≡ false
    pub done : job.done ≡ None
    pub trace : job.trace ≡ []

  -- an entry's parts are what reading keeps
  pub record IsWellMadeEntry (e : TraceEntry B) : Type 0 where
    pub few : length (items_of e.outcome) ≤ MOST_RECORDS
    pub outputs : All LawfulItem (items_of e.outcome)

  -- the job is the one of this number, this document and these lines
  pub record HasHead (head job : Job B) : Type 0 where
    pub number : job.number ≡ head.number
    pub document : job.document ≡ head.document
    pub inputs : job.inputs ≡ head.inputs
    pub missing : job.missing ≡ head.missing

  -- besides, its input has ended where it is listed so, and its trace begins with what is listed of it
  pub record GoesOn (listed job : Job B) : Type 0 where
    pub head : HasHead listed job
    pub ended : job.ended ≡ listed.ended
    pub trace : take (length listed.trace) job.trace ≡ listed.trace

  -- no lawful list has these jobs and then one of this head
  abbrev pub NeverFollows : ℕ → List (Job B) → Job B → Type 0
  NeverFollows count jobs head = (job : Job B) (more : List (Job B)) → HasHead head job → LawfulList count (jobs ++ job ∷ more) → ⊥

  -- no lawful job goes on so
  abbrev pub NeverGoesOn : ℕ → Job B → Type 0
  NeverGoesOn count listed = (job : Job B) → GoesOn listed job → LawfulJob count job → ⊥

  -- ---- the tests

  -- the number is above that of the last job
  abbrev pub is_above_last : List (Job B) → ℕ → Bool
  is_above_last jobs number = option_map_or (λ j. nat_lt j.number number) (last_of jobs) true

  -- the position is of a command so far, and behind that of the last entry
  abbrev pub is_next_position : ℕ → List (TraceEntry B) → ℕ → Bool
  is_next_position count trace position =
      nat_lt position count && option_map_or (λ e. nat_lt e.position position) (last_of trace) true

-- the number is the first one of a command so far
abbrev pub is_first_number : ℕ → ℕ → Bool
is_first_number count number = (number % NUMBERS_A_COMMAND == 0) && nat_lt number (count * NUMBERS_A_COMMAND)
