-- A spawner of real commands, as a caller sees it.
use Rattle.std.specs.Prelude.{◌≡◌, ℕ, ◌+◌, ◌==◌, min, Bool, true, false, if◌then◌else◌, List, [], ◌∷◌, ◌++◌, length, Option, Some, None}
use Rattle.mt_adapters.specs.Device.{one_more}
use Rattle.mt_spawn.specs.Children.{Child, Seen, lives, without}
use Rattle.mt_spawn.specs.declared.task.Begun.{Begun}
use Rattle.mt_spawn.specs.declared.task.Begun.TheVariants as begun
use Rattle.mt_spawn.specs.declared.task.Left.{Left}
use Rattle.mt_spawn.specs.declared.task.Waited.{Waited}
use Rattle.mt_spawn.specs.declared.task.Waited.TheVariants as waited

-- what a spawner goes by: the bytes of the paths of its work folder, its helper and its launcher, those of its login, the nanoseconds that a
-- wait in vain takes, and whether a door is woken
pub record ShSettings : Type 0 where
  pub work : List ℕ
  pub helper : List ℕ
  pub login : List ℕ
  pub launcher : Option (List ℕ)
  pub patience : Option ℕ
  pub wakes : Bool

-- a path begins at the root
unfoldable pub is_from_root : List ℕ → Bool
is_from_root [] = false
is_from_root (b ∷ bs) = b == 47

-- a path that a shell takes for a folder and for nothing else: from the root, or from `./`
abbrev pub folder_path : List ℕ → List ℕ
folder_path path = if is_from_root path then path else 46 ∷ 47 ∷ path

-- what it goes by, the live children and the counts, and what is told of the ended child that is held
pub record ShState : Type 0 where
  pub settings : ShSettings
  pub live : List (Child (Unit {0}))
  pub faults : ℕ
  pub waits : ℕ
  pub company : ℕ
  pub held : Option Left

-- a spawner of these texts, without a launcher, a limit or a door: no child, and nothing was counted
abbrev pub first_state : List ℕ → List ℕ → List ℕ → ShState
first_state work helper login = record {
  settings = record { work = folder_path work; helper = helper; login = login; launcher = None; patience = None; wakes = false };
  live = [];
  faults = 0;
  waits = 0;
  company = 0;
  held = None;
}

-- no child lives, and nothing is held
abbrev pub IsIdle : ShState → Type 0
IsIdle s = (s.live ≡ []) × (s.held ≡ None)

-- the same with other settings
abbrev pub with_launcher : List ℕ → ShState → ShState
with_launcher launcher s = record s { settings = record s.settings { launcher = Some launcher } }

abbrev pub with_patience : ℕ → ShState → ShState
with_patience nanos s = record s { settings = record s.settings { patience = Some nanos } }

abbrev pub with_wakes : ShState → ShState
with_wakes s = record s { settings = record s.settings { wakes = true } }

abbrev pub seen_of : ShState → Seen (Unit {0})
seen_of s = record { live = s.live; faults = s.faults; waits = s.waits; company = s.company }

-- after a start that answered so: a child more, or a fault more, or as it was
abbrev pub after_start : ShState → Begun → ShState
after_start s (begun.Began ticket) = record s { live = s.live ++ record { ticket = ticket.number; fate = tt; waits = 0 } ∷ [] }
after_start s begun.Failed = record s { faults = one_more s.faults }
after_start s begun.InputFailed = s
after_start s begun.Memory = s

-- a child more, of a new ticket
pub record IsStarted (t : ℕ) (old new : ShState) : Type 0 where
  pub fresh : lives t old.live ≡ false
  pub added : new ≡ after_start old (begun.Began (record { number = t }))

-- the child of a ticket is gone, and what it left is held
abbrev pub ended : ShState → ℕ → Left → ShState
ended s t left = record s { live = without t s.live; company = min 18446744073709551615 (s.company + length s.live); held = Some left }

-- the child of a ticket is gone
abbrev pub lost : ShState → ℕ → ShState
lost s t = record s { live = without t s.live }

-- the count of faults after a wait that answered so
abbrev pub faults_after_wait : ℕ → Waited → ℕ
faults_after_wait faults (waited.Ended ticket left) = faults
faults_after_wait faults waited.NotYet = faults
faults_after_wait faults (waited.Failed ticket) = one_more faults
faults_after_wait faults (waited.Lost ticket) = faults
faults_after_wait faults waited.Memory = faults
