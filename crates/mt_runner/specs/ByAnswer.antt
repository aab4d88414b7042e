-- What the answer of a turn says of its engine, of the children and of what was to be done.
use Rattle.std.specs.Prelude.{◌≡◌, ◌⊎◌, ℕ, ◌+◌, ◌==◌, min, Bool, false, true, List, length, map}
use Rattle.std.specs.List.{list_any}
use Rattle.mt_types.specs.declared.body.Body.{Body}
use Rattle.mt_model.specs.State.{State}
use Rattle.mt_tasks.specs.Standing.{ready_tasks}
use Rattle.mt_runner.specs.Attempts.{number_of}
use Rattle.mt_runner.specs.declared.runner.Started.{Started}
use Rattle.mt_runner.specs.declared.turn.Turn.{Turn}
use Rattle.mt_runner.specs.declared.turn.Turn.TheVariants as turn

-- the engine is open, but where the disk failed or memory was wanting
abbrev pub GoesOn : Turn → Bool → Type 0
GoesOn turn.Disk closed = Unit {0}
GoesOn turn.Memory closed = Unit {0}
GoesOn _ closed = closed ≡ false

-- the count once so many children lived at an end: the lesser of slots and ready tasks
abbrev pub with_company : ℕ → State Body → ℕ → ℕ
with_company slots s count = min 18446744073709551615 (count + min slots (length (ready_tasks s)))

-- a child's end may have been taken
abbrev pub MayHaveRisen : ℕ → State Body → ℕ → ℕ → Type 0
MayHaveRisen slots s before now = (now ≡ with_company slots s before) ⊎ (now ≡ before)

-- how the count of company rose
abbrev pub Company : ℕ → State Body → ℕ → Turn → ℕ → Type 0
Company slots s before (turn.Committed t) now = now ≡ with_company slots s before
Company slots s before turn.SpawnFault now = MayHaveRisen slots s before now
Company slots s before turn.Full now = MayHaveRisen slots s before now
Company slots s before turn.Disk now = MayHaveRisen slots s before now
Company slots s before turn.Memory now = MayHaveRisen slots s before now
Company slots s before _ now = now ≡ before

-- behind a commit one fewer lives than the lesser of slots and ready tasks
abbrev pub OneFewer : ℕ → State Body → Turn → List Started → Type 0
OneFewer slots s (turn.Committed t) kept = length kept + 1 ≡ min slots (length (ready_tasks s))
OneFewer slots s _ kept = Unit {0}

-- a child may be gone without a commit
abbrev pub IsLoss : Turn → Type 0
IsLoss turn.SpawnFault = Unit {0}
IsLoss turn.Full = Unit {0}
IsLoss turn.Disk = Unit {0}
IsLoss turn.Memory = Unit {0}
IsLoss _ = ⊥

-- a child of this ticket is kept
abbrev pub HasTicket : ℕ → List Started → Type 0
HasTicket ticket kept = list_any (λ n. ticket == n) (map number_of kept) ≡ true
