-- The laws of the definitions, as they are told to the layers above: of bodies that are references into a log, and
-- of the bytes that a function reads for each.
use Rattle.std.specs.Prelude.{◌≡◌, ℕ, ◌<◌, nat_lt, cond, ⊤, List, [], ◌∷◌, map, length, None}
use Rattle.std.specs.List.{count_by, range_with_len}
use Rattle.mt_model.specs.Types.{Body, Command, IsWellMade, Item, MOST_COMMANDS, Map, Phase, Reduce, TraceEntry}
use Rattle.mt_types.specs.Values.{command_with, item_with, trace_entry_with}
use Rattle.mt_model.specs.Bodies.{OfState, state_with}
use Rattle.mt_model.specs.CommandStep.{allowed, replay, step}
use Rattle.mt_model.specs.Lawful.{Lawful}
use Rattle.mt_model.specs.Meaning.{PhasesMean}
use Rattle.mt_model.specs.State.{State}
use Rattle.mt_model.specs.Tasks.{reads_place}

-- what is read for a body
abbrev pub Reading : Type 0
Reading = Body → List ℕ

-- as many bytes are read as the body has
abbrev pub KeepsSize : Reading → Type 0
KeepsSize read = (b : Body) → length (read b) ≡ b.len

-- a history over references does what it does over the bytes that are read
abbrev pub ReplayIsRead : Type 0
ReplayIsRead = (read : Reading) (s : State Body) (cs : List (Command Body)) → replay (state_with read s) (map (command_with read) cs) ≡ state_with read (replay s cs)

-- a command is refused for the same cause over both, where sizes are kept
abbrev pub AllowedIsRead : Type 0
AllowedIsRead = (read : Reading) → KeepsSize read → (s : State Body) (c : Command Body) → allowed length (state_with read s) (command_with read c) ≡ allowed (λ b. b.len) s c

-- and where the sizes of the bodies that the state holds are kept, whatever is read for others
abbrev pub AllowedOfHeld : Type 0
AllowedOfHeld = (read : Reading) (s : State Body) (c : Command Body) → OfState (λ b. length (read b) ≡ b.len) s → allowed length (state_with read s) (command_with read c) ≡ allowed (λ b. b.len) s c

-- each place of a feed is read by one reducer of a phase, and by that one alone; no other place is read
abbrev pub IsSharedOnce : Type 0
IsSharedOnce = (items : List (Item Body)) (count : ℕ) → 0 < count → (place : ℕ) → count_by (reads_place (Reduce count) items place) (range_with_len 0 count) ≡ cond (nat_lt place (length items)) 1 0

-- and by one task of a map phase
abbrev pub IsReadByOne : Type 0
IsReadByOne = (items : List (Item Body)) (place : ℕ) → count_by (reads_place Map items place) (range_with_len 0 (length items)) ≡ cond (nat_lt place (length items)) 1 0

-- what the phases mean over references they mean over bytes
abbrev pub MeaningIsRead : Type 0
MeaningIsRead = (read : Reading) (phases : List Phase) (inputs : List (Item Body)) (entries : List (List (TraceEntry Body))) (outputs : List (Item Body)) → PhasesMean phases inputs entries outputs → PhasesMean phases (map (item_with read) inputs) (map (map (trace_entry_with read)) entries) (map (item_with read) outputs)

-- the size of a reference
abbrev pub len_of : Body → ℕ
len_of b = b.len

-- where a command is allowed, it keeps a state lawful: as long as there is room for one more
abbrev pub KeepsLawful : Command Body → Type 0
KeepsLawful c = (s : State Body) → Lawful s → s.count < MOST_COMMANDS → allowed len_of s c ≡ None → Lawful (step s c)

module _ {B : Type 0} (size : B → ℕ) where
  -- each command is well made and allowed in the state before it, which has room for one more
  unfoldable pub TakenFrom : State B → List (Command B) → Type 0
  TakenFrom s [] = ⊤
  TakenFrom s (c ∷ cs) = (s.count < MOST_COMMANDS) × IsWellMade c × (allowed size s c ≡ None) × TakenFrom (step s c) cs
