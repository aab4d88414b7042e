-- Children in memory, as a caller sees them.
use Rattle.std.specs.Prelude.{◌≡◌, ◌==◌, ℕ, Bool, not, List, [], ◌∷◌, ◌++◌, map, false, Option, option_map}
use Rattle.std.specs.Io.KnownBytes.{IsAtEnd}
use Rattle.mt_edge.specs.Stream.{LeftAfter}
use Rattle.mt_types.specs.declared.task.Raw.{Raw}
use Rattle.mt_types.specs.declared.task.Run.{Run}
use Rattle.mt_spawn.specs.Children.{Child, Seen, lives}
use Rattle.mt_spawn.specs.Orders.{input_from, told_of, run_from}
use Rattle.mt_spawn.specs.declared.children.MemChild.{MemChild}
use Rattle.mt_spawn.specs.declared.task.Left.{Left}
use Rattle.mt_spawn.specs.declared.task.Order.{Order}

-- what a child in memory was started with
pub record MemFate : Type 0 where
  pub order : Order
  pub bytes : List ℕ

abbrev pub child_of : MemChild → Child MemFate
child_of c = record { ticket = c.ticket; fate = record { order = c.order; bytes = c.bytes.items }; waits = c.waits }

abbrev pub children_of : List MemChild → List (Child MemFate)
children_of cs = map child_of cs

abbrev pub is_other : ℕ → MemChild → Bool
is_other t c = not (t == c.ticket)

-- what a function of runs gives for a child, one way or the other
abbrev pub outcome_of : (Run → List ℕ → Bool → Raw) → Order → List ℕ → Bool → Raw
outcome_of raw_of order bytes otherwise = raw_of (run_from order bytes) (input_from order bytes) otherwise

abbrev pub IsOutcome : (Run → List ℕ → Bool → Raw) → MemFate → Raw → Type 0
IsOutcome raw_of fate raw = (otherwise : Bool) × (raw ≡ outcome_of raw_of fate.order fate.bytes otherwise)

-- one child more, of a new ticket
pub record AddedAs (cs : List MemChild) (order : Order) (bytes : List ℕ) (t : ℕ) (ds : List MemChild) : Type 0 where
  pub fresh : lives t (children_of cs) ≡ false
  pub added : children_of ds ≡ children_of cs ++ record { ticket = t; fate = record { order = order; bytes = bytes }; waits = 0 } ∷ []

-- all that was left of a source
pub record ReadAll (left : Option (List ℕ)) (bytes : List ℕ) (left' : Option (List ℕ)) : Type 0 where
  pub took : LeftAfter left bytes left'
  pub ended : IsAtEnd left'

-- what is told of an outcome that is held
abbrev pub held_of : Option Raw → Option Left
held_of held = option_map told_of held

-- children in memory with a number for their company, and the counts of a spawner
abbrev pub seen_of : List MemChild → ℕ → ℕ → ℕ → Seen MemFate
seen_of cs company faults waits = record { live = children_of cs; faults = faults; waits = waits; company = company }
