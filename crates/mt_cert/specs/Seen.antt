-- What the committed tasks of a job keep by the types of their values.
use Rattle.std.specs.Prelude.{◌≡◌, ℕ, List, length}
use Rattle.std.specs.List.{AllByRecursion}
use Rattle.mt_model.specs.Types.{Body, Item, TraceEntry}
use Rattle.mt_model.specs.Feed.{items_in, items_of}
use Rattle.mt_certline.specs.Laws.{IsWhole}
use Rattle.mt_cert.specs.Accepting.{IsSum}
use Rattle.mt_cert.specs.Certifying.{sum_of_body}

-- the bodies of items are known by sums
abbrev pub AreSums : List (Item Body) → Type 0
AreSums items = AllByRecursion (λ i. IsSum (sum_of_body i.body)) items

-- a committed task
pub record IsSeenEntry (e : TraceEntry Body) : Type 0 where
  pub phase : IsWhole e.phase
  pub place : IsWhole e.place
  pub outputs : AreSums (items_of e.outcome)

-- all of them, with so many outputs
pub record IsSeenTrace (trace : List (TraceEntry Body)) (count : ℕ) : Type 0 where
  pub each : AllByRecursion IsSeenEntry trace
  pub outputs : count ≡ length (items_in trace)
  pub few : IsWhole count
