-- What the phases of a job read.
use Rattle.std.specs.Prelude.{ℕ, ◌==◌, List, [], zero, suc}
use Rattle.std.specs.List.{filter, flat_map}
use Rattle.mt_model.specs.Types.{Item, Job, Outcome, TraceEntry}
use Rattle.mt_types.specs.declared.job.Outcome.TheVariants.{Good, Bad}

module _ {B : Type 0} where
  -- the outputs of a task
  abbrev pub items_of : Outcome B → List (Item B)
  items_of (Good items) = items
  items_of (Bad failure status stderr) = []

  -- the outputs of these tasks, in their order
  abbrev pub items_in : List (TraceEntry B) → List (Item B)
  items_in entries = flat_map (λ e. items_of e.outcome) entries

  -- the committed tasks of a phase, in the order of their commits
  abbrev pub entries_of : ℕ → List (TraceEntry B) → List (TraceEntry B)
  entries_of phase trace = filter (λ e. e.phase == phase) trace

  -- a first phase reads the inputs, and each later one what the tasks before it gave
  abbrev pub feed : Job B → ℕ → List (Item B)
  feed job zero = job.inputs
  feed job (suc phase) = items_in (entries_of phase job.trace)
