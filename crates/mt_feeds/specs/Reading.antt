-- What a task reads, item by item.
use Rattle.std.specs.Prelude.{ℕ, List, [], slice_get, Option}
use Rattle.std.specs.Option.{option_and_then, option_map_or}
use Rattle.mt_types.specs.declared.job.Item.{Item}
use Rattle.mt_types.specs.declared.job.Job.{Job}
use Rattle.mt_model.specs.Feed.{feed}
use Rattle.mt_model.specs.Tasks.{items_read}

module _ {B : Type 0} where
  -- the item at a place of what a phase reads, if the job has that phase
  abbrev pub item_of : ℕ → ℕ → Job B → Option (Item B)
  item_of phase place job = option_and_then (λ p. slice_get (feed job phase) place) (slice_get job.document.phases phase)

  -- one of the items that the task at a place reads, counted from 0, if the job has that phase
  abbrev pub read_of : ℕ → ℕ → ℕ → Job B → Option (Item B)
  read_of phase place k job = option_and_then (λ p. slice_get (items_read p.kind (feed job phase) place) k) (slice_get job.document.phases phase)

  -- all of them, in order; none where the job doesn't have that phase
  abbrev pub task_items : ℕ → ℕ → Job B → List (Item B)
  task_items phase place job = option_map_or (λ p. items_read p.kind (feed job phase) place) (slice_get job.document.phases phase) []
