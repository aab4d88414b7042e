-- The order of a task: what it is run with, but for the bytes that it reads, of which it has the numbers.
use Rattle.std.specs.Prelude.{ℕ, List, [], map, Option}
use Rattle.std.specs.List.{slice_get, sum_by, zip}
use Rattle.std.specs.Option.{option_map, unwrap_or}
use Rattle.mt_path.specs.AccountPath.{AccountPath, path_text}
use Rattle.mt_types.specs.declared.document.Phase.{Phase}
use Rattle.mt_types.specs.declared.document.PhaseKind.{PhaseKind}
use Rattle.mt_types.specs.declared.job.Item.{Item}
use Rattle.mt_types.specs.declared.job.Job.{Job}
use Rattle.mt_types.specs.declared.job.Task.{Task}
use Rattle.mt_types.specs.declared.task.Run.{Run}
use Rattle.mt_model.specs.Feed.{feed}
use Rattle.mt_model.specs.Tasks.{items_read, run_in}
use Rattle.mt_spawn.specs.declared.task.AssetSize.{AssetSize}
use Rattle.mt_spawn.specs.declared.task.Order.{Order}

-- the order of a run that reads so many bytes, and whose assets have these sizes
abbrev pub order_from : Run → ℕ → List AssetSize → Order
order_from r input assets = record {
  job = r.job;
  phase = r.phase;
  exec = r.exec;
  init = r.init;
  base = r.base;
  object = r.object;
  reducer = r.reducer;
  input = input;
  assets = assets;
}

module _ {B : Type 0} (size : B → ℕ) where
  -- how many bytes the task at a place reads
  abbrev pub input_size : PhaseKind → List (Item B) → ℕ → ℕ
  input_size kind items place = sum_by (λ i. size i.body) (items_read kind items place)

  -- an asset's name, with its size
  abbrev pub asset_size : List ℕ → AccountPath × B → AssetSize
  asset_size login a = record { name = path_text login a.0; len = size a.1 }

  -- those of a phase
  abbrev pub asset_sizes : List ℕ → List AccountPath → List B → List AssetSize
  asset_sizes login names bodies = map (asset_size login) (zip names bodies)

  -- a body without its bytes
  abbrev pub no_bytes : B → List ℕ
  no_bytes b = []

  -- the order of the task at a place of a phase
  abbrev pub order_in : List ℕ → Job B → ℕ → ℕ → Phase → Order
  order_in login job phase place p =
      order_from (run_in no_bytes login job phase place p) (input_size p.kind (feed job phase) place)
      (asset_sizes login p.assets (unwrap_or (slice_get job.assets phase) []))

  -- of a task, if its phase is one of the job
  abbrev pub order_at : List ℕ → Job B → Task → Option Order
  order_at login job t = option_map (order_in login job t.phase t.place) (slice_get job.document.phases t.phase)
