-- The same words of the model over the item that stands at a task's place, if one does.
use Rattle.std.specs.Prelude.{ℕ, ◌<◌, ⊤, List, [], Option, None}
use Rattle.std.specs.Option.{option_map, unwrap_or}
use Rattle.mt_path.specs.AccountPath.{path_text}
use Rattle.mt_types.specs.declared.document.PhaseKind.{PhaseKind}
use Rattle.mt_types.specs.declared.document.PhaseKind.TheVariants.{Map, Reduce}
use Rattle.mt_types.specs.declared.job.Item.{Item}
use Rattle.mt_model.specs.Names.{root_of_reducer}

module _ {B : Type 0} where
  -- what the names of outputs begin with that come of it, or of a reducer
  abbrev pub root_of : PhaseKind → Option (Item B) → List ℕ
  root_of Map item = unwrap_or (option_map (λ i. i.root) item) []
  root_of (Reduce count) item = root_of_reducer

  -- its name, for a map task
  abbrev pub object_of : List ℕ → PhaseKind → Option (Item B) → Option (List ℕ)
  object_of login Map item = option_map (λ i. path_text login i.name) item
  object_of login (Reduce count) item = None

-- a reduce phase has a reducer of this number
abbrev pub HasReducer : PhaseKind → ℕ → Type 0
HasReducer Map place = ⊤
HasReducer (Reduce count) place = place < count
