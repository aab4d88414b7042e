-- Rows as a list of code has them.
use Rattle.std.specs.Prelude.{List, map}
use Rattle.mt_types.specs.declared.object.Row.{Row}
use Rattle.mt_model.specs.Rows.{Rows}

-- each path with what stands there
abbrev pub pairs : {B : Type 0} → List (Row B) → Rows B
pairs rows = map (λ r. (r.path, r.entry)) rows
