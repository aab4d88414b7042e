-- The rows of the three areas.
use Rattle.std.specs.Prelude.{List}
use Rattle.mt_path.specs.AccountPath.{AccountPath}
use Rattle.mt_path.specs.declared.area.Area.{Area}
use Rattle.mt_path.specs.declared.area.Area.TheVariants.{Stor, Public, Jobs}
use Rattle.mt_model.specs.Rows.{Rows}
use Rattle.mt_tree.specs.declared.areas.Areas.{Areas}
use Rattle.mt_tree.specs.declared.kept.KeptRow.{KeptRow}
use Rattle.mt_tree.specs.AreaRows.{joined, rows_of}
use Rattle.mt_path.specs.Keys.{Parts}

module _ {B : Type 0} where
  -- the rows of one area
  abbrev pub map_of : Areas B → Area → List (Parts × KeptRow B)
  map_of areas Stor = areas.stor
  map_of areas Public = areas.public
  map_of areas Jobs = areas.jobs

  -- all rows in the order of their paths, with their numbers
  abbrev pub kept_of : Areas B → List (AccountPath × KeptRow B)
  kept_of areas = joined areas.stor areas.public areas.jobs

  -- all rows in the order of their paths
  abbrev pub all_of : Areas B → Rows B
  all_of areas = rows_of (kept_of areas)
