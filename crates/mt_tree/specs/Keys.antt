-- The rows of an area in the map, each at the key of its path.
use Rattle.std.specs.Prelude.{ℕ, List, map}
use Rattle.std.specs.List.{AllByRecursion}
use Rattle.std.specs.Map.{keys_of}
use Rattle.std.specs.declared.alloc.Global.{Global}
use Rattle.std.specs.declared.boxed.Box.{Box}
use Rattle.std.specs.declared.vec.Vec.{Vec}
use Rattle.mt_path.specs.Keys.{IsKey, Parts, parts_of}

module _ {X : Type 0} where
  -- the entries of a map, by their components
  abbrev pub opened : List (Vec ℕ Global × Box X Global) → List (Parts × X)
  opened entries = map (λ e. (parts_of e.0.items, e.1.value)) entries

  -- each key is one
  abbrev pub AreKeys : List (Vec ℕ Global × Box X Global) → Type 0
  AreKeys entries = AllByRecursion (λ key. IsKey key.items) (keys_of entries)
