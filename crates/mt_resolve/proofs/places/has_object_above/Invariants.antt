use Rattle.std.proofs.Common.{◌≡◌, ◌-◌, length, map}
use Rattle.std.specs.List.{list_any, range_with_len}
use Rattle.mt_model.specs.Names.{paths_above}
use Rattle.mt_model.specs.Resolve.{is_object_at}
use Rattle.mt_model.proofs.LawfulPuts.{front}
use Rattle.mt_resolve.proofs.places.has_object_above.Given as goal

abbrev pub invariant-loop-count : goal.invariant-loop-count
invariant-loop-count g l =
    list_any (is_object_at l.tree) (map (front l.path) (range_with_len l.count (length l.path.parts - l.count))) ≡ list_any (is_object_at l.tree) (paths_above l.path)
