-- The first name is the area's, and the others are the components.
use Rattle.std.proofs.Common.{rules, ◌≡◌, ◌∷◌, ◌-◌, Some, length, take, drop, sym, subst, ◌∙◌}
use Rattle.mt_path.specs.Names.{AreNames, area_of}
use Rattle.mt_path.proofs.Judged.{IsPath-from_names, first_and_others}
use Rattle.mt_path.proofs.names.path_of.Goals as goal

pub from_parts-requires : goal.from_parts-requires
from_parts-requires c =
    let xs = c.as_slice.result.now in
    let found : area_of c.name-item.result ≡ Some c.in-Some.area = search rules in
    let is : xs ≡ c.name-item.result ∷ take (length xs - 1) (drop 1 xs) = first_and_others xs c.name-item.result c.in-len1-up.len_at_least c.name-item.is in
    IsPath-from_names c.name-item.result (take (length xs - 1) (drop 1 xs)) c.in-Some.area (subst AreNames (sym c.as_slice.ensures ∙ is) c.requires) found
