-- A page of a directory is one of the map of its area.
use Rattle.std.proofs.Common.{◌≡◌, ℕ, List, map, take, refl, sym, ap, subst, ◌∙◌}
use Rattle.std.specs.Prelude.{All}
use Rattle.std.specs.List.{filter}
use Rattle.std.specs.Map.{keys_of}
use Rattle.mt_path.specs.AccountPath.{IsPath}
use Rattle.mt_path.specs.declared.area.Area.{Area}
use Rattle.mt_path.specs.declared.area.Area.TheVariants.{Stor, Public, Jobs}
use Rattle.mt_model.specs.Listing.{is_from, listing}
use Rattle.mt_tree.specs.declared.areas.Areas.{Areas}
use Rattle.mt_tree.specs.declared.kept.KeptRow.{KeptRow}
use Rattle.mt_tree.specs.Areas.{all_of, map_of}
use Rattle.mt_tree.specs.AreaRows.{in_area, rows_of}
use Rattle.mt_path.specs.Keys.{Parts}
use Rattle.mt_tree.specs.Walk.{lent_row, listed_row, page_of}
use Rattle.mt_tree.proofs.ChildrenIn.{children-joined}
use Rattle.mt_tree.proofs.Joined.{Entries, part, path_in}
use Rattle.mt_tree.proofs.Shown.{page-shown, paths-part}

module _ {B : Type 0} (areas : Areas B) (area : Area) where
  pub map-is : map_of areas area ≡ part area areas.stor areas.public areas.jobs
  map-is = elim area as (λ a. map_of areas a ≡ part a areas.stor areas.public areas.jobs) [ Stor ↦ refl | Public ↦ refl | Jobs ↦ refl ]

  module _ (es : Entries (KeptRow B)) (is : es ≡ map_of areas area) where
    pub paths-of : All IsPath (keys_of (all_of areas)) → All IsPath (keys_of (rows_of (in_area area es)))
    paths-of all = subst (λ entries. All IsPath (keys_of (rows_of (in_area area entries)))) (sym (is ∙ map-is)) (paths-part area areas.stor areas.public areas.jobs all)

    pub page-of : (parts : Parts) (m : List ℕ) (limit : ℕ) → map lent_row (page_of es parts m limit) ≡ map listed_row (listing (all_of areas) (path_in area parts) m limit)
    page-of parts m limit =
        page-shown area es parts m limit
        ∙ ap (λ entries. map listed_row (listing (rows_of (in_area area entries)) (path_in area parts) m limit)) (is ∙ map-is)
        ∙ ap (λ found. map listed_row (take limit (filter (λ r. is_from m r.0) found))) (sym (children-joined area parts areas.stor areas.public areas.jobs))
