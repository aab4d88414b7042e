-- page
use Rattle.std.proofs.Common.{◌≡◌, map, ap, subst, ◌∙◌}
use Rattle.std.specs.Prelude.{IfOk}
use Rattle.std.proofs.lemmas.Result.{IfOk-weaker}
use Rattle.mt_path.specs.Keys.{parts_of}
use Rattle.mt_model.specs.Listing.{listing}
use Rattle.mt_tree.specs.Areas.{all_of}
use Rattle.mt_tree.specs.Lent.{lent}
use Rattle.mt_tree.specs.Walk.{listed_row}
use Rattle.mt_tree.proofs.Named.{page-named}
use Rattle.mt_tree.proofs.Pages.{page-of}
use Rattle.mt_tree.proofs.Placed.{path_is}
use Rattle.mt_tree.proofs.tree.Tree.page.Goals as goal

pub returns-clause-rows : goal.returns-clause-rows
returns-clause-rows g c =
    subst (λ target. IfOk c.page_rows.result (λ page. map lent page.items ≡ target))
    (page-of c.self.inside.areas c.area.result _ (c.map-rows.ensures.rows ∙ c.kept.ensures) (parts_of c.key.result.now) c.args.marker.now c.args.limit
    ∙ ap (λ dir. map listed_row (listing (all_of c.self.inside.areas) dir c.args.marker.now c.args.limit)) (path_is c.args.dir.now c.area.result (parts_of c.key.result.now) c.area.ensures c.key.ensures.parts)
    ∙ ap (λ rows. map listed_row (listing rows c.args.dir.now c.args.marker.now c.args.limit)) c.self.view_is)
    c.page_rows.ensures

pub returns-clause-names : goal.returns-clause-names
returns-clause-names g c =
    IfOk-weaker c.page_rows.result _ _
    (λ page is. page-named (all_of c.self.inside.areas) c.args.dir.now c.args.marker.now c.args.limit page.items c.self.invariant.paths
    (is
    ∙ page-of c.self.inside.areas c.area.result _ (c.map-rows.ensures.rows ∙ c.kept.ensures) (parts_of c.key.result.now) c.args.marker.now c.args.limit
    ∙ ap (λ dir. map listed_row (listing (all_of c.self.inside.areas) dir c.args.marker.now c.args.limit)) (path_is c.args.dir.now c.area.result (parts_of c.key.result.now) c.area.ensures c.key.ensures.parts)))
    c.page_rows.ensures
