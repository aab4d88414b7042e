use Rattle.std.proofs.Common.{◌≡◌, sym, ap, ◌∙◌}
use Rattle.mt_path.specs.Keys.{path_at, parts_of}
use Rattle.mt_model.specs.Listing.{result_set_size}
use Rattle.mt_tree.specs.Areas.{all_of, kept_of}
use Rattle.mt_tree.proofs.Found.{count-found, count-missing}
use Rattle.mt_tree.proofs.Placed.{path_is}
use Rattle.mt_tree.proofs.tree.Tree.count.Goals as goal

pub returns-in-Some : goal.returns-in-Some
returns-in-Some g c =
    let p = path_at c.area.result c.key.result.now in
    let here : p ≡ c.args.dir.now = path_is c.args.dir.now c.area.result (parts_of c.key.result.now) c.area.ensures c.key.ensures.parts in
    count-found (kept_of c.self.inside.areas) p c.self.invariant c.in-Some.row.now (sym c.in-Some.ensures)
    ∙ ap (result_set_size (all_of c.self.inside.areas)) here ∙ ap (λ rows. result_set_size rows c.args.dir.now) c.self.view_is

pub returns-in-None : goal.returns-in-None
returns-in-None g c =
    let p = path_at c.area.result c.key.result.now in
    let here : p ≡ c.args.dir.now = path_is c.args.dir.now c.area.result (parts_of c.key.result.now) c.area.ensures c.key.ensures.parts in
    count-missing (kept_of c.self.inside.areas) p c.self.invariant (sym c.in-None.ensures)
    ∙ ap (result_set_size (all_of c.self.inside.areas)) here ∙ ap (λ rows. result_set_size rows c.args.dir.now) c.self.view_is
