use Rattle.std.proofs.Common.{Some, sym, ap, ◌∙◌}
use Rattle.mt_path.specs.Keys.{path_at}
use Rattle.mt_model.specs.Rows.{at}
use Rattle.mt_tree.specs.Areas.{kept_of}
use Rattle.mt_tree.proofs.Found.{at-found, at-missing}
use Rattle.mt_tree.proofs.tree.Tree.entry.Goals as goal

pub returns-in-Some : goal.returns-in-Some
returns-in-Some g c =
    let p = path_at c.args.area c.args.key.now in
    ap Some c.entry.ensures ∙ sym (at-found (kept_of c.self.inside.areas) p c.in-Some.row.now (sym c.in-Some.ensures)) ∙ ap (λ rows. at rows p) c.self.view_is

pub returns-in-None : goal.returns-in-None
returns-in-None g c =
    let p = path_at c.args.area c.args.key.now in
    sym (at-missing (kept_of c.self.inside.areas) p (sym c.in-None.ensures)) ∙ ap (λ rows. at rows p) c.self.view_is
