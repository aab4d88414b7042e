use Rattle.std.proofs.Common.{◌≡◌, [], ◌∷◌, ◌++◌, List, None, sym, ap, subst, ◌∙◌}
use Rattle.std.proofs.lemmas.Result.{on_ok_weaker}
use Rattle.mt_path.specs.AccountPath.{AccountPath}
use Rattle.mt_types.specs.declared.object.Entry.TheVariants as entry
use Rattle.mt_model.specs.Rows.{with_row}
use Rattle.mt_resolve.specs.declared.undo.Undo.{Undo}
use Rattle.mt_resolve.specs.Undo.{LeadsBack}
use Rattle.mt_resolve.proofs.Back.{make_leads}
use Rattle.mt_resolve.proofs.undo.make_noted.Goals as goal

pub returns-clause-back : goal.returns-clause-back
returns-clause-back g c =
    let old = c.args.changes.now.items in
    let rows = c.args.tree.now in
    let p = c.args.path in
    let items : c.push.new.self.items ≡ old ++ record { path = p; was = None } ∷ [] =
    c.in_ok-push.ensures.items ∙ ap {A = AccountPath} {B = List (Undo g.row.B.Denot)} (λ q. old ++ record { path = q; was = None } ∷ []) c.in_ok-copy.ensures in
    on_ok_weaker c.make_directory.result
    (λ made start leads.
    subst (λ r. LeadsBack c.push.new.self.items r start) (sym made)
    (subst (λ l. LeadsBack l (with_row rows p (entry.Directory c.args.moment)) start) (sym items) (make_leads old rows start p c.args.moment c.requires.tree c.requires.place leads)))
    c.make_directory.ensures.ok
