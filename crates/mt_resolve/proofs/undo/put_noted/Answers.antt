use Rattle.std.proofs.Common.{◌≡◌, [], ◌∷◌, ◌++◌, List, Option, sym, ap, subst, ◌∙◌}
use Rattle.std.proofs.lemmas.Result.{on_ok_weaker}
use Rattle.mt_path.specs.AccountPath.{AccountPath}
use Rattle.mt_types.specs.declared.object.Entry.TheVariants as entry
use Rattle.mt_types.specs.declared.object.Object.{Object}
use Rattle.mt_model.specs.Rows.{object_at, with_row}
use Rattle.mt_resolve.specs.declared.undo.Undo.{Undo}
use Rattle.mt_resolve.specs.Undo.{LeadsBack}
use Rattle.mt_resolve.proofs.Back.{put_leads}
use Rattle.mt_resolve.proofs.undo.put_noted.Goals as goal

pub returns-clause-back : goal.returns-clause-back
returns-clause-back g c =
    let old = c.args.changes.now.items in
    let rows = c.args.tree.now in
    let p = c.args.path in
    let items : c.push.new.self.items ≡ old ++ record { path = p; was = object_at rows p } ∷ [] =
    c.in_ok-push.ensures.items
    ∙ ap {A = AccountPath} {B = List (Undo g.row.B.Denot)} (λ q. old ++ record { path = q; was = c.in_ok-stood.stood } ∷ []) c.in_ok-copy.ensures
    ∙ ap {A = Option (Object g.row.B.Denot)} {B = List (Undo g.row.B.Denot)} (λ o. old ++ record { path = p; was = o } ∷ []) c.in_ok-stood.ensures in
    on_ok_weaker c.put_object.result
    (λ put start leads.
    subst (λ r. LeadsBack c.push.new.self.items r start) (sym put)
    (subst (λ l. LeadsBack l (with_row rows p (entry.Object c.args.object)) start) (sym items) (put_leads old rows start p c.args.object c.requires.tree c.requires.place leads)))
    c.put_object.ensures.ok
