use Rattle.std.proofs.Common.{Some, sym, ap, subst, ◌∙◌}
use Rattle.std.proofs.lemmas.List.Elements.{All-get_or}
use Rattle.mt_types.specs.declared.upload.Upload.{Upload}
use Rattle.mt_model.specs.State.{upload_at}
use Rattle.mt_upload.specs.UploadList.{IsGapFor, IsPlaceOf}
use Rattle.mt_upload.proofs.Places.{find_at, find_none}
use Rattle.mt_upload.proofs.Whole.{Rises}
use Rattle.mt_upload.proofs.uploads.Uploads.find_upload.Goals as goal

pub returns-in-Ok-clause-upload : goal.returns-in-Ok-clause-upload
returns-in-Ok-clause-upload g c =
    let number = λ (u : Upload g.row.B.Denot). u.number in
    let uploads = c.self.inside.uploads.items in
    let at = subst (λ l. IsPlaceOf number l c.args.number c.in-Ok.place) c.deref.ensures.value c.in-Ok.ensures.found in
    ap Some c.index.ensures ∙ sym (find_at number uploads c.args.number c.in-Ok.place c.index.result.now at) ∙ ap (λ l. upload_at l c.args.number) c.self.view_is

pub returns-in-Ok-clause-rising : goal.returns-in-Ok-clause-rising
returns-in-Ok-clause-rising g c =
    let uploads = c.self.inside.uploads.items in
    let at = subst (λ l. IsPlaceOf (λ (u : Upload g.row.B.Denot). u.number) l c.args.number c.in-Ok.place) c.deref.ensures.value c.in-Ok.ensures.found in
    subst Rises (sym c.index.ensures) (All-get_or Rises uploads c.in-Ok.place c.index.result.now at.within c.self.invariant.parts)

pub returns-in-Err-clause-upload : goal.returns-in-Err-clause-upload
returns-in-Err-clause-upload g c =
    let number = λ (u : Upload g.row.B.Denot). u.number in
    let gap = subst (λ l. IsGapFor number l c.args.number c.in-Err.field-0) c.deref.ensures.value c.in-Err.ensures.absent in
    sym (find_none number c.self.inside.uploads.items c.args.number c.in-Err.field-0 gap) ∙ ap (λ l. upload_at l c.args.number) c.self.view_is
