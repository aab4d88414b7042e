use Rattle.std.proofs.Common.{set, sym, ap, subst, ◌∙◌}
use Rattle.mt_types.specs.declared.upload.Upload.{Upload}
use Rattle.mt_model.specs.State.{with_upload}
use Rattle.mt_model.specs.UploadSteps.{ended_as}
use Rattle.mt_model.proofs.LawfulNewJob.{sorted_nil}
use Rattle.mt_upload.specs.UploadList.{IsGapFor, IsPlaceOf}
use Rattle.mt_upload.proofs.Places.{map_none, set_is}
use Rattle.mt_upload.proofs.Whole.{Rises, whole_written}
use Rattle.mt_upload.proofs.uploads.Uploads.end_as.Goals as goal

pub invariant_of-self : goal.invariant_of-self
invariant_of-self g c =
    whole_written c.self.inside.uploads.items c.in-Ok.place c.index_mut.result.now c.end_upload.new.upload c.self.invariant c.index_mut.ensures.value
    (ap (λ (u : Upload g.row.B.Denot). u.number) c.end_upload.ensures) (subst Rises (sym c.end_upload.ensures) sorted_nil)

pub returns-in-Ok : goal.returns-in-Ok
returns-in-Ok g c =
    let number = λ (u : Upload g.row.B.Denot). u.number in
    let uploads = c.self.inside.uploads.items in
    let end = ended_as {B = g.row.B.Denot} c.args.stage in
    let at = subst (λ l. IsPlaceOf number l c.args.upload c.in-Ok.place) c.deref.ensures.value c.in-Ok.ensures.found in
    ap (set uploads c.in-Ok.place) (c.end_upload.ensures ∙ ap end c.index_mut.ensures.value)
    ∙ set_is number end uploads c.args.upload c.in-Ok.place c.index_mut.result.now at
    ∙ ap (λ l. with_upload l c.args.upload end) c.self.view_is

pub returns-in_default : goal.returns-in_default
returns-in_default g c =
    let number = λ (u : Upload g.row.B.Denot). u.number in
    let end = ended_as {B = g.row.B.Denot} c.args.stage in
    let gap = subst (λ l. IsGapFor number l c.args.upload c.in_default.field-0) c.deref.ensures.value c.in_default.ensures.absent in
    sym c.self.view_is ∙ sym (map_none number end c.self.inside.uploads.items c.args.upload c.in_default.field-0 gap) ∙ ap (λ l. with_upload l c.args.upload end) c.self.view_is
