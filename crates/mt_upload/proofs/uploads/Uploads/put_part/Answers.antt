use Rattle.std.proofs.Common.{◌≡◌, ◌*◌, set, refl, sym, ap, subst, ◌∙◌, arith}
use Rattle.std.proofs.lemmas.Result.{on_ok_weaker}
use Rattle.mt_types.specs.declared.upload.PartRow.{PartRow}
use Rattle.mt_types.specs.declared.upload.Upload.{Upload}
use Rattle.mt_model.specs.Names.{number_at}
use Rattle.mt_model.specs.State.{with_upload}
use Rattle.mt_model.specs.UploadSteps.{with_part}
use Rattle.mt_upload.specs.UploadList.{IsGapFor, IsPlaceOf}
use Rattle.mt_upload.proofs.Places.{map_none, set_is}
use Rattle.mt_upload.proofs.States.{part_is}
use Rattle.mt_upload.proofs.Whole.{whole_written}
use Rattle.mt_upload.proofs.uploads.Uploads.put_part.Goals as goal

pub invariant_of-self : goal.invariant_of-self
invariant_of-self g c =
    let old = c.index_mut.result.now in
    let new : Upload g.row.B.Denot = record old { parts = c.put_part.new.parts } in
    whole_written c.self.inside.uploads.items c.in-Ok.place old new c.self.invariant c.index_mut.ensures.value refl c.put_part.ensures.rising

pub returns-in-Ok-clause-ok : goal.returns-in-Ok-clause-ok
returns-in-Ok-clause-ok g c =
    let number = λ (u : Upload g.row.B.Denot). u.number in
    let uploads = c.self.inside.uploads.items in
    let old = c.index_mut.result.now in
    let same : c.args.position * 4096 ≡ number_at c.args.position 0 = omega arith in
    let part : PartRow g.row.B.Denot = record { index = c.args.index; number = number_at c.args.position 0; body = c.args.body } in
    let taken = λ (u : Upload g.row.B.Denot). record u { parts = with_part part u.parts } in
    let at = subst (λ l. IsPlaceOf number l c.args.upload c.in-Ok.place) c.deref.ensures.value c.in-Ok.ensures.found in
    on_ok_weaker c.put_part.result
    (λ later rows moment. part_is c.args.position rows c.args.self.now _ c.args.upload c.args.index c.args.body moment
    (ap (λ ps. set uploads c.in-Ok.place (record old { parts = ps })) (later ∙ ap (λ n. with_part (record { index = c.args.index; number = n; body = c.args.body }) old.parts) same)
    ∙ ap (λ o. set uploads c.in-Ok.place (taken o)) c.index_mut.ensures.value
    ∙ set_is number taken uploads c.args.upload c.in-Ok.place old at
    ∙ ap (λ l. with_upload l c.args.upload taken) c.self.view_is))
    c.put_part.ensures.ok

pub returns-in-Err-clause-ok : goal.returns-in-Err-clause-ok
returns-in-Err-clause-ok g c = λ rows moment.
    let number = λ (u : Upload g.row.B.Denot). u.number in
    let part : PartRow g.row.B.Denot = record { index = c.args.index; number = number_at c.args.position 0; body = c.args.body } in
    let taken = λ (u : Upload g.row.B.Denot). record u { parts = with_part part u.parts } in
    let gap = subst (λ l. IsGapFor number l c.args.upload c.in-Err.field-0) c.deref.ensures.value c.in-Err.ensures.absent in
    part_is c.args.position rows c.args.self.now c.args.self.now c.args.upload c.args.index c.args.body moment
    (sym c.self.view_is ∙ sym (map_none number taken c.self.inside.uploads.items c.args.upload c.in-Err.field-0 gap) ∙ ap (λ l. with_upload l c.args.upload taken) c.self.view_is)
