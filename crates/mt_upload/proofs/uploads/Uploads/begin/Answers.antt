use Rattle.std.proofs.Common.{◌≡◌, ℕ, ◌*◌, ◌++◌, List, [], ◌∷◌, sym, ap, subst, ◌∙◌, arith}
use Rattle.mt_types.specs.declared.upload.PartRow.{PartRow}
use Rattle.mt_types.specs.declared.upload.Upload.{Upload}
use Rattle.mt_model.specs.Lawful.{LawfulUploads}
use Rattle.mt_model.specs.Names.{number_at}
use Rattle.mt_model.specs.UploadSteps.{new_upload}
use Rattle.mt_upload.specs.UploadList.{IsUploads}
use Rattle.mt_upload.proofs.States.{begin_is}
use Rattle.mt_upload.proofs.Whole.{whole_begun}
use Rattle.mt_upload.proofs.uploads.Uploads.begin.Goals as goal

pub invariant_of-self-2 : goal.invariant_of-self-2
invariant_of-self-2 g c =
    let uploads = c.self.inside.uploads.items in
    let n : ℕ = c.args.position * 4096 in
    let same : n ≡ number_at c.args.position 0 = omega arith in
    let begun : Upload g.row.B.Denot = new_upload n c.args.path c.args.content_type c.args.moment in
    let pushed = c.in_ok-push.ensures.items ∙ ap (λ (ps : List (PartRow g.row.B.Denot)). uploads ++ record begun { parts = ps } ∷ []) c.new.ensures in
    let law = subst (LawfulUploads c.args.position) (sym c.self.view_is) c.requires.lawful in
    subst IsUploads (sym pushed) (whole_begun c.args.position n uploads c.args.path c.args.content_type c.args.moment same law c.self.invariant)

pub returns-clause-ok : goal.returns-clause-ok
returns-clause-ok g c = λ rows.
    let uploads = c.self.inside.uploads.items in
    let n : ℕ = c.args.position * 4096 in
    let same : n ≡ number_at c.args.position 0 = omega arith in
    let begun : Upload g.row.B.Denot = new_upload n c.args.path c.args.content_type c.args.moment in
    let pushed = c.in_ok-push.ensures.items ∙ ap (λ (ps : List (PartRow g.row.B.Denot)). uploads ++ record begun { parts = ps } ∷ []) c.new.ensures in
    begin_is c.args.position rows c.args.self.now _ c.args.path c.args.content_type c.args.moment
    (pushed ∙ ap (λ l. l ++ begun ∷ []) c.self.view_is ∙ ap (λ m. c.args.self.now ++ new_upload m c.args.path c.args.content_type c.args.moment ∷ []) same)
