use Rattle.std.proofs.Common.{◌≡◌, ◌*◌, sym, ap, ◌∙◌, arith}
use Rattle.mt_types.specs.declared.object.Entry.TheVariants as entry
use Rattle.mt_model.specs.Names.{number_at}
use Rattle.mt_model.specs.Rows.{with_row}
use Rattle.mt_model.specs.UploadSteps.{upload_object}
use Rattle.mt_upload.proofs.States.{commit_is}
use Rattle.mt_upload.proofs.uploads.Uploads.commit.Goals as goal

pub returns-clause-ok : goal.returns-clause-ok
returns-clause-ok g c = λ numbers.
    let begun = c.in-Some.begun.now in
    let same : c.args.position * 4096 ≡ number_at c.args.position 0 = omega arith in
    commit_is c.args.position c.args.tree.now c.put_joined.new.tree c.args.self.now c.end_as.new.self c.args.upload numbers c.args.body c.args.moment begun (sym c.in-Some.ensures)
    (c.in_ok-put_joined.ensures.ok ∙ ap (λ n. with_row c.args.tree.now begun.path (entry.Object (upload_object n begun c.args.body c.args.moment))) same)
    c.end_as.ensures
