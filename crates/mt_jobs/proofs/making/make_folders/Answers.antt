use Rattle.std.proofs.Common.{ap, ◌∙◌}
use Rattle.mt_types.specs.declared.object.Entry.TheVariants as entry
use Rattle.mt_model.specs.Names.{job_folder}
use Rattle.mt_model.specs.Rows.{make_directory_refusal, with_row}
use Rattle.mt_jobs.proofs.Added.{stor_free}
use Rattle.mt_jobs.proofs.making.make_folders.Goals as goal

pub make_directory-requires-2 : goal.make_directory-requires-2
make_directory-requires-2 g c =
    let made = c.in_ok-make_directory.ensures.ok ∙ ap (λ p. with_row c.args.tree.now p (entry.Directory c.args.moment)) c.in_ok-job_folder.ensures in
    ap (λ r. make_directory_refusal r c.in_ok-job_stor.field-0) made
    ∙ ap (make_directory_refusal (with_row c.args.tree.now (job_folder c.args.number) (entry.Directory c.args.moment))) c.in_ok-job_stor.ensures
    ∙ stor_free c.args.tree.now c.args.number c.args.moment c.requires.stor
