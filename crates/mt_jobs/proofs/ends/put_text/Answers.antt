use Rattle.std.proofs.Common.{sym, ap, subst, ◌∙◌}
use Rattle.std.proofs.lemmas.Result.{on_ok_weaker}
use Rattle.mt_types.specs.declared.object.Entry.TheVariants as entry
use Rattle.mt_model.specs.Rows.{with_row}
use Rattle.mt_jobs.specs.Archive.{MayArchive}
use Rattle.mt_jobs.proofs.Archived.{archive_stays}
use Rattle.mt_jobs.proofs.ends.put_text.Goals as goal

pub returns-clause-archive : goal.returns-clause-archive
returns-clause-archive g c =
    on_ok_weaker c.put_object.result
    (λ put. subst (λ r. MayArchive r c.args.job)
    (sym (put ∙ ap (λ p. with_row c.args.tree.now p (entry.Object c.args.object)) c.in_ok-in_job_folder.ensures))
    (archive_stays c.args.tree.now c.args.job c.args.name.now c.requires.name c.requires.archive c.args.object))
    c.put_object.ensures.ok
