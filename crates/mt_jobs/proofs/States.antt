-- What each command on jobs makes of a state, part by part.
use Rattle.std.proofs.Common.{◌≡◌, ℕ, Bool, true, false, List, [], ◌∷◌, ◌++◌, Some, sym, ap, ◌∙◌}
use Rattle.mt_types.specs.declared.command.Archive.{Archive}
use Rattle.mt_types.specs.declared.command.Command.TheVariants.{NewJob, AddInputs, EndInput, Commit, Finish, Cancel, Close}
use Rattle.mt_types.specs.declared.document.InputLine.{InputLine}
use Rattle.mt_types.specs.declared.document.JobDocument.{JobDocument}
use Rattle.mt_types.specs.declared.job.Job.{Job}
use Rattle.mt_types.specs.declared.job.TraceEntry.{TraceEntry}
use Rattle.mt_types.specs.declared.task.Fate.{Fate}
use Rattle.mt_model.specs.CommandStep.{change}
use Rattle.mt_model.specs.JobSteps.{archive_bodies, archive_names, commit, done_at, new_job, with_archive_from, with_end, with_entry, with_folders, with_lines}
use Rattle.mt_model.specs.Names.{number_at}
use Rattle.mt_model.specs.Resolve.{resolve}
use Rattle.mt_model.specs.Rows.{Rows}
use Rattle.mt_model.specs.State.{job_at, with_job}
use Rattle.mt_resolve.specs.Committing.{committing_of}
use Rattle.mt_jobs.specs.Shown.{state_of}

module _ {B : Type 0} (position : ℕ) where
  -- equal parts make equal states
  pub same_state : (rows left : Rows B) (jobs later : List (Job B)) → rows ≡ left → jobs ≡ later → state_of position rows jobs ≡ state_of position left later
  same_state rows left jobs later a b = ap (λ r. state_of position r jobs) a ∙ ap (state_of position left) b

  pub make_is : (rows left : Rows B) (jobs later : List (Job B)) (document : JobDocument) (moment : ℕ) → left ≡ with_folders rows (number_at position 0) moment → later ≡ jobs ++ new_job rows (number_at position 0) document moment ∷ []
      → state_of position left later ≡ change (state_of position rows jobs) (NewJob document moment)
  unfolding change
  make_is rows left jobs later document moment a b = same_state left (with_folders rows (number_at position 0) moment) later (jobs ++ new_job rows (number_at position 0) document moment ∷ []) a b

  pub add_is : (rows : Rows B) (jobs later : List (Job B)) (job : ℕ) (lines : List InputLine) (moment : ℕ) → later ≡ with_job jobs job (with_lines rows lines) → state_of position rows later ≡ change (state_of position rows jobs) (AddInputs job lines moment)
  unfolding change
  add_is rows jobs later job lines moment b = ap (state_of position rows) b

  pub end_is : (rows : Rows B) (jobs later : List (Job B)) (job moment : ℕ) → later ≡ with_job jobs job with_end → state_of position rows later ≡ change (state_of position rows jobs) (EndInput job moment)
  unfolding change
  end_is rows jobs later job moment b = ap (state_of position rows) b

  pub finish_is : (rows : Rows B) (jobs later : List (Job B)) (job moment : ℕ) → later ≡ with_job jobs job (done_at moment false) → state_of position rows later ≡ change (state_of position rows jobs) (Finish job moment)
  unfolding change
  finish_is rows jobs later job moment b = ap (state_of position rows) b

  pub cancel_is : (rows : Rows B) (jobs later : List (Job B)) (job moment : ℕ) → later ≡ with_job jobs job (done_at moment true) → state_of position rows later ≡ change (state_of position rows jobs) (Cancel job moment)
  unfolding change
  cancel_is rows jobs later job moment b = ap (state_of position rows) b

  pub close_is : (rows left : Rows B) (jobs later : List (Job B)) (job : ℕ) (cancelled : Bool) (archive : Archive B) (moment : ℕ) → left ≡ with_archive_from 0 rows job position moment archive_names (archive_bodies archive) → later ≡ with_job jobs job (done_at moment cancelled)
      → state_of position left later ≡ change (state_of position rows jobs) (Close job cancelled archive moment)
  unfolding change
  close_is rows left jobs later job cancelled archive moment a b = same_state left (with_archive_from 0 rows job position moment archive_names (archive_bodies archive)) later (with_job jobs job (done_at moment cancelled)) a b

  pub commit_is : (rows left : Rows B) (jobs later : List (Job B)) (number phase place : ℕ) (fate : Fate B) (moment : ℕ) (j : Job B) (e : TraceEntry B) → job_at jobs number ≡ Some j
      → e ≡ record { phase = phase; place = place; position = position; outcome = (resolve (committing_of j phase place position moment) rows fate).outcome }
      → left ≡ (resolve (committing_of j phase place position moment) rows fate).rows → later ≡ with_job jobs j.number (with_entry e)
      → state_of position left later ≡ change (state_of position rows jobs) (Commit number phase place fate moment)
  unfolding change
  commit_is rows left jobs later number phase place fate moment j e found entry_is a b =
      same_state left (resolve (committing_of j phase place position moment) rows fate).rows later (with_job jobs j.number (with_entry (record { phase = phase; place = place; position = position; outcome = (resolve (committing_of j phase place position moment) rows fate).outcome })))
      a (b ∙ ap (λ x. with_job jobs j.number (with_entry x)) entry_is)
      ∙ sym (ap (λ o. commit (state_of position rows jobs) o phase place fate moment) found)
