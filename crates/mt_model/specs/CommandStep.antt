-- The commands: why each is refused, and what it makes of the state.
use Rattle.std.specs.Prelude.{ℕ, ◌+◌, true, false, List, [], ◌∷◌, Option, Some, None}
use Rattle.mt_model.specs.Types.{AbortUpload, Aborted, AccountPath, AddInputs, Cancel, Close, Command, Commit, CommitUpload, Delete, EndInput, Field, Finish, Link, MakeDirectory, NewJob, NewUpload, Object, Put, PutPart, Refusal, RootDirectory}
use Rattle.mt_types.specs.declared.object.Entry.TheVariants as entry
use Rattle.mt_model.specs.JobSteps.{job_refusal, new_job_refusal, add_job, add_inputs_refusal, with_lines, input_refusal, with_end, commit_refusal, commit, finish_refusal, running_refusal, close_refusal, done_at, close}
use Rattle.mt_model.specs.Names.{number_at}
use Rattle.mt_model.specs.Rows.{Rows, first_refusal, link_refusal, make_directory_refusal, object_at, put_refusal, refuse_if, remove_refusal, with_row, without_row}
use Rattle.mt_model.specs.State.{State, job_at, upload_at, with_job, with_upload}
use Rattle.mt_model.specs.UploadSteps.{is_jobs, new_upload_refusal, upload_refusal, commit_upload_refusal, add_upload, put_part, commit_upload, ended_as}

-- a request changes nothing in the area of jobs
abbrev pub outside_jobs : AccountPath → Option Refusal → Option Refusal
outside_jobs p refusal = first_refusal (refuse_if (is_jobs p.area) RootDirectory) refusal

module _ {B : Type 0} where
  -- what a put leaves at its path
  abbrev pub put_object : ℕ → B → List ℕ → Option ℕ → List Field → ℕ → Object B
  put_object number body content_type durability metadata moment =
      record { number = number; body = body; content_type = content_type; durability = durability; metadata = metadata; mtime = moment }

  -- a link is what its source is at that moment, with its own mtime; nothing is done where there is none
  abbrev pub linked : Rows B → AccountPath → Option (Object B) → ℕ → Rows B
  linked rows p None moment = rows
  linked rows p (Some object) moment = with_row rows p (entry.Object (record object { mtime = moment }))

  -- the refusal of a command, or none where it is allowed; by the size of a body
  unfoldable pub allowed : (B → ℕ) → State B → Command B → Option Refusal
  allowed size s (Put path content_type body durability metadata moment) = outside_jobs path (put_refusal s.rows path)
  allowed size s (MakeDirectory path moment) = outside_jobs path (make_directory_refusal s.rows path)
  allowed size s (Link path source moment) = outside_jobs path (link_refusal s.rows path source)
  allowed size s (Delete path moment) = outside_jobs path (remove_refusal s.rows path)
  allowed size s (NewJob document moment) = new_job_refusal size s.rows document
  allowed size s (AddInputs job lines moment) = job_refusal (job_at s.jobs job) (add_inputs_refusal lines)
  allowed size s (EndInput job moment) = job_refusal (job_at s.jobs job) input_refusal
  allowed size s (Commit job phase place fate moment) = job_refusal (job_at s.jobs job) (commit_refusal phase place)
  allowed size s (Finish job moment) = job_refusal (job_at s.jobs job) finish_refusal
  allowed size s (Cancel job moment) = job_refusal (job_at s.jobs job) running_refusal
  allowed size s (Close job cancelled archive moment) = job_refusal (job_at s.jobs job) (close_refusal cancelled)
  allowed size s (NewUpload path content_type moment) = new_upload_refusal path
  allowed size s (PutPart upload index body moment) = upload_refusal (upload_at s.uploads upload) (λ u. None)
  allowed size s (CommitUpload upload parts body moment) = upload_refusal (upload_at s.uploads upload) (commit_upload_refusal size s.rows parts)
  allowed size s (AbortUpload upload moment) = upload_refusal (upload_at s.uploads upload) (λ u. None)

  -- what a command makes of the rows, jobs and uploads
  unfoldable pub change : State B → Command B → State B
  change s (Put path content_type body durability metadata moment) =
      record s { rows = with_row s.rows path (entry.Object (put_object (number_at s.count 0) body content_type durability metadata moment)) }
  change s (MakeDirectory path moment) = record s { rows = with_row s.rows path (entry.Directory moment) }
  change s (Link path source moment) = record s { rows = linked s.rows path (object_at s.rows source) moment }
  change s (Delete path moment) = record s { rows = without_row s.rows path }
  change s (NewJob document moment) = add_job s document moment
  change s (AddInputs job lines moment) = record s { jobs = with_job s.jobs job (with_lines s.rows lines) }
  change s (EndInput job moment) = record s { jobs = with_job s.jobs job with_end }
  change s (Commit job phase place fate moment) = commit s (job_at s.jobs job) phase place fate moment
  change s (Finish job moment) = record s { jobs = with_job s.jobs job (done_at moment false) }
  change s (Cancel job moment) = record s { jobs = with_job s.jobs job (done_at moment true) }
  change s (Close job cancelled archive moment) = close s job cancelled archive moment
  change s (NewUpload path content_type moment) = add_upload s path content_type moment
  change s (PutPart upload index body moment) = put_part s upload index body
  change s (CommitUpload upload parts body moment) = commit_upload s (upload_at s.uploads upload) body moment
  change s (AbortUpload upload moment) = record s { uploads = with_upload s.uploads upload (ended_as Aborted) }

  -- one more command
  unfoldable pub step : State B → Command B → State B
  step s c = record (change s c) { count = s.count + 1 }

  -- a list of commands, from a state on
  unfoldable pub replay : State B → List (Command B) → State B
  replay s [] = s
  replay s (c ∷ cs) = replay (step s c) cs
