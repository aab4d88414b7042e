-- Why what is asked of jobs is refused: the digest of its body, what the body is, and last the account.
use Rattle.std.specs.Prelude.{ℕ, false, true, List, [], ◌∷◌, Option, Some, None, option_map, option_and_then, Result, Ok, Err}
use Rattle.mt_error.specs.Refusals.{plain}
use Rattle.mt_error.specs.declared.code.ErrorCode.TheVariants as error
use Rattle.mt_error.specs.declared.refused.Refused.{Refused}
use Rattle.mt_model.specs.JobSteps.{add_inputs_refusal, close_refusal, input_refusal, job_refusal, new_job_refusal}
use Rattle.mt_model.specs.Rows.{first_refusal}
use Rattle.mt_model.specs.State.{State, job_at}
use Rattle.mt_request.specs.Digest.{digest_refusal}
use Rattle.mt_request.specs.Order.{first_of}
use Rattle.mt_request.specs.declared.asked.JobRequest.{JobRequest}
use Rattle.mt_request.specs.declared.jobs.JobDoing.{JobDoing}
use Rattle.mt_request.specs.declared.jobs.JobDoing.TheVariants as jobs
use Rattle.mt_types.specs.declared.job.Job.{Job}
use Rattle.mt_types.specs.declared.refusal.Refusal.{Refusal}
use Rattle.mt_types.specs.declared.refusal.Refusal.TheVariants as refusal
use Rattle.mt_answer.specs.Judging.{code_of, limit_refusal}
use Rattle.mt_answer.specs.declared.posted.Posted.{Posted}
use Rattle.mt_answer.specs.declared.posted.Posted.TheVariants as posted

-- the error that tells of a refusal, if there is one
abbrev pub told_as : Option Refusal → Option Refused
told_as r = option_map (λ x. plain (code_of x)) r

-- of what a test answers
abbrev pub told_by : Result (Unit {0}) Refusal → Option Refused
told_by (Ok nothing) = None
told_by (Err r) = Some (plain (code_of r))

-- a body that is no document, or no text
abbrev pub posted_refusal : Posted → Option Refused
posted_refusal posted.Nothing = None
posted_refusal (posted.Document d) = None
posted_refusal posted.NoDocument = Some (plain error.InvalidJob)
posted_refusal (posted.Lines lines) = None
posted_refusal posted.TooMany = None
posted_refusal posted.NoText = Some (plain error.BadRequest)

module _ {B : Type 0} where
  -- the job of this name, where there is one
  abbrev pub asked_job : List (Job B) → Option ℕ → Option (Job B)
  asked_job js job = option_and_then (job_at js) job

  -- of a job that has to be there
  abbrev pub of_job : State B → Option ℕ → (Job B → Option Refusal) → Option Refused
  of_job s job refuses = told_as (job_refusal (asked_job s.jobs job) refuses)

  -- a job takes no more lines, and too many at once none
  abbrev pub too_many_refusal : Job B → Option Refusal
  too_many_refusal job = first_refusal (input_refusal job) (Some refusal.TooManyInputs)

  -- of posted lines; what is none was refused before, or isn't posted here
  abbrev pub lines_refusal : State B → Option ℕ → Posted → Option Refused
  lines_refusal s job (posted.Lines lines) = of_job s job (add_inputs_refusal lines)
  lines_refusal s job posted.TooMany = of_job s job too_many_refusal
  lines_refusal s job posted.Nothing = of_job s job input_refusal
  lines_refusal s job (posted.Document d) = of_job s job input_refusal
  lines_refusal s job posted.NoDocument = of_job s job input_refusal
  lines_refusal s job posted.NoText = of_job s job input_refusal

module _ {B : Type 0} (size : B → ℕ) where
  -- of a document: an asset is no object, or the assets of a phase are too large
  abbrev pub document_refusal : State B → Posted → Option Refused
  document_refusal s (posted.Document d) = told_as (new_job_refusal size s.rows d)
  document_refusal s posted.Nothing = None
  document_refusal s posted.NoDocument = None
  document_refusal s (posted.Lines lines) = None
  document_refusal s posted.TooMany = None
  document_refusal s posted.NoText = None

  -- why the account doesn't do it
  abbrev pub job_account_refusal : State B → JobDoing → Posted → Option Refused
  job_account_refusal s jobs.MakeJob p = document_refusal s p
  job_account_refusal s (jobs.PostLines job) p = lines_refusal s job p
  job_account_refusal s (jobs.EndInput job) p = of_job s job input_refusal
  job_account_refusal s (jobs.CancelJob job) p = of_job s job (close_refusal true)
  job_account_refusal s (jobs.LookLive job text) p = of_job s job (λ j. None)
  job_account_refusal s (jobs.ListJobs stand page) p = limit_refusal false page

  -- THE ORDER OF REFUSALS of what is asked of jobs, behind those of its head: the digest, where that of the body is known; a body that is no
  -- document or no text; and last the account. Behind all of these a full log refuses.
  unfoldable pub job_refusal_of : JobRequest → State B → Posted → Option (List ℕ) → Option Refused
  job_refusal_of request s p digest =
      first_of (option_map plain (digest_refusal request.wish digest) ∷ posted_refusal p ∷ job_account_refusal s request.doing p ∷ [])
