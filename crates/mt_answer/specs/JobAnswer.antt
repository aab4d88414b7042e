-- What is answered where something is asked of jobs: a reply and at most one command. Read from `job_answer_of` at the end upwards.
use Rattle.std.specs.Prelude.{ℕ, ◌+◌, ◌*◌, Bool, true, false, ◌&&◌, nat_le, nat_lt, List, [], ◌∷◌, length, take, Option, Some, None, option_map}
use Rattle.std.specs.List.{filter}
use Rattle.md5.specs.Md5.{md5}
use Rattle.mt_body.specs.Growth.{growth}
use Rattle.mt_body.specs.Stored.{pieces_size}
use Rattle.mt_error.specs.Refusals.{plain}
use Rattle.mt_error.specs.declared.code.ErrorCode.TheVariants as error
use Rattle.mt_error.specs.declared.refused.Refused.{Refused}
use Rattle.mt_http.specs.declared.message.Head.{Head}
use Rattle.mt_ident.specs.Identifiers.{is_from}
use Rattle.mt_jobs.specs.Pages.{standing}
use Rattle.mt_jobtext.specs.JobTexts.{archive_of, line_count, text_of}
use Rattle.mt_live.specs.LiveTexts.{jobs_text}
use Rattle.mt_model.specs.JobSteps.{done_at}
use Rattle.mt_model.specs.Names.{job_folder}
use Rattle.mt_model.specs.State.{State}
use Rattle.mt_path.specs.AccountPath.{path_text}
use Rattle.mt_reply.specs.Replies.{done_reply, error_reply, live_reply, made_reply, page_reply, taken_reply}
use Rattle.mt_reply.specs.declared.stamp.Stamp.{Stamp}
use Rattle.mt_request.specs.declared.asked.JobRequest.{JobRequest}
use Rattle.mt_request.specs.declared.jobs.JobDoing.{JobDoing}
use Rattle.mt_request.specs.declared.jobs.JobDoing.TheVariants as jobs
use Rattle.mt_request.specs.declared.query.Page.{Page}
use Rattle.mt_types.specs.declared.command.Archive.{Archive}
use Rattle.mt_types.specs.declared.command.Command.{Command}
use Rattle.mt_types.specs.declared.command.Command.TheVariants.{NewJob, AddInputs, EndInput, Close}
use Rattle.mt_types.specs.declared.job.Job.{Job}
use Rattle.mt_types.specs.declared.limits.TheConstants.{MOST_COMMANDS, NUMBERS_A_COMMAND}
use Rattle.mt_types.specs.declared.live.JobStand.{JobStand}
use Rattle.mt_types.specs.declared.live.LiveText.{LiveText}
use Rattle.mt_types.specs.declared.reply.Reply.{Reply}
use Rattle.mt_answer.specs.Answer.{Answer, stamp_of}
use Rattle.mt_answer.specs.JobJudging.{asked_job, job_refusal_of}
use Rattle.mt_answer.specs.Posting.{posted_of}
use Rattle.mt_answer.specs.declared.posted.Posted.{Posted}
use Rattle.mt_answer.specs.declared.posted.Posted.TheVariants as posted

-- ---- what is done

module _ {B : Type 0} where
  abbrev pub make_job : Posted → ℕ → Option (Command B)
  make_job (posted.Document d) moment = Some (NewJob d moment)
  make_job posted.Nothing moment = None
  make_job posted.NoDocument moment = None
  make_job (posted.Lines lines) moment = None
  make_job posted.TooMany moment = None
  make_job posted.NoText moment = None

  abbrev pub add_lines : ℕ → Posted → ℕ → Option (Command B)
  add_lines job (posted.Lines lines) moment = Some (AddInputs job lines moment)
  add_lines job posted.Nothing moment = None
  add_lines job (posted.Document d) moment = None
  add_lines job posted.NoDocument moment = None
  add_lines job posted.TooMany moment = None
  add_lines job posted.NoText moment = None

  abbrev pub close_job : ℕ → Option (Archive B) → ℕ → Option (Command B)
  close_job job (Some archive) moment = Some (Close job true archive moment)
  close_job job None moment = None

  -- the command that does it: of a cancel with these five bodies. What was refused before has none.
  abbrev pub job_command_of : JobDoing → Posted → Option (Archive B) → ℕ → Option (Command B)
  job_command_of jobs.MakeJob p archive moment = make_job p moment
  job_command_of (jobs.PostLines (Some job)) p archive moment = add_lines job p moment
  job_command_of (jobs.PostLines None) p archive moment = None
  job_command_of (jobs.EndInput (Some job)) p archive moment = Some (EndInput job moment)
  job_command_of (jobs.EndInput None) p archive moment = None
  job_command_of (jobs.CancelJob (Some job)) p archive moment = close_job job archive moment
  job_command_of (jobs.CancelJob None) p archive moment = None
  job_command_of (jobs.LookLive job text) p archive moment = None
  job_command_of (jobs.ListJobs stand page) p archive moment = None

  -- the five texts that a cancelled job leaves, at a moment
  abbrev pub archive_asked : List ℕ → State B → JobDoing → ℕ → Option (Archive (List ℕ))
  archive_asked login s (jobs.CancelJob job) moment = option_map (λ j. archive_of login (done_at moment true j)) (asked_job s.jobs job)
  archive_asked login s jobs.MakeJob moment = None
  archive_asked login s (jobs.PostLines job) moment = None
  archive_asked login s (jobs.EndInput job) moment = None
  archive_asked login s (jobs.LookLive job text) moment = None
  archive_asked login s (jobs.ListJobs stand page) moment = None

module _ {B : Type 0} (size : B → ℕ) where
  -- the pieces of the five bodies of an archive
  abbrev pub archive_size : Archive B → ℕ
  archive_size a = pieces_size (size a.err) + pieces_size (size a.fail) + pieces_size (size a.input) + pieces_size (size a.status) + pieces_size (size a.out)

  -- those of what is brought
  abbrev pub brought_size : Option (Archive B) → ℕ
  brought_size None = 0
  brought_size (Some archive) = archive_size archive

  -- what a command adds to the log: the pieces that it brings, and a record
  abbrev pub job_growth : Option (Archive B) → Command B → ℕ
  job_growth archive c = growth (brought_size archive) c

  -- an account of so many commands and its log have room for it
  abbrev pub job_has_room : ℕ → ℕ → ℕ → Option (Archive B) → Command B → Bool
  job_has_room limit count used archive c = nat_lt count MOST_COMMANDS && nat_le (used + job_growth archive c) limit

-- ---- the replies

module _ {B : Type 0} where
  -- the jobs of a page: those that stand so, from the first whose name isn't below the marker
  abbrev pub jobs_page : JobStand → Page → List (Job B) → List (Job B)
  jobs_page stand page js = take page.limit (filter (λ j. is_from 2 page.marker j.number) (standing stand js))

  -- the jobs that stand so, how many there are and a page of them; where the limit is none it was refused before
  abbrev pub stand_reply : Stamp → List (Job B) → JobStand → Option Page → Reply B
  stand_reply stamp js stand (Some page) = page_reply stamp (length (standing stand js)) (jobs_text (jobs_page stand page js))
  stand_reply stamp js stand None = done_reply stamp

  -- a text of a job; where there is none it was refused before
  abbrev pub text_reply : List ℕ → Stamp → Option (Job B) → LiveText → Reply B
  text_reply login stamp (Some job) text = live_reply stamp text (line_count login job text) (text_of login job text)
  text_reply login stamp None text = done_reply stamp

  -- to what was done behind so many commands; a new job has the first number of its command
  abbrev pub job_reply_to : List ℕ → Stamp → State B → JobDoing → Reply B
  job_reply_to login stamp s jobs.MakeJob = made_reply stamp (path_text login (job_folder (s.count * NUMBERS_A_COMMAND)))
  job_reply_to login stamp s (jobs.PostLines job) = done_reply stamp
  job_reply_to login stamp s (jobs.EndInput job) = taken_reply stamp
  job_reply_to login stamp s (jobs.CancelJob job) = taken_reply stamp
  job_reply_to login stamp s (jobs.LookLive job text) = text_reply login stamp (asked_job s.jobs job) text
  job_reply_to login stamp s (jobs.ListJobs stand page) = stand_reply stamp s.jobs stand page

-- ---- answers

module _ {B : Type 0} where
  -- a refusal: nothing was stored
  abbrev pub refuse_job : Stamp → Refused → Answer B
  refuse_job stamp r = record { reply = error_reply stamp r; added = []; grew = 0 }

  abbrev pub job_add_if : Bool → Command B → ℕ → Reply B → Answer B → Answer B
  job_add_if true command grew reply full = record { reply = reply; added = command ∷ []; grew = grew }
  job_add_if false command grew reply full = full

module _ {B : Type 0} (size : B → ℕ) where
  -- what isn't refused is done; a command that has no room is refused, and the log stays as long as it was
  abbrev pub job_accept : List ℕ → ℕ → Stamp → State B → ℕ → JobDoing → Option (Archive B) → Option (Command B) → Answer B
  job_accept login limit stamp s used d archive None = record { reply = job_reply_to login stamp s d; added = []; grew = 0 }
  job_accept login limit stamp s used d archive (Some command) =
      job_add_if (job_has_room size limit s.count used archive command) command (job_growth size archive command)
      (job_reply_to login (record stamp { position = s.count + 1 }) s d)
      (refuse_job stamp (plain error.NotEnoughSpace))

  -- refused, or done
  abbrev pub job_answer_by : List ℕ → ℕ → Stamp → State B → ℕ → JobRequest → Posted → Option (Archive B) → Option Refused → Answer B
  job_answer_by login limit stamp s used request p archive (Some r) = refuse_job stamp r
  job_answer_by login limit stamp s used request p archive None =
      job_accept login limit stamp s used request.doing archive (job_command_of request.doing p archive stamp.moment)

  -- what is answered where this is asked of jobs, whose body asks for this and has this digest, and brings these bodies
  unfoldable pub job_answer_in : List ℕ → ℕ → Stamp → State B → ℕ → JobRequest → Posted → List ℕ → Option (Archive B) → Answer B
  job_answer_in login limit stamp s used request p sum archive =
      job_answer_by login limit stamp s used request p archive (job_refusal_of size request s p (Some sum))

-- WHAT IS ANSWERED WHERE SOMETHING IS ASKED OF JOBS, over the bytes of bodies: of this login, under this limit of the log, in this state,
-- with a log of so many bytes, by its head, what that asks for, its body and its moment
unfoldable pub job_answer_of : List ℕ → ℕ → State (List ℕ) → ℕ → Head → JobRequest → List ℕ → ℕ → Answer (List ℕ)
job_answer_of login limit s used head request body moment =
    job_answer_in length login limit (stamp_of head s.count moment) s used request (posted_of login request.doing body) (md5 body)
    (archive_asked login s request.doing moment)
