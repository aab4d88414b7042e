-- What an error status says.
use Rattle.std.proofs.Common.{◌≡◌, ◌⊎◌, inl, inr, ℕ, ◌≤◌, ◌<◌, ◌+◌, Bool, true, false, List, [], length, Option, Some, None, Result, Ok, Err, refl, arith}
use Rattle.md5.specs.Md5.{md5}
use Rattle.mt_answer.specs.Answer.{Answer, accept, add_if, answer_by, answer_in, command_of, found_reply, has_room, link_reply, listing_reply, range_reply, ranged_reply, reply_to, rows_answer_of, stamp_of}
use Rattle.mt_answer.specs.JobAnswer.{archive_asked, job_accept, job_add_if, job_answer_by, job_answer_in, job_answer_of, job_command_of, job_has_room, job_reply_to, stand_reply, text_reply}
use Rattle.mt_answer.specs.JobJudging.{asked_job, job_refusal_of}
use Rattle.mt_answer.specs.Judging.{refusal_of}
use Rattle.mt_answer.specs.Posting.{posted_of}
use Rattle.mt_answer.specs.Whole.{answer_asked, answer_of}
use Rattle.mt_answer.specs.declared.posted.Posted.{Posted}
use Rattle.mt_cond.specs.Conditions.{conditions_of}
use Rattle.mt_cond.specs.Range.{ranged}
use Rattle.mt_cond.specs.declared.conditions.Conditions.{Conditions}
use Rattle.mt_cond.specs.declared.range.Range.{Range}
use Rattle.mt_cond.specs.declared.range.Ranged.{Ranged}
use Rattle.mt_cond.specs.declared.range.Ranged.TheVariants as part
use Rattle.mt_error.specs.ErrorTable.{status_of_error}
use Rattle.mt_error.specs.declared.code.ErrorCode.{ErrorCode}
use Rattle.mt_error.specs.declared.code.ErrorCode.TheVariants as error
use Rattle.mt_error.specs.declared.refused.Refused.{Refused}
use Rattle.mt_headline.specs.Refusals.{ErrorsAddNothing, RefusedJobsAreErrors}
use Rattle.mt_http.specs.declared.message.Head.{Head}
use Rattle.mt_model.specs.Rows.{Rows, object_at}
use Rattle.mt_model.specs.State.{State}
use Rattle.mt_path.specs.AccountPath.{AccountPath}
use Rattle.mt_reply.specs.declared.stamp.Stamp.{Stamp}
use Rattle.mt_request.specs.Requests.{asked_of}
use Rattle.mt_request.specs.declared.asked.Asked.{Asked}
use Rattle.mt_request.specs.declared.asked.Asked.TheVariants as asked
use Rattle.mt_request.specs.declared.asked.JobRequest.{JobRequest}
use Rattle.mt_request.specs.declared.jobs.JobDoing.{JobDoing}
use Rattle.mt_request.specs.declared.jobs.JobDoing.TheVariants as jobs
use Rattle.mt_request.specs.declared.query.Page.{Page}
use Rattle.mt_request.specs.declared.request.Doing.{Doing}
use Rattle.mt_request.specs.declared.request.Doing.TheVariants as doing
use Rattle.mt_request.specs.declared.request.Request.{Request}
use Rattle.mt_store.specs.Decisions.{read_decision}
use Rattle.mt_store.specs.declared.error.StoreError.{StoreError}
use Rattle.mt_store.specs.declared.reads.Found.{Found}
use Rattle.mt_store.specs.declared.reads.Found.TheVariants as found
use Rattle.mt_types.specs.declared.command.Archive.{Archive}
use Rattle.mt_types.specs.declared.command.Command.{Command}
use Rattle.mt_types.specs.declared.job.Job.{Job}
use Rattle.mt_types.specs.declared.live.JobStand.{JobStand}
use Rattle.mt_types.specs.declared.live.LiveText.{LiveText}
use Rattle.mt_types.specs.declared.object.Object.{Object}
use Rattle.mt_types.specs.declared.reply.Reply.{Reply}

-- each error has a status of 400 or above
error_above : (e : ErrorCode) → 400 ≤ status_of_error e
error_above error.BadRequest = omega arith
error_above error.ResourceNotFound = omega arith
error_above error.DirectoryDoesNotExist = omega arith
error_above error.ParentNotDirectory = omega arith
error_above error.DirectoryNotEmpty = omega arith
error_above error.DirectoryOperation = omega arith
error_above error.EntityExists = omega arith
error_above error.RootDirectory = omega arith
error_above error.LinkNotFound = omega arith
error_above error.LinkNotObject = omega arith
error_above error.LinkRequired = omega arith
error_above error.PreconditionFailed = omega arith
error_above error.ContentMD5Mismatch = omega arith
error_above error.RequestEntityTooLarge = omega arith
error_above error.InvalidLimit = omega arith
error_above error.InvalidJob = omega arith
error_above error.JobNotFound = omega arith
error_above error.JobState = omega arith
error_above error.NotEnoughSpace = omega arith
error_above error.MethodNotAllowed = omega arith
error_above error.Authorization = omega arith
error_above error.OriginRefused = omega arith
error_above error.RangeNotSatisfiable = omega arith
error_above error.InvalidArgument = omega arith
error_above error.InvalidDurabilityLevel = omega arith
error_above error.MetadataTooLarge = omega arith
error_above error.UploadNotFound = omega arith
error_above error.UploadState = omega arith
error_above error.UploadPart = omega arith
error_above error.InvalidUpload = omega arith
error_above error.UploadTooLarge = omega arith

-- ---- what is done has a status below 400

abbrev IsDone : Reply (List ℕ) → Type 0
IsDone r = r.status < 400

listing_done : (stamp : Stamp) (rows : Rows (List ℕ)) (p : AccountPath) (page : Option Page) → IsDone (listing_reply length stamp rows p page)
listing_done stamp rows p (Some page) = omega arith
listing_done stamp rows p None = omega arith

link_done : (stamp : Stamp) (o : Option (Object (List ℕ))) → IsDone (link_reply md5 stamp o)
link_done stamp (Some o) = omega arith
link_done stamp None = omega arith

ranged_done : (stamp : Stamp) (o : Object (List ℕ)) (r : Ranged) → IsDone (ranged_reply length md5 stamp o r)
ranged_done stamp o part.Whole = omega arith
ranged_done stamp o (part.Part from to) = omega arith
ranged_done stamp o part.CannotMeet = omega arith

range_done : (stamp : Stamp) (o : Object (List ℕ)) (r : Option Range) → IsDone (range_reply length md5 stamp o r)
range_done stamp o None = ranged_done stamp o part.Whole
range_done stamp o (Some r) = ranged_done stamp o (ranged r (length o.body))

found_done : (stamp : Stamp) (rows : Rows (List ℕ)) (p : AccountPath) (page : Option Page) (range : Option Range) (r : Result (Found (Object (List ℕ))) StoreError) → IsDone (found_reply length md5 stamp rows p page range r)
found_done stamp rows p page range (Ok found.Directory) = listing_done stamp rows p page
found_done stamp rows p page range (Ok (found.Object o)) = range_done stamp o range
found_done stamp rows p page range (Ok (found.NotModified o)) = omega arith
found_done stamp rows p page range (Err e) = omega arith

rows_done : (stamp : Stamp) (count : ℕ) (rows : Rows (List ℕ)) (c : Conditions) (d : Doing) (sum : List ℕ) → IsDone (reply_to length md5 stamp count rows c d sum)
rows_done stamp count rows c doing.Nothing sum = omega arith
rows_done stamp count rows c (doing.PutObject p t dur meta) sum = omega arith
rows_done stamp count rows c (doing.PutDirectory p) sum = omega arith
rows_done stamp count rows c (doing.PutLink p source) sum = link_done stamp (object_at rows source)
rows_done stamp count rows c (doing.Remove p) sum = omega arith
rows_done stamp count rows c (doing.Look p page range) sum = found_done stamp rows p page range (read_decision rows p c)

text_done : (login : List ℕ) (stamp : Stamp) (job : Option (Job (List ℕ))) (text : LiveText) → IsDone (text_reply login stamp job text)
text_done login stamp (Some job) text = omega arith
text_done login stamp None text = omega arith

stand_done : (stamp : Stamp) (s : State (List ℕ)) (stand : JobStand) (page : Option Page) → IsDone (stand_reply stamp s.jobs stand page)
stand_done stamp s stand (Some page) = omega arith
stand_done stamp s stand None = omega arith

jobs_done : (login : List ℕ) (stamp : Stamp) (s : State (List ℕ)) (d : JobDoing) → IsDone (job_reply_to login stamp s d)
jobs_done login stamp s jobs.MakeJob = omega arith
jobs_done login stamp s (jobs.PostLines job) = omega arith
jobs_done login stamp s (jobs.EndInput job) = omega arith
jobs_done login stamp s (jobs.CancelJob job) = omega arith
jobs_done login stamp s (jobs.LookLive job text) = text_done login stamp (asked_job s.jobs job) text
jobs_done login stamp s (jobs.ListJobs stand page) = stand_done stamp s stand page

-- ---- an answer adds nothing, or it is done

abbrev AddsOrErrs : Answer (List ℕ) → Type 0
AddsOrErrs a = (a.added ≡ []) ⊎ IsDone a.reply

module _ (s : State (List ℕ)) where
  added : (room : Bool) (c : Command (List ℕ)) (len : ℕ) (r : Reply (List ℕ)) (full : Answer (List ℕ)) → IsDone r → AddsOrErrs full → AddsOrErrs (add_if room c len r full)
  added true c len r full is none = inr is
  added false c len r full is none = none

  accepted : (limit used len : ℕ) (stamp : Stamp) (c : Conditions) (d : Doing) (sum : List ℕ) (command : Option (Command (List ℕ))) → AddsOrErrs (accept length md5 limit stamp s c used d sum len command)
  accepted limit used len stamp c d sum None = inl refl
  accepted limit used len stamp c d sum (Some command) =
      added (has_room limit s.count used len command) command len _ _ (rows_done (record stamp { position = s.count + 1 }) s.count s.rows c d sum) (inl refl)

  by_rows : (limit used : ℕ) (stamp : Stamp) (request : Request) (c : Conditions) (body sum : List ℕ) (r : Option Refused) → AddsOrErrs (answer_by length md5 limit stamp s c used request body sum r)
  by_rows limit used stamp request c body sum (Some r) = inl refl
  by_rows limit used stamp request c body sum None = accepted limit used _ stamp c request.doing sum (command_of s.rows request.doing body stamp.moment)

  job_added : (room : Bool) (c : Command (List ℕ)) (grew : ℕ) (r : Reply (List ℕ)) (full : Answer (List ℕ)) → IsDone r → AddsOrErrs full → AddsOrErrs (job_add_if room c grew r full)
  job_added true c grew r full is none = inr is
  job_added false c grew r full is none = none

  job_accepted : (login : List ℕ) (limit used : ℕ) (stamp : Stamp) (d : JobDoing) (archive : Option (Archive (List ℕ))) (command : Option (Command (List ℕ))) → AddsOrErrs (job_accept length login limit stamp s used d archive command)
  job_accepted login limit used stamp d archive None = inl refl
  job_accepted login limit used stamp d archive (Some command) =
      job_added (job_has_room length limit s.count used archive command) command _ _ _ (jobs_done login (record stamp { position = s.count + 1 }) s d) (inl refl)

  by_jobs : (login : List ℕ) (limit used : ℕ) (stamp : Stamp) (request : JobRequest) (p : Posted) (archive : Option (Archive (List ℕ))) (r : Option Refused) → AddsOrErrs (job_answer_by length login limit stamp s used request p archive r)
  by_jobs login limit used stamp request p archive (Some r) = inl refl
  by_jobs login limit used stamp request p archive None = job_accepted login limit used stamp request.doing archive (job_command_of request.doing p archive stamp.moment)

  by_asked : (login : List ℕ) (limit used : ℕ) (head : Head) (body : List ℕ) (moment : ℕ) (a : Asked) → AddsOrErrs (answer_asked login limit s used head body moment a)
  unfolding rows_answer_of answer_in job_answer_of job_answer_in
  by_asked login limit used head body moment (asked.Rows request) =
      by_rows limit used (stamp_of head s.count moment) request (conditions_of head.fields) body (md5 body) (refusal_of length request s.rows (conditions_of head.fields) (Some (md5 body)))
  by_asked login limit used head body moment (asked.Jobs request) =
      by_jobs login limit used (stamp_of head s.count moment) request (posted_of login request.doing body) (archive_asked login s request.doing moment) (job_refusal_of length request s (posted_of login request.doing body) (Some (md5 body)))

nothing_if_error : (a : Answer (List ℕ)) → AddsOrErrs a → 400 ≤ a.reply.status → a.added ≡ []
nothing_if_error a (inl none) error = none
nothing_if_error a (inr is) error = absurd (omega (arith, is, error))

pub errors_add_nothing : ErrorsAddNothing
unfolding answer_of
errors_add_nothing login limit s used head body moment error = nothing_if_error (answer_asked login limit s used head body moment (asked_of login head)) (by_asked s login limit used head body moment (asked_of login head)) error

refused_above : (login : List ℕ) (limit used : ℕ) (s : State (List ℕ)) (stamp : Stamp) (request : JobRequest) (p : Posted) (archive : Option (Archive (List ℕ))) (o : Option Refused) (r : Refused) → o ≡ Some r
    → 400 ≤ (job_answer_by length login limit stamp s used request p archive o).reply.status
refused_above login limit used s stamp request p archive None r is = absurd (cc)
refused_above login limit used s stamp request p archive (Some x) r is = error_above x.code

pub refused_jobs_are_errors : RefusedJobsAreErrors
unfolding job_answer_of job_answer_in
refused_jobs_are_errors login limit s used head request body moment r is =
    refused_above login limit used s (stamp_of head s.count moment) request (posted_of login request.doing body) (archive_asked login s request.doing moment)
    (job_refusal_of length request s (posted_of login request.doing body) (Some (md5 body))) r is
