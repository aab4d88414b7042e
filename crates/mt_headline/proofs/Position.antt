-- Each answer names its position.
use Rattle.std.proofs.Common.{◌≡◌, ℕ, ◌+◌, ◌*◌, Bool, true, false, List, [], ◌∷◌, ◌++◌, codes, length, Option, Some, None, Result, Ok, Err, refl, arith}
use Rattle.md5.specs.Md5.{md5}
use Rattle.mt_answer.specs.Answer.{Answer, accept, add_if, answer_by, answer_in, command_of, found_reply, has_room, link_reply, listing_reply, range_reply, ranged_reply, reply_to, rows_answer_of, stamp_of}
use Rattle.mt_answer.specs.JobAnswer.{archive_asked, job_accept, job_add_if, job_answer_by, job_answer_in, job_answer_of, job_command_of, job_has_room, job_reply_to, stand_reply, text_reply}
use Rattle.mt_answer.specs.JobJudging.{asked_job, job_refusal_of}
use Rattle.mt_answer.specs.Judging.{refusal_of}
use Rattle.mt_answer.specs.Posting.{posted_of}
use Rattle.mt_answer.specs.Whole.{answer_asked, answer_of}
use Rattle.mt_answer.specs.declared.posted.Posted.{Posted}
use Rattle.mt_cond.specs.Conditions.{conditions_of}
use Rattle.mt_cond.specs.Range.{ranged}
use Rattle.mt_cond.specs.declared.conditions.Conditions.{Conditions}
use Rattle.mt_cond.specs.declared.range.Range.{Range}
use Rattle.mt_cond.specs.declared.range.Ranged.{Ranged}
use Rattle.mt_cond.specs.declared.range.Ranged.TheVariants as part
use Rattle.mt_error.specs.Refusals.{plain}
use Rattle.mt_error.specs.declared.code.ErrorCode.TheVariants as error
use Rattle.mt_error.specs.declared.refused.Refused.{Refused}
use Rattle.mt_http.specs.declared.message.Head.{Head}
use Rattle.mt_model.specs.Rows.{Rows, object_at}
use Rattle.mt_model.specs.State.{State}
use Rattle.mt_path.specs.AccountPath.{AccountPath, path_text}
use Rattle.mt_headline.specs.Position.{HasPosition, PositionsAreNamed}
use Rattle.mt_jobs.specs.Pages.{standing}
use Rattle.mt_jobtext.specs.JobTexts.{line_count}
use Rattle.mt_model.specs.Listing.{result_set_size}
use Rattle.mt_model.specs.Names.{job_folder}
use Rattle.mt_reply.specs.ReplyFields.{digest_field, etag_field, field, live_fields, modified_field, more_fields, number_field, object_fields, part_field, stamp_fields, stored_fields}
use Rattle.mt_reply.specs.Replies.{error_reply, page_type}
use Rattle.mt_types.specs.declared.limits.TheConstants.{NUMBERS_A_COMMAND}
use Rattle.mt_reply.specs.declared.stamp.Stamp.{Stamp}
use Rattle.mt_request.specs.Requests.{asked_of}
use Rattle.mt_request.specs.declared.asked.Asked.{Asked}
use Rattle.mt_request.specs.declared.asked.Asked.TheVariants as asked
use Rattle.mt_request.specs.declared.asked.JobRequest.{JobRequest}
use Rattle.mt_request.specs.declared.jobs.JobDoing.{JobDoing}
use Rattle.mt_request.specs.declared.jobs.JobDoing.TheVariants as jobs
use Rattle.mt_request.specs.declared.query.Page.{Page}
use Rattle.mt_types.specs.declared.live.JobStand.{JobStand}
use Rattle.mt_request.specs.declared.request.Doing.{Doing}
use Rattle.mt_request.specs.declared.request.Doing.TheVariants as doing
use Rattle.mt_request.specs.declared.request.Request.{Request}
use Rattle.mt_store.specs.Decisions.{read_decision}
use Rattle.mt_store.specs.declared.error.StoreError.{StoreError}
use Rattle.mt_store.specs.declared.reads.Found.{Found}
use Rattle.mt_store.specs.declared.reads.Found.TheVariants as found
use Rattle.mt_types.specs.declared.command.Archive.{Archive}
use Rattle.mt_types.specs.declared.command.Command.{Command}
use Rattle.mt_types.specs.declared.job.Job.{Job}
use Rattle.mt_types.specs.declared.live.LiveText.{LiveText}
use Rattle.mt_types.specs.declared.object.Field.{Field}
use Rattle.mt_types.specs.declared.object.Object.{Object}
use Rattle.mt_types.specs.declared.reply.Reply.{Reply}

-- its last fields are those of this stamp
abbrev EndsWith : Stamp → Reply (List ℕ) → Type 0
EndsWith stamp r = (front : List Field) × (r.fields ≡ front ++ stamp_fields stamp)

refusal_ends : (stamp : Stamp) (r : Refused) → EndsWith stamp (error_reply stamp r)
refusal_ends stamp r = (field (codes "content-type") (codes "application/json") ∷ more_fields r.more, refl)

listing_ends : (stamp : Stamp) (rows : Rows (List ℕ)) (p : AccountPath) (page : Option Page) → EndsWith stamp (listing_reply length stamp rows p page)
listing_ends stamp rows p (Some page) = (field (codes "content-type") page_type ∷ number_field (codes "result-set-size") (result_set_size rows p) ∷ [], refl)
listing_ends stamp rows p None = ([], refl)

link_ends : (stamp : Stamp) (o : Option (Object (List ℕ))) → EndsWith stamp (link_reply md5 stamp o)
link_ends stamp (Some o) = (stored_fields o.number stamp.moment (md5 o.body), refl)
link_ends stamp None = ([], refl)

ranged_ends : (stamp : Stamp) (o : Object (List ℕ)) (r : Ranged) → EndsWith stamp (ranged_reply length md5 stamp o r)
ranged_ends stamp o part.Whole = (digest_field (codes "content-md5") (md5 o.body) ∷ object_fields o, refl)
ranged_ends stamp o (part.Part from to) = (part_field from to (length o.body) ∷ object_fields o, refl)
ranged_ends stamp o part.CannotMeet = ([], refl)

range_ends : (stamp : Stamp) (o : Object (List ℕ)) (r : Option Range) → EndsWith stamp (range_reply length md5 stamp o r)
range_ends stamp o None = ranged_ends stamp o part.Whole
range_ends stamp o (Some r) = ranged_ends stamp o (ranged r (length o.body))

found_ends : (stamp : Stamp) (rows : Rows (List ℕ)) (p : AccountPath) (page : Option Page) (range : Option Range) (r : Result (Found (Object (List ℕ))) StoreError) → EndsWith stamp (found_reply length md5 stamp rows p page range r)
found_ends stamp rows p page range (Ok found.Directory) = listing_ends stamp rows p page
found_ends stamp rows p page range (Ok (found.Object o)) = range_ends stamp o range
found_ends stamp rows p page range (Ok (found.NotModified o)) = (etag_field o.number ∷ modified_field o.mtime ∷ [], refl)
found_ends stamp rows p page range (Err e) = ([], refl)

to_ends : (stamp : Stamp) (count : ℕ) (rows : Rows (List ℕ)) (c : Conditions) (d : Doing) (sum : List ℕ) → EndsWith stamp (reply_to length md5 stamp count rows c d sum)
to_ends stamp count rows c doing.Nothing sum = ([], refl)
to_ends stamp count rows c (doing.PutObject p t dur meta) sum = (stored_fields (count * NUMBERS_A_COMMAND) stamp.moment sum, refl)
to_ends stamp count rows c (doing.PutDirectory p) sum = ([], refl)
to_ends stamp count rows c (doing.PutLink p source) sum = link_ends stamp (object_at rows source)
to_ends stamp count rows c (doing.Remove p) sum = ([], refl)
to_ends stamp count rows c (doing.Look p page range) sum = found_ends stamp rows p page range (read_decision rows p c)

text_ends : (login : List ℕ) (stamp : Stamp) (job : Option (Job (List ℕ))) (text : LiveText) → EndsWith stamp (text_reply login stamp job text)
text_ends login stamp (Some job) text = (live_fields text (line_count login job text), refl)
text_ends login stamp None text = ([], refl)

stand_ends : (stamp : Stamp) (s : State (List ℕ)) (stand : JobStand) (page : Option Page) → EndsWith stamp (stand_reply stamp s.jobs stand page)
stand_ends stamp s stand (Some page) = (field (codes "content-type") page_type ∷ number_field (codes "result-set-size") (length (standing stand s.jobs)) ∷ [], refl)
stand_ends stamp s stand None = ([], refl)

job_ends : (login : List ℕ) (stamp : Stamp) (s : State (List ℕ)) (d : JobDoing) → EndsWith stamp (job_reply_to login stamp s d)
job_ends login stamp s jobs.MakeJob = (field (codes "location") (path_text login (job_folder (s.count * NUMBERS_A_COMMAND))) ∷ [], refl)
job_ends login stamp s (jobs.PostLines job) = ([], refl)
job_ends login stamp s (jobs.EndInput job) = ([], refl)
job_ends login stamp s (jobs.CancelJob job) = ([], refl)
job_ends login stamp s (jobs.LookLive job text) = text_ends login stamp (asked_job s.jobs job) text
job_ends login stamp s (jobs.ListJobs stand page) = stand_ends stamp s stand page

module _ (s : State (List ℕ)) (head : Head) (moment : ℕ) where
  -- an answer without a command, and one with
  none : (r : Reply (List ℕ)) (grew : ℕ) → EndsWith (stamp_of head s.count moment) r → HasPosition s head moment (record { reply = r; added = []; grew = grew })
  none r grew e = record { front = e.0; position = s.count; counts = omega arith; fields = e.1 }

  one : (r : Reply (List ℕ)) (c : Command (List ℕ)) (grew : ℕ) → EndsWith (stamp_of head (s.count + 1) moment) r → HasPosition s head moment (record { reply = r; added = c ∷ []; grew = grew })
  one r c grew e = record { front = e.0; position = s.count + 1; counts = omega arith; fields = e.1 }

  added : (room : Bool) (c : Command (List ℕ)) (len : ℕ) (r : Reply (List ℕ)) (full : Answer (List ℕ)) → EndsWith (stamp_of head (s.count + 1) moment) r → HasPosition s head moment full
      → HasPosition s head moment (add_if room c len r full)
  added true c len r full e f = one r c _ e
  added false c len r full e f = f

  accepted : (limit used len : ℕ) (c : Conditions) (d : Doing) (sum : List ℕ) (command : Option (Command (List ℕ))) → HasPosition s head moment (accept length md5 limit (stamp_of head s.count moment) s c used d sum len command)
  accepted limit used len c d sum None = none _ _ (to_ends (stamp_of head s.count moment) s.count s.rows c d sum)
  accepted limit used len c d sum (Some command) =
      added (has_room limit s.count used len command) command len _ _ (to_ends (stamp_of head (s.count + 1) moment) s.count s.rows c d sum) (none _ _ (refusal_ends (stamp_of head s.count moment) (plain error.NotEnoughSpace)))

  by_rows : (limit used : ℕ) (request : Request) (c : Conditions) (body sum : List ℕ) (r : Option Refused) → HasPosition s head moment (answer_by length md5 limit (stamp_of head s.count moment) s c used request body sum r)
  by_rows limit used request c body sum (Some r) = none _ _ (refusal_ends (stamp_of head s.count moment) r)
  by_rows limit used request c body sum None = accepted limit used _ c request.doing sum (command_of s.rows request.doing body moment)

  job_added : (room : Bool) (c : Command (List ℕ)) (grew : ℕ) (r : Reply (List ℕ)) (full : Answer (List ℕ)) → EndsWith (stamp_of head (s.count + 1) moment) r → HasPosition s head moment full
      → HasPosition s head moment (job_add_if room c grew r full)
  job_added true c grew r full e f = one r c _ e
  job_added false c grew r full e f = f

  job_accepted : (login : List ℕ) (limit used : ℕ) (d : JobDoing) (archive : Option (Archive (List ℕ))) (command : Option (Command (List ℕ))) → HasPosition s head moment (job_accept length login limit (stamp_of head s.count moment) s used d archive command)
  job_accepted login limit used d archive None = none _ _ (job_ends login (stamp_of head s.count moment) s d)
  job_accepted login limit used d archive (Some command) =
      job_added (job_has_room length limit s.count used archive command) command _ _ _ (job_ends login (stamp_of head (s.count + 1) moment) s d) (none _ _ (refusal_ends (stamp_of head s.count moment) (plain error.NotEnoughSpace)))

  by_jobs : (login : List ℕ) (limit used : ℕ) (request : JobRequest) (p : Posted) (archive : Option (Archive (List ℕ))) (r : Option Refused) → HasPosition s head moment (job_answer_by length login limit (stamp_of head s.count moment) s used request p archive r)
  by_jobs login limit used request p archive (Some r) = none _ _ (refusal_ends (stamp_of head s.count moment) r)
  by_jobs login limit used request p archive None = job_accepted login limit used request.doing archive (job_command_of request.doing p archive moment)

  by_asked : (login : List ℕ) (limit used : ℕ) (body : List ℕ) (a : Asked) → HasPosition s head moment (answer_asked login limit s used head body moment a)
  unfolding rows_answer_of answer_in job_answer_of job_answer_in
  by_asked login limit used body (asked.Rows request) = by_rows limit used request (conditions_of head.fields) body (md5 body) (refusal_of length request s.rows (conditions_of head.fields) (Some (md5 body)))
  by_asked login limit used body (asked.Jobs request) =
      by_jobs login limit used request (posted_of login request.doing body) (archive_asked login s request.doing moment) (job_refusal_of length request s (posted_of login request.doing body) (Some (md5 body)))

pub positions_are_named : PositionsAreNamed
unfolding answer_of
positions_are_named login limit s used head body moment = by_asked s head moment login limit used body (asked_of login head)
