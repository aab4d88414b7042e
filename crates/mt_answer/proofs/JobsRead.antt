-- What is asked of jobs is refused and answered over references as over the bytes that are read.
use Rattle.std.proofs.Common.{◌≡◌, ℕ, ◌+◌, ◌==◌, Bool, true, false, ◌&&◌, List, [], ◌∷◌, length, map, take, Option, Some, None, refl, sym, ap, ◌∙◌}
use Rattle.std.specs.Prelude.{nat_le, nat_lt, option_map}
use Rattle.std.specs.List.{filter}
use Rattle.md5.specs.Md5.{md5}
use Rattle.mt_codec.specs.Pieces.{spelled_size}
use Rattle.mt_codec.proofs.SizesRead.{read_size}
use Rattle.mt_error.specs.Refusals.{plain}
use Rattle.mt_error.specs.declared.code.ErrorCode.TheVariants as error
use Rattle.mt_error.specs.declared.refused.Refused.{Refused}
use Rattle.mt_http.specs.declared.message.Head.{Head}
use Rattle.mt_ident.specs.Identifiers.{is_from}
use Rattle.mt_jobs.specs.Pages.{standing, stands}
use Rattle.mt_jobtext.specs.JobTexts.{archive_of, line_count, text_of}
use Rattle.mt_jobtext.proofs.Bodies.{archives_same, texts_same}
use Rattle.mt_live.specs.LiveTexts.{job_line, jobs_text}
use Rattle.mt_model.specs.Bodies.{rows_with, state_with}
use Rattle.mt_model.specs.CommandStep.{allowed}
use Rattle.mt_model.specs.JobSteps.{add_inputs_refusal, close_refusal, done_at, input_refusal, job_refusal, new_job_refusal}
use Rattle.mt_model.specs.Laws.{KeepsSize, Reading}
use Rattle.mt_model.specs.Limits.{most_inputs}
use Rattle.mt_model.specs.Rows.{first_refusal, refuse_if}
use Rattle.mt_model.specs.State.{State}
use Rattle.mt_model.proofs.Maps.{filter-map, find-map, flat_map-map, length-map, same_function, take-map}
use Rattle.mt_model.proofs.StepsWith.{allowed-with}
use Rattle.mt_reply.specs.Replies.{live_reply, page_reply}
use Rattle.mt_reply.specs.declared.stamp.Stamp.{Stamp}
use Rattle.mt_request.specs.Digest.{digest_refusal}
use Rattle.mt_request.specs.Order.{first_of}
use Rattle.mt_request.specs.declared.asked.JobRequest.{JobRequest}
use Rattle.mt_request.specs.declared.jobs.JobDoing.{JobDoing}
use Rattle.mt_request.specs.declared.jobs.JobDoing.TheVariants as jobs
use Rattle.mt_request.specs.declared.query.Page.{Page}
use Rattle.mt_types.specs.Values.{archive_with, command_with, item_with, job_with, reply_with}
use Rattle.mt_types.specs.declared.body.Body.{Body}
use Rattle.mt_types.specs.declared.command.Archive.{Archive}
use Rattle.mt_types.specs.declared.command.Command.{Command}
use Rattle.mt_types.specs.declared.command.Command.TheVariants.{NewJob}
use Rattle.mt_types.specs.declared.document.InputLine.{InputLine}
use Rattle.mt_types.specs.declared.document.JobDocument.{JobDocument}
use Rattle.mt_types.specs.declared.job.Job.{Job}
use Rattle.mt_types.specs.declared.limits.TheConstants.{MOST_COMMANDS}
use Rattle.mt_types.specs.declared.live.JobStand.{JobStand}
use Rattle.mt_types.specs.declared.live.JobStand.TheVariants as stand
use Rattle.mt_types.specs.declared.live.LiveText.{LiveText}
use Rattle.mt_types.specs.declared.refusal.Refusal.{Refusal}
use Rattle.mt_types.specs.declared.refusal.Refusal.TheVariants as refusal
use Rattle.mt_types.specs.declared.reply.Reply.{Reply}
use Rattle.mt_answer.specs.Answer.{Answer, answer_with, stamp_of}
use Rattle.mt_answer.specs.JobAnswer.{add_lines, archive_asked, brought_size, close_job, job_accept, job_add_if, job_answer_by, job_answer_in, job_answer_of, job_command_of, job_growth, job_has_room, job_reply_to, jobs_page, make_job, refuse_job, stand_reply, text_reply}
use Rattle.mt_answer.specs.JobJudging.{asked_job, document_refusal, job_account_refusal, job_refusal_of, lines_refusal, of_job, posted_refusal, told_as, too_many_refusal}
use Rattle.mt_answer.specs.Judging.{len_of}
use Rattle.mt_answer.specs.Posting.{posted_of}
use Rattle.mt_answer.specs.declared.posted.Posted.{Posted}
use Rattle.mt_answer.specs.declared.posted.Posted.TheVariants as posted

abbrev Bytes : Type 0
Bytes = List ℕ

module _ {A B : Type 0} (f : A → B) (size : B → ℕ) where
  -- the size of what a body goes to
  abbrev size_with : A → ℕ
  size_with a = size (f a)

  asked-with : (js : List (Job A)) (job : Option ℕ) → asked_job (map (job_with f) js) job ≡ option_map (job_with f) (asked_job js job)
  asked-with js None = refl
  asked-with js (Some n) = find-map (job_with f) (λ j. j.number == n) js

  of_found : (r : Job A → Option Refusal) (r' : Job B → Option Refusal) → ((j : Job A) → r' (job_with f j) ≡ r j) → (o : Option (Job A))
      → job_refusal (option_map (job_with f) o) r' ≡ job_refusal o r
  of_found r r' each None = refl
  of_found r r' each (Some j) = each j

  of_job-with : (s : State A) (job : Option ℕ) (r : Job A → Option Refusal) (r' : Job B → Option Refusal) → ((j : Job A) → r' (job_with f j) ≡ r j)
      → of_job (state_with f s) job r' ≡ of_job s job r
  of_job-with s job r r' each =
      ap (λ o. told_as (job_refusal o r')) (asked-with s.jobs job) ∙ ap told_as (of_found r r' each (asked_job s.jobs job))

  inputs-with : (lines : List InputLine) (j : Job A) → add_inputs_refusal lines (job_with f j) ≡ add_inputs_refusal lines j
  inputs-with lines j =
      ap (λ n. first_refusal (input_refusal j) (refuse_if (nat_lt most_inputs (n + length j.missing + length lines)) refusal.TooManyInputs)) (length-map (item_with f) j.inputs)

  new_job-with : (s : State A) (d : JobDocument) → new_job_refusal size (rows_with f s.rows) d ≡ new_job_refusal size_with s.rows d
  unfolding allowed
  new_job-with s d = allowed-with f size s (NewJob d 0)

  document-with : (s : State A) (p : Posted) → document_refusal size (state_with f s) p ≡ document_refusal size_with s p
  document-with s (posted.Document d) = ap told_as (new_job-with s d)
  document-with s posted.Nothing = refl
  document-with s posted.NoDocument = refl
  document-with s (posted.Lines lines) = refl
  document-with s posted.TooMany = refl
  document-with s posted.NoText = refl

  lines-with : (s : State A) (job : Option ℕ) (p : Posted) → lines_refusal (state_with f s) job p ≡ lines_refusal s job p
  lines-with s job (posted.Lines lines) = of_job-with s job (add_inputs_refusal lines) (add_inputs_refusal lines) (inputs-with lines)
  lines-with s job posted.TooMany = of_job-with s job too_many_refusal too_many_refusal (λ j. refl)
  lines-with s job posted.Nothing = of_job-with s job input_refusal input_refusal (λ j. refl)
  lines-with s job (posted.Document d) = of_job-with s job input_refusal input_refusal (λ j. refl)
  lines-with s job posted.NoDocument = of_job-with s job input_refusal input_refusal (λ j. refl)
  lines-with s job posted.NoText = of_job-with s job input_refusal input_refusal (λ j. refl)

  account-with : (s : State A) (d : JobDoing) (p : Posted) → job_account_refusal size (state_with f s) d p ≡ job_account_refusal size_with s d p
  account-with s jobs.MakeJob p = document-with s p
  account-with s (jobs.PostLines job) p = lines-with s job p
  account-with s (jobs.EndInput job) p = of_job-with s job input_refusal input_refusal (λ j. refl)
  account-with s (jobs.CancelJob job) p = of_job-with s job (close_refusal true) (close_refusal true) (λ j. refl)
  account-with s (jobs.LookLive job text) p = of_job-with s job (λ j. None) (λ j. None) (λ j. refl)
  account-with s (jobs.ListJobs stand page) p = refl

  pub job_refusal-with : (request : JobRequest) (s : State A) (p : Posted) (digest : Option (List ℕ))
      → job_refusal_of size request (state_with f s) p digest ≡ job_refusal_of size_with request s p digest
  unfolding job_refusal_of
  job_refusal-with request s p digest =
      ap (λ r. first_of (option_map plain (digest_refusal request.wish digest) ∷ posted_refusal p ∷ r ∷ [])) (account-with s request.doing p)

  -- ---- commands

  make-with : (p : Posted) (moment : ℕ) → make_job {B = B} p moment ≡ option_map (command_with f) (make_job p moment)
  make-with (posted.Document d) moment = refl
  make-with posted.Nothing moment = refl
  make-with posted.NoDocument moment = refl
  make-with (posted.Lines lines) moment = refl
  make-with posted.TooMany moment = refl
  make-with posted.NoText moment = refl

  lines_command-with : (job : ℕ) (p : Posted) (moment : ℕ) → add_lines {B = B} job p moment ≡ option_map (command_with f) (add_lines job p moment)
  lines_command-with job (posted.Lines lines) moment = refl
  lines_command-with job posted.Nothing moment = refl
  lines_command-with job (posted.Document d) moment = refl
  lines_command-with job posted.NoDocument moment = refl
  lines_command-with job posted.TooMany moment = refl
  lines_command-with job posted.NoText moment = refl

  close-with : (job : ℕ) (archive : Option (Archive A)) (moment : ℕ) → close_job job (option_map (archive_with f) archive) moment ≡ option_map (command_with f) (close_job job archive moment)
  close-with job (Some archive) moment = refl
  close-with job None moment = refl

  pub command-with : (d : JobDoing) (p : Posted) (archive : Option (Archive A)) (moment : ℕ)
      → job_command_of d p (option_map (archive_with f) archive) moment ≡ option_map (command_with f) (job_command_of d p archive moment)
  command-with jobs.MakeJob p archive moment = make-with p moment
  command-with (jobs.PostLines (Some job)) p archive moment = lines_command-with job p moment
  command-with (jobs.PostLines None) p archive moment = refl
  command-with (jobs.EndInput (Some job)) p archive moment = refl
  command-with (jobs.EndInput None) p archive moment = refl
  command-with (jobs.CancelJob (Some job)) p archive moment = close-with job archive moment
  command-with (jobs.CancelJob None) p archive moment = refl
  command-with (jobs.LookLive job text) p archive moment = refl
  command-with (jobs.ListJobs stand page) p archive moment = refl

  brought-with : (archive : Option (Archive A)) → brought_size size (option_map (archive_with f) archive) ≡ brought_size size_with archive
  brought-with None = refl
  brought-with (Some archive) = refl

  -- ---- pages of jobs

  stands-with : (how : JobStand) (j : Job A) → stands how (job_with f j) ≡ stands how j
  stands-with stand.Running j = refl
  stands-with stand.Done j = refl

  standing-with : (how : JobStand) (js : List (Job A)) → standing how (map (job_with f) js) ≡ map (job_with f) (standing how js)
  standing-with how js =
      filter-map (job_with f) (stands how) js
      ∙ ap (λ t. map (job_with f) (filter t js)) (same_function (λ j. stands how (job_with f j)) (stands how) (stands-with how))

  page-with : (how : JobStand) (page : Page) (js : List (Job A)) → jobs_page how page (map (job_with f) js) ≡ map (job_with f) (jobs_page how page js)
  page-with how page js =
      ap (λ xs. take page.limit (filter (λ j. is_from 2 page.marker j.number) xs)) (standing-with how js)
      ∙ ap (take page.limit) (filter-map (job_with f) (λ j. is_from 2 page.marker j.number) (standing how js))
      ∙ take-map (job_with f) page.limit (filter (λ j. is_from 2 page.marker j.number) (standing how js))

  stood-with : (stamp : Stamp) (how : JobStand) (page : Option Page) (js : List (Job A))
      → stand_reply stamp (map (job_with f) js) how page ≡ reply_with f (stand_reply stamp js how page)
  stood-with stamp how None js = refl
  stood-with stamp how (Some page) js =
      ap (λ n. page_reply stamp n (jobs_text (jobs_page how page (map (job_with f) js)))) (ap length (standing-with how js) ∙ length-map (job_with f) (standing how js))
      ∙ ap (λ text. page_reply stamp (length (standing how js)) text)
      (ap jobs_text (page-with how page js) ∙ flat_map-map (job_with f) (λ j. job_line j.number j.created) (jobs_page how page js))

-- ---- over what is read

module _ (read : Reading) where
  text-with : (login : List ℕ) (stamp : Stamp) (o : Option (Job Body)) (text : LiveText)
      → text_reply login stamp (option_map (job_with read) o) text ≡ reply_with read (text_reply login stamp o text)
  text-with login stamp None text = refl
  text-with login stamp (Some j) text =
      ap (λ n. live_reply stamp text n (text_of login (job_with read j) text)) (texts_same read login j text).lines
      ∙ ap (λ t. live_reply stamp text (line_count login j text) t) (texts_same read login j text).same

  reply-with : (login : List ℕ) (stamp : Stamp) (s : State Body) (d : JobDoing) → job_reply_to login stamp (state_with read s) d ≡ reply_with read (job_reply_to login stamp s d)
  reply-with login stamp s jobs.MakeJob = refl
  reply-with login stamp s (jobs.PostLines job) = refl
  reply-with login stamp s (jobs.EndInput job) = refl
  reply-with login stamp s (jobs.CancelJob job) = refl
  reply-with login stamp s (jobs.LookLive job text) =
      ap (λ o. text_reply login stamp o text) (asked-with read length s.jobs job) ∙ text-with login stamp (asked_job s.jobs job) text
  reply-with login stamp s (jobs.ListJobs how page) = stood-with read length stamp how page s.jobs

  archive_found : (login : List ℕ) (moment : ℕ) (o : Option (Job Body))
      → option_map (λ j. archive_of login (done_at moment true j)) (option_map (job_with read) o) ≡ option_map (λ j. archive_of login (done_at moment true j)) o
  archive_found login moment None = refl
  archive_found login moment (Some j) = ap Some (archives_same read login (done_at moment true j))

  -- the texts that a cancel brings
  pub archive-with : (login : List ℕ) (s : State Body) (d : JobDoing) (moment : ℕ) → archive_asked login (state_with read s) d moment ≡ archive_asked login s d moment
  archive-with login s (jobs.CancelJob job) moment =
      ap (option_map (λ j. archive_of login (done_at moment true j))) (asked-with read length s.jobs job) ∙ archive_found login moment (asked_job s.jobs job)
  archive-with login s jobs.MakeJob moment = refl
  archive-with login s (jobs.PostLines job) moment = refl
  archive-with login s (jobs.EndInput job) moment = refl
  archive-with login s (jobs.LookLive job text) moment = refl
  archive-with login s (jobs.ListJobs how page) moment = refl

  growth-with : (archive : Option (Archive Body)) (c : Command Body)
      → job_growth length (option_map (archive_with read) archive) (command_with read c) ≡ job_growth (size_with read length) archive c
  growth-with archive c =
      ap (λ n. n + 21 + spelled_size (command_with read c)) (brought-with read length archive) ∙ ap (λ n. brought_size (size_with read length) archive + 21 + n) (read_size read c)

  add-with : (test : Bool) (c : Command Body) (grew : ℕ) (reply : Reply Body) (full : Answer Body)
      → job_add_if test (command_with read c) grew (reply_with read reply) (answer_with read full) ≡ answer_with read (job_add_if test c grew reply full)
  add-with true c grew reply full = refl
  add-with false c grew reply full = refl

  accept-with : (login : List ℕ) (limit : ℕ) (stamp : Stamp) (s : State Body) (used : ℕ) (d : JobDoing) (archive : Option (Archive Body)) (command : Option (Command Body))
      → job_accept length login limit stamp (state_with read s) used d (option_map (archive_with read) archive) (option_map (command_with read) command)
      ≡ answer_with read (job_accept (size_with read length) login limit stamp s used d archive command)
  accept-with login limit stamp s used d archive None = ap (λ (r : Reply Bytes). record { reply = r; added = []; grew = 0 }) (reply-with login stamp s d)
  accept-with login limit stamp s used d archive (Some c) =
      let full : Answer Bytes = refuse_job stamp (plain error.NotEnoughSpace) in
      let behind : Stamp = record stamp { position = s.count + 1 } in
      ap (λ n. job_add_if (nat_lt s.count MOST_COMMANDS && nat_le (used + n) limit) (command_with read c) n (job_reply_to login behind (state_with read s) d) full) (growth-with archive c)
      ∙ ap (λ (r : Reply Bytes). job_add_if (job_has_room (size_with read length) limit s.count used archive c) (command_with read c) (job_growth (size_with read length) archive c) r full) (reply-with login behind s d)
      ∙ add-with (job_has_room (size_with read length) limit s.count used archive c) c (job_growth (size_with read length) archive c) (job_reply_to login behind s d) (refuse_job stamp (plain error.NotEnoughSpace))

  by-with : (login : List ℕ) (limit : ℕ) (stamp : Stamp) (s : State Body) (used : ℕ) (request : JobRequest) (p : Posted) (archive : Option (Archive Body)) (r : Option Refused)
      → job_answer_by length login limit stamp (state_with read s) used request p (option_map (archive_with read) archive) r
      ≡ answer_with read (job_answer_by (size_with read length) login limit stamp s used request p archive r)
  by-with login limit stamp s used request p archive (Some r) = refl
  by-with login limit stamp s used request p archive None =
      ap (job_accept length login limit stamp (state_with read s) used request.doing (option_map (archive_with read) archive)) (command-with read length request.doing p archive stamp.moment)
      ∙ accept-with login limit stamp s used request.doing archive (job_command_of request.doing p archive stamp.moment)

  module _ (keeps : KeepsSize read) where
    len_is : size_with read length ≡ len_of
    len_is = same_function (size_with read length) len_of keeps

    pub job_refusals_read : (request : JobRequest) (s : State Body) (p : Posted) (digest : Option (List ℕ))
        → job_refusal_of length request (state_with read s) p digest ≡ job_refusal_of len_of request s p digest
    job_refusals_read request s p digest =
        job_refusal-with read length request s p digest ∙ ap (λ (size : Body → ℕ). job_refusal_of size request s p digest) len_is

    in-with : (login : List ℕ) (limit : ℕ) (stamp : Stamp) (s : State Body) (used : ℕ) (request : JobRequest) (p : Posted) (sum : List ℕ) (archive : Option (Archive Body))
        → job_answer_in length login limit stamp (state_with read s) used request p sum (option_map (archive_with read) archive)
        ≡ answer_with read (job_answer_in len_of login limit stamp s used request p sum archive)
    unfolding job_answer_in
    in-with login limit stamp s used request p sum archive =
        ap (job_answer_by length login limit stamp (state_with read s) used request p (option_map (archive_with read) archive)) (job_refusal-with read length request s p (Some sum))
        ∙ by-with login limit stamp s used request p archive (job_refusal_of (size_with read length) request s p (Some sum))
        ∙ ap (λ (size : Body → ℕ). answer_with read (job_answer_by size login limit stamp s used request p archive (job_refusal_of size request s p (Some sum)))) len_is

    pub job_answers_read : (login : List ℕ) (limit : ℕ) (s : State Body) (used : ℕ) (head : Head) (request : JobRequest) (bytes : Bytes) (moment : ℕ) (archive : Option (Archive Body))
        → option_map (archive_with read) archive ≡ archive_asked login s request.doing moment
        → job_answer_of login limit (state_with read s) used head request bytes moment
        ≡ answer_with read (job_answer_in len_of login limit (stamp_of head s.count moment) s used request (posted_of login request.doing bytes) (md5 bytes) archive)
    unfolding job_answer_of
    job_answers_read login limit s used head request bytes moment archive brings =
        ap (job_answer_in length login limit (stamp_of head s.count moment) (state_with read s) used request (posted_of login request.doing bytes) (md5 bytes))
        (archive-with login s request.doing moment ∙ sym brings)
        ∙ in-with login limit (stamp_of head s.count moment) s used request (posted_of login request.doing bytes) (md5 bytes) archive
