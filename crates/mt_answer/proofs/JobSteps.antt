-- The command of what is asked of jobs is a step: well made, allowed, with room, and honest whatever children give.
use Rattle.std.proofs.Common.{◌≡◌, ℕ, ◌+◌, Bool, true, false, cond, List, [], ◌∷◌, length, map, Option, Some, None, Result, Ok, Err, refl, subst}
use Rattle.std.specs.Prelude.{nat_le, nat_lt}
use Rattle.std.specs.List.{AllByRecursion}
use Rattle.std.specs.Str.{is_utf8}
use Rattle.std.proofs.lemmas.Bool.{and_parts, ltb-true}
use Rattle.std.proofs.lemmas.Option.{same_Some}
use Rattle.md5.specs.Md5.{md5}
use Rattle.mt_error.specs.Refusals.{plain}
use Rattle.mt_error.specs.declared.code.ErrorCode.TheVariants as error
use Rattle.mt_error.specs.declared.refused.Refused.{Refused}
use Rattle.mt_http.specs.declared.message.Head.{Head}
use Rattle.mt_jobdoc.specs.Document.{document_of}
use Rattle.mt_jobdoc.specs.declared.error.InvalidJob.{InvalidJob}
use Rattle.mt_jobdoc.proofs.Documents.{document-document}
use Rattle.mt_model.specs.CommandStep.{allowed}
use Rattle.mt_model.specs.Honest.{HonestFrom, IsHonest}
use Rattle.mt_model.specs.Limits.{most_inputs}
use Rattle.mt_model.specs.State.{State}
use Rattle.mt_model.specs.Types.{Raw, Run}
use Rattle.mt_path.specs.AccountPath.{AccountPath}
use Rattle.mt_path.specs.Names.{path_of_text}
use Rattle.mt_path.specs.declared.error.PathError.{PathError}
use Rattle.mt_reply.specs.declared.stamp.Stamp.{Stamp}
use Rattle.mt_request.specs.declared.asked.JobRequest.{JobRequest}
use Rattle.mt_request.specs.declared.jobs.JobDoing.{JobDoing}
use Rattle.mt_request.specs.declared.jobs.JobDoing.TheVariants as jobs
use Rattle.mt_types.specs.WellMade.{IsDocument, IsWellMade, IsWellMadeLine}
use Rattle.mt_types.specs.declared.command.Archive.{Archive}
use Rattle.mt_types.specs.declared.command.Command.{Command}
use Rattle.mt_types.specs.declared.document.JobDocument.{JobDocument}
use Rattle.mt_types.specs.declared.limits.TheConstants.{MOST_COMMANDS}
use Rattle.mt_types.specs.declared.task.Fate.{Fate}
use Rattle.mt_answer.specs.Answer.{stamp_of}
use Rattle.mt_answer.specs.JobAnswer.{add_lines, archive_asked, close_job, job_accept, job_add_if, job_answer_by, job_answer_in, job_answer_of, job_command_of, job_growth, job_has_room, job_reply_to, make_job, refuse_job}
use Rattle.mt_answer.specs.JobJudging.{job_account_refusal, job_refusal_of}
use Rattle.mt_answer.specs.Posting.{document_posted, input_line, lines_posted, named_or, posted_lines, posted_of}
use Rattle.mt_answer.specs.declared.posted.Posted.{Posted}
use Rattle.mt_answer.specs.declared.posted.Posted.TheVariants as posted
use Rattle.mt_answer.proofs.JobsTold.{account_go, by_doing}
use Rattle.mt_answer.proofs.Paths.{text_path}

abbrev Bytes : Type 0
Bytes = List ℕ

-- ---- what is posted is well made

line_made : (login text : List ℕ) (r : Result AccountPath PathError) → path_of_text login text ≡ r → IsWellMadeLine (named_or text r)
line_made login text (Ok p) is = text_path login text p is
line_made login text (Err e) is = tt

lines_made : (login : List ℕ) (texts : List (List ℕ)) → AllByRecursion IsWellMadeLine (map (input_line login) texts)
lines_made login [] = tt
lines_made login (text ∷ texts) = (line_made login text (path_of_text login text) refl, lines_made login texts)

abbrev IsMade : Posted → Type 0
IsMade posted.Nothing = Unit {0}
IsMade (posted.Document d) = IsDocument d
IsMade posted.NoDocument = Unit {0}
IsMade (posted.Lines lines) = AllByRecursion IsWellMadeLine lines
IsMade posted.TooMany = Unit {0}
IsMade posted.NoText = Unit {0}

document_made : (login body : List ℕ) (r : Result JobDocument InvalidJob) → document_of login body ≡ r → IsMade (document_posted r)
document_made login body (Ok d) is = document-document login body d is
document_made login body (Err e) is = tt

many_made : (b : Bool) (login : List ℕ) (texts : List (List ℕ)) → IsMade (cond b posted.TooMany (posted.Lines (map (input_line login) texts)))
many_made true login texts = tt
many_made false login texts = lines_made login texts

text_made : (b : Bool) (login body : List ℕ) → IsMade (cond b (lines_posted login (posted_lines body)) posted.NoText)
text_made true login body = many_made (nat_lt most_inputs (length (posted_lines body))) login (posted_lines body)
text_made false login body = tt

posted_made : (login : List ℕ) (d : JobDoing) (body : List ℕ) → IsMade (posted_of login d body)
unfolding posted_of
posted_made login jobs.MakeJob body = document_made login body (document_of login body) refl
posted_made login (jobs.PostLines job) body = text_made (is_utf8 body) login body
posted_made login (jobs.ListJobs stand page) body = tt
posted_made login (jobs.EndInput job) body = tt
posted_made login (jobs.CancelJob job) body = tt
posted_made login (jobs.LookLive job text) body = tt

-- ---- steps

module _ (login : Bytes) (gives : Run → Bytes → Raw → Type 0) (fate_of : Raw → Fate Bytes) (s : State Bytes) (moment : ℕ) (command : Command Bytes) where
  -- well made, and honest
  abbrev IsGood : Command Bytes → Type 0
  IsGood c = IsWellMade c × IsHonest login gives fate_of s c

  good_document : (p : Posted) → IsMade p → make_job p moment ≡ Some command → IsGood command
  good_document (posted.Document d) made is = subst IsGood (same_Some _ _ is) (made, tt)
  good_document posted.Nothing made is = absurd (cc)
  good_document posted.NoDocument made is = absurd (cc)
  good_document (posted.Lines lines) made is = absurd (cc)
  good_document posted.TooMany made is = absurd (cc)
  good_document posted.NoText made is = absurd (cc)

  good_lines : (job : ℕ) (p : Posted) → IsMade p → add_lines job p moment ≡ Some command → IsGood command
  good_lines job (posted.Lines lines) made is = subst IsGood (same_Some _ _ is) (made, tt)
  good_lines job posted.Nothing made is = absurd (cc)
  good_lines job (posted.Document d) made is = absurd (cc)
  good_lines job posted.NoDocument made is = absurd (cc)
  good_lines job posted.TooMany made is = absurd (cc)
  good_lines job posted.NoText made is = absurd (cc)

  good_close : (job : ℕ) (archive : Option (Archive Bytes)) → close_job job archive moment ≡ Some command → IsGood command
  good_close job (Some archive) is = subst IsGood (same_Some _ _ is) (tt, tt)
  good_close job None is = absurd (cc)

  good : (d : JobDoing) (p : Posted) (archive : Option (Archive Bytes)) → IsMade p → job_command_of d p archive moment ≡ Some command → IsGood command
  good jobs.MakeJob p archive made is = good_document p made is
  good (jobs.PostLines (Some job)) p archive made is = good_lines job p made is
  good (jobs.PostLines None) p archive made is = absurd (cc)
  good (jobs.EndInput (Some job)) p archive made is = subst IsGood (same_Some _ _ is) (tt, tt)
  good (jobs.EndInput None) p archive made is = absurd (cc)
  good (jobs.CancelJob (Some job)) p archive made is = good_close job archive is
  good (jobs.CancelJob None) p archive made is = absurd (cc)
  good (jobs.LookLive job text) p archive made is = absurd (cc)
  good (jobs.ListJobs stand page) p archive made is = absurd (cc)

module _ (login' : Bytes) (gives : Run → Bytes → Raw → Type 0) (fate_of : Raw → Fate Bytes) where
  added_step : (b : Bool) (s : State Bytes) (limit used : ℕ) (archive : Option (Archive Bytes)) (c : Command Bytes) (login : Bytes) (stamp : Stamp) (d : JobDoing)
      → job_has_room length limit s.count used archive c ≡ b → IsWellMade c × IsHonest login' gives fate_of s c → allowed length s c ≡ None
      → HonestFrom login' gives fate_of s (job_add_if b c (job_growth length archive c) (job_reply_to login (record stamp { position = s.count + 1 }) s d) (refuse_job stamp (plain error.NotEnoughSpace))).added
  unfolding HonestFrom
  added_step true s limit used archive c login stamp d room good free = (
    record {
      room = ltb-true s.count MOST_COMMANDS (and_parts (nat_lt s.count MOST_COMMANDS) (nat_le (used + job_growth length archive c) limit) room).0;
      made = good.0;
      free = free;
      honest = good.1;
    },
    tt,
  )
  added_step false s limit used archive c login stamp d room good free = tt

  command_step : (o : Option (Command Bytes)) (login : Bytes) (limit : ℕ) (stamp : Stamp) (s : State Bytes) (used : ℕ) (d : JobDoing) (p : Posted) (archive : Option (Archive Bytes))
      → job_command_of d p archive stamp.moment ≡ o → IsMade p → job_account_refusal length s d p ≡ None
      → HonestFrom login' gives fate_of s (job_accept length login limit stamp s used d archive o).added
  unfolding HonestFrom
  command_step None login limit stamp s used d p archive is made none = tt
  command_step (Some c) login limit stamp s used d p archive is made none =
      added_step (job_has_room length limit s.count used archive c) s limit used archive c login stamp d refl (good login' gives fate_of s stamp.moment c d p archive made is)
      (by_doing length s stamp.moment c d p archive none is)

  refusal_step : (r : Option Refused) (login : Bytes) (limit : ℕ) (stamp : Stamp) (s : State Bytes) (used : ℕ) (request : JobRequest) (p : Posted) (digest : Option (List ℕ)) (archive : Option (Archive Bytes))
      → job_refusal_of length request s p digest ≡ r → IsMade p → HonestFrom login' gives fate_of s (job_answer_by length login limit stamp s used request p archive r).added
  unfolding HonestFrom
  refusal_step (Some r) login limit stamp s used request p digest archive is made = tt
  refusal_step None login limit stamp s used request p digest archive is made =
      command_step (job_command_of request.doing p archive stamp.moment) login limit stamp s used request.doing p archive refl made (account_go length request s p digest is)

  -- what an answer to what is asked of jobs adds is honest from its state on
  pub job_answers_are_steps : (login : Bytes) (limit : ℕ) (s : State Bytes) (used : ℕ) (head : Head) (request : JobRequest) (body : Bytes) (moment : ℕ)
      → HonestFrom login' gives fate_of s (job_answer_of login limit s used head request body moment).added
  unfolding job_answer_of job_answer_in
  job_answers_are_steps login limit s used head request body moment =
      refusal_step (job_refusal_of length request s (posted_of login request.doing body) (Some (md5 body))) login limit (stamp_of head s.count moment) s used request
      (posted_of login request.doing body) (Some (md5 body)) (archive_asked login s request.doing moment) refl (posted_made login request.doing body)
