-- A message adds no commit: no company rises with its command.
use Rattle.std.proofs.Common.{◌≡◌, ℕ, Bool, true, false, [], ◌∷◌, Option, Some, None, refl, ap, ◌∙◌, arith}
use Rattle.std.specs.Prelude.{IfSome, length}
use Rattle.std.specs.Bool.{MatchBool}
use Rattle.md5.specs.Md5.{md5}
use Rattle.mt_answer.specs.Answer.{Answer, accept, add_if, answer_by, answer_in, command_of, has_room, make_command, rows_answer_of, stamp_of}
use Rattle.mt_answer.specs.JobAnswer.{add_lines, archive_asked, close_job, job_accept, job_add_if, job_answer_by, job_answer_in, job_answer_of, job_command_of, job_growth, job_has_room, make_job}
use Rattle.mt_answer.specs.JobJudging.{job_refusal_of}
use Rattle.mt_answer.specs.Judging.{refusal_of}
use Rattle.mt_answer.specs.Posting.{posted_of}
use Rattle.mt_answer.specs.Whole.{answer_asked, answer_of}
use Rattle.mt_answer.specs.declared.posted.Posted.{Posted}
use Rattle.mt_answer.specs.declared.posted.Posted.TheVariants as posted
use Rattle.mt_cond.specs.Conditions.{conditions_of}
use Rattle.mt_cond.specs.declared.conditions.Conditions.{Conditions}
use Rattle.mt_opening.specs.History.{Bytes, History}
use Rattle.mt_error.specs.declared.refused.Refused.{Refused}
use Rattle.mt_http.specs.declared.message.Head.{Head}
use Rattle.mt_model.specs.CommandStep.{replay}
use Rattle.mt_model.specs.State.{State}
use Rattle.mt_path.specs.AccountPath.{AccountPath}
use Rattle.mt_reply.specs.declared.stamp.Stamp.{Stamp}
use Rattle.mt_request.specs.Requests.{asked_of}
use Rattle.mt_request.specs.declared.asked.Asked.{Asked}
use Rattle.mt_request.specs.declared.asked.Asked.TheVariants as asked
use Rattle.mt_request.specs.declared.asked.JobRequest.{JobRequest}
use Rattle.mt_request.specs.declared.jobs.JobDoing.{JobDoing}
use Rattle.mt_request.specs.declared.jobs.JobDoing.TheVariants as jobs
use Rattle.mt_request.specs.declared.request.Doing.{Doing}
use Rattle.mt_request.specs.declared.request.Doing.TheVariants as doing
use Rattle.mt_request.specs.declared.request.Request.{Request}
use Rattle.mt_types.specs.declared.command.Archive.{Archive}
use Rattle.mt_types.specs.declared.command.Command.{Command}
use Rattle.mt_types.specs.declared.reply.Reply.{Reply}
use Rattle.mt_runner.specs.Turning.{companies, company_by}
use Rattle.mt_connection.specs.Transcript.{IsTheAnswer, Setting}

module _ (slots : ℕ) (t : State Bytes) where
  none_of : companies slots t [] ≡ 0
  unfolding companies
  none_of = refl

  one_of : (c : Command Bytes) → company_by slots t c ≡ 0 → companies slots t (c ∷ []) ≡ 0
  unfolding companies
  one_of c none = omega (arith, none)

  -- no commit
  abbrev IsOther : Command Bytes → Type 0
  IsOther c = company_by slots t c ≡ 0

  -- ---- of objects and directories

  made : (b : Bool) (p : AccountPath) (moment : ℕ) → IfSome (make_command {B = Bytes} b p moment) IsOther
  made true p moment = tt
  made false p moment = refl

  added : (b : Bool) (command : Command Bytes) (len : ℕ) (reply : Reply Bytes) (full : Answer Bytes) → IsOther command → companies slots t full.added ≡ 0 → companies slots t (add_if b command len reply full).added ≡ 0
  added true command len reply full other none = one_of command other
  added false command len reply full other none = none

  module _ (limit : ℕ) (stamp : Stamp) (s : State Bytes) (c : Conditions) (used : ℕ) where
    doing_other : (d : Doing) (body : Bytes) (moment : ℕ) → IfSome (command_of s.rows d body moment) IsOther
    doing_other doing.Nothing body moment = tt
    doing_other (doing.PutObject p content_type durability metadata) body moment = refl
    doing_other (doing.PutDirectory p) body moment = made _ p moment
    doing_other (doing.PutLink p source) body moment = refl
    doing_other (doing.Remove p) body moment = refl
    doing_other (doing.Look p page range) body moment = tt

    accepted : (d : Doing) (sum : Bytes) (len : ℕ) (o : Option (Command Bytes)) → IfSome o IsOther → companies slots t (accept length md5 limit stamp s c used d sum len o).added ≡ 0
    accepted d sum len None other = none_of
    accepted d sum len (Some command) other = added (has_room limit s.count used len command) command len _ _ other none_of

    answered : (request : Request) (body sum : Bytes) (o : Option Refused) → companies slots t (answer_by length md5 limit stamp s c used request body sum o).added ≡ 0
    answered request body sum (Some r) = none_of
    answered request body sum None = accepted request.doing sum _ (command_of s.rows request.doing body stamp.moment) (doing_other request.doing body stamp.moment)

  of_rows : (request : Request) (limit : ℕ) (s : State Bytes) (used : ℕ) (head : Head) (body : Bytes) (moment : ℕ) → companies slots t (rows_answer_of request limit s used head body moment).added ≡ 0
  unfolding rows_answer_of answer_in
  of_rows request limit s used head body moment =
      answered limit (stamp_of head s.count moment) s (conditions_of head.fields) used request body (md5 body) (refusal_of length request s.rows (conditions_of head.fields) (Some (md5 body)))

  -- ---- of jobs

  job_made : (p : Posted) (moment : ℕ) → IfSome (make_job {B = Bytes} p moment) IsOther
  job_made (posted.Document d) moment = refl
  job_made posted.Nothing moment = tt
  job_made posted.NoDocument moment = tt
  job_made (posted.Lines lines) moment = tt
  job_made posted.TooMany moment = tt
  job_made posted.NoText moment = tt

  lines_added : (job : ℕ) (p : Posted) (moment : ℕ) → IfSome (add_lines {B = Bytes} job p moment) IsOther
  lines_added job (posted.Lines lines) moment = refl
  lines_added job posted.Nothing moment = tt
  lines_added job (posted.Document d) moment = tt
  lines_added job posted.NoDocument moment = tt
  lines_added job posted.TooMany moment = tt
  lines_added job posted.NoText moment = tt

  job_closed : (job : ℕ) (archive : Option (Archive Bytes)) (moment : ℕ) → IfSome (close_job job archive moment) IsOther
  job_closed job (Some archive) moment = refl
  job_closed job None moment = tt

  job_other : (d : JobDoing) (p : Posted) (archive : Option (Archive Bytes)) (moment : ℕ) → IfSome (job_command_of d p archive moment) IsOther
  job_other jobs.MakeJob p archive moment = job_made p moment
  job_other (jobs.PostLines (Some job)) p archive moment = lines_added job p moment
  job_other (jobs.PostLines None) p archive moment = tt
  job_other (jobs.EndInput (Some job)) p archive moment = refl
  job_other (jobs.EndInput None) p archive moment = tt
  job_other (jobs.CancelJob (Some job)) p archive moment = job_closed job archive moment
  job_other (jobs.CancelJob None) p archive moment = tt
  job_other (jobs.LookLive job text) p archive moment = tt
  job_other (jobs.ListJobs stand page) p archive moment = tt

  job_added : (b : Bool) (command : Command Bytes) (grew : ℕ) (reply : Reply Bytes) (full : Answer Bytes) → IsOther command → companies slots t full.added ≡ 0 → companies slots t (job_add_if b command grew reply full).added ≡ 0
  job_added true command grew reply full other none = one_of command other
  job_added false command grew reply full other none = none

  module _ (login : Bytes) (limit : ℕ) (stamp : Stamp) (s : State Bytes) (used : ℕ) (archive : Option (Archive Bytes)) where
    job_accepted : (d : JobDoing) (o : Option (Command Bytes)) → IfSome o IsOther → companies slots t (job_accept length login limit stamp s used d archive o).added ≡ 0
    job_accepted d None other = none_of
    job_accepted d (Some command) other = job_added (job_has_room length limit s.count used archive command) command (job_growth length archive command) _ _ other none_of

    job_answered : (request : JobRequest) (p : Posted) (o : Option Refused) → companies slots t (job_answer_by length login limit stamp s used request p archive o).added ≡ 0
    job_answered request p (Some r) = none_of
    job_answered request p None = job_accepted request.doing (job_command_of request.doing p archive stamp.moment) (job_other request.doing p archive stamp.moment)

  of_jobs : (login : Bytes) (limit : ℕ) (s : State Bytes) (used : ℕ) (head : Head) (request : JobRequest) (body : Bytes) (moment : ℕ) → companies slots t (job_answer_of login limit s used head request body moment).added ≡ 0
  unfolding job_answer_of job_answer_in
  of_jobs login limit s used head request body moment =
      job_answered login limit (stamp_of head s.count moment) s used (archive_asked login s request.doing moment) request (posted_of login request.doing body)
      (job_refusal_of length request s (posted_of login request.doing body) (Some (md5 body)))

  of_asked : (login : Bytes) (limit : ℕ) (s : State Bytes) (used : ℕ) (head : Head) (body : Bytes) (moment : ℕ) (a : Asked) → companies slots t (answer_asked login limit s used head body moment a).added ≡ 0
  of_asked login limit s used head body moment (asked.Rows request) = of_rows request limit s used head body moment
  of_asked login limit s used head body moment (asked.Jobs request) = of_jobs login limit s used head request body moment

  of_answer : (login : Bytes) (limit : ℕ) (s : State Bytes) (used : ℕ) (head : Head) (body : Bytes) (moment : ℕ) → companies slots t (answer_of login limit s used head body moment).added ≡ 0
  unfolding answer_of
  of_answer login limit s used head body moment = of_asked login limit s used head body moment (asked_of login head)

-- the answer of a message, in any setting
pub no_company : (s : Setting) (h : History) (used : ℕ) (head : Head) (body : Bytes) (moment : ℕ) (answer : Answer Bytes) → IsTheAnswer s h used head body moment answer → companies s.slots (replay s.base h) answer.added ≡ 0
no_company s h used head body moment answer is = by s.knows is
  where
    by : (knows : Bool) → MatchBool knows (answer ≡ answer_of s.login s.limit (replay s.base h) used head body moment) ((answer.added ≡ []) × (answer.grew ≡ 0)) → companies s.slots (replay s.base h) answer.added ≡ 0
    by true same = ap (λ (a : Answer Bytes). companies s.slots (replay s.base h) a.added) same ∙ of_answer s.slots (replay s.base h) s.login s.limit (replay s.base h) used head body moment
    by false none = ap (λ (cs : History). companies s.slots (replay s.base h) cs) none.0 ∙ none_of s.slots (replay s.base h)
