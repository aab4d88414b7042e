-- What any request is answered, by what its head asks for; it adds one command at most.
use Rattle.std.proofs.Common.{◌≡◌, ℕ, ◌≤◌, Bool, true, false, List, length, Option, Some, None, ap, arith}
use Rattle.md5.specs.Md5.{md5}
use Rattle.mt_cond.specs.Conditions.{conditions_of}
use Rattle.mt_cond.specs.declared.conditions.Conditions.{Conditions}
use Rattle.mt_error.specs.declared.refused.Refused.{Refused}
use Rattle.mt_http.specs.declared.message.Head.{Head}
use Rattle.mt_model.specs.State.{State}
use Rattle.mt_reply.specs.declared.stamp.Stamp.{Stamp}
use Rattle.mt_request.specs.Requests.{asked_of}
use Rattle.mt_request.specs.declared.asked.Asked.{Asked}
use Rattle.mt_request.specs.declared.asked.Asked.TheVariants as asked
use Rattle.mt_request.specs.declared.asked.JobRequest.{JobRequest}
use Rattle.mt_request.specs.declared.jobs.JobDoing.{JobDoing}
use Rattle.mt_request.specs.declared.request.Doing.{Doing}
use Rattle.mt_request.specs.declared.request.Request.{Request}
use Rattle.mt_types.specs.declared.command.Archive.{Archive}
use Rattle.mt_types.specs.declared.command.Command.{Command}
use Rattle.mt_types.specs.declared.reply.Reply.{Reply}
use Rattle.mt_answer.specs.Answer.{Answer, accept, add_if, answer_by, answer_in, command_of, has_room, rows_answer_of, stamp_of}
use Rattle.mt_answer.specs.JobAnswer.{archive_asked, job_accept, job_add_if, job_answer_by, job_answer_in, job_answer_of, job_command_of, job_growth, job_has_room}
use Rattle.mt_answer.specs.JobJudging.{job_refusal_of}
use Rattle.mt_answer.specs.Judging.{refusal_of}
use Rattle.mt_answer.specs.Posting.{posted_of}
use Rattle.mt_answer.specs.Whole.{answer_asked, answer_of}
use Rattle.mt_answer.specs.declared.posted.Posted.{Posted}

abbrev Bytes : Type 0
Bytes = List ℕ

-- ---- by what is asked

pub rows_at : (login : Bytes) (limit : ℕ) (s : State Bytes) (used : ℕ) (head : Head) (request : Request) (body : Bytes) (moment : ℕ) → asked_of login head ≡ asked.Rows request
    → answer_of login limit s used head body moment ≡ rows_answer_of request limit s used head body moment
unfolding answer_of
rows_at login limit s used head request body moment is = ap (answer_asked login limit s used head body moment) is

pub jobs_at : (login : Bytes) (limit : ℕ) (s : State Bytes) (used : ℕ) (head : Head) (request : JobRequest) (body : Bytes) (moment : ℕ) → asked_of login head ≡ asked.Jobs request
    → answer_of login limit s used head body moment ≡ job_answer_of login limit s used head request body moment
unfolding answer_of
jobs_at login limit s used head request body moment is = ap (answer_asked login limit s used head body moment) is

-- ---- one command at most

one_added : (b : Bool) (command : Command Bytes) (len : ℕ) (reply : Reply Bytes) (full : Answer Bytes) → length full.added ≤ 1 → length (add_if b command len reply full).added ≤ 1
one_added true command len reply full few = omega arith
one_added false command len reply full few = few

module _ (limit : ℕ) (stamp : Stamp) (s : State Bytes) (c : Conditions) (used : ℕ) where
  one_accepted : (d : Doing) (sum : Bytes) (len : ℕ) (o : Option (Command Bytes)) → length (accept length md5 limit stamp s c used d sum len o).added ≤ 1
  one_accepted d sum len None = omega arith
  one_accepted d sum len (Some command) = one_added (has_room limit s.count used len command) command len _ _ (omega arith)

  one_by : (request : Request) (body sum : Bytes) (o : Option Refused) → length (answer_by length md5 limit stamp s c used request body sum o).added ≤ 1
  one_by request body sum (Some r) = omega arith
  one_by request body sum None = one_accepted request.doing sum _ (command_of s.rows request.doing body stamp.moment)

one_of_rows : (request : Request) (limit : ℕ) (s : State Bytes) (used : ℕ) (head : Head) (body : Bytes) (moment : ℕ) → length (rows_answer_of request limit s used head body moment).added ≤ 1
unfolding rows_answer_of answer_in
one_of_rows request limit s used head body moment =
    one_by limit (stamp_of head s.count moment) s (conditions_of head.fields) used request body (md5 body) (refusal_of length request s.rows (conditions_of head.fields) (Some (md5 body)))

job_added : (b : Bool) (command : Command Bytes) (grew : ℕ) (reply : Reply Bytes) (full : Answer Bytes) → length full.added ≤ 1 → length (job_add_if b command grew reply full).added ≤ 1
job_added true command grew reply full few = omega arith
job_added false command grew reply full few = few

module _ (login : Bytes) (limit : ℕ) (stamp : Stamp) (s : State Bytes) (used : ℕ) (archive : Option (Archive Bytes)) where
  job_accepted : (d : JobDoing) (o : Option (Command Bytes)) → length (job_accept length login limit stamp s used d archive o).added ≤ 1
  job_accepted d None = omega arith
  job_accepted d (Some command) = job_added (job_has_room length limit s.count used archive command) command (job_growth length archive command) _ _ (omega arith)

  job_by : (request : JobRequest) (p : Posted) (o : Option Refused) → length (job_answer_by length login limit stamp s used request p archive o).added ≤ 1
  job_by request p (Some r) = omega arith
  job_by request p None = job_accepted request.doing (job_command_of request.doing p archive stamp.moment)

one_of_jobs : (login : Bytes) (limit : ℕ) (s : State Bytes) (used : ℕ) (head : Head) (request : JobRequest) (body : Bytes) (moment : ℕ) → length (job_answer_of login limit s used head request body moment).added ≤ 1
unfolding job_answer_of job_answer_in
one_of_jobs login limit s used head request body moment =
    job_by login limit (stamp_of head s.count moment) s used (archive_asked login s request.doing moment) request (posted_of login request.doing body)
    (job_refusal_of length request s (posted_of login request.doing body) (Some (md5 body)))

one_asked : (login : Bytes) (limit : ℕ) (s : State Bytes) (used : ℕ) (head : Head) (body : Bytes) (moment : ℕ) (a : Asked) → length (answer_asked login limit s used head body moment a).added ≤ 1
one_asked login limit s used head body moment (asked.Rows request) = one_of_rows request limit s used head body moment
one_asked login limit s used head body moment (asked.Jobs request) = one_of_jobs login limit s used head request body moment

pub one_command : (login : Bytes) (limit : ℕ) (s : State Bytes) (used : ℕ) (head : Head) (body : Bytes) (moment : ℕ) → length (answer_of login limit s used head body moment).added ≤ 1
unfolding answer_of
one_command login limit s used head body moment = one_asked login limit s used head body moment (asked_of login head)
