-- The archive that a request brings is the texts of its job.
use Rattle.std.proofs.Common.{◌≡◌, ℕ, ◌≤◌, Bool, true, false, List, [], ◌∷◌, length, Option, Some, None, refl, ap, sym, ◌∙◌, subst, arith}
use Rattle.std.specs.Prelude.{IfSome}
use Rattle.md5.specs.Md5.{md5}
use Rattle.mt_answer.specs.Answer.{Answer, accept, add_if, answer_by, answer_in, command_of, has_room, make_command, rows_answer_of, stamp_of}
use Rattle.mt_answer.specs.JobAnswer.{job_answer_of}
use Rattle.mt_answer.specs.Judging.{refusal_of}
use Rattle.mt_answer.specs.Whole.{answer_asked, answer_of}
use Rattle.mt_answer.proofs.JobsTold.{cancels_have_texts}
use Rattle.mt_answer.proofs.Whole.{one_command}
use Rattle.mt_cond.specs.Conditions.{conditions_of}
use Rattle.mt_cond.specs.declared.conditions.Conditions.{Conditions}
use Rattle.mt_error.specs.declared.refused.Refused.{Refused}
use Rattle.mt_http.specs.declared.message.Head.{Head}
use Rattle.mt_jobtext.specs.Archives.{ArchivesFrom, HasTexts}
use Rattle.mt_model.specs.Rows.{at, is_directory}
use Rattle.mt_model.specs.State.{State}
use Rattle.mt_path.specs.AccountPath.{AccountPath}
use Rattle.mt_reply.specs.declared.stamp.Stamp.{Stamp}
use Rattle.mt_request.specs.Requests.{asked_of}
use Rattle.mt_request.specs.declared.asked.Asked.{Asked}
use Rattle.mt_request.specs.declared.asked.Asked.TheVariants as asked
use Rattle.mt_request.specs.declared.asked.JobRequest.{JobRequest}
use Rattle.mt_request.specs.declared.request.Doing.{Doing}
use Rattle.mt_request.specs.declared.request.Doing.TheVariants as doing
use Rattle.mt_request.specs.declared.request.Request.{Request}
use Rattle.mt_types.specs.declared.command.Command.{Command}
use Rattle.mt_types.specs.declared.reply.Reply.{Reply}

abbrev Bytes : Type 0
Bytes = List ℕ

module _ (login : Bytes) (t : State Bytes) where
  none_of : ArchivesFrom login t []
  unfolding ArchivesFrom
  none_of = tt

  one_of : (c : Command Bytes) → HasTexts login t c → ArchivesFrom login t (c ∷ [])
  unfolding ArchivesFrom
  one_of c has = (has, tt)

  -- ---- of objects and directories, which have none

  directory : (there : Bool) (p : AccountPath) (moment : ℕ) → IfSome (make_command {B = Bytes} there p moment) (HasTexts login t)
  directory true p moment = tt
  directory false p moment = tt

  of_doing : (s : State Bytes) (d : Doing) (body : Bytes) (moment : ℕ) → IfSome (command_of s.rows d body moment) (HasTexts login t)
  of_doing s doing.Nothing body moment = tt
  of_doing s (doing.PutObject p content_type durability metadata) body moment = tt
  of_doing s (doing.PutDirectory p) body moment = directory (is_directory (at s.rows p)) p moment
  of_doing s (doing.PutLink p source) body moment = tt
  of_doing s (doing.Remove p) body moment = tt
  of_doing s (doing.Look p page range) body moment = tt

  added : (b : Bool) (command : Command Bytes) (len : ℕ) (reply : Reply Bytes) (full : Answer Bytes) → HasTexts login t command → ArchivesFrom login t full.added → ArchivesFrom login t (add_if b command len reply full).added
  added true command len reply full is none = one_of command is
  added false command len reply full is none = none

  module _ (limit : ℕ) (stamp : Stamp) (s : State Bytes) (c : Conditions) (used : ℕ) where
    accepted : (d : Doing) (sum : Bytes) (len : ℕ) (o : Option (Command Bytes)) → IfSome o (HasTexts login t) → ArchivesFrom login t (accept length md5 limit stamp s c used d sum len o).added
    accepted d sum len None is = none_of
    accepted d sum len (Some command) is = added (has_room limit s.count used len command) command len _ _ is none_of

    answered : (request : Request) (body sum : Bytes) (o : Option Refused) → ArchivesFrom login t (answer_by length md5 limit stamp s c used request body sum o).added
    answered request body sum (Some r) = none_of
    answered request body sum None = accepted request.doing sum _ (command_of s.rows request.doing body stamp.moment) (of_doing s request.doing body stamp.moment)

  of_rows : (request : Request) (limit : ℕ) (s : State Bytes) (used : ℕ) (head : Head) (body : Bytes) (moment : ℕ) → ArchivesFrom login t (rows_answer_of request limit s used head body moment).added
  unfolding rows_answer_of answer_in
  of_rows request limit s used head body moment =
      answered limit (stamp_of head s.count moment) s (conditions_of head.fields) used request body (md5 body) (refusal_of length request s.rows (conditions_of head.fields) (Some (md5 body)))

-- ---- of jobs, which add one command at most

at_most_one : (login : Bytes) (t : State Bytes) (cs : List (Command Bytes)) → length cs ≤ 1 → ((c : Command Bytes) → cs ≡ c ∷ [] → HasTexts login t c) → ArchivesFrom login t cs
at_most_one login t [] few has = none_of login t
at_most_one login t (c ∷ []) few has = one_of login t c (has c refl)
at_most_one login t (c ∷ d ∷ cs) few has = absurd (omega (arith, few))

of_asked : (login : Bytes) (limit : ℕ) (s : State Bytes) (used : ℕ) (head : Head) (body : Bytes) (moment : ℕ) (a : Asked) → length (answer_asked login limit s used head body moment a).added ≤ 1
    → ArchivesFrom login s (answer_asked login limit s used head body moment a).added
of_asked login limit s used head body moment (asked.Rows request) few = of_rows login s request limit s used head body moment
of_asked login limit s used head body moment (asked.Jobs request) few =
    at_most_one login s (job_answer_of login limit s used head request body moment).added few (λ c is. cancels_have_texts login limit s used head request body moment c is)

few_of : (login : Bytes) (limit : ℕ) (s : State Bytes) (used : ℕ) (head : Head) (body : Bytes) (moment : ℕ) → length (answer_asked login limit s used head body moment (asked_of login head)).added ≤ 1
unfolding answer_of
few_of login limit s used head body moment = one_command login limit s used head body moment

-- what a request adds has its archive
pub answers_have_texts : (login : Bytes) (limit : ℕ) (s : State Bytes) (used : ℕ) (head : Head) (body : Bytes) (moment : ℕ) → ArchivesFrom login s (answer_of login limit s used head body moment).added
unfolding answer_of
answers_have_texts login limit s used head body moment = of_asked login limit s used head body moment (asked_of login head) (few_of login limit s used head body moment)
