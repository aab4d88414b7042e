-- The answer to what is asked of jobs, by its exit: refused, nothing added, a command added, or one without room.
use Rattle.std.proofs.Common.{◌≡◌, ◌⊎◌, ℕ, suc, ◌+◌, ◌<◌, ◌≤◌, Bool, true, false, ◌&&◌, List, [], ◌∷◌, length, Option, Some, None, inl, inr, refl, sym, ap, ◌∙◌, arith}
use Rattle.std.specs.Prelude.{is_some, nat_le, nat_lt, option_map}
use Rattle.std.proofs.lemmas.Bool.{le-leb, lt-leb}
use Rattle.md5.specs.Md5.{md5}
use Rattle.mt_error.specs.Refusals.{plain}
use Rattle.mt_error.specs.declared.code.ErrorCode.TheVariants as error
use Rattle.mt_error.specs.declared.refused.Refused.{Refused}
use Rattle.mt_http.specs.declared.message.Head.{Head}
use Rattle.mt_model.specs.Bodies.{state_with}
use Rattle.mt_model.specs.JobSteps.{close_refusal, job_refusal}
use Rattle.mt_model.specs.Laws.{KeepsSize, Reading}
use Rattle.mt_model.specs.State.{State, job_at}
use Rattle.mt_reply.specs.declared.stamp.Stamp.{Stamp}
use Rattle.mt_request.specs.declared.asked.JobRequest.{JobRequest}
use Rattle.mt_request.specs.declared.jobs.JobDoing.TheVariants as jobs
use Rattle.mt_types.specs.Values.{archive_with, command_with, reply_with}
use Rattle.mt_types.specs.declared.body.Body.{Body}
use Rattle.mt_types.specs.declared.command.Archive.{Archive}
use Rattle.mt_types.specs.declared.command.Command.{Command}
use Rattle.mt_types.specs.declared.job.Job.{Job}
use Rattle.mt_types.specs.declared.limits.TheConstants.{MOST_COMMANDS}
use Rattle.mt_answer.specs.Answer.{Answer, answer_with, stamp_of}
use Rattle.mt_answer.specs.JobAnswer.{archive_asked, job_accept, job_add_if, job_answer_by, job_answer_in, job_answer_of, job_command_of, job_growth, job_has_room, job_reply_to, refuse_job}
use Rattle.mt_answer.specs.JobJudging.{job_account_refusal, job_refusal_of, told_as}
use Rattle.mt_answer.specs.Judging.{len_of}
use Rattle.mt_answer.specs.Posting.{posted_of}
use Rattle.mt_answer.specs.declared.posted.Posted.{Posted}
use Rattle.mt_answer.proofs.JobsRead.{archive-with, job_answers_read, job_refusals_read}
use Rattle.mt_answer.proofs.JobsTold.{account_go}

and_false : (b : Bool) → b && false ≡ false
and_false true = refl
and_false false = refl

-- room, and no room
room_yes : {B : Type 0} → (size : B → ℕ) (limit count used : ℕ) (archive : Option (Archive B)) (c : Command B) → count < MOST_COMMANDS → used + job_growth size archive c ≤ limit
    → job_has_room size limit count used archive c ≡ true
room_yes size limit count used archive c few fits =
    ap (λ b. b && nat_le (used + job_growth size archive c) limit) (le-leb (suc count) MOST_COMMANDS (omega (arith, few))) ∙ le-leb (used + job_growth size archive c) limit fits

room_no : {B : Type 0} → (size : B → ℕ) (limit count used : ℕ) (archive : Option (Archive B)) (c : Command B) → (MOST_COMMANDS ≤ count) ⊎ (limit < used + job_growth size archive c)
    → job_has_room size limit count used archive c ≡ false
room_no size limit count used archive c (inl many) = ap (λ b. b && nat_le (used + job_growth size archive c) limit) (lt-leb (suc count) MOST_COMMANDS (omega (arith, many)))
room_no size limit count used archive c (inr over) = ap (λ b. nat_lt count MOST_COMMANDS && b) (lt-leb (used + job_growth size archive c) limit over) ∙ and_false (nat_lt count MOST_COMMANDS)

module _ {B : Type 0} (size : B → ℕ) (login : List ℕ) (limit : ℕ) (stamp : Stamp) (s : State B) (used : ℕ) (request : JobRequest) (p : Posted) (sum : List ℕ) (archive : Option (Archive B)) where
  -- what isn't refused
  accepted_in : (o : Option (Command B)) → job_refusal_of size request s p (Some sum) ≡ None → job_command_of request.doing p archive stamp.moment ≡ o
      → job_answer_in size login limit stamp s used request p sum archive ≡ job_accept size login limit stamp s used request.doing archive o
  unfolding job_answer_in
  accepted_in o none is =
      ap (job_answer_by size login limit stamp s used request p archive) none ∙ ap (job_accept size login limit stamp s used request.doing archive) is

module _ (read : Reading) (keeps : KeepsSize read) (login : List ℕ) (limit : ℕ) (s : State Body) (used : ℕ) (head : Head) (request : JobRequest) (bytes : List ℕ) (moment : ℕ) where
  pub job_refused_read : (r : Refused) → job_refusal_of len_of request s (posted_of login request.doing bytes) (Some (md5 bytes)) ≡ Some r
      → job_answer_of login limit (state_with read s) used head request bytes moment ≡ refuse_job (stamp_of head s.count moment) r
  unfolding job_answer_of job_answer_in
  job_refused_read r is =
      ap (job_answer_by length login limit (stamp_of head s.count moment) (state_with read s) used request (posted_of login request.doing bytes) (archive_asked login (state_with read s) request.doing moment))
      (job_refusals_read read keeps request s (posted_of login request.doing bytes) (Some (md5 bytes)) ∙ is)

  module _ (archive : Option (Archive Body)) (brings : option_map (archive_with read) archive ≡ archive_asked login s request.doing moment)
      (none : job_refusal_of len_of request s (posted_of login request.doing bytes) (Some (md5 bytes)) ≡ None) where
    done_read : (o : Option (Command Body)) → job_command_of request.doing (posted_of login request.doing bytes) archive moment ≡ o
        → job_answer_of login limit (state_with read s) used head request bytes moment
        ≡ answer_with read (job_accept len_of login limit (stamp_of head s.count moment) s used request.doing archive o)
    done_read o is =
        job_answers_read read keeps login limit s used head request bytes moment archive brings
        ∙ ap (λ (a : Answer Body). answer_with read a) (accepted_in len_of login limit (stamp_of head s.count moment) s used request (posted_of login request.doing bytes) (md5 bytes) archive o none is)

    pub job_shown_read : job_command_of {B = Body} request.doing (posted_of login request.doing bytes) archive moment ≡ None
        → job_answer_of login limit (state_with read s) used head request bytes moment
        ≡ record { reply = reply_with read (job_reply_to login (stamp_of head s.count moment) s request.doing); added = []; grew = 0 }
    job_shown_read is = done_read None is

    pub job_added_read : (command : Command Body) → job_command_of request.doing (posted_of login request.doing bytes) archive moment ≡ Some command
        → s.count < MOST_COMMANDS → used + job_growth len_of archive command ≤ limit
        → job_answer_of login limit (state_with read s) used head request bytes moment ≡ record {
          reply = reply_with read (job_reply_to login (stamp_of head (s.count + 1) moment) s request.doing);
          added = command_with read command ∷ [];
          grew = job_growth len_of archive command;
        }
    job_added_read command is few fits =
        done_read (Some command) is
        ∙ ap (λ test. answer_with read (job_add_if test command (job_growth len_of archive command)
        (job_reply_to login (stamp_of head (s.count + 1) moment) s request.doing)
        (refuse_job (stamp_of head s.count moment) (plain error.NotEnoughSpace))))
        (room_yes len_of limit s.count used archive command few fits)

  full_in : (texts : Option (Archive (List ℕ))) (command : Command (List ℕ)) → job_refusal_of length request (state_with read s) (posted_of login request.doing bytes) (Some (md5 bytes)) ≡ None
      → job_command_of request.doing (posted_of login request.doing bytes) texts moment ≡ Some command
      → (MOST_COMMANDS ≤ s.count) ⊎ (limit < used + job_growth length texts command)
      → job_answer_in length login limit (stamp_of head s.count moment) (state_with read s) used request (posted_of login request.doing bytes) (md5 bytes) texts
      ≡ refuse_job (stamp_of head s.count moment) (plain error.NotEnoughSpace)
  full_in texts command none is full =
      accepted_in length login limit (stamp_of head s.count moment) (state_with read s) used request (posted_of login request.doing bytes) (md5 bytes) texts (Some command) none is
      ∙ ap (λ test. job_add_if test command (job_growth length texts command)
      (job_reply_to login (stamp_of head (s.count + 1) moment) (state_with read s) request.doing)
      (refuse_job (stamp_of head s.count moment) (plain error.NotEnoughSpace)))
      (room_no length limit s.count used texts command full)

  pub job_full_read : (command : Command (List ℕ)) → job_refusal_of len_of request s (posted_of login request.doing bytes) (Some (md5 bytes)) ≡ None
      → job_command_of request.doing (posted_of login request.doing bytes) (archive_asked login s request.doing moment) moment ≡ Some command
      → (MOST_COMMANDS ≤ s.count) ⊎ (limit < used + job_growth length (archive_asked login s request.doing moment) command)
      → job_answer_of login limit (state_with read s) used head request bytes moment ≡ refuse_job (stamp_of head s.count moment) (plain error.NotEnoughSpace)
  unfolding job_answer_of
  job_full_read command none is full =
      ap (job_answer_in length login limit (stamp_of head s.count moment) (state_with read s) used request (posted_of login request.doing bytes) (md5 bytes)) (archive-with read login s request.doing moment)
      ∙ full_in (archive_asked login s request.doing moment) command
      (job_refusals_read read keeps request s (posted_of login request.doing bytes) (Some (md5 bytes)) ∙ none) is full

-- a job that is to end is there, where that isn't refused
found_in : {B : Type 0} → (o : Option (Job B)) → told_as (job_refusal o (close_refusal true)) ≡ None → is_some o ≡ true
found_in None none = absurd (cc)
found_in (Some j) none = refl

pub cancelled_found : {B : Type 0} → (size : B → ℕ) (request : JobRequest) (s : State B) (p : Posted) (digest : Option (List ℕ)) (n : ℕ) → request.doing ≡ jobs.CancelJob (Some n)
    → job_refusal_of size request s p digest ≡ None → is_some (job_at s.jobs n) ≡ true
cancelled_found size request s p digest n is none =
    found_in (job_at s.jobs n) (ap (λ d. job_account_refusal size s d p) (sym is) ∙ account_go size request s p digest none)
