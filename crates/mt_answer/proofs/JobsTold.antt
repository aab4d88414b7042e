-- What is asked of jobs and isn't refused: the account takes its command, cancelled jobs leave their texts, outputs are told.
use Rattle.std.proofs.Common.{◌≡◌, ℕ, ◌+◌, ◌*◌, ◌<◌, ◌≤◌, ◌==◌, ◌%◌, Bool, true, false, cond, List, [], ◌∷◌, length, All, Option, Some, None, refl, sym, ap, subst, ◌∙◌, arith}
use Rattle.std.specs.Prelude.{IsTrue, IfSome, nat_lt, option_map}
use Rattle.std.specs.List.{AllByRecursion}
use Rattle.std.proofs.lemmas.Bool.{and_from, eqb-true, leb-true, lt-ltb}
use Rattle.std.proofs.lemmas.List.Elements.{All-head, All-tail}
use Rattle.std.proofs.lemmas.Option.{same_Some}
use Rattle.md5.specs.Md5.{md5}
use Rattle.mt_base.specs.declared.limits.TheConstants.{LAST_MOMENT, NUMBERS_END}
use Rattle.mt_error.specs.Refusals.{plain}
use Rattle.mt_error.specs.declared.code.ErrorCode.TheVariants as error
use Rattle.mt_error.specs.declared.refused.Refused.{Refused}
use Rattle.mt_http.specs.declared.message.Head.{Head}
use Rattle.mt_jobtext.specs.Archives.{HasTexts}
use Rattle.mt_jobtext.specs.JobTexts.{archive_of}
use Rattle.mt_jobtext.specs.Pieces.{IsShowable}
use Rattle.mt_model.specs.CommandStep.{allowed}
use Rattle.mt_model.specs.Finished.{live_out}
use Rattle.mt_model.specs.Honest.{OfFound}
use Rattle.mt_model.specs.JobSteps.{add_inputs_refusal, close_refusal, done_at, input_refusal, job_refusal, new_job_refusal}
use Rattle.mt_model.specs.Keeping.{IsJob, IsMoment, KeepsLimits}
use Rattle.mt_model.specs.Lawful.{Lawful, LawfulJob}
use Rattle.mt_model.specs.State.{State, job_at}
use Rattle.mt_reply.specs.declared.stamp.Stamp.{Stamp}
use Rattle.mt_request.specs.Digest.{digest_refusal}
use Rattle.mt_request.specs.Order.{first_of}
use Rattle.mt_request.specs.declared.asked.JobRequest.{JobRequest}
use Rattle.mt_request.specs.declared.jobs.JobDoing.{JobDoing}
use Rattle.mt_request.specs.declared.jobs.JobDoing.TheVariants as jobs
use Rattle.mt_types.specs.Limits.{is_number}
use Rattle.mt_types.specs.declared.body.Body.{Body}
use Rattle.mt_types.specs.declared.command.Archive.{Archive}
use Rattle.mt_types.specs.declared.command.Command.{Command}
use Rattle.mt_types.specs.declared.job.Job.{Job}
use Rattle.mt_types.specs.declared.limits.TheConstants.{MOST_COMMANDS, NUMBERS_A_COMMAND}
use Rattle.mt_types.specs.declared.live.LiveText.TheVariants as live
use Rattle.mt_types.specs.declared.refusal.Refusal.{Refusal}
use Rattle.mt_types.specs.declared.reply.Reply.{Reply}
use Rattle.mt_answer.specs.Answer.{Answer, stamp_of}
use Rattle.mt_answer.specs.JobAnswer.{add_lines, archive_asked, close_job, job_accept, job_add_if, job_answer_by, job_answer_in, job_answer_of, job_command_of, job_growth, job_has_room, job_reply_to, make_job, refuse_job, text_reply}
use Rattle.mt_answer.specs.JobJudging.{document_refusal, job_account_refusal, job_refusal_of, lines_refusal, of_job, posted_refusal, told_as}
use Rattle.mt_answer.specs.JobLaws.{AreShowable, IsTold, NamesNumber}
use Rattle.mt_answer.specs.Judging.{len_of}
use Rattle.mt_answer.specs.Posting.{posted_of}
use Rattle.mt_answer.specs.declared.posted.Posted.{Posted}
use Rattle.mt_answer.specs.declared.posted.Posted.TheVariants as posted

abbrev Bytes : Type 0
Bytes = List ℕ

-- ---- what isn't refused

last_of_three : {A : Type 0} → (a b c : Option A) → first_of (a ∷ b ∷ c ∷ []) ≡ None → c ≡ None
last_of_three (Some x) b c none = absurd (cc)
last_of_three None (Some x) c none = absurd (cc)
last_of_three None None (Some x) none = absurd (cc)
last_of_three None None None none = refl

pub account_go : {B : Type 0} (size : B → ℕ) (request : JobRequest) (s : State B) (p : Posted) (digest : Option (List ℕ))
    → job_refusal_of size request s p digest ≡ None → job_account_refusal size s request.doing p ≡ None
unfolding job_refusal_of
account_go size request s p digest none =
    last_of_three (option_map plain (digest_refusal request.wish digest)) (posted_refusal p) (job_account_refusal size s request.doing p) none

told_none : (r : Option Refusal) → told_as r ≡ None → r ≡ None
told_none None none = refl
told_none (Some x) none = absurd (cc)

-- ---- the account takes its command

module _ {B : Type 0} (size : B → ℕ) (s : State B) (moment : ℕ) (command : Command B) where
  made : (p : Posted) → document_refusal size s p ≡ None → make_job p moment ≡ Some command → allowed size s command ≡ None
  unfolding allowed
  made (posted.Document d) none is = ap (allowed size s) (sym (same_Some _ _ is)) ∙ told_none (new_job_refusal size s.rows d) none
  made posted.Nothing none is = absurd (cc)
  made posted.NoDocument none is = absurd (cc)
  made (posted.Lines lines) none is = absurd (cc)
  made posted.TooMany none is = absurd (cc)
  made posted.NoText none is = absurd (cc)

  added : (job : ℕ) (p : Posted) → lines_refusal s (Some job) p ≡ None → add_lines job p moment ≡ Some command → allowed size s command ≡ None
  unfolding allowed
  added job (posted.Lines lines) none is = ap (allowed size s) (sym (same_Some _ _ is)) ∙ told_none (job_refusal (job_at s.jobs job) (add_inputs_refusal lines)) none
  added job posted.Nothing none is = absurd (cc)
  added job (posted.Document d) none is = absurd (cc)
  added job posted.NoDocument none is = absurd (cc)
  added job posted.TooMany none is = absurd (cc)
  added job posted.NoText none is = absurd (cc)

  closed : (job : ℕ) (archive : Option (Archive B)) → of_job s (Some job) (close_refusal true) ≡ None → close_job job archive moment ≡ Some command → allowed size s command ≡ None
  unfolding allowed
  closed job (Some archive) none is = ap (allowed size s) (sym (same_Some _ _ is)) ∙ told_none (job_refusal (job_at s.jobs job) (close_refusal true)) none
  closed job None none is = absurd (cc)

  pub by_doing : (d : JobDoing) (p : Posted) (archive : Option (Archive B)) → job_account_refusal size s d p ≡ None → job_command_of d p archive moment ≡ Some command → allowed size s command ≡ None
  unfolding allowed
  by_doing jobs.MakeJob p archive none is = made p none is
  by_doing (jobs.PostLines (Some job)) p archive none is = added job p none is
  by_doing (jobs.PostLines None) p archive none is = absurd (cc)
  by_doing (jobs.EndInput (Some job)) p archive none is = ap (allowed size s) (sym (same_Some _ _ is)) ∙ told_none (job_refusal (job_at s.jobs job) input_refusal) none
  by_doing (jobs.EndInput None) p archive none is = absurd (cc)
  by_doing (jobs.CancelJob (Some job)) p archive none is = closed job archive none is
  by_doing (jobs.CancelJob None) p archive none is = absurd (cc)
  by_doing (jobs.LookLive job text) p archive none is = absurd (cc)
  by_doing (jobs.ListJobs stand page) p archive none is = absurd (cc)

pub job_done_allowed : (request : JobRequest) (s : State Body) (p : Posted) (digest : Option (List ℕ)) (archive : Option (Archive Body)) (moment : ℕ) (command : Command Body)
    → job_refusal_of len_of request s p digest ≡ None → job_command_of request.doing p archive moment ≡ Some command → allowed len_of s command ≡ None
job_done_allowed request s p digest archive moment command none is =
    by_doing len_of s moment command request.doing p archive (account_go len_of request s p digest none) is

-- ---- the numbers of jobs that are there

is_first : (count n : ℕ) → count ≤ MOST_COMMANDS → n % NUMBERS_A_COMMAND ≡ 0 → n < count * NUMBERS_A_COMMAND → IsTrue (is_number n)
is_first count n few first below =
    and_from (n % NUMBERS_A_COMMAND == 0) (nat_lt n NUMBERS_END) (ap (λ r. r == 0) first) (lt-ltb n NUMBERS_END (omega (arith, below, few)))

module _ (count : ℕ) (few : count ≤ MOST_COMMANDS) where
  number_here : (b : Bool) (x : Job Body) (n : ℕ) (rest : Option (Job Body)) → (x.number == n) ≡ b → LawfulJob count x → ((j : Job Body) → rest ≡ Some j → IsTrue (is_number n))
      → (j : Job Body) → cond b (Some x) rest ≡ Some j → IsTrue (is_number n)
  number_here true x n rest same lawful more j is =
      subst (λ (m : ℕ). IsTrue (is_number m)) (eqb-true x.number n same) (is_first count x.number few lawful.number.first lawful.number.below)
  number_here false x n rest same lawful more j is = more j is

  number_found : (js : List (Job Body)) (n : ℕ) → All (LawfulJob count) js → (j : Job Body) → job_at js n ≡ Some j → IsTrue (is_number n)
  number_found [] n lawful j is = absurd (cc)
  number_found (x ∷ js) n lawful j is =
      number_here (x.number == n) x n (job_at js n) refl (All-head (LawfulJob count) x js lawful) (number_found js n (All-tail (LawfulJob count) x js lawful)) j is

  number_in : (js : List (Job Body)) (n : ℕ) → All (LawfulJob count) js → (r : Job Body → Option Refusal) (o : Option (Job Body)) → job_at js n ≡ o → told_as (job_refusal o r) ≡ None → IsTrue (is_number n)
  number_in js n lawful r None is none = absurd (cc)
  number_in js n lawful r (Some j) is none = number_found js n lawful j is

  number_of : (s : State Body) (job : Option ℕ) → All (LawfulJob count) s.jobs → (r : Job Body → Option Refusal) → of_job s job r ≡ None → IfSome job (λ n. IsTrue (is_number n))
  number_of s None lawful r none = tt
  number_of s (Some n) lawful r none = number_in s.jobs n lawful r (job_at s.jobs n) refl none

  names_lines : (s : State Body) (job : Option ℕ) (p : Posted) → All (LawfulJob count) s.jobs → lines_refusal s job p ≡ None → IfSome job (λ n. IsTrue (is_number n))
  names_lines s job (posted.Lines lines) lawful none = number_of s job lawful (add_inputs_refusal lines) none
  names_lines s job posted.TooMany lawful none = number_of s job lawful _ none
  names_lines s job posted.Nothing lawful none = number_of s job lawful input_refusal none
  names_lines s job (posted.Document d) lawful none = number_of s job lawful input_refusal none
  names_lines s job posted.NoDocument lawful none = number_of s job lawful input_refusal none
  names_lines s job posted.NoText lawful none = number_of s job lawful input_refusal none

  names : (s : State Body) (d : JobDoing) (p : Posted) → All (LawfulJob count) s.jobs → job_account_refusal len_of s d p ≡ None → NamesNumber d
  names s jobs.MakeJob p lawful none = tt
  names s (jobs.PostLines job) p lawful none = names_lines s job p lawful none
  names s (jobs.EndInput job) p lawful none = number_of s job lawful input_refusal none
  names s (jobs.CancelJob job) p lawful none = number_of s job lawful (close_refusal true) none
  names s (jobs.LookLive job text) p lawful none = tt
  names s (jobs.ListJobs stand page) p lawful none = tt

pub job_number_is : (request : JobRequest) (s : State Body) (p : Posted) (digest : Option (List ℕ)) → Lawful s → s.count ≤ MOST_COMMANDS
    → job_refusal_of len_of request s p digest ≡ None → NamesNumber request.doing
job_number_is request s p digest lawful few none = names s.count few s request.doing p lawful.jobs.each (account_go len_of request s p digest none)

-- ---- each job can be told

moment_is : (o : Option ℕ) → IfSome o IsMoment → IfSome o (λ m. m ≤ LAST_MOMENT)
moment_is None is = tt
moment_is (Some m) is = leb-true m LAST_MOMENT is

showable : (count : ℕ) (j : Job Body) → count ≤ MOST_COMMANDS → LawfulJob count j → IsJob j → IsShowable j
showable count j few lawful limits =
    let below : j.number < count * 4096 = lawful.number.below in
    record { number = omega (arith, below, few); created = leb-true j.created LAST_MOMENT limits.created; done = moment_is j.done limits.done }

all_showable : (count : ℕ) (js : List (Job Body)) → count ≤ MOST_COMMANDS → All (LawfulJob count) js → AllByRecursion IsJob js → AreShowable js
all_showable count [] few lawful limits = tt
all_showable count (j ∷ js) few lawful limits =
    (showable count j few (All-head (LawfulJob count) j js lawful) limits.0, all_showable count js few (All-tail (LawfulJob count) j js lawful) limits.1)

pub lawful_showable : (s : State Body) → Lawful s → KeepsLimits s → s.count ≤ MOST_COMMANDS → AreShowable s.jobs
lawful_showable s lawful limits few = all_showable s.count s.jobs few lawful.jobs.each limits.jobs

-- ---- the texts of a job that is cancelled

module _ (login : Bytes) (s : State Bytes) (moment : ℕ) (command : Command Bytes) where
  made_texts : (p : Posted) → make_job p moment ≡ Some command → HasTexts login s command
  made_texts (posted.Document d) is = subst (HasTexts login s) (same_Some _ _ is) tt
  made_texts posted.Nothing is = absurd (cc)
  made_texts posted.NoDocument is = absurd (cc)
  made_texts (posted.Lines lines) is = absurd (cc)
  made_texts posted.TooMany is = absurd (cc)
  made_texts posted.NoText is = absurd (cc)

  added_texts : (job : ℕ) (p : Posted) → add_lines job p moment ≡ Some command → HasTexts login s command
  added_texts job (posted.Lines lines) is = subst (HasTexts login s) (same_Some _ _ is) tt
  added_texts job posted.Nothing is = absurd (cc)
  added_texts job (posted.Document d) is = absurd (cc)
  added_texts job posted.NoDocument is = absurd (cc)
  added_texts job posted.TooMany is = absurd (cc)
  added_texts job posted.NoText is = absurd (cc)

  closed_texts : (job : ℕ) (o : Option (Job Bytes)) → job_at s.jobs job ≡ o → close_job job (option_map (λ j. archive_of login (done_at moment true j)) o) moment ≡ Some command → HasTexts login s command
  closed_texts job None there is = absurd (cc)
  closed_texts job (Some j) there is =
      subst (HasTexts login s) (same_Some _ _ is)
      (subst (OfFound (λ (x : Job Bytes). archive_of login (done_at moment true j) ≡ archive_of login (done_at moment true x))) (sym there) refl)

  has_texts : (d : JobDoing) (p : Posted) → job_command_of d p (archive_asked login s d moment) moment ≡ Some command → HasTexts login s command
  has_texts jobs.MakeJob p is = made_texts p is
  has_texts (jobs.PostLines (Some job)) p is = added_texts job p is
  has_texts (jobs.PostLines None) p is = absurd (cc)
  has_texts (jobs.EndInput (Some job)) p is = subst (HasTexts login s) (same_Some _ _ is) tt
  has_texts (jobs.EndInput None) p is = absurd (cc)
  has_texts (jobs.CancelJob (Some job)) p is = closed_texts job (job_at s.jobs job) refl is
  has_texts (jobs.CancelJob None) p is = absurd (cc)
  has_texts (jobs.LookLive job text) p is = absurd (cc)
  has_texts (jobs.ListJobs stand page) p is = absurd (cc)

  same_head : (c : Command Bytes) → c ∷ [] ≡ command ∷ [] → c ≡ command
  same_head c is = cc

  -- what is added is the command
  added_is : (test : Bool) (c : Command Bytes) (grew : ℕ) (reply : Reply Bytes) (full : Answer Bytes) → full.added ≡ [] → (job_add_if test c grew reply full).added ≡ command ∷ [] → c ≡ command
  added_is true c grew reply full none is = same_head c is
  added_is false c grew reply full none is = absurd (cc)

  accepted_is : (limit : ℕ) (stamp : Stamp) (used : ℕ) (d : JobDoing) (archive : Option (Archive Bytes)) (o : Option (Command Bytes))
      → (job_accept length login limit stamp s used d archive o).added ≡ command ∷ [] → o ≡ Some command
  accepted_is limit stamp used d archive None is = absurd (cc)
  accepted_is limit stamp used d archive (Some c) is =
      ap Some (added_is (job_has_room length limit s.count used archive c) c (job_growth length archive c) (job_reply_to login (record stamp { position = s.count + 1 }) s d)
      (refuse_job stamp (plain error.NotEnoughSpace)) refl is)

  by_answer : (limit : ℕ) (stamp : Stamp) (used : ℕ) (request : JobRequest) (p : Posted) (r : Option Refused) → stamp.moment ≡ moment
      → (job_answer_by length login limit stamp s used request p (archive_asked login s request.doing moment) r).added ≡ command ∷ [] → HasTexts login s command
  by_answer limit stamp used request p (Some r) same is = absurd (cc)
  by_answer limit stamp used request p None same is =
      has_texts request.doing p
      (ap (job_command_of request.doing p (archive_asked login s request.doing moment)) (sym same)
      ∙ accepted_is limit stamp used request.doing (archive_asked login s request.doing moment) (job_command_of request.doing p (archive_asked login s request.doing moment) stamp.moment) is)

pub cancels_have_texts : (login : Bytes) (limit : ℕ) (s : State Bytes) (used : ℕ) (head : Head) (request : JobRequest) (body : Bytes) (moment : ℕ) (command : Command Bytes)
    → (job_answer_of login limit s used head request body moment).added ≡ command ∷ [] → HasTexts login s command
unfolding job_answer_of job_answer_in
cancels_have_texts login limit s used head request body moment command is =
    by_answer login s moment command limit (stamp_of head s.count moment) used request (posted_of login request.doing body)
    (job_refusal_of length request s (posted_of login request.doing body) (Some (md5 body))) refl is

-- ---- outputs

module _ (login : Bytes) (limit : ℕ) (s : State Bytes) (used : ℕ) (stamp : Stamp) (request : JobRequest) (p : Posted) (archive : Option (Archive Bytes)) (n : ℕ) (job : Job Bytes) where
  shown : (o : Option (Job Bytes)) → o ≡ Some job → IsTold (record { reply = text_reply login stamp o live.Out; added = []; grew = 0 }) (live_out login job)
  shown None is = absurd (cc)
  shown (Some j) is = subst (λ (x : Job Bytes). IsTold (record { reply = text_reply login stamp (Some x) live.Out; added = []; grew = 0 }) (live_out login job)) (sym (same_Some _ _ is)) (record { status = refl; body = refl; nothing = refl })

  looked : (d : JobDoing) → d ≡ jobs.LookLive (Some n) live.Out → job_at s.jobs n ≡ Some job
      → IsTold (job_accept length login limit stamp s used d archive (job_command_of d p archive stamp.moment)) (live_out login job)
  looked d is there =
      subst (λ (x : JobDoing). IsTold (job_accept length login limit stamp s used x archive (job_command_of x p archive stamp.moment)) (live_out login job)) (sym is) (shown (job_at s.jobs n) there)

  by_refusal : (r : Option Refused) → r ≡ None → request.doing ≡ jobs.LookLive (Some n) live.Out → job_at s.jobs n ≡ Some job
      → IsTold (job_answer_by length login limit stamp s used request p archive r) (live_out login job)
  by_refusal None none is there = looked request.doing is there
  by_refusal (Some r) none is there = absurd (cc)

pub outputs_told : (login : Bytes) (limit : ℕ) (s : State Bytes) (used : ℕ) (head : Head) (request : JobRequest) (body : Bytes) (moment n : ℕ) (job : Job Bytes)
    → request.doing ≡ jobs.LookLive (Some n) live.Out → job_at s.jobs n ≡ Some job
    → job_refusal_of length request s (posted_of login request.doing body) (Some (md5 body)) ≡ None
    → IsTold (job_answer_of login limit s used head request body moment) (live_out login job)
unfolding job_answer_of job_answer_in
outputs_told login limit s used head request body moment n job is there none =
    by_refusal login limit s used (stamp_of head s.count moment) request (posted_of login request.doing body) (archive_asked login s request.doing moment) n job
    (job_refusal_of length request s (posted_of login request.doing body) (Some (md5 body))) none is there
