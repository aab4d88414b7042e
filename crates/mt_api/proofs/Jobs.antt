-- What is asked of jobs: the answer to it, and its exits.
use Rattle.std.proofs.Common.{◌≡◌, ◌⊎◌, ◌≤◌, ◌<◌, ℕ, ◌+◌, Bool, false, true, ◌&&◌, inl, inr, List, [], ◌∷◌, ◌++◌, length, Option, Some, None, Result, Ok, Err, refl, sym, ap, ◌∙◌, subst, append-nil, arith, true≢false}
use Rattle.std.specs.Prelude.{IfOk, IfSome, is_some, not, option_map}
use Rattle.std.proofs.lemmas.Option.{same_Some}
use Rattle.md5.specs.Md5.{md5}
use Rattle.mt_answer.specs.Answer.{Answer}
use Rattle.mt_answer.specs.JobAnswer.{add_lines, archive_asked, close_job, job_answer_of, job_command_of, job_growth, job_reply_to, make_job, refuse_job, stand_reply, text_reply}
use Rattle.mt_answer.specs.JobJudging.{job_account_refusal, job_refusal_of, posted_refusal}
use Rattle.mt_answer.specs.Judging.{len_of, stored_asked}
use Rattle.mt_answer.specs.Posting.{posted_of}
use Rattle.mt_answer.specs.declared.posted.Posted.{Posted}
use Rattle.mt_answer.specs.declared.posted.Posted.TheVariants as posted
use Rattle.mt_answer.proofs.JobExits.{job_added_read, job_full_read, job_refused_read, job_shown_read}
use Rattle.mt_answer.proofs.Whole.{jobs_at}
use Rattle.mt_body.specs.Stored.{bytes_of, pieces_that_fit}
use Rattle.mt_body.proofs.Keeping.{length-bytes_of}
use Rattle.mt_cond.specs.Conditions.{conditions_of}
use Rattle.mt_disk.specs.Files.{Files}
use Rattle.mt_opening.specs.Current.{EngineState, IsCurrent}
use Rattle.mt_opening.specs.History.{Bytes, History}
use Rattle.mt_opening.proofs.Held.{Holding, holding_now}
use Rattle.mt_error.specs.Refusals.{plain}
use Rattle.mt_error.specs.declared.code.ErrorCode.{ErrorCode}
use Rattle.mt_error.specs.declared.code.ErrorCode.TheVariants as error
use Rattle.mt_error.specs.declared.refused.Refused.{Refused}
use Rattle.mt_jobs.specs.Shown.{state_of}
use Rattle.mt_log.specs.LogImage.{payloads_of}
use Rattle.mt_model.specs.Bodies.{OfArchive, OfCommand, state_with}
use Rattle.mt_model.specs.CommandStep.{replay}
use Rattle.mt_model.specs.Rows.{Rows}
use Rattle.mt_model.specs.State.{State}
use Rattle.mt_reply.specs.Replies.{error_reply}
use Rattle.mt_reply.specs.declared.stamp.Stamp.{Stamp}
use Rattle.mt_request.specs.Digest.{digest_refusal}
use Rattle.mt_request.specs.Order.{first_of}
use Rattle.mt_request.specs.Requests.{is_posting}
use Rattle.mt_request.specs.declared.asked.Asked.{Asked as HeadAsks}
use Rattle.mt_request.specs.declared.asked.JobRequest.{JobRequest}
use Rattle.mt_request.specs.declared.digest.Wish.{Wish}
use Rattle.mt_request.specs.declared.digest.Wish.TheVariants as wish
use Rattle.mt_request.specs.declared.jobs.JobDoing.{JobDoing}
use Rattle.mt_request.specs.declared.jobs.JobDoing.TheVariants as jobs
use Rattle.mt_request.specs.declared.query.Page.{Page}
use Rattle.mt_types.specs.Values.{archive_with, command_with, reply_with}
use Rattle.mt_types.specs.declared.body.Body.{Body}
use Rattle.mt_types.specs.declared.command.Archive.{Archive}
use Rattle.mt_types.specs.declared.command.Command.{Command}
use Rattle.mt_types.specs.declared.job.Job.{Job}
use Rattle.mt_types.specs.declared.limits.TheConstants.{MOST_COMMANDS}
use Rattle.mt_types.specs.declared.live.JobStand.{JobStand}
use Rattle.mt_types.specs.declared.live.LiveText.{LiveText}
use Rattle.mt_types.specs.declared.reply.Reply.{Reply}
use Rattle.mt_api.specs.Answered.{Asked, answer_at, left_behind, used}
use Rattle.mt_api.specs.Jobs.{AsksFor, IsJobCallOf, cancelled_job, holds_body, job_refusal}
use Rattle.mt_api.specs.Steps.{IsHeld, Replies, Settles}
use Rattle.mt_api.specs.declared.answered.Answered.{Answered}
use Rattle.mt_api.specs.declared.answered.Answered.TheVariants as answered
use Rattle.mt_api.specs.declared.call.JobCall.{JobCall}
use Rattle.mt_api.proofs.Ends.{held_same, refused_settles}
use Rattle.mt_api.proofs.Puts.{nothing_fits}

-- ---- the state, whatever its uploads are

at_state : (size : Body → ℕ) (s : State Body) (d : JobDoing) (p : Posted) → job_account_refusal size (state_of s.count s.rows s.jobs) d p ≡ job_account_refusal size s d p
at_state size s jobs.MakeJob (posted.Document d) = refl
at_state size s jobs.MakeJob posted.Nothing = refl
at_state size s jobs.MakeJob posted.NoDocument = refl
at_state size s jobs.MakeJob (posted.Lines lines) = refl
at_state size s jobs.MakeJob posted.TooMany = refl
at_state size s jobs.MakeJob posted.NoText = refl
at_state size s (jobs.PostLines job) (posted.Document d) = refl
at_state size s (jobs.PostLines job) posted.Nothing = refl
at_state size s (jobs.PostLines job) posted.NoDocument = refl
at_state size s (jobs.PostLines job) (posted.Lines lines) = refl
at_state size s (jobs.PostLines job) posted.TooMany = refl
at_state size s (jobs.PostLines job) posted.NoText = refl
at_state size s (jobs.EndInput job) p = refl
at_state size s (jobs.CancelJob job) p = refl
at_state size s (jobs.LookLive job text) p = refl
at_state size s (jobs.ListJobs stand page) p = refl

pub refusal_at : (s : State Body) (request : JobRequest) (p : Posted) (digest : Option (List ℕ)) → job_refusal_of len_of request (state_of s.count s.rows s.jobs) p digest ≡ job_refusal_of len_of request s p digest
unfolding job_refusal_of
refusal_at s request p digest = ap (λ r. first_of (option_map plain (digest_refusal request.wish digest) ∷ posted_refusal p ∷ r ∷ [])) (at_state len_of s request.doing p)

pub reply_state : (login : List ℕ) (stamp : Stamp) (s : State Body) (d : JobDoing) → job_reply_to login stamp (state_of s.count s.rows s.jobs) d ≡ job_reply_to login stamp s d
reply_state login stamp s jobs.MakeJob = refl
reply_state login stamp s (jobs.PostLines job) = refl
reply_state login stamp s (jobs.EndInput job) = refl
reply_state login stamp s (jobs.CancelJob job) = refl
reply_state login stamp s (jobs.LookLive job text) = refl
reply_state login stamp s (jobs.ListJobs stand page) = refl

pub reply_ok : {E : Type 0} → (r : Result (Reply Body) E) (login : List ℕ) (stamp : Stamp) (count : ℕ) (js : List (Job Body)) (s : State Body) (d : JobDoing) → count ≡ s.count → js ≡ s.jobs
    → IfOk r (λ reply. (rows : Rows Body) → reply ≡ job_reply_to login stamp (state_of count rows js) d) → IfOk r (λ reply. reply ≡ job_reply_to login stamp s d)
reply_ok (Ok reply) login stamp count js s d counts same is =
    is s.rows ∙ ap (λ (n : ℕ). job_reply_to login stamp (state_of n s.rows js) d) counts ∙ ap (λ (x : List (Job Body)). job_reply_to login stamp (state_of s.count s.rows x) d) same ∙ reply_state login stamp s d
reply_ok (Err e) login stamp count js s d counts same is = tt

-- what is refused over what an engine tells of its state
pub refusal_told : (s : State Body) (rows : Rows Body) (js : List (Job Body)) (request : JobRequest) (p : Posted) (digest : Option (List ℕ)) → rows ≡ s.rows → js ≡ s.jobs
    → job_refusal_of len_of request (state_of s.count rows js) p digest ≡ job_refusal_of len_of request s p digest
refusal_told s rows js request p digest same also =
    ap (λ (x : Rows Body). job_refusal_of len_of request (state_of s.count x js) p digest) same ∙ ap (λ (x : List (Job Body)). job_refusal_of len_of request (state_of s.count s.rows x) p digest) also
    ∙ refusal_at s request p digest

-- ---- replies

held_text : (login : List ℕ) (stamp : Stamp) (o : Option (Job Body)) (text : LiveText) → IsHeld (text_reply login stamp o text).body
held_text login stamp None text = tt
held_text login stamp (Some j) text = tt

held_jobs : (stamp : Stamp) (js : List (Job Body)) (stand : JobStand) (page : Option Page) → IsHeld (stand_reply stamp js stand page).body
held_jobs stamp js stand None = tt
held_jobs stamp js stand (Some page) = tt

-- each reply to what is asked of jobs has its bytes at hand
pub held_job : (login : List ℕ) (stamp : Stamp) (s : State Body) (d : JobDoing) → IsHeld (job_reply_to login stamp s d).body
held_job login stamp s jobs.MakeJob = tt
held_job login stamp s (jobs.PostLines job) = tt
held_job login stamp s (jobs.EndInput job) = tt
held_job login stamp s (jobs.CancelJob job) = tt
held_job login stamp s (jobs.LookLive job text) = held_text login stamp _ text
held_job login stamp s (jobs.ListJobs stand page) = held_jobs stamp s.jobs stand page

-- ---- what a body asks for

-- a refusal by the digest stands whatever the digest is
by_wish : (w : Wish) (digest : List ℕ) → is_some (digest_refusal w None) ≡ true → digest_refusal w (Some digest) ≡ Some error.ContentMD5Mismatch
by_wish wish.None digest is = absurd (true≢false (sym is))
by_wish wish.Unreadable digest is = refl
by_wish (wish.Wants wanted) digest is = absurd (true≢false (sym is))

none_posted : (login : List ℕ) (d : JobDoing) (bytes : Bytes) → is_posting d ≡ false → posted.Nothing ≡ posted_of login d bytes
unfolding posted_of
none_posted login jobs.MakeJob bytes is = absurd (true≢false is)
none_posted login (jobs.PostLines job) bytes is = absurd (true≢false is)
none_posted login (jobs.ListJobs stand page) bytes is = refl
none_posted login (jobs.EndInput job) bytes is = refl
none_posted login (jobs.CancelJob job) bytes is = refl
none_posted login (jobs.LookLive job text) bytes is = refl

by_holds : (login : List ℕ) (request : JobRequest) (bytes : Bytes) (posts refused : Bool) → is_posting request.doing ≡ posts → is_some (digest_refusal request.wish None) ≡ refused → posts && not refused ≡ false
    → AsksFor login request posted.Nothing bytes
by_holds login request bytes true true posts refused is = inr refused
by_holds login request bytes true false posts refused is = absurd (true≢false is)
by_holds login request bytes false refused' posts refused is = inl (none_posted login request.doing bytes posts)

-- a body that is dropped
pub asks_nothing : (login : List ℕ) (request : JobRequest) (bytes : Bytes) → holds_body request ≡ false → AsksFor login request posted.Nothing bytes
asks_nothing login request bytes is = by_holds login request bytes (is_posting request.doing) (is_some (digest_refusal request.wish None)) refl refl is

module _ (engine : EngineState) (login : List ℕ) (request : JobRequest) (p : Posted) (bytes : Bytes) where
  by_digest : (q : Posted) → is_some (digest_refusal request.wish None) ≡ true → job_refusal engine request q (Some (md5 bytes)) ≡ Some (plain error.ContentMD5Mismatch)
  unfolding job_refusal_of
  by_digest q is = ap (λ (x : Option ErrorCode). first_of (option_map plain x ∷ posted_refusal q ∷ job_account_refusal len_of engine.state request.doing q ∷ [])) (by_wish request.wish (md5 bytes) is)

  -- it is refused for the same cause
  pub same_cause : AsksFor login request p bytes → job_refusal engine request p (Some (md5 bytes)) ≡ job_refusal engine request (posted_of login request.doing bytes) (Some (md5 bytes))
  same_cause (inl is) = ap (λ (q : Posted). job_refusal engine request q (Some (md5 bytes))) is
  same_cause (inr is) = by_digest p is ∙ sym (by_digest (posted_of login request.doing bytes) is)

  -- and where it isn't, its body asks for this
  pub asks_this : AsksFor login request p bytes → job_refusal engine request p (Some (md5 bytes)) ≡ None → p ≡ posted_of login request.doing bytes
  asks_this (inl is) none = is
  asks_this (inr is) none = let clash : Some (plain error.ContentMD5Mismatch) ≡ None = sym (by_digest p is) ∙ none in cc

-- digests of which a request says the same
pub same_judged : (engine : EngineState) (request : JobRequest) (p : Posted) (digest digest' : Option (List ℕ)) → digest_refusal request.wish digest ≡ digest_refusal request.wish digest'
    → job_refusal engine request p digest ≡ job_refusal engine request p digest'
unfolding job_refusal_of
same_judged engine request p digest digest' same =
    ap (λ (x : Option ErrorCode). first_of (option_map plain x ∷ posted_refusal p ∷ job_account_refusal len_of engine.state request.doing p ∷ [])) same

-- ---- what is done

-- what cancels no job brings no texts
pub no_texts : (login : List ℕ) (s : State Body) (d : JobDoing) (moment : ℕ) → cancelled_job d ≡ None → archive_asked login s d moment ≡ None
no_texts login s (jobs.CancelJob None) moment is = refl
no_texts login s (jobs.CancelJob (Some n)) moment is = cc
no_texts login s jobs.MakeJob moment is = refl
no_texts login s (jobs.PostLines job) moment is = refl
no_texts login s (jobs.EndInput job) moment is = refl
no_texts login s (jobs.LookLive job text) moment is = refl
no_texts login s (jobs.ListJobs stand page) moment is = refl

pub cancels : (d : JobDoing) (n : ℕ) → cancelled_job d ≡ Some n → d ≡ jobs.CancelJob (Some n)
cancels (jobs.CancelJob job) n is = ap jobs.CancelJob is
cancels jobs.MakeJob n is = cc
cancels (jobs.PostLines job) n is = cc
cancels (jobs.EndInput job) n is = cc
cancels (jobs.LookLive job text) n is = cc
cancels (jobs.ListJobs stand page) n is = cc

module _ (P : Body → Type 0) where
  made_brings : (p : Posted) (moment : ℕ) (command : Command Body) → make_job p moment ≡ Some command → OfCommand P command
  made_brings (posted.Document d) moment command is = subst (OfCommand P) (same_Some _ _ is) tt
  made_brings posted.Nothing moment command is = cc
  made_brings posted.NoDocument moment command is = cc
  made_brings (posted.Lines lines) moment command is = cc
  made_brings posted.TooMany moment command is = cc
  made_brings posted.NoText moment command is = cc

  lines_bring : (job : ℕ) (p : Posted) (moment : ℕ) (command : Command Body) → add_lines job p moment ≡ Some command → OfCommand P command
  lines_bring job (posted.Lines lines) moment command is = subst (OfCommand P) (same_Some _ _ is) tt
  lines_bring job posted.Nothing moment command is = cc
  lines_bring job (posted.Document d) moment command is = cc
  lines_bring job posted.NoDocument moment command is = cc
  lines_bring job posted.TooMany moment command is = cc
  lines_bring job posted.NoText moment command is = cc

  close_brings : (job : ℕ) (archive : Option (Archive Body)) (moment : ℕ) (command : Command Body) → IfSome archive (OfArchive P) → close_job job archive moment ≡ Some command → OfCommand P command
  close_brings job (Some a) moment command of is = subst (OfCommand P) (same_Some _ _ is) of
  close_brings job None moment command of is = cc

  -- a command brings no body but the texts of a job that is cancelled
  pub job_brings : (d : JobDoing) (p : Posted) (archive : Option (Archive Body)) (moment : ℕ) (command : Command Body) → IfSome archive (OfArchive P) → job_command_of d p archive moment ≡ Some command → OfCommand P command
  job_brings jobs.MakeJob p archive moment command of is = made_brings p moment command is
  job_brings (jobs.PostLines (Some job)) p archive moment command of is = lines_bring job p moment command is
  job_brings (jobs.PostLines None) p archive moment command of is = cc
  job_brings (jobs.EndInput (Some job)) p archive moment command of is = subst (OfCommand P) (same_Some _ _ is) tt
  job_brings (jobs.EndInput None) p archive moment command of is = cc
  job_brings (jobs.CancelJob (Some job)) p archive moment command of is = close_brings job archive moment command of is
  job_brings (jobs.CancelJob None) p archive moment command of is = cc
  job_brings (jobs.LookLive job text) p archive moment command of is = cc
  job_brings (jobs.ListJobs stand page) p archive moment command of is = cc

-- ---- the answer

module _ (login : List ℕ) (asked : Asked) (engine : EngineState) (call : JobCall) (e : IsJobCallOf login asked engine call) (base : State Bytes) (h : History) where
  -- nothing of its body stays
  pub job_left : (bytes : Bytes) → used engine ≡ used engine + left_behind asked engine (replay base h) bytes
  job_left bytes =
      let none : left_behind asked engine (replay base h) bytes ≡ 0 =
      ap (λ (a : HeadAsks). pieces_that_fit engine.log.limit (used engine) (stored_asked length a (replay base h).rows (conditions_of asked.head.fields) (length bytes))) e.asks ∙ nothing_fits engine.log.limit (used engine) in
      omega (arith, none)

  moment_is : asked.moment ≡ call.stamp.moment
  moment_is = sym (ap (λ (s : Stamp). s.moment) e.stamp)

  -- a refusal, over an engine as long as before
  pub job_refuses : (result : Answered) (bytes : Bytes) (r : Refused) (seen' : Option Files) (engine' : EngineState) → answer_at asked engine (replay base h) bytes ≡ refuse_job call.stamp r
      → Replies result (error_reply call.stamp r) → IsCurrent seen' engine' base h → used engine' ≡ used engine
      → Settles result (answer_at asked engine (replay base h) bytes) (used engine) base h seen' engine' h
  job_refuses result bytes r seen' engine' is says current same =
      subst (λ (a : Answer Bytes). Settles result a (used engine) base h seen' engine' h) (sym is)
      (refused_settles call.stamp r (used engine) 0 base h seen' result engine' says (λ n. current) (omega (arith, same)))

  module _ (qs : List (List ℕ)) (holds : Holding qs engine.state base h) (bytes : Bytes) where
    answer_is : answer_at asked engine (replay base h) bytes
        ≡ job_answer_of login engine.log.limit (state_with (bytes_of qs) engine.state) (used engine) asked.head call.request bytes asked.moment
    answer_is =
        ap (λ (s : State Bytes). answer_at asked engine s bytes) (sym holds.state)
        ∙ jobs_at asked.login engine.log.limit (state_with (bytes_of qs) engine.state) (used engine) asked.head call.request bytes asked.moment e.asks
        ∙ ap (λ (l : List ℕ). job_answer_of l engine.log.limit (state_with (bytes_of qs) engine.state) (used engine) asked.head call.request bytes asked.moment) e.login_is

    pub job_refused : (r : Refused) → job_refusal engine call.request (posted_of login call.request.doing bytes) (Some (md5 bytes)) ≡ Some r
        → answer_at asked engine (replay base h) bytes ≡ refuse_job call.stamp r
    job_refused r is =
        answer_is ∙ job_refused_read (bytes_of qs) (length-bytes_of qs) login engine.log.limit engine.state (used engine) asked.head call.request bytes asked.moment r is
        ∙ ap (λ (s : Stamp). refuse_job s r) (sym e.stamp)

    module _ (none : job_refusal engine call.request (posted_of login call.request.doing bytes) (Some (md5 bytes)) ≡ None) where
      pub job_full : (command : Command Bytes) → job_command_of call.request.doing (posted_of login call.request.doing bytes) (archive_asked login engine.state call.request.doing call.stamp.moment) call.stamp.moment ≡ Some command
          → (MOST_COMMANDS ≤ engine.state.count) ⊎ (engine.log.limit < used engine + job_growth length (archive_asked login engine.state call.request.doing call.stamp.moment) command)
          → answer_at asked engine (replay base h) bytes ≡ refuse_job call.stamp (plain error.NotEnoughSpace)
      job_full command is full =
          answer_is ∙ job_full_read (bytes_of qs) (length-bytes_of qs) login engine.log.limit engine.state (used engine) asked.head call.request bytes asked.moment command none
          (subst (λ (m : ℕ). job_command_of call.request.doing (posted_of login call.request.doing bytes) (archive_asked login engine.state call.request.doing m) m ≡ Some command) (sym moment_is) is)
          (subst (λ (m : ℕ). (MOST_COMMANDS ≤ engine.state.count) ⊎ (engine.log.limit < used engine + job_growth length (archive_asked login engine.state call.request.doing m) command)) (sym moment_is) full)
          ∙ ap (λ (s : Stamp). refuse_job s (plain error.NotEnoughSpace)) (sym e.stamp)

      module _ (archive : Option (Archive Body)) (brings : option_map (archive_with (bytes_of qs)) archive ≡ archive_asked login engine.state call.request.doing call.stamp.moment) where
        brings' : option_map (archive_with (bytes_of qs)) archive ≡ archive_asked login engine.state call.request.doing asked.moment
        brings' = brings ∙ ap (λ (m : ℕ). archive_asked login engine.state call.request.doing m) (sym moment_is)

        pub job_shown : job_command_of {B = Body} call.request.doing (posted_of login call.request.doing bytes) archive call.stamp.moment ≡ None
            → answer_at asked engine (replay base h) bytes ≡ record { reply = reply_with (bytes_of qs) (job_reply_to login call.stamp engine.state call.request.doing); added = []; grew = 0 }
        job_shown is =
            answer_is ∙ job_shown_read (bytes_of qs) (length-bytes_of qs) login engine.log.limit engine.state (used engine) asked.head call.request bytes asked.moment archive brings' none
            (subst (λ (m : ℕ). job_command_of {B = Body} call.request.doing (posted_of login call.request.doing bytes) archive m ≡ None) (sym moment_is) is)
            ∙ ap (λ (s : Stamp). record { reply = reply_with (bytes_of qs) (job_reply_to login s engine.state call.request.doing); added = []; grew = 0 }) (sym e.stamp)

        pub job_added : (command : Command Body) → job_command_of call.request.doing (posted_of login call.request.doing bytes) archive call.stamp.moment ≡ Some command
            → engine.state.count < MOST_COMMANDS → used engine + job_growth len_of archive command ≤ engine.log.limit
            → answer_at asked engine (replay base h) bytes ≡ record {
              reply = reply_with (bytes_of qs) (job_reply_to login (record call.stamp { position = engine.state.count + 1 }) engine.state call.request.doing);
              added = command_with (bytes_of qs) command ∷ [];
              grew = job_growth len_of archive command;
            }
        job_added command is few fits =
            answer_is ∙ job_added_read (bytes_of qs) (length-bytes_of qs) login engine.log.limit engine.state (used engine) asked.head call.request bytes asked.moment archive brings' none command
            (subst (λ (m : ℕ). job_command_of call.request.doing (posted_of login call.request.doing bytes) archive m ≡ Some command) (sym moment_is) is) few fits
            ∙ ap (λ (s : Stamp). record {
              reply = reply_with (bytes_of qs) (job_reply_to login (record s { position = engine.state.count + 1 }) engine.state call.request.doing);
              added = command_with (bytes_of qs) command ∷ [];
              grew = job_growth len_of archive command;
            }) (sym e.stamp)

-- what only looks
module _ (seen : Option Files) (login : List ℕ) (asked : Asked) (engine : EngineState) (call : JobCall) (e : IsJobCallOf login asked engine call) (base : State Bytes) (h : History) (i : IsCurrent seen engine base h) (bytes : Bytes)
    (none : job_refusal engine call.request (posted_of login call.request.doing bytes) (Some (md5 bytes)) ≡ None) (stays : cancelled_job call.request.doing ≡ None)
    (no_command : job_command_of {B = Body} call.request.doing (posted_of login call.request.doing bytes) None call.stamp.moment ≡ None) where
  abbrev shown : Reply Body
  shown = job_reply_to login call.stamp engine.state call.request.doing

  shown_is : answer_at asked engine (replay base h) bytes
      ≡ record { reply = reply_with (bytes_of (payloads_of i.is_read.files)) (job_reply_to login call.stamp engine.state call.request.doing); added = []; grew = 0 }
  shown_is =
      job_shown login asked engine call e base h (payloads_of i.is_read.files) (holding_now seen engine base h i) bytes none None
      (sym (no_texts login engine.state call.request.doing call.stamp.moment stays)) no_command

  pub job_looks : (result : Answered) → Replies result (job_reply_to login call.stamp engine.state call.request.doing)
      → Settles result (answer_at asked engine (replay base h) bytes) (used engine) base h seen engine h
  job_looks (answered.Replied reply) replied = record {
    history = sym (append-nil h) ∙ ap (λ (a : Answer Bytes). h ++ a.added) (sym shown_is);
    current = i;
    grew = omega (arith, ap (λ (a : Answer Bytes). a.grew) shown_is);
    shows = λ ps there. ap (λ (r : Reply Body). reply_with (bytes_of ps) r) replied
        ∙ held_same (bytes_of ps) (bytes_of (payloads_of i.is_read.files)) shown (held_job login call.stamp engine.state call.request.doing)
        ∙ ap (λ (a : Answer Bytes). a.reply) (sym shown_is);
  }
  job_looks (answered.Unfinished x) replied = absurd replied
  job_looks answered.SourceFault replied = absurd replied
  job_looks answered.Disk replied = absurd replied
  job_looks answered.Memory replied = (refl, λ is_open. i)
