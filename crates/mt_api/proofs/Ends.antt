-- A run that is ended without a command, and the answer to it.
use Rattle.std.proofs.Common.{◌≡◌, ◌≢◌, ℕ, ◌+◌, false, inl, inr, [], ◌++◌, Option, refl, sym, ap, ◌∙◌, subst, append_assoc, append-nil, arith}
use Rattle.mt_answer.specs.Answer.{Answer}
use Rattle.mt_base.specs.Lists.{IsPrefixOf}
use Rattle.mt_body.specs.Stored.{bytes_of}
use Rattle.mt_disk.specs.Files.{Files}
use Rattle.mt_disk.specs.CrashModel.{LeavesOnly}
use Rattle.mt_disk.proofs.Moments.{joins, weakens}
use Rattle.mt_opening.specs.Current.{EngineState, IsBetween, IsCurrent}
use Rattle.mt_opening.specs.History.{Bytes, HasHistory, History}
use Rattle.mt_engine.specs.Ready.{EngineStays}
use Rattle.mt_engine.proofs.Ends.{all_of}
use Rattle.mt_error.specs.declared.refused.Refused.{Refused}
use Rattle.mt_http.specs.declared.message.Ending.TheVariants as ending
use Rattle.mt_http.specs.declared.stage.Stage.{Stage}
use Rattle.mt_http.specs.declared.stage.Stage.TheVariants as at
use Rattle.mt_log.specs.LogState.{Stands}
use Rattle.mt_log.specs.RunState.{RunState}
use Rattle.mt_model.specs.State.{State}
use Rattle.mt_reply.specs.Replies.{error_reply}
use Rattle.mt_reply.specs.declared.stamp.Stamp.{Stamp}
use Rattle.mt_types.specs.Values.{reply_body_with, reply_with}
use Rattle.mt_types.specs.declared.body.Body.{Body}
use Rattle.mt_types.specs.declared.reply.Reply.{Reply}
use Rattle.mt_types.specs.declared.reply.ReplyBody.{ReplyBody}
use Rattle.mt_types.specs.declared.reply.ReplyBody.TheVariants.{Held, Part}
use Rattle.mt_api.specs.Answered.{CanBeSent, EndsBody, Shows, used}
use Rattle.mt_api.specs.GoingOn.{StepKeeps}
use Rattle.mt_api.specs.Steps.{AreHeld, EndsWith, IsHeld, IsSettled, Replies, Settles}
use Rattle.mt_api.specs.declared.answered.Answered.{Answered}
use Rattle.mt_api.specs.declared.answered.Answered.TheVariants as answered

-- ---- histories

prefix_on : (g h k : History) → IsPrefixOf g h → IsPrefixOf h k → IsPrefixOf g k
prefix_on g h k first second = (first.0 ++ second.0, sym (append_assoc g first.0 second.0) ∙ ap (λ (x : History). x ++ second.0) first.1 ∙ second.1)

-- what lies between two histories lies below a longer one
pub between_more : (base : State Bytes) (h k l : History) → IsPrefixOf k l → (c : Files) → IsBetween base h k c → IsBetween base h l c
between_more base h k l more c is = record { history = is.history; has = is.has; from = is.from; to = prefix_on is.history k l is.to more }

pub between_same : (base : State Bytes) (h : History) (c : Files) → HasHistory base h c → IsBetween base h h c
between_same base h c has = record { history = h; has = has; from = all_of h; to = all_of h }

module _ {D : Type 0} (moment : D → ℕ) (left_since : D → ℕ → Files → Type 0) where
  -- a call that leaves the history of before
  pub leaves_same : (old new : D) (base : State Bytes) (h : History) → LeavesOnly moment left_since old new (HasHistory base h) → LeavesOnly moment left_since old new (IsBetween base h h)
  leaves_same old new base h leaves = weakens moment left_since old new (HasHistory base h) (IsBetween base h h) (between_same base h) leaves

  pub leaves_at : (old new : D) (base : State Bytes) (h k l : History) → k ≡ l → LeavesOnly moment left_since old new (IsBetween base h k) → LeavesOnly moment left_since old new (IsBetween base h l)
  leaves_at old new base h k l same leaves = subst (λ (x : History). LeavesOnly moment left_since old new (IsBetween base h x)) same leaves

  pub leaves_more : (old new : D) (base : State Bytes) (h k l : History) → IsPrefixOf k l → LeavesOnly moment left_since old new (IsBetween base h k) → LeavesOnly moment left_since old new (IsBetween base h l)
  leaves_more old new base h k l more leaves = weakens moment left_since old new (IsBetween base h k) (IsBetween base h l) (between_more base h k l more) leaves

  -- one that leaves it, and then another
  pub leaves_then : (old mid new : D) (base : State Bytes) (h k : History) → IsPrefixOf h k → LeavesOnly moment left_since old mid (HasHistory base h) → LeavesOnly moment left_since mid new (IsBetween base h k)
      → LeavesOnly moment left_since old new (IsBetween base h k)
  leaves_then old mid new base h k more first second =
      joins moment left_since old mid new (HasHistory base h) (IsBetween base h k) (IsBetween base h k) first second
      (λ c has. between_more base h h k more c (between_same base h c has)) (λ c x. x)

-- ---- replies

body_same : (f g : Body → Bytes) (b : ReplyBody Body) → IsHeld b → reply_body_with f b ≡ reply_body_with g b
body_same f g (Held bytes) held = refl
body_same f g (Part body from to) held = absurd held

-- a reply whose bytes are at hand shows the same in any log
pub held_same : (f g : Body → Bytes) (r : Reply Body) → IsHeld r.body → reply_with f r ≡ reply_with g r
held_same f g r held = ap (λ (b : ReplyBody Bytes). record { status = r.status; fields = r.fields; body = b; closes = r.closes }) (body_same f g r.body held)

shows_held : (b : ReplyBody Body) (seen : Option Files) (engine : EngineState) → IsHeld b → Shows b seen engine
shows_held (Held bytes) seen engine held = tt
shows_held (Part body from to) seen engine held = absurd held

pub held_sends : (result : Answered) (seen : Option Files) (engine : EngineState) → AreHeld result → CanBeSent result seen engine
held_sends (answered.Replied reply) seen engine held = shows_held reply.body seen engine held
held_sends (answered.Unfinished e) seen engine held = tt
held_sends answered.SourceFault seen engine held = tt
held_sends answered.Disk seen engine held = tt
held_sends answered.Memory seen engine held = tt

pub held_replied : (result : Answered) (said : Reply Body) → IsHeld said.body → Replies result said → AreHeld result
held_replied (answered.Replied reply) said held is = subst (λ (r : Reply Body). IsHeld r.body) (sym is) held
held_replied (answered.Unfinished e) said held is = tt
held_replied answered.SourceFault said held is = tt
held_replied answered.Disk said held is = tt
held_replied answered.Memory said held is = tt

pub held_ended : (result answer : Answered) (engine : EngineState) (run : RunState) (engine' : EngineState) → EndsWith result answer engine run engine' → AreHeld answer → AreHeld result
held_ended result answer engine run engine' (inl e) held = subst AreHeld (sym e.0) held
held_ended result answer engine run engine' (inr e) held = subst AreHeld (sym e.0) tt

-- and so ends the body as what was to be answered says
pub ended_over : (result answer : Answered) (engine : EngineState) (run : RunState) (engine' : EngineState) (stage : Stage) → EndsWith result answer engine run engine' → EndsBody answer stage → EndsBody result stage
ended_over result answer engine run engine' stage (inl e) over = subst (λ (r : Answered). EndsBody r stage) (sym e.0) over
ended_over result answer engine run engine' stage (inr e) over = subst (λ (r : Answered). EndsBody r stage) (sym e.0) tt

pub settled_replied : (result : Answered) (said : Reply Body) → Replies result said → IsSettled result
settled_replied (answered.Replied reply) said is = tt
settled_replied (answered.Unfinished e) said is = is
settled_replied answered.SourceFault said is = is
settled_replied answered.Disk said is = tt
settled_replied answered.Memory said is = tt

pub settled_ended : (result answer : Answered) (engine : EngineState) (run : RunState) (engine' : EngineState) → EndsWith result answer engine run engine' → IsSettled answer → IsSettled result
settled_ended result answer engine run engine' (inl e) settled = subst IsSettled (sym e.0) settled
settled_ended result answer engine run engine' (inr e) settled = subst IsSettled (sym e.0) tt

-- what is settled behind a whole body
pub settled_over : (result : Answered) (stage : Stage) → IsSettled result → stage ≡ at.Over ending.Whole → EndsBody result stage
settled_over (answered.Replied reply) stage settled over = over
settled_over (answered.Unfinished e) stage settled over = absurd settled
settled_over answered.SourceFault stage settled over = tt
settled_over answered.Disk stage settled over = tt
settled_over answered.Memory stage settled over = tt

pub settled_not : (result : Answered) → IsSettled result → result ≡ answered.SourceFault → ⊥
settled_not result settled is = subst IsSettled is settled

-- nor behind a run that is ended, where this isn't what is answered
pub ended_not : (result answer : Answered) (engine : EngineState) (run : RunState) (engine' : EngineState) → EndsWith result answer engine run engine' → answer ≢ answered.SourceFault → result ≡ answered.SourceFault → ⊥
ended_not result answer engine run engine' (inl e) not is = not (sym e.0 ∙ is)
ended_not result answer engine run engine' (inr e) not is = let d : answered.Disk ≡ answered.SourceFault = sym e.0 ∙ is in cc

-- no reply is a fault of the disk
pub not_disk : (result : Answered) (said : Reply Body) → Replies result said → result ≢ answered.Disk
not_disk (answered.Replied reply) said is e = cc
not_disk (answered.Unfinished e) said is d = absurd is
not_disk answered.SourceFault said is e = absurd is
not_disk answered.Disk said is e = absurd is
not_disk answered.Memory said is e = cc

-- ---- engines

module _ {D : Type 0} (seen : D → Option Files) (may_leave : D → Files → Type 0) (count : D → ℕ) where
  -- an engine that isn't called
  pub idle_keeps : (disk : D) (result : Answered) (engine : EngineState) → engine.log.closed ≡ false → Stands seen may_leave disk engine.log → result ≢ answered.Disk
      → StepKeeps seen may_leave count disk disk result engine engine
  idle_keeps disk result engine is_open stands not = record {
    stays = record { told = λ o. refl; version = λ o. refl; limit = λ o. refl; faults = omega arith };
    stands = stands;
    live = λ d m. is_open;
    disk = λ d. absurd (not d);
  }

  -- and one behind a call that left it open
  pub behind_keeps : (old mid new : D) (result : Answered) (before engine engine' : EngineState) → engine.log.closed ≡ false → EngineStays seen count old mid before engine
      → StepKeeps seen may_leave count mid new result engine engine' → StepKeeps seen may_leave count old new result before engine'
  behind_keeps old mid new result before engine engine' is_open first next = record {
    stays = record {
      told = λ o. next.stays.told o ∙ first.told is_open;
      version = λ o. next.stays.version o ∙ first.version is_open;
      limit = λ o. next.stays.limit o ∙ first.limit is_open;
      faults = let a = first.faults in let b = next.stays.faults in omega arith;
    };
    stands = next.stands;
    live = next.live;
    disk = λ e. let a = first.faults in let b = next.disk e in omega arith;
  }

-- ---- refusals

module _ (stamp : Stamp) (why : Refused) (before grew : ℕ) (base : State Bytes) (h : History) (seen' : Option Files) where
  refusal_answer : Answer Bytes
  refusal_answer = record { reply = error_reply stamp why; added = []; grew = grew }

  -- a refusal over an engine that goes on
  pub refused_settles : (result : Answered) (engine' : EngineState) → Replies result (error_reply stamp why) → (result ≢ answered.Disk → IsCurrent seen' engine' base h) → used engine' ≡ before + grew
      → Settles result (record { reply = error_reply stamp why; added = []; grew = grew }) before base h seen' engine' h
  refused_settles (answered.Replied reply) engine' said current grown = record {
    history = sym (append-nil h);
    current = current (λ (e : answered.Replied reply ≡ answered.Disk). cc);
    grew = grown;
    shows = λ ps there. ap (λ (r : Reply Body). reply_with (bytes_of ps) r) said;
  }
  refused_settles (answered.Unfinished e) engine' said current grown = absurd said
  refused_settles answered.SourceFault engine' said current grown = absurd said
  refused_settles answered.Disk engine' said current grown = absurd said
  refused_settles answered.Memory engine' said current grown = (refl, λ is_open. current (λ (e : answered.Memory ≡ answered.Disk). cc))

  -- and of a run that is ended
  pub ended_settles : (result answer : Answered) (engine : EngineState) (run : RunState) (engine' : EngineState) → Replies answer (error_reply stamp why) → EndsWith result answer engine run engine'
      → (result ≢ answered.Disk → IsCurrent seen' engine' base h) → run.next + 1 ≡ before + grew
      → Settles result (record { reply = error_reply stamp why; added = []; grew = grew }) before base h seen' engine' h
  ended_settles result answer engine run engine' said (inl e) current next =
      subst (λ (r : Answered). Settles r (record { reply = error_reply stamp why; added = []; grew = grew }) before base h seen' engine' h) (sym e.0)
      (refused_settles answer engine' said (λ n. current (λ d. n (sym e.0 ∙ d))) (ap used e.1 ∙ next))
  ended_settles result answer engine run engine' said (inr e) current next =
      subst (λ (r : Answered). Settles r (record { reply = error_reply stamp why; added = []; grew = grew }) before base h seen' engine' h) (sym e.0)
      (ap (λ (x : EngineState). x.log.closed) e.1, inl refl)

pub memory_not_disk : answered.Memory ≢ answered.Disk
memory_not_disk e = cc

pub replied_not_disk : (reply : Reply Body) → answered.Replied reply ≢ answered.Disk
replied_not_disk reply e = cc

pub memory_not_source : answered.Memory ≢ answered.SourceFault
memory_not_source e = cc

pub disk_not_source : answered.Disk ≢ answered.SourceFault
disk_not_source e = cc

-- want of memory before the command of a run
pub memory_settles : (answer : Answer Bytes) (before : ℕ) (base : State Bytes) (h : History) (seen' : Option Files) (result : Answered) (engine : EngineState) (run : RunState) (engine' : EngineState)
    → EndsWith result answered.Memory engine run engine' → (result ≢ answered.Disk → IsCurrent seen' engine' base h) → Settles result answer before base h seen' engine' h
memory_settles answer before base h seen' result engine run engine' (inl e) current =
    subst (λ (r : Answered). Settles r answer before base h seen' engine' h) (sym e.0) (refl, λ is_open. current (λ d. memory_not_disk (sym e.0 ∙ d)))
memory_settles answer before base h seen' result engine run engine' (inr e) current =
    subst (λ (r : Answered). Settles r answer before base h seen' engine' h) (sym e.0) (ap (λ (x : EngineState). x.log.closed) e.1, inl refl)
