-- The command of what is asked of jobs, which ends a run, and the answer to it.
use Rattle.std.proofs.Common.{◌≡◌, ◌⊎◌, ◌≤◌, ◌<◌, ℕ, ◌+◌, Bool, false, true, inl, inr, List, [], ◌∷◌, ◌++◌, length, Option, Some, None, refl, sym, ap, ◌∙◌, arith}
use Rattle.std.specs.Prelude.{is_some, option_map}
use Rattle.mt_answer.specs.Answer.{Answer}
use Rattle.mt_answer.specs.JobAnswer.{archive_asked, brought_size, job_command_of, job_growth, job_reply_to}
use Rattle.mt_answer.specs.Judging.{len_of}
use Rattle.mt_answer.specs.Posting.{posted_of}
use Rattle.mt_answer.proofs.JobsRead.{command-with}
use Rattle.mt_body.specs.Stored.{IsStored, bytes_of}
use Rattle.mt_codec.specs.Spelling.{spelling}
use Rattle.mt_codec.proofs.SizesRead.{read_size}
use Rattle.mt_disk.specs.CrashModel.{LeavesOnly}
use Rattle.mt_disk.specs.Files.{Files}
use Rattle.mt_opening.specs.Current.{EngineState, IsBetween, IsCurrent}
use Rattle.mt_opening.specs.History.{Bytes, History}
use Rattle.mt_opening.proofs.Held.{Holding, holding_in}
use Rattle.mt_engine.specs.Accepting.{Decided, Reaches, Takes}
use Rattle.mt_engine.specs.declared.engine.Accepted.{Accepted}
use Rattle.mt_engine.specs.declared.engine.Accepted.TheVariants as accepted
use Rattle.mt_engine.proofs.Ends.{front_of}
use Rattle.mt_error.specs.Refusals.{plain}
use Rattle.mt_error.specs.declared.code.ErrorCode.TheVariants as error
use Rattle.mt_log.specs.RunState.{RunState, size_with_run}
use Rattle.mt_model.specs.Bodies.{OfCommand}
use Rattle.mt_model.specs.CommandStep.{replay}
use Rattle.mt_model.specs.State.{State}
use Rattle.mt_reply.specs.Replies.{error_reply}
use Rattle.mt_types.specs.Values.{archive_with, command_with, reply_with}
use Rattle.mt_types.specs.declared.body.Body.{Body}
use Rattle.mt_types.specs.declared.command.Archive.{Archive}
use Rattle.mt_types.specs.declared.command.Command.{Command}
use Rattle.mt_types.specs.declared.limits.TheConstants.{MOST_COMMANDS}
use Rattle.mt_types.specs.declared.reply.Reply.{Reply}
use Rattle.mt_api.specs.Answered.{Asked, Gives, answer_at, used}
use Rattle.mt_api.specs.Jobs.{IsJobCallOf, JobIsReady}
use Rattle.mt_api.specs.Steps.{Replies, Settles}
use Rattle.mt_api.specs.declared.answered.Answered.{Answered}
use Rattle.mt_api.specs.declared.call.JobCall.{JobCall}
use Rattle.mt_api.proofs.Adds.{size_is}
use Rattle.mt_api.proofs.Ends.{held_same, leaves_at, leaves_more}
use Rattle.mt_api.proofs.Jobs.{held_job, job_added, job_brings, job_full, job_refuses}

none_of : (o : Option (Archive Body)) → is_some o ≡ false → o ≡ None
none_of None is = refl
none_of (Some a) is = cc

module _ (seen : Option Files) (engine : EngineState) (run : RunState) (base : State Bytes) (h : History) (qs : List (List ℕ)) (login : List ℕ) (asked : Asked) (call : JobCall) (archive : Option (Archive Body)) (command : Command Body)
    (bytes : Bytes) (e : IsJobCallOf login asked engine call) (w : JobIsReady seen engine run base h qs login call archive command bytes) where
  holds : Holding qs engine.state base h
  holds = holding_in seen engine base h run qs w.writing

  abbrev reply_of : Reply Body
  reply_of = job_reply_to login (record call.stamp { position = engine.state.count + 1 }) engine.state call.request.doing

  room : Takes engine run command → used engine + job_growth len_of archive command ≤ engine.log.limit
  room takes = omega (arith, takes.fits, w.next, size_is command)

  added : Takes engine run command → answer_at asked engine (replay base h) bytes ≡ record {
    reply = reply_with (bytes_of qs) (job_reply_to login (record call.stamp { position = engine.state.count + 1 }) engine.state call.request.doing);
    added = command_with (bytes_of qs) command ∷ [];
    grew = job_growth len_of archive command;
  }
  added takes = job_added login asked engine call e base h qs holds bytes w.none archive w.brings command w.is takes.few (room takes)

  -- its bodies stand in the payloads
  pub job_stored : OfCommand (IsStored qs) command
  job_stored = job_brings (IsStored qs) call.request.doing (posted_of login call.request.doing bytes) archive call.stamp.moment command w.stored w.is

  -- it was added
  pub job_gives : (reply : Reply Body) (seen' : Option Files) (engine' : EngineState) → reply ≡ job_reply_to login (record call.stamp { position = engine.state.count + 1 }) engine.state call.request.doing
      → Decided accepted.Added engine run command engine' → IsCurrent seen' engine' base (h ++ command_with (bytes_of qs) command ∷ [])
      → Gives reply (answer_at asked engine (replay base h) bytes) (used engine) base h seen' engine' (h ++ command_with (bytes_of qs) command ∷ [])
  job_gives reply seen' engine' says decided current =
      let is_added = added decided.0 in
      record {
        history = ap (λ (a : Answer Bytes). h ++ a.added) (sym is_added);
        current = current;
        grew = let at : used engine' ≡ used engine + job_growth len_of archive command = omega (arith, ap used decided.1, w.next, size_is command) in
            at ∙ ap (λ (a : Answer Bytes). used engine + a.grew) (sym is_added);
        shows = λ ps there. ap (λ (r : Reply Body). reply_with (bytes_of ps) r) says
            ∙ held_same (bytes_of ps) (bytes_of qs) reply_of (held_job login (record call.stamp { position = engine.state.count + 1 }) engine.state call.request.doing)
            ∙ ap (λ (a : Answer Bytes). a.reply) (sym is_added);
      }

  -- texts were stored only where they and the command have room
  never_full : is_some archive ≡ true → (engine.state.count ≡ MOST_COMMANDS) ⊎ (engine.log.limit < size_with_run run (length (spelling command))) → ⊥
  never_full is (inl many) = let has = w.room is in let x = has.few in omega (arith, many, x)
  never_full is (inr over) = let has = w.room is in let x = has.fits in omega (arith, over, x, w.next, size_is command)

  texts_none : archive ≡ None → archive_asked login engine.state call.request.doing call.stamp.moment ≡ None
  texts_none is = sym w.brings ∙ ap (λ (o : Option (Archive Body)). option_map (archive_with (bytes_of qs)) o) is

  next_none : archive ≡ None → run.next + 1 ≡ used engine
  next_none is = let none = ap (λ (o : Option (Archive Body)). brought_size len_of o) is in omega (arith, w.next, none)

  command_none : job_command_of call.request.doing (posted_of login call.request.doing bytes) (archive_asked login engine.state call.request.doing call.stamp.moment) call.stamp.moment ≡ Some (command_with (bytes_of qs) command)
  command_none =
      ap (λ (o : Option (Archive Bytes)). job_command_of call.request.doing (posted_of login call.request.doing bytes) o call.stamp.moment) (sym w.brings)
      ∙ command-with (bytes_of qs) length call.request.doing (posted_of login call.request.doing bytes) archive call.stamp.moment
      ∙ ap (λ (o : Option (Command Body)). option_map (command_with (bytes_of qs)) o) w.is

  lacks_none : archive ≡ None → (engine.state.count ≡ MOST_COMMANDS) ⊎ (engine.log.limit < size_with_run run (length (spelling command)))
      → (MOST_COMMANDS ≤ engine.state.count) ⊎ (engine.log.limit < used engine + job_growth length (archive_asked login engine.state call.request.doing call.stamp.moment) (command_with (bytes_of qs) command))
  lacks_none is (inl many) = inl (omega (arith, many))
  lacks_none is (inr over) =
      let brought : brought_size length (archive_asked login engine.state call.request.doing call.stamp.moment) ≡ 0 = ap (λ (o : Option (Archive Bytes)). brought_size length o) (texts_none is) in
      inr (omega (arith, over, next_none is, size_is command, read_size (bytes_of qs) command, brought))

  full_by : (b : Bool) → is_some archive ≡ b → (result : Answered) (seen' : Option Files) (engine' : EngineState) → Replies result (error_reply call.stamp (plain error.NotEnoughSpace)) → Decided accepted.Full engine run command engine' → IsCurrent seen' engine' base h
      → Settles result (answer_at asked engine (replay base h) bytes) (used engine) base h seen' engine' h
  full_by true is result seen' engine' says decided current = absurd (never_full is decided.1)
  full_by false is result seen' engine' says decided current =
      let none = none_of archive is in
      job_refuses login asked engine call e base h result bytes (plain error.NotEnoughSpace) seen' engine'
      (job_full login asked engine call e base h qs holds bytes w.none (command_with (bytes_of qs) command) command_none (lacks_none none decided.1))
      says current (ap used decided.2 ∙ next_none none)

  -- it has no room
  pub job_settles_full : (result : Answered) (seen' : Option Files) (engine' : EngineState) → Replies result (error_reply call.stamp (plain error.NotEnoughSpace)) → Decided accepted.Full engine run command engine' → IsCurrent seen' engine' base h
      → Settles result (answer_at asked engine (replay base h) bytes) (used engine) base h seen' engine' h
  job_settles_full = full_by (is_some archive) refl

  -- it may stand or not
  pub job_reaches : (result : Accepted) (k : History) → Reaches result engine run command (command_with (bytes_of qs) command) h k → (k ≡ h) ⊎ (k ≡ h ++ (answer_at asked engine (replay base h) bytes).added)
  job_reaches result k (inl at) = inl at
  job_reaches result k (inr x) = inr (x.0 ∙ ap (λ (a : Answer Bytes). h ++ a.added) (sym (added x.1)))

  -- each moment leaves a front of the history with it
  pub job_leaves : {D : Type 0} (moment : D → ℕ) (left_since : D → ℕ → Files → Type 0) (old new : D) (result : Accepted) (k : History) → Reaches result engine run command (command_with (bytes_of qs) command) h k
      → LeavesOnly moment left_since old new (IsBetween base h k) → LeavesOnly moment left_since old new (IsBetween base h (h ++ command_with (bytes_of qs) command ∷ []))
  job_leaves moment left_since old new result k (inl at) leaves =
      leaves_more moment left_since old new base h h (h ++ command_with (bytes_of qs) command ∷ []) (front_of h (command_with (bytes_of qs) command)) (leaves_at moment left_since old new base h k h at leaves)
  job_leaves moment left_since old new result k (inr x) leaves = leaves_at moment left_since old new base h k (h ++ command_with (bytes_of qs) command ∷ []) x.0 leaves
