-- A command that ends a run, and the answer to it.
use Rattle.std.proofs.Common.{◌≡◌, ◌≢◌, ◌⊎◌, ◌≤◌, ◌<◌, ℕ, ◌+◌, Bool, false, true, inl, inr, ⊎_elim, List, [], ◌∷◌, ◌++◌, length, Option, Some, None, refl, sym, ap, ◌∙◌, subst, arith}
use Rattle.std.proofs.lemmas.Option.{same_Some}
use Rattle.md5.specs.Md5.{md5}
use Rattle.mt_answer.specs.Answer.{Answer, command_of, link_reply, make_command, reply_to, rows_answer_of, stamp_of}
use Rattle.mt_answer.specs.Judging.{is_put_object, len_of, md5_of}
use Rattle.mt_answer.specs.Laws.{IsDigested, body_len}
use Rattle.mt_answer.proofs.Exits.{added_read, full_command_read}
use Rattle.mt_answer.proofs.Whole.{rows_at}
use Rattle.mt_body.specs.Growth.{growth}
use Rattle.mt_body.specs.Stored.{IsStored, bytes_of, pieces_size, pieces_that_fit}
use Rattle.mt_body.proofs.Keeping.{length-bytes_of}
use Rattle.mt_codec.specs.Pieces.{blank_body, spelled_size}
use Rattle.mt_codec.specs.Spelling.{spelling}
use Rattle.mt_codec.proofs.SizesRead.{same_size}
use Rattle.mt_cond.specs.Conditions.{conditions_of}
use Rattle.mt_cond.specs.declared.conditions.Conditions.{Conditions}
use Rattle.mt_disk.specs.Files.{Files}
use Rattle.mt_disk.specs.CrashModel.{LeavesOnly}
use Rattle.mt_opening.specs.Current.{EngineState, IsBetween, IsCurrent}
use Rattle.mt_opening.specs.History.{Bytes, History}
use Rattle.mt_opening.proofs.Held.{holding_in}
use Rattle.mt_engine.specs.Accepting.{Decided, Reaches, Takes}
use Rattle.mt_engine.specs.declared.engine.Accepted.{Accepted}
use Rattle.mt_engine.specs.declared.engine.Accepted.TheVariants as accepted
use Rattle.mt_engine.proofs.Ends.{front_of}
use Rattle.mt_error.specs.Refusals.{plain}
use Rattle.mt_error.specs.declared.code.ErrorCode.TheVariants as error
use Rattle.mt_log.specs.RunState.{RunState, size_with_run}
use Rattle.mt_model.specs.Bodies.{OfCommand, state_with}
use Rattle.mt_model.specs.CommandStep.{replay}
use Rattle.mt_model.specs.Rows.{Rows, at, is_directory, object_at}
use Rattle.mt_model.specs.State.{State}
use Rattle.mt_model.proofs.Held.{state_weaker}
use Rattle.mt_path.specs.AccountPath.{AccountPath}
use Rattle.mt_reply.specs.Replies.{error_reply}
use Rattle.mt_reply.specs.declared.stamp.Stamp.{Stamp}
use Rattle.mt_request.specs.declared.request.Doing.{Doing}
use Rattle.mt_request.specs.declared.request.Doing.TheVariants as doing
use Rattle.mt_types.specs.Values.{command_with, reply_with}
use Rattle.mt_types.specs.declared.body.Body.{Body}
use Rattle.mt_types.specs.declared.command.Command.{Command}
use Rattle.mt_types.specs.declared.limits.TheConstants.{MOST_COMMANDS}
use Rattle.mt_types.specs.declared.object.Object.{Object}
use Rattle.mt_types.specs.declared.reply.Reply.{Reply}
use Rattle.mt_api.specs.Answered.{Asked, Gives, answer_at, used}
use Rattle.mt_api.specs.Steps.{IsCallOf, IsHeld, IsReady, Replies, Settles, call_of}
use Rattle.mt_api.specs.declared.answered.Answered.{Answered}
use Rattle.mt_api.specs.declared.call.Call.{Call}
use Rattle.mt_api.proofs.Ends.{held_same, leaves_at, leaves_more, refused_settles}

-- ---- what is done

make_brings : (P : Body → Type 0) (stands : Bool) (p : AccountPath) (moment : ℕ) (command : Command Body) → make_command stands p moment ≡ Some command → OfCommand P command
make_brings P true p moment command is = cc
make_brings P false p moment command is = subst (OfCommand P) (same_Some _ _ is) tt

-- a command brings no body but that of a put
pub brings : (P : Body → Type 0) (rows : Rows Body) (d : Doing) (body : Body) (moment : ℕ) (command : Command Body) → command_of rows d body moment ≡ Some command
    → (is_put_object d ≡ true → P body) → OfCommand P command
brings P rows doing.Nothing body moment command is put = cc
brings P rows (doing.PutObject p content_type durability metadata) body moment command is put = subst (OfCommand P) (same_Some _ _ is) (put refl)
brings P rows (doing.PutDirectory p) body moment command is put = make_brings P (is_directory (at rows p)) p moment command is
brings P rows (doing.PutLink p source) body moment command is put = subst (OfCommand P) (same_Some _ _ is) tt
brings P rows (doing.Remove p) body moment command is put = subst (OfCommand P) (same_Some _ _ is) tt
brings P rows (doing.Look p page range) body moment command is put = cc

held_link : (stamp : Stamp) (o : Option (Object Body)) → IsHeld (link_reply md5_of stamp o).body
held_link stamp None = tt
held_link stamp (Some o) = tt

-- the reply to a command has its bytes at hand
pub held_reply : (stamp : Stamp) (count : ℕ) (rows : Rows Body) (c : Conditions) (d : Doing) (sum : List ℕ) (body : Body) (moment : ℕ) (command : Command Body) → command_of rows d body moment ≡ Some command
    → IsHeld (reply_to len_of md5_of stamp count rows c d sum).body
held_reply stamp count rows c doing.Nothing sum body moment command is = tt
held_reply stamp count rows c (doing.PutObject p content_type durability metadata) sum body moment command is = tt
held_reply stamp count rows c (doing.PutDirectory p) sum body moment command is = tt
held_reply stamp count rows c (doing.PutLink p source) sum body moment command is = held_link stamp (object_at rows source)
held_reply stamp count rows c (doing.Remove p) sum body moment command is = tt
held_reply stamp count rows c (doing.Look p page range) sum body moment command is = cc

-- only a put asks for the digest of its body
pub sum_free : (stamp : Stamp) (count : ℕ) (rows : Rows Body) (c : Conditions) (d : Doing) (sum sum' : List ℕ) → (is_put_object d ≡ true → sum ≡ sum')
    → reply_to len_of md5_of stamp count rows c d sum ≡ reply_to len_of md5_of stamp count rows c d sum'
sum_free stamp count rows c doing.Nothing sum sum' same = refl
sum_free stamp count rows c (doing.PutObject p content_type durability metadata) sum sum' same =
    ap (λ (x : List ℕ). reply_to len_of md5_of stamp count rows c (doing.PutObject p content_type durability metadata) x) (same refl)
sum_free stamp count rows c (doing.PutDirectory p) sum sum' same = refl
sum_free stamp count rows c (doing.PutLink p source) sum sum' same = refl
sum_free stamp count rows c (doing.Remove p) sum sum' same = refl
sum_free stamp count rows c (doing.Look p page range) sum sum' same = refl

pub size_is : (c : Command Body) → length (spelling c) ≡ spelled_size c
unfolding spelled_size
size_is c = sym (same_size (λ b. blank_body) c)

-- where nothing was added and the disk hasn't failed, the history is that of before
pub reached_none : (result : Accepted) (engine : EngineState) (run : RunState) (command : Command Body) (c : Command Bytes) (h k : History) → result ≢ accepted.Added → result ≢ accepted.Disk
    → Reaches result engine run command c h k → k ≡ h
reached_none result engine run command c h k added disk (inl e) = e
reached_none result engine run command c h k added disk (inr x) = ⊎_elim (λ a. absurd (added a)) (λ d. absurd (disk d)) x.2

-- ---- the exits of an answer with a command

module _ (seen : Option Files) (engine : EngineState) (run : RunState) (base : State Bytes) (h : History) (qs : List (List ℕ)) (asked : Asked) (call : Call) (body : Body) (bytes : Bytes) (e : IsCallOf asked engine call)
    (ready : IsReady seen engine run base h qs call body bytes) (command : Command Body) (command_is : command_of engine.state.rows call.request.doing body call.stamp.moment ≡ Some command) where
  w : IsReady seen engine run base h qs (call_of asked call.request engine) body bytes
  w = subst (λ (x : Call). IsReady seen engine run base h qs x body bytes) e.is ready

  is : command_of engine.state.rows call.request.doing body asked.moment ≡ Some command
  is = subst (λ (x : Call). command_of engine.state.rows x.request.doing body x.stamp.moment ≡ Some command) e.is command_is

  digested : IsDigested (bytes_of qs) engine.state
  digested = state_weaker (IsStored qs) (λ b. b.md5 ≡ md5 (bytes_of qs b)) (λ b i. i.digest) engine.state (holding_in seen engine base h run qs w.writing).stored

  at_state : answer_at asked engine (replay base h) bytes ≡ rows_answer_of call.request engine.log.limit (state_with (bytes_of qs) engine.state) (used engine) asked.head bytes asked.moment
  at_state =
      ap (λ (s : State Bytes). answer_at asked engine s bytes) (sym (holding_in seen engine base h run qs w.writing).state)
      ∙ rows_at asked.login engine.log.limit (state_with (bytes_of qs) engine.state) (used engine) asked.head call.request bytes asked.moment e.asks

  len : ℕ
  len = body_len call.request.doing (length bytes)

  abbrev reply_of : Reply Body
  reply_of = reply_to len_of md5_of (stamp_of asked.head (engine.state.count + 1) asked.moment) engine.state.count engine.state.rows (conditions_of asked.head.fields) call.request.doing (md5 bytes)

  room : Takes engine run command → used engine + growth (pieces_size (body_len call.request.doing (length bytes))) command ≤ engine.log.limit
  room takes = omega (arith, takes.fits, w.next, size_is command)

  added : Takes engine run command → answer_at asked engine (replay base h) bytes ≡ record {
    reply = reply_with (bytes_of qs) (reply_to len_of md5_of (stamp_of asked.head (engine.state.count + 1) asked.moment) engine.state.count engine.state.rows (conditions_of asked.head.fields) call.request.doing (md5 bytes));
    added = command_with (bytes_of qs) command ∷ [];
    grew = growth (pieces_size (body_len call.request.doing (length bytes))) command;
  }
  added takes =
      at_state ∙ added_read (bytes_of qs) (length-bytes_of qs) call.request engine.log.limit engine.state (used engine) asked.head body bytes asked.moment digested w.none (λ put. (w.stored put).1) command is takes.few (room takes)

  full : (engine.state.count ≡ MOST_COMMANDS) ⊎ (engine.log.limit < size_with_run run (length (spelling command)))
      → (MOST_COMMANDS ≤ engine.state.count) ⊎ (engine.log.limit < used engine + growth (pieces_size (body_len call.request.doing (length bytes))) command)
  full (inl many) = inl (omega (arith, many))
  full (inr over) = inr (omega (arith, over, w.next, size_is command))

  pub brings_stored : OfCommand (IsStored qs) command
  brings_stored = brings (IsStored qs) engine.state.rows call.request.doing body asked.moment command is (λ put. (w.stored put).0)

  -- the command was added
  pub gives_added : (reply : Reply Body) (seen' : Option Files) (engine' : EngineState)
      → reply ≡ reply_to len_of md5_of (record call.stamp { position = engine.state.count + 1 }) engine.state.count engine.state.rows call.conditions call.request.doing body.md5
      → Decided accepted.Added engine run command engine' → IsCurrent seen' engine' base (h ++ command_with (bytes_of qs) command ∷ [])
      → Gives reply (answer_at asked engine (replay base h) bytes) (used engine) base h seen' engine' (h ++ command_with (bytes_of qs) command ∷ [])
  gives_added reply seen' engine' says decided current =
      let is_added = added decided.0 in
      let says' : reply ≡ reply_to len_of md5_of (stamp_of asked.head (engine.state.count + 1) asked.moment) engine.state.count engine.state.rows (conditions_of asked.head.fields) call.request.doing body.md5 =
      subst (λ (x : Call). reply ≡ reply_to len_of md5_of (record x.stamp { position = engine.state.count + 1 }) engine.state.count engine.state.rows x.conditions x.request.doing body.md5) e.is says in
      let says'' : reply ≡ reply_of =
      says' ∙ sum_free (stamp_of asked.head (engine.state.count + 1) asked.moment) engine.state.count engine.state.rows (conditions_of asked.head.fields) call.request.doing body.md5 (md5 bytes)
      (λ put. (w.stored put).0.digest ∙ ap md5 (w.stored put).1) in
      let held = held_reply (stamp_of asked.head (engine.state.count + 1) asked.moment) engine.state.count engine.state.rows (conditions_of asked.head.fields) call.request.doing (md5 bytes) body asked.moment command is in
      record {
        history = ap (λ (a : Answer Bytes). h ++ a.added) (sym is_added);
        current = current;
        grew = let at : used engine' ≡ used engine + growth (pieces_size (body_len call.request.doing (length bytes))) command = omega (arith, ap used decided.1, w.next, size_is command) in
            at ∙ ap (λ (a : Answer Bytes). used engine + a.grew) (sym is_added);
        shows = λ ps there. ap (λ (r : Reply Body). reply_with (bytes_of ps) r) says'' ∙ held_same (bytes_of ps) (bytes_of qs) reply_of held ∙ ap (λ (a : Answer Bytes). a.reply) (sym is_added);
      }

  -- it has no room
  pub settles_full : (result : Answered) (seen' : Option Files) (engine' : EngineState) → Replies result (error_reply call.stamp (plain error.NotEnoughSpace)) → Decided accepted.Full engine run command engine' → IsCurrent seen' engine' base h
      → Settles result (answer_at asked engine (replay base h) bytes) (used engine) base h seen' engine' h
  settles_full result seen' engine' says decided current =
      let is_full = at_state ∙ full_command_read (bytes_of qs) (length-bytes_of qs) call.request engine.log.limit engine.state (used engine) asked.head body bytes asked.moment digested w.none (λ put. (w.stored put).1) command is (full decided.1) in
      let says' = subst (λ (x : Call). Replies result (error_reply x.stamp (plain error.NotEnoughSpace))) e.is says in
      subst (λ (a : Answer Bytes). Settles result a (used engine) base h seen' engine' h) (sym is_full)
      (refused_settles (stamp_of asked.head engine.state.count asked.moment) (plain error.NotEnoughSpace) (used engine) (pieces_that_fit engine.log.limit (used engine) (body_len call.request.doing (length bytes))) base h seen'
      result engine' says' (λ n. current) (ap used decided.2 ∙ w.next ∙ ap (λ (n : ℕ). used engine + n) (sym w.fits)))

  -- it may stand or not
  pub reaches_added : (result : Accepted) (k : History) → Reaches result engine run command (command_with (bytes_of qs) command) h k → (k ≡ h) ⊎ (k ≡ h ++ (answer_at asked engine (replay base h) bytes).added)
  reaches_added result k (inl at) = inl at
  reaches_added result k (inr x) = inr (x.0 ∙ ap (λ (a : Answer Bytes). h ++ a.added) (sym (added x.1)))

  -- each moment leaves a front of the history with it
  pub leaves_added : {D : Type 0} (moment : D → ℕ) (left_since : D → ℕ → Files → Type 0) (old new : D) (result : Accepted) (k : History) → Reaches result engine run command (command_with (bytes_of qs) command) h k
      → LeavesOnly moment left_since old new (IsBetween base h k) → LeavesOnly moment left_since old new (IsBetween base h (h ++ command_with (bytes_of qs) command ∷ []))
  leaves_added moment left_since old new result k (inl at) leaves =
      leaves_more moment left_since old new base h h (h ++ command_with (bytes_of qs) command ∷ []) (front_of h (command_with (bytes_of qs) command)) (leaves_at moment left_since old new base h k h at leaves)
  leaves_added moment left_since old new result k (inr x) leaves = leaves_at moment left_since old new base h k (h ++ command_with (bytes_of qs) command ∷ []) x.0 leaves
