-- A put: its exits.
use Rattle.std.proofs.Common.{◌≡◌, ◌≢◌, ◌≤◌, ◌<◌, ℕ, ◌+◌, ◌*◌, ◌/◌, ◌-◌, Bool, false, true, ◌&&◌, inl, inr, ⊎_elim, List, [], ◌++◌, length, Option, Some, None, refl, sym, ap, ◌∙◌, subst, append-nil, arith, rules, length-append}
use Rattle.std.specs.Prelude.{if◌then◌else◌, is_some, nat_le, not}
use Rattle.std.proofs.lemmas.Bool.{le-leb, lt-leb}
use Rattle.md5.specs.Md5.{md5}
use Rattle.mt_answer.specs.Answer.{Answer, command_of, rows_answer_of}
use Rattle.mt_answer.specs.Judging.{is_put_object, len_of, refusal_of, stored_asked, stored_len}
use Rattle.mt_answer.specs.Laws.{body_len}
use Rattle.mt_answer.proofs.AnswersRead.{full_read, refused_read, storing_read}
use Rattle.mt_answer.proofs.Whole.{rows_at}
use Rattle.mt_base.specs.Lists.{IsPrefixOf}
use Rattle.mt_body.specs.Stored.{bytes_of, pieces_size, pieces_that_fit}
use Rattle.mt_body.proofs.Keeping.{length-bytes_of}
use Rattle.mt_cond.specs.Conditions.{conditions_of}
use Rattle.mt_disk.specs.Files.{Files}
use Rattle.mt_edge.specs.Stream.{LeftAfter}
use Rattle.mt_opening.specs.Current.{EngineState, IsCurrent}
use Rattle.mt_opening.specs.History.{Bytes, History}
use Rattle.mt_opening.proofs.Held.{Holding}
use Rattle.mt_error.specs.Refusals.{plain}
use Rattle.mt_error.specs.declared.code.ErrorCode.TheVariants as error
use Rattle.mt_error.specs.declared.refused.Refused.{Refused}
use Rattle.mt_http.specs.declared.message.Ending.TheVariants as ending
use Rattle.mt_http.specs.declared.stage.Stage.{Stage}
use Rattle.mt_http.specs.declared.stage.Stage.TheVariants as at
use Rattle.mt_log.specs.RunState.{RunState}
use Rattle.mt_model.specs.Bodies.{state_with}
use Rattle.mt_model.specs.CommandStep.{replay}
use Rattle.mt_model.specs.Rows.{Rows}
use Rattle.mt_model.specs.State.{State}
use Rattle.mt_reply.specs.Replies.{error_reply}
use Rattle.mt_request.specs.declared.asked.Asked.{Asked as HeadAsks}
use Rattle.mt_request.specs.declared.request.Doing.{Doing}
use Rattle.mt_request.specs.declared.request.Doing.TheVariants as doing
use Rattle.mt_types.specs.declared.body.Body.{Body}
use Rattle.mt_api.specs.Answered.{Asked, answer_at, left_behind, used}
use Rattle.mt_api.specs.Steps.{Adds, EndsWith, Goes, HasNoRoom, IsAll, IsCallOf, IsFront, IsReady, IsWhole, Settles, StoresBody, refusal, without_room}
use Rattle.mt_api.specs.declared.answered.Answered.{Answered}
use Rattle.mt_api.specs.declared.answered.Answered.TheVariants as answered
use Rattle.mt_api.specs.declared.call.Call.{Call}

-- ---- sizes

-- pieces of all bytes, where they have room
pub all_fit : (limit before len : ℕ) → before + pieces_size len ≤ limit → pieces_that_fit limit before len ≡ pieces_size len
all_fit limit before len fits = ap (λ (b : Bool). if b then pieces_size len else 65558 * ((limit - before) / 65558)) (le-leb (before + pieces_size len) limit fits)

none_fit : (limit before len : ℕ) → limit < before + pieces_size len → pieces_that_fit limit before len ≡ 65558 * ((limit - before) / 65558)
none_fit limit before len full = ap (λ (b : Bool). if b then pieces_size len else 65558 * ((limit - before) / 65558)) (lt-leb (before + pieces_size len) limit full)

pub pieces_rise : (a b : ℕ) → a ≤ b → pieces_size a ≤ pieces_size b
pieces_rise a b less = omega arith

-- as many pieces have room of more bytes
pub same_fit : (limit before a b : ℕ) → limit < before + pieces_size a → a ≤ b → pieces_that_fit limit before a ≡ pieces_that_fit limit before b
same_fit limit before a b full less = none_fit limit before a full ∙ sym (none_fit limit before b (omega (arith, full, pieces_rise a b less)))

over_none : (limit before : ℕ) → limit ≤ before → 65558 * ((limit - before) / 65558) ≡ 0
over_none limit before over = omega arith

nothing_by : (limit before : ℕ) (b : Bool) → nat_le (before + pieces_size 0) limit ≡ b → pieces_that_fit limit before 0 ≡ 0
nothing_by limit before true is = ap (λ (x : Bool). if x then pieces_size 0 else 65558 * ((limit - before) / 65558)) is
nothing_by limit before false is =
    ap (λ (x : Bool). if x then pieces_size 0 else 65558 * ((limit - before) / 65558)) is ∙ over_none limit before (grind (arith, rules, is))

-- nothing has its room, also over the limit
pub nothing_fits : (limit before : ℕ) → pieces_that_fit limit before 0 ≡ 0
nothing_fits limit before = nothing_by limit before (nat_le (before + pieces_size 0) limit) refl

-- what a run has taken that began at the gate
pub part_next : (limit before next next' len : ℕ) → next' ≡ next + pieces_that_fit limit (next + 1) len → next + 1 ≡ before → next' + 1 ≡ before + pieces_that_fit limit before len
part_next limit before next next' len grew fresh =
    let same = ap (λ (n : ℕ). pieces_that_fit limit n len) fresh in
    omega (arith, grew, fresh, same)

-- ---- what is stored

and_left : (a b : Bool) → a && b ≡ true → a ≡ true
and_left true b is = refl
and_left false b is = is

module _ (engine : EngineState) (call : Call) (stores : StoresBody engine call) where
  pub is_put : is_put_object call.request.doing ≡ true
  is_put = and_left (is_put_object call.request.doing) (not (is_some (refusal_of len_of call.request engine.state.rows call.conditions None))) stores

  pub len_is : (n : ℕ) → body_len call.request.doing n ≡ n
  len_is n = ap (λ (b : Bool). if b then n else 0) is_put

put_adds : (rows : Rows Body) (d : Doing) (body : Body) (moment : ℕ) → is_put_object d ≡ true → is_some (command_of rows d body moment) ≡ true
put_adds rows doing.Nothing body moment is = cc
put_adds rows (doing.PutObject p content_type durability metadata) body moment is = refl
put_adds rows (doing.PutDirectory p) body moment is = cc
put_adds rows (doing.PutLink p source) body moment is = refl
put_adds rows (doing.Remove p) body moment is = refl
put_adds rows (doing.Look p page range) body moment is = cc

pub stored_adds : (engine : EngineState) (call : Call) → StoresBody engine call → Adds engine call.request.doing
stored_adds engine call stores body moment = put_adds engine.state.rows call.request.doing body moment (is_put engine call stores)

-- a run that has all of a body is to end with its command, where that isn't refused
pub whole_ready : (seen : Option Files) (engine : EngineState) (run : RunState) (base : State Bytes) (h : History) (qs : List (List ℕ)) (call : Call) (body : Body) (bytes : Bytes) → StoresBody engine call
    → IsWhole seen engine run base h qs body bytes → refusal engine call (Some (md5 bytes)) ≡ None → IsReady seen engine run base h qs call body bytes
whole_ready seen engine run base h qs call body bytes stores w none =
    let len = len_is engine call stores (length bytes) in
    record {
      writing = w.writing;
      none = none;
      stored = λ put. (w.stored, w.reads);
      next = w.next ∙ ap (λ (n : ℕ). used engine + pieces_size n) (sym len);
      fits = ap (λ (n : ℕ). pieces_that_fit engine.log.limit (used engine) n) len ∙ all_fit engine.log.limit (used engine) (length bytes) (omega (arith, w.next, w.fits)) ∙ ap (λ (n : ℕ). pieces_size n) (sym len);
    }

-- what a run with all of a body has taken is what fits
pub whole_next : (seen : Option Files) (engine : EngineState) (run : RunState) (base : State Bytes) (h : History) (qs : List (List ℕ)) (body : Body) (bytes : Bytes) → IsWhole seen engine run base h qs body bytes
    → run.next + 1 ≡ used engine + pieces_that_fit engine.log.limit (used engine) (length bytes)
whole_next seen engine run base h qs body bytes w =
    w.next ∙ ap (λ (n : ℕ). used engine + n) (sym (all_fit engine.log.limit (used engine) (length bytes) (omega (arith, w.next, w.fits))))

-- and so it is where more came that has no room
pub lacking_next : (seen : Option Files) (engine : EngineState) (run : RunState) (base : State Bytes) (h : History) (qs : List (List ℕ)) (bytes more : Bytes) → HasNoRoom seen engine run base h qs bytes
    → run.next + 1 ≡ used engine + pieces_that_fit engine.log.limit (used engine) (length (bytes ++ more))
lacking_next seen engine run base h qs bytes more w =
    w.next ∙ ap (λ (n : ℕ). used engine + n) (same_fit engine.log.limit (used engine) (length bytes) (length (bytes ++ more)) w.full (omega (arith, length-append bytes more)))

pub lacking_full : (seen : Option Files) (engine : EngineState) (run : RunState) (base : State Bytes) (h : History) (qs : List (List ℕ)) (bytes more : Bytes) → HasNoRoom seen engine run base h qs bytes
    → engine.log.limit < used engine + pieces_size (length (bytes ++ more))
lacking_full seen engine run base h qs bytes more w =
    omega (arith, w.full, pieces_rise (length bytes) (length (bytes ++ more)) (omega (arith, length-append bytes more)))

-- ---- over a history

module _ (engine : EngineState) (base : State Bytes) (h : History) (qs : List (List ℕ)) (holds : Holding qs engine.state base h) (asked : Asked) (call : Call) (e : IsCallOf asked engine call) where
  state_is : state_with (bytes_of qs) engine.state ≡ replay base h
  state_is = holds.state

  pub at_state : (bytes : Bytes) → answer_at asked engine (replay base h) bytes ≡ rows_answer_of call.request engine.log.limit (state_with (bytes_of qs) engine.state) (used engine) asked.head bytes asked.moment
  at_state bytes =
      ap (λ (s : State Bytes). answer_at asked engine s bytes) (sym state_is)
      ∙ rows_at asked.login engine.log.limit (state_with (bytes_of qs) engine.state) (used engine) asked.head call.request bytes asked.moment e.asks

  -- a request is refused by its digest
  pub refused_answer : (bytes : Bytes) (r : Refused) → refusal engine call (Some (md5 bytes)) ≡ Some r
      → answer_at asked engine (replay base h) bytes ≡ record { reply = error_reply call.stamp r; added = []; grew = pieces_that_fit engine.log.limit (used engine) (stored_len len_of call.request engine.state.rows call.conditions (length bytes)) }
  refused_answer bytes r is =
      let is' = subst (λ (x : Call). refusal engine x (Some (md5 bytes)) ≡ Some r) e.is is in
      subst (λ (x : Call). answer_at asked engine (replay base h) bytes ≡ record { reply = error_reply x.stamp r; added = []; grew = pieces_that_fit engine.log.limit (used engine) (stored_len len_of x.request engine.state.rows x.conditions (length bytes)) }) (sym e.is)
      (at_state bytes ∙ refused_read (bytes_of qs) (length-bytes_of qs) call.request engine.log.limit engine.state (used engine) asked.head bytes asked.moment r is')

  -- what stays of a body of these bytes
  pub left_is : (bytes : Bytes) → left_behind asked engine (replay base h) bytes ≡ pieces_that_fit engine.log.limit (used engine) (stored_len len_of call.request engine.state.rows call.conditions (length bytes))
  left_is bytes =
      subst (λ (x : Call). left_behind asked engine (replay base h) bytes ≡ pieces_that_fit engine.log.limit (used engine) (stored_len len_of x.request engine.state.rows x.conditions (length bytes))) (sym e.is)
      (ap (λ (s : State Bytes). left_behind asked engine s bytes) (sym state_is)
      ∙ ap (λ (a : HeadAsks). pieces_that_fit engine.log.limit (used engine) (stored_asked length a (state_with (bytes_of qs) engine.state).rows (conditions_of asked.head.fields) (length bytes))) e.asks
      ∙ ap (λ (b : Bool). pieces_that_fit engine.log.limit (used engine) (if b then length bytes else 0)) (storing_read (bytes_of qs) (length-bytes_of qs) call.request engine.state.rows (conditions_of asked.head.fields)))

  module _ (stores : StoresBody engine call) where
    pub stored_is : (n : ℕ) → stored_len len_of call.request engine.state.rows call.conditions n ≡ n
    stored_is n = ap (λ (b : Bool). if b then n else 0) stores

    -- it is refused, and the pieces of all bytes that had room stay
    pub stored_refused : (bytes : Bytes) (r : Refused) → refusal engine call (Some (md5 bytes)) ≡ Some r
        → answer_at asked engine (replay base h) bytes ≡ record { reply = error_reply call.stamp r; added = []; grew = pieces_that_fit engine.log.limit (used engine) (length bytes) }
    stored_refused bytes r is =
        refused_answer bytes r is ∙ ap (λ (n : ℕ). record { reply = error_reply call.stamp r; added = []; grew = pieces_that_fit engine.log.limit (used engine) n }) (stored_is (length bytes))

    full_refused : (bytes : Bytes) → refusal engine call (Some (md5 bytes)) ≡ None → engine.log.limit < used engine + pieces_size (length bytes)
        → answer_at asked engine (replay base h) bytes ≡ record { reply = error_reply call.stamp (plain error.NotEnoughSpace); added = []; grew = pieces_that_fit engine.log.limit (used engine) (length bytes) }
    full_refused bytes none full =
        let none' = subst (λ (x : Call). refusal engine x (Some (md5 bytes)) ≡ None) e.is none in
        let stores' = subst (λ (x : Call). StoresBody engine x) e.is stores in
        subst (λ (x : Call). answer_at asked engine (replay base h) bytes ≡ record { reply = error_reply x.stamp (plain error.NotEnoughSpace); added = []; grew = pieces_that_fit engine.log.limit (used engine) (length bytes) }) (sym e.is)
        (at_state bytes ∙ full_read (bytes_of qs) (length-bytes_of qs) call.request engine.log.limit engine.state (used engine) asked.head bytes asked.moment stores' none' full)

    -- a body without room
    pub without_room_refused : (bytes : Bytes) → (r : Option Refused) → refusal engine call (Some (md5 bytes)) ≡ r → engine.log.limit < used engine + pieces_size (length bytes)
        → answer_at asked engine (replay base h) bytes ≡ record { reply = error_reply call.stamp (without_room r); added = []; grew = pieces_that_fit engine.log.limit (used engine) (length bytes) }
    without_room_refused bytes None is full = full_refused bytes is full
    without_room_refused bytes (Some r) is full = stored_refused bytes r is

    pub stays_left : (bytes : Bytes) → left_behind asked engine (replay base h) bytes ≡ pieces_that_fit engine.log.limit (used engine) (length bytes)
    stays_left bytes = left_is bytes ∙ ap (λ (n : ℕ). pieces_that_fit engine.log.limit (used engine) n) (stored_is (length bytes))

-- ---- exits

-- an answer that was given once the body was whole
pub settles_goes : (result : Answered) (asked : Asked) (engine : EngineState) (base : State Bytes) (h : History) (left : Option (List ℕ)) (stage' : Stage) (seen' : Option Files) (engine' : EngineState) (k : History) (bytes : Bytes)
    → IsAll left bytes → stage' ≡ at.Over ending.Whole → Settles result (answer_at asked engine (replay base h) bytes) (used engine) base h seen' engine' k → Goes result asked engine base h left stage' seen' engine' k
settles_goes (answered.Replied reply) asked engine base h left stage' seen' engine' k bytes all over settles = (bytes, all, settles)
settles_goes (answered.Unfinished e) asked engine base h left stage' seen' engine' k bytes all over settles = absurd settles
settles_goes answered.SourceFault asked engine base h left stage' seen' engine' k bytes all over settles = absurd settles
settles_goes answered.Disk asked engine base h left stage' seen' engine' k bytes all over settles = (settles.0, ⊎_elim (λ at. inl at) (λ at. inr (bytes, all, over, at)) settles.1)
settles_goes answered.Memory asked engine base h left stage' seen' engine' k bytes all over settles = settles

-- what is answered where nothing is done
abbrev pub Stops : Answered → Option (List ℕ) → Bytes → Type 0
Stops (answered.Replied reply) left bytes = ⊥
Stops (answered.Unfinished e) left bytes = IsAll left bytes
Stops answered.SourceFault left bytes = IsFront left bytes
Stops answered.Disk left bytes = ⊥
Stops answered.Memory left bytes = Unit {0}

module _ (asked : Asked) (engine : EngineState) (base : State Bytes) (h : History) (left : Option (List ℕ)) (stage' : Stage) (seen' : Option Files) (bytes : Bytes) where
  pub stops_goes : (answer : Answered) (engine' : EngineState) → Stops answer left bytes → IsCurrent seen' engine' base h → used engine' ≡ used engine + left_behind asked engine (replay base h) bytes
      → Goes answer asked engine base h left stage' seen' engine' h
  stops_goes (answered.Replied reply) engine' stops current grew = absurd stops
  stops_goes (answered.Unfinished e) engine' stops current grew = (refl, (bytes, stops, record { current = current; grew = grew }))
  stops_goes answered.SourceFault engine' stops current grew = (refl, (bytes, stops, record { current = current; grew = grew }))
  stops_goes answered.Disk engine' stops current grew = absurd stops
  stops_goes answered.Memory engine' stops current grew = (refl, λ is_open. current)

  -- and once the run is ended
  pub ended_goes : (result answer : Answered) (run : RunState) (from engine' : EngineState) → Stops answer left bytes → EndsWith result answer from run engine' → (result ≢ answered.Disk → IsCurrent seen' engine' base h)
      → answer ≢ answered.Disk → run.next + 1 ≡ used engine + left_behind asked engine (replay base h) bytes → Goes result asked engine base h left stage' seen' engine' h
  ended_goes result answer run from engine' stops (inl e) current no_fault next =
      subst (λ (r : Answered). Goes r asked engine base h left stage' seen' engine' h) (sym e.0)
      (stops_goes answer engine' stops (current (λ d. no_fault (sym e.0 ∙ d))) (ap used e.1 ∙ next))
  ended_goes result answer run from engine' stops (inr e) current no_fault next =
      subst (λ (r : Answered). Goes r asked engine base h left stage' seen' engine' h) (sym e.0) (ap (λ (x : EngineState). x.log.closed) e.1, inl refl)

-- the history goes on from that of before
pub goes_on : (result : Answered) (asked : Asked) (engine : EngineState) (base : State Bytes) (h : History) (left : Option (List ℕ)) (stage' : Stage) (seen' : Option Files) (engine' : EngineState) (k : History)
    → Goes result asked engine base h left stage' seen' engine' k → IsPrefixOf h k
goes_on (answered.Replied reply) asked engine base h left stage' seen' engine' k goes = ((answer_at asked engine (replay base h) goes.0).added, sym goes.2.history)
goes_on (answered.Unfinished e) asked engine base h left stage' seen' engine' k goes = ([], append-nil h ∙ sym goes.0)
goes_on answered.SourceFault asked engine base h left stage' seen' engine' k goes = ([], append-nil h ∙ sym goes.0)
goes_on answered.Disk asked engine base h left stage' seen' engine' k goes =
    ⊎_elim (λ at. ([], append-nil h ∙ sym at)) (λ at. ((answer_at asked engine (replay base h) at.0).added, sym at.3)) goes.1
goes_on answered.Memory asked engine base h left stage' seen' engine' k goes = ([], append-nil h ∙ sym goes.0)

-- and so it does from an answer
pub settles_on : (result : Answered) (answer : Answer Bytes) (before : ℕ) (base : State Bytes) (h : History) (seen' : Option Files) (engine' : EngineState) (k : History)
    → Settles result answer before base h seen' engine' k → IsPrefixOf h k
settles_on (answered.Replied reply) answer before base h seen' engine' k settles = (answer.added, sym settles.history)
settles_on (answered.Unfinished e) answer before base h seen' engine' k settles = absurd settles
settles_on answered.SourceFault answer before base h seen' engine' k settles = absurd settles
settles_on answered.Disk answer before base h seen' engine' k settles = ⊎_elim (λ at. ([], append-nil h ∙ sym at)) (λ at. (answer.added, sym at)) settles.1
settles_on answered.Memory answer before base h seen' engine' k settles = ([], append-nil h ∙ sym settles.0)

-- a call over an engine that is the same
pub call_there : (asked : Asked) (engine engine' : EngineState) (call : Call) → engine ≡ engine' → IsCallOf asked engine call → IsCallOf asked engine' call
call_there asked engine engine' call same is = subst (λ (x : EngineState). IsCallOf asked x call) same is

-- nothing was read yet
pub none_taken : (left : Option (List ℕ)) → LeftAfter left [] left
none_taken None = refl
none_taken (Some r) = refl
