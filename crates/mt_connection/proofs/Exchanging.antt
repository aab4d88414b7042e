-- The exits of one message, over what a link and an account had before it and have now.
use Rattle.std.proofs.Common.{◌≡◌, ℕ, ◌≤◌, [], Option, Some, None, true, false, inl, inr, ◌⊎◌, refl, ap, sym, subst, arith}
use Rattle.std.specs.Prelude.{IfSome, is_some}
use Rattle.std.proofs.lemmas.Option.{IfSome_then}
use Rattle.mt_base.specs.Counts.{NeverFell, Rose}
use Rattle.mt_base.specs.Lists.{IsPrefixOf}
use Rattle.mt_disk.specs.Files.{Files}
use Rattle.mt_edge.specs.Stream.{GotMore}
use Rattle.mt_edge.proofs.Streams.{got_nothing}
use Rattle.mt_opening.specs.Current.{EngineState, HasNearly, Over}
use Rattle.mt_opening.specs.History.{Bytes, HasHistory, History, position}
use Rattle.mt_error.specs.declared.code.ErrorCode.{ErrorCode}
use Rattle.mt_error.specs.declared.code.ErrorCode.TheVariants as error
use Rattle.mt_http.specs.Body.{first_state}
use Rattle.mt_http.specs.Framing.{Place, PlaceAt, limit_of}
use Rattle.mt_http.specs.Options.{closes, interim}
use Rattle.mt_http.specs.declared.message.Ending.TheVariants as ending
use Rattle.mt_http.specs.declared.message.Head.{Head}
use Rattle.mt_http.specs.declared.message.MessageEnd.TheVariants as nothing
use Rattle.mt_api.specs.Answered.{said}
use Rattle.mt_api.specs.declared.answered.Answered.TheVariants as answered
use Rattle.mt_model.specs.State.{State}
use Rattle.mt_types.specs.declared.body.Body.{Body}
use Rattle.mt_types.specs.declared.reply.Reply.{Reply}
use Rattle.mt_runner.specs.Account.{AccountSide, NoCountFell, Tasks, account_side, asked_again}
use Rattle.mt_connection.specs.Endings.{AllCameAt, CameAt, Cut, GrewBy, IsInterim, Unanswered, refusal_at, refusal_text}
use Rattle.mt_connection.specs.Sides.{LinkSide, NoneFell, joined}
use Rattle.mt_connection.specs.Steps.{IsBodyOf, Receives, Refuses, Sends, TakesMessage, plain, text_to}
use Rattle.mt_connection.specs.Transcript.{HoldsSince, Setting}
use Rattle.mt_connection.specs.declared.end.ConnectionEnd.TheVariants as ended
use Rattle.mt_connection.specs.declared.end.Step.{Step}
use Rattle.mt_connection.specs.declared.end.Step.TheVariants as step
use Rattle.mt_connection.specs.declared.receive.Received.TheVariants as received
use Rattle.mt_connection.proofs.Conversing.{AnswersAt, bad_body, has_body, large_body, replied, standing, truncated_body}
use Rattle.mt_connection.proofs.Reading.{bad_place, cut_place, is_interim, no_interim, no_request, no_request_in, nothing_said, said_early, unanswered}
use Rattle.mt_connection.proofs.Runs.{no_count_fell_self}
use Rattle.mt_connection.proofs.Steps.{Replying, stepped_cut_early, stepped_disk, stepped_ended, stepped_memory, stepped_refusal, stepped_reply, stepped_truncated, stepped_unread}

-- the position of an engine is that of its history
pub count_is : (seen : Option Files) (engine : EngineState) (base : State Bytes) (h : History) → Over seen engine base h → is_some seen ≡ true → engine.state.count ≡ position base h
count_is None engine base h over knows = let no : false ≡ true = knows in absurd (cc)
count_is (Some files) engine base h over knows = ap (λ s. s.count) (over files refl).is_read.state

-- the clock was asked once, and no count of the disk fell
pub counts_on : (tasks : Tasks) (h k : History) (u u' d d' t t' n n' : ℕ) → NeverFell d d' → t ≤ t' → n' ≡ asked_again n → NoCountFell (account_side h u d t n tasks) (account_side k u' d' t' n' tasks)
counts_on tasks h k u u' d d' t t' n n' disk time again = record { disk = disk; time = time; asked = omega (arith, again); spawn = omega arith; waits = omega arith; company = omega arith }

-- no head was read, or its interim reply was cut
module _ (s : Setting) (since : ℕ → Files → Type 0) (images : Files → Type 0) (x : AccountSide) (old new : LinkSide) (here : s.knows ≡ true → (c : Files) → images c → HasHistory s.base x.history c) where
  fell_in_head : NeverFell old.read_faults new.read_faults → NeverFell old.write_faults new.write_faults → NoneFell (joined old x) (joined new x)
  fell_in_head read write = record { read = read; write = write; account = no_count_fell_self x }

  pub ended_at : Receives (received.Nothing nothing.End) old new → TakesMessage s since images (joined old x) (step.Over ended.Ended) (joined new x)
  ended_at r = stepped_ended s since images _ _ (fell_in_head r.0.1 (let same = r.2 in omega (arith, same))) here (record { history = refl; used = refl; got = r.1 }) r.0.0

  pub truncated_at : Receives (received.Nothing nothing.Truncated) old new → TakesMessage s since images (joined old x) (step.Over ended.Truncated) (joined new x)
  truncated_at r = stepped_truncated s since images _ _ (fell_in_head r.0.1 (let same = r.2 in omega (arith, same))) here (
    nothing_said (joined old x) (joined new x) r.1 refl,
    (inl refl, IfSome_then old.left r.0.0 (λ bytes cut. no_interim bytes (no_request_in bytes cut))),
    inl (IfSome_then old.left r.0.0 (λ bytes cut. no_request_in bytes cut), refl),
    IfSome_then old.left r.0.0 (λ bytes cut. cut_place bytes cut),
  )

  pub unread_at : Receives (received.Nothing nothing.SourceFault) old new → TakesMessage s since images (joined old x) (step.Over ended.SourceFault) (joined new x)
  unread_at r = stepped_unread s since images _ _ (fell_in_head (let rose = r.0 in omega (arith, rose)) (let same = r.2 in omega (arith, same))) here (nothing_said (joined old x) (joined new x) r.1 refl, inl refl, inl refl, r.0)

  pub memory_at : Receives (received.Nothing nothing.Memory) old new → TakesMessage s since images (joined old x) (step.Over ended.Memory) (joined new x)
  memory_at r = stepped_memory s since images _ _ (fell_in_head r.0 (let same = r.2 in omega (arith, same))) here (nothing_said (joined old x) (joined new x) r.1 refl)

  pub cut_at : Receives received.SinkFault old new → TakesMessage s since images (joined old x) (step.Over ended.SinkFault) (joined new x)
  cut_at r = stepped_cut_early s since images _ _ (fell_in_head r.2 (let rose = r.3 in omega (arith, rose))) here (
    said_early old.left new.left r.0.0 r.0.2 r.0.3 r.0.4 (joined old x) (joined new x) r.1.written refl r.0.1 r.1.front r.1.grew refl,
    refl,
    (r.0.0, r.0.2, r.0.3, r.0.4),
  ) r.3

  pub refused_at : (mid : LinkSide) (asked count moment : ℕ) (result : Step) → asked ≡ asked_again x.asked → (s.knows ≡ true → count ≡ position s.base x.history) → s.moments x.asked moment
      → (s.knows ≡ true → HoldsSince since x.time s.base x.history) → Receives (received.Nothing nothing.Bad) old mid → NeverFell mid.read_faults new.read_faults
      → Refuses (refusal_text error.BadRequest count moment) result mid.got new.got mid.write_faults new.write_faults
      → TakesMessage s since images (joined old x) result (joined new (record x { asked = asked }))
  refused_at mid asked count moment result again position_is given stands r read wrote =
      let none = IfSome_then old.left r.0.0 (λ bytes bad. no_request bytes bad) in
      let same = r.2 in
      let first = r.0.1 in
      stepped_refusal s since images (joined old x) (joined new (record x { asked = asked })) [] (refusal_text error.BadRequest count moment)
      (λ written front sink. (
        record {
          place = Place.Bad;
          code = error.BadRequest;
          count = count;
          moment = moment;
          sent = [];
          written = written;
          here = IfSome_then old.left r.0.0 (λ bytes bad. bad_place bytes bad);
          why = refl;
          position = position_is;
          given = given;
          before = (inl refl, IfSome_then old.left none (λ bytes none. no_interim bytes none));
          front = front;
          sink = sink;
          history = refl;
          stands = record { settled = x.time; from = omega arith; to = omega arith; holds = λ knows some. stands knows };
          pieces = inl (none, refl);
        },
        refl,
        refl,
      ))
      (λ sink. record { sent = []; sink = sink; part = (_, refl); asked_for = inl refl; history = refl })
      here result mid.got mid.write_faults (subst (λ (got : Option Bytes). GotMore old.got [] got) (sym r.1) (got_nothing old.got)) wrote
      (record { read = omega (arith, first, read); write = omega (arith, same); disk = omega arith; time = omega arith; asked = again; tasks = refl })

-- behind a head that was read
module _ (s : Setting) (since : ℕ → Files → Type 0) (images : Files → Type 0) (x x' : AccountSide) (before at mid : LinkSide) (head : Head)
    (r : Receives (received.Head head) before at) (same_got : mid.got ≡ at.got) (same_faults : mid.write_faults ≡ at.write_faults) (read_on : NeverFell at.read_faults mid.read_faults) (fell : NoCountFell x x') where
  said_interim : GotMore before.got (interim head) mid.got
  said_interim = subst (λ (got : Option Bytes). GotMore before.got (interim head) got) (sym same_got) r.1

  fell_in_body : NoneFell (joined before x) (joined mid x')
  fell_in_body = let one = r.2 in let two = r.3 in record { read = omega (arith, one, read_on); write = omega (arith, two, same_faults); account = fell }

  pub disk_in : Rose x.disk_faults x'.disk_faults → Cut s since (joined before x) (joined mid x') ⊎ Unanswered (joined before x) (joined mid x') → (s.knows ≡ true → (c : Files) → images c → HasNearly s.base x'.history c)
      → TakesMessage s since images (joined before x) (step.Over ended.Disk) (joined mid x')
  disk_in rose is nearly = stepped_disk s since images _ _ fell_in_body is rose nearly

  module _ (same : x'.history ≡ x.history) (here : s.knows ≡ true → (c : Files) → images c → HasHistory s.base x'.history c) where
    silent : (u : Unanswered (joined before x) (joined mid x')) × (u.sent ≡ interim head)
    silent = unanswered before.left at.left head r.0.0 r.0.1 r.0.2 (joined before x) (joined mid x') refl said_interim same

    silent_whole : IsInterim before.left silent.0.sent
    silent_whole = subst (λ (text : Bytes). IsInterim before.left text) (sym silent.1) (is_interim before.left at.left head r.0.0 r.0.1 r.0.2)

    pub truncated_in : IfSome (said (first_state head.framing (limit_of head)) at.left) (λ t. t.ending ≡ ending.Truncated) → GrewBy s AllCameAt (joined before x) (joined mid x')
        → TakesMessage s since images (joined before x) (step.Over ended.Truncated) (joined mid x')
    truncated_in ends grew = stepped_truncated s since images _ _ fell_in_body here (
      silent.0,
      silent_whole,
      inr grew,
      IfSome_then before.left (has_body before.left at.left head r.0.0 ending.Truncated r.0.1 r.0.2 ends) (λ bytes b. truncated_body bytes b),
    )

    pub unread_in : Rose at.read_faults mid.read_faults → GrewBy s CameAt (joined before x) (joined mid x') → TakesMessage s since images (joined before x) (step.Over ended.SourceFault) (joined mid x')
    unread_in rose grew = let one = r.2 in stepped_unread s since images _ _ fell_in_body here (silent.0, inr silent_whole, inr grew, omega (arith, one, rose))

    pub memory_in : TakesMessage s since images (joined before x) (step.Over ended.Memory) (joined mid x')
    memory_in = stepped_memory s since images _ _ fell_in_body here silent.0

    -- a refusal behind the interim reply
    module _ (new : LinkSide) (same_rest : NeverFell mid.read_faults new.read_faults) (again : x'.asked ≡ asked_again x.asked) (tasks : x'.tasks ≡ x.tasks) (count moment : ℕ) (position_is : s.knows ≡ true → count ≡ position s.base x.history)
        (given : s.moments x.asked moment) (grew : GrewBy s AllCameAt (joined before x) (joined new x')) (stands : s.knows ≡ true → HoldsSince since x'.time s.base x.history) where
      refused_in : (place : Place) (code : ErrorCode) (result : Step) → refusal_at place ≡ Some code → IfSome before.left (λ bytes. PlaceAt bytes place)
          → Refuses (refusal_text code count moment) result mid.got new.got mid.write_faults new.write_faults → TakesMessage s since images (joined before x) result (joined new x')
      refused_in place code result why there wrote =
          let one = r.2 in
          let two = r.3 in
          let disk = fell.disk in
          let later = fell.time in
          stepped_refusal s since images (joined before x) (joined new x') (interim head) (refusal_text code count moment)
          (λ written front sink. (
            record {
              place = place;
              code = code;
              count = count;
              moment = moment;
              sent = interim head;
              written = written;
              here = there;
              why = why;
              position = position_is;
              given = given;
              before = is_interim before.left at.left head r.0.0 r.0.1 r.0.2;
              front = front;
              sink = sink;
              history = same;
              stands = record { settled = x'.time; from = later; to = omega arith; holds = λ knows some. stands knows };
              pieces = inr grew;
            },
            refl,
            refl,
          ))
          (λ sink. (unanswered before.left at.left head r.0.0 r.0.1 r.0.2 (joined before x) (joined new x') refl sink same).0)
          here result mid.got mid.write_faults said_interim wrote
          (record { read = omega (arith, one, read_on, same_rest); write = omega (arith, two, same_faults); disk = disk; time = later; asked = again; tasks = tasks })

      pub bad_in : (result : Step) → IfSome (said (first_state head.framing (limit_of head)) at.left) (λ t. t.ending ≡ ending.Bad) → Refuses (refusal_text error.BadRequest count moment) result mid.got new.got mid.write_faults new.write_faults
          → TakesMessage s since images (joined before x) result (joined new x')
      bad_in result ends wrote = refused_in Place.Bad error.BadRequest result refl (IfSome_then before.left (has_body before.left at.left head r.0.0 ending.Bad r.0.1 r.0.2 ends) (λ bytes b. bad_body bytes b)) wrote

      pub large_in : (result : Step) → IfSome (said (first_state head.framing (limit_of head)) at.left) (λ t. t.ending ≡ ending.TooLarge)
          → Refuses (refusal_text error.RequestEntityTooLarge count moment) result mid.got new.got mid.write_faults new.write_faults → TakesMessage s since images (joined before x) result (joined new x')
      large_in result ends wrote = refused_in Place.TooLarge error.RequestEntityTooLarge result refl (IfSome_then before.left (has_body before.left at.left head r.0.0 ending.TooLarge r.0.1 r.0.2 ends) (λ bytes b. large_body bytes b)) wrote

-- The message was answered over a disk at mid, and its reply was sent or cut. Here x' is the account at its end, but for its history, and
-- settled is the moment of the answer.
pub answered_in : (slots : ℕ) (moments : ℕ → ℕ → Type 0) (login : Bytes) (base : State Bytes) (h : History) (since : ℕ → Files → Type 0) (images : Files → Type 0) (seen mid_seen seen' : Option Files) (engine engine' : EngineState) (x x' : AccountSide) (mid_d settled : ℕ)
    (before at mid new : LinkSide) (head : Head) → Receives (received.Head head) before at → mid.got ≡ at.got → mid.write_faults ≡ at.write_faults → NeverFell at.read_faults mid.read_faults → NeverFell x.disk_faults mid_d
    → x'.asked ≡ asked_again x.asked → x'.tasks ≡ x.tasks → x.time ≤ settled → settled ≤ x'.time
    → new.left ≡ mid.left → new.read_faults ≡ mid.read_faults → seen' ≡ mid_seen
    → (moment : ℕ) (reply : Reply Body) (result : Step) → moments x.asked moment → is_some mid_seen ≡ is_some seen
    → IfSome (said (first_state head.framing (limit_of head)) at.left) (λ t. (t.ending ≡ ending.Whole) × (mid.left ≡ Some t.rest)) → (at.left ≡ None → mid.left ≡ None)
    → (M : State Bytes → History → History → Type 0) → AnswersAt (answered.Replied reply) (first_state head.framing (limit_of head)) login head moment at.left mid.left seen mid_seen engine engine' M
    → Over seen engine base h
    → (body : Bytes) → IsBodyOf mid_seen reply.body body → Sends (closes head.minor head.fields) (text_to reply body head) result mid.got new.got mid.write_faults new.write_faults mid_d x'.disk_faults
    → ((k : History) → is_some seen ≡ true → Over mid_seen engine' base k → (c : Files) → images c → HasHistory base k c)
    → ((k : History) → is_some seen ≡ true → Over mid_seen engine' base k → HoldsSince since settled base k)
    → (k : History) × TakesMessage (plain (is_some before.left) (is_some seen) moments login slots engine.log.limit base) since images (joined before (standing x h seen engine)) result (joined new (standing x' k seen' engine'))
    × IsPrefixOf h k × Over mid_seen engine' base k × (is_some seen ≡ true → M base h k)
answered_in slots moments login base h since images seen mid_seen seen' engine engine' x x' mid_d settled before at mid new head r same_got same_faults read_on disk_on again tasks from to left_on read_same seen_on moment reply result given told whole none M answers over body is sent here stands =
    let a = replied slots moments login base h before at head r.0 engine engine' moment (record new { left = mid.left }) x x' M seen mid_seen reply given told whole none answers over body is in
    let k : History = a.0 in
    let s : Setting = plain (is_some before.left) (is_some seen) moments login slots engine.log.limit base in
    let reply_on : Replying s (joined before (standing x h seen engine)) (joined new (standing x' k seen' engine')) head (text_to reply body head) =
    subst (λ (o : Option Files). Replying s (joined before (standing x h seen engine)) (joined new (standing x' k o engine')) head (text_to reply body head)) (sym seen_on)
    (subst (λ (left : Option Bytes). Replying s (joined before (standing x h seen engine)) (joined (record new { left = left }) (standing x' k mid_seen engine')) head (text_to reply body head)) (sym left_on) a.1) in
    let one = r.2 in
    let two = r.3 in (
      k,
      stepped_reply s since images (joined before (standing x h seen engine)) (joined new (standing x' k seen' engine')) head (text_to reply body head) reply_on
          (record { settled = settled; from = from; to = to; holds = λ knows. stands k knows a.2 }) (λ k used asked. refl) (λ knows. here k knows a.2) result mid.got mid.write_faults mid_d
          (subst (λ (got : Option Bytes). GotMore before.got (interim head) got) (sym same_got) r.1) sent
          (record { read = omega (arith, one, read_on, read_same); write = omega (arith, two, same_faults); disk = disk_on; time = omega (arith, from, to); asked = again; tasks = tasks }),
      (reply_on.answer.added, sym reply_on.history),
      a.2,
      a.3,
    )
