-- What became of a message whose head was read, by what its request was answered.
use Rattle.std.proofs.Common.{◌≡◌, ℕ, ◌+◌, ◌≤◌, [], ◌++◌, length, Option, Some, None, true, false, inl, inr, ◌⊎◌, refl, ap, sym, subst, ◌∙◌, arith, append-nil, length-append}
use Rattle.std.specs.Prelude.{IfSome, is_some}
use Rattle.std.proofs.lemmas.Option.{IfSome_then}
use Rattle.mt_answer.specs.Whole.{answer_of}
use Rattle.mt_answer.proofs.Whole.{one_command}
use Rattle.mt_api.specs.Answered.{Answers, Hears, MayStand, Shows, said}
use Rattle.mt_api.specs.declared.answered.Answered.{Answered}
use Rattle.mt_api.specs.declared.answered.Answered.TheVariants as answered
use Rattle.mt_base.specs.Lists.{IsPrefixOf}
use Rattle.mt_body.specs.Stored.{bytes_of}
use Rattle.mt_disk.specs.Files.{Files}
use Rattle.mt_edge.specs.Stream.{LeftAfter, GotMore}
use Rattle.mt_opening.specs.Current.{EngineState, IsCurrent, Over, told_size}
use Rattle.mt_opening.specs.History.{Bytes, History}
use Rattle.mt_http.specs.Body.{BodyState, Told, first_state, told_from}
use Rattle.mt_http.specs.Framing.{HasBody, Place, PlaceAt, SpellsHead, body_of, limit_of}
use Rattle.mt_http.specs.Options.{interim}
use Rattle.mt_http.specs.ReplyText.{body_bytes, reply_text, text_with}
use Rattle.mt_http.specs.declared.message.Ending.{Ending}
use Rattle.mt_http.specs.declared.message.Ending.TheVariants as ending
use Rattle.mt_http.specs.declared.message.Head.{Head}
use Rattle.mt_log.specs.LogImage.{payloads_of}
use Rattle.mt_model.specs.CommandStep.{replay}
use Rattle.mt_model.specs.State.{State}
use Rattle.mt_types.specs.Values.{reply_body_with, reply_with}
use Rattle.mt_types.specs.declared.body.Body.{Body}
use Rattle.mt_types.specs.declared.reply.Reply.{Reply}
use Rattle.mt_types.specs.declared.reply.ReplyBody.{ReplyBody}
use Rattle.mt_types.specs.declared.reply.ReplyBody.TheVariants.{Held, Part}
use Rattle.mt_runner.specs.Account.{AccountSide}
use Rattle.mt_connection.specs.Endings.{AllCameAt, CameAt, Cut, GrewBy, Unanswered}
use Rattle.mt_connection.specs.Sides.{LinkSide, Sides, joined}
use Rattle.mt_connection.specs.Steps.{CanBeRead, IsBodyOf, plain, text_to}
use Rattle.mt_connection.specs.Transcript.{Setting, is_head}
use Rattle.mt_connection.proofs.Reading.{all_some, head_at, message_read, of_mapped, unanswered}
use Rattle.mt_connection.proofs.Crashes.{all_of}
use Rattle.mt_connection.proofs.Steps.{Replying, nothing_told}

pub over_none : (engine : EngineState) (base : State Bytes) (h : History) → Over None engine base h
over_none engine base h = λ files is. let no : None ≡ Some files = is in absurd (cc)

true_is_false : true ≡ false → ⊥
true_is_false h = cc

-- the bytes of the body that is told
abbrev body_said : Option Told → Bytes
body_said None = []
body_said (Some t) = t.body

said_so : (o : Option Told) → IfSome o (λ t. t.body ≡ body_said o)
said_so None = tt
said_so (Some t) = refl

-- the bytes that a reply shows
shown_bytes : (files : Files) (b : ReplyBody Body) (bytes : Bytes) → IsBodyOf (Some files) b bytes → body_bytes (reply_body_with (bytes_of (payloads_of files)) b) ≡ bytes
shown_bytes files (Held held) bytes is = sym is
shown_bytes files (Part body from to) bytes is = sym (is.1 (payloads_of files) refl)

shown_text : (files : Files) (reply : Reply Body) (shown : Reply Bytes) (bytes : Bytes) (head : Head) → reply_with (bytes_of (payloads_of files)) reply ≡ shown → IsBodyOf (Some files) reply.body bytes → reply_text shown (is_head head) ≡ text_to reply bytes head
shown_text files reply shown bytes head shows is =
    sym (ap (λ (r : Reply Bytes). reply_text r (is_head head)) shows) ∙ ap (λ (b : Bytes). text_with reply.status reply.fields reply.closes b (is_head head)) (shown_bytes files reply.body bytes is)

-- all that came of a body
all_came : (before at : Option Bytes) (head : Head) (used came : Bytes) → LeftAfter before used at → SpellsHead used head → IfSome (said (first_state head.framing (limit_of head)) at) (λ t. t.body ≡ came) → AllCameAt before head came
all_came before at head used came gone spelled is = head_at before at head used gone spelled (λ rest. (body_of head rest).body ≡ came) (of_mapped (told_from (first_state head.framing (limit_of head))) at (λ t. t.body ≡ came) is)

-- a part of it
some_came : (before at : Option Bytes) (head : Head) (used came : Bytes) → LeftAfter before used at → SpellsHead used head → IfSome (said (first_state head.framing (limit_of head)) at) (λ t. IsPrefixOf came t.body) → CameAt before head came
some_came before at head used came gone spelled is = head_at before at head used gone spelled (λ rest. IsPrefixOf came (body_of head rest).body) (of_mapped (told_from (first_state head.framing (limit_of head))) at (λ t. IsPrefixOf came t.body) is)

-- the place of a message whose body ends so
pub has_body : (before at : Option Bytes) (head : Head) (used : Bytes) (e : Ending) → LeftAfter before used at → SpellsHead used head → IfSome (said (first_state head.framing (limit_of head)) at) (λ t. t.ending ≡ e) → IfSome before (λ bytes. HasBody bytes e)
has_body before at head used e gone spelled is =
    IfSome_then before (head_at before at head used gone spelled (λ rest. (body_of head rest).ending ≡ e) (of_mapped (told_from (first_state head.framing (limit_of head))) at (λ t. t.ending ≡ e) is))
    (λ bytes x. record { head = head; rest = x.0; request = x.1; ends = x.2 })

pub truncated_body : (bytes : Bytes) → HasBody bytes ending.Truncated → PlaceAt bytes Place.Truncated
unfolding PlaceAt
truncated_body bytes b = inr b

pub bad_body : (bytes : Bytes) → HasBody bytes ending.Bad → PlaceAt bytes Place.Bad
unfolding PlaceAt
bad_body bytes b = inr b

pub large_body : (bytes : Bytes) → HasBody bytes ending.TooLarge → PlaceAt bytes Place.TooLarge
unfolding PlaceAt
large_body bytes b = b

-- ---- a request has one command at most

one_more : (h k added : History) → k ≡ h ++ added → length added ≤ 1 → length k ≤ length h + 1
one_more h k added is few = let same : length k ≡ length (h ++ added) = ap length is in let all = length-append h added in omega (arith, same, all, few)

-- a disk that told nothing stands for any history
untold : (seen : Option Files) (engine : EngineState) (base : State Bytes) (h : History) → is_some seen ≡ false → Over seen engine base h
untold None engine base h none = over_none engine base h
untold (Some files) engine base h none = absurd (true_is_false none)

-- what is promised of a request whose body stands so before its source, over each history
abbrev pub AnswersAt : Answered → BodyState → Bytes → Head → ℕ → (left left' : Option Bytes) (seen seen' : Option Files) (engine engine' : EngineState) → (State Bytes → History → History → Type 0) → Type 0
AnswersAt result framer login head moment left left' seen seen' engine engine' M =
    (base : State Bytes) (h : History) → IsCurrent seen engine base h → (k : History) × Answers result (record { login = login; head = head; body = said framer left; moment = moment }) engine base h left' seen' engine' k × M base h k

-- over a disk that tells there is a history that it led to
pub led_to : (result : Answered) (framer : BodyState) (login : Bytes) (head : Head) (moment : ℕ) (left left' : Option Bytes) (seen seen' : Option Files) (engine engine' : EngineState) (M : State Bytes → History → History → Type 0)
    → AnswersAt result framer login head moment left left' seen seen' engine engine' M → (base : State Bytes) (h : History) → Over seen engine base h → is_some seen ≡ true → (k : History) × M base h k
led_to result framer login head moment left left' None seen' engine engine' M answers base h over knows = absurd (true_is_false (sym knows))
led_to result framer login head moment left left' (Some files) seen' engine engine' M answers base h over knows = let a = answers base h (over files refl) in (a.0, a.2)

-- an account over this history, with the log of this engine
abbrev pub standing : AccountSide → History → Option Files → EngineState → AccountSide
standing x h seen engine = record x { history = h; used = told_size seen engine }

module _ (slots : ℕ) (moments : ℕ → ℕ → Type 0) (login : Bytes) (base : State Bytes) (h : History) (before at : LinkSide) (head : Head) (read : (used : Bytes) × LeftAfter before.left used at.left × SpellsHead used head)
    (engine engine' : EngineState) (moment : ℕ) (new : LinkSide) (x x' : AccountSide) (M : State Bytes → History → History → Type 0) where
  abbrev here_in : Option Files → Setting
  here_in seen = plain (is_some before.left) (is_some seen) moments login slots engine.log.limit base

  abbrev old_in : Option Files → Sides
  old_in seen = joined before (standing x h seen engine)

  abbrev new_in : History → Option Files → Sides
  new_in k seen' = joined new (standing x' k seen' engine')

  abbrev Gives : Answered → (seen seen' : Option Files) → Type 0
  Gives result seen seen' = AnswersAt result (first_state head.framing (limit_of head)) login head moment at.left new.left seen seen' engine engine' M

  -- it was answered
  pub replied : (seen seen' : Option Files) (reply : Reply Body) → moments x.asked moment → is_some seen' ≡ is_some seen
      → IfSome (said (first_state head.framing (limit_of head)) at.left) (λ t. (t.ending ≡ ending.Whole) × (new.left ≡ Some t.rest)) → (at.left ≡ None → new.left ≡ None)
      → Gives (answered.Replied reply) seen seen' → Over seen engine base h → (body : Bytes) → IsBodyOf seen' reply.body body
      → (k : History) × Replying (here_in seen) (old_in seen) (new_in k seen') head (text_to reply body head) × Over seen' engine' base k × (is_some seen ≡ true → M base h k)
  replied None None reply given told whole none answers over body is =
      let m = message_read before.left at.left new.left head read.0 read.1 read.2 whole none in
      let bytes : Bytes = body_said (said (first_state head.framing (limit_of head)) at.left) in (
        h,
        record {
          read = m.0;
          body = bytes;
          moment = moment;
          answer = record { reply = record { status = reply.status; fields = reply.fields; body = Held body; closes = reply.closes }; added = []; grew = 0 };
          is_read = m.2 bytes (said_so (said (first_state head.framing (limit_of head)) at.left));
          source = m.1;
          given = given;
          answered = (refl, refl);
          is_text = refl;
          history = sym (append-nil h);
          used = omega arith;
        },
        over_none engine' base h,
        (λ knows. absurd (true_is_false (sym knows))),
      )
  replied None (Some files') reply given told whole none answers over body is = absurd (true_is_false told)
  replied (Some files) None reply given told whole none answers over body is = absurd (true_is_false (sym told))
  replied (Some files) (Some files') reply given told whole none answers over body is =
      let m = message_read before.left at.left new.left head read.0 read.1 read.2 whole none in
      let a = answers base h (over files refl) in
      let g = a.1.2 in (
        a.0,
        record {
          read = m.0;
          body = a.1.0;
          moment = moment;
          answer = answer_of login engine.log.limit (replay base h) (engine.log.gate + 1) head a.1.0 moment;
          is_read = m.2 a.1.0 a.1.1;
          source = m.1;
          given = given;
          answered = refl;
          is_text = shown_text files' reply _ body head (g.shows (payloads_of files') refl) is;
          history = g.history;
          used = g.grew;
        },
        (λ other is. g.current),
        (λ knows. a.2),
      )

  -- it ended otherwise than with its last byte
  pub unfinished : (seen seen' : Option Files) (e : Ending) → is_some seen' ≡ is_some seen → Gives (answered.Unfinished e) seen seen' → Over seen engine base h
      → GrewBy (here_in seen) AllCameAt (old_in seen) (new_in h seen') × Over seen' engine' base h × (is_some seen ≡ true → M base h h)
  unfinished None None e told answers over =
      let bytes : Bytes = body_said (said (first_state head.framing (limit_of head)) at.left) in (
        (head, bytes, all_came before.left at.left head read.0 bytes read.1 read.2 (said_so (said (first_state head.framing (limit_of head)) at.left)), λ knows. absurd (true_is_false (sym knows))),
        over_none engine' base h,
        (λ knows. absurd (true_is_false (sym knows))),
      )
  unfinished None (Some files') e told answers over = absurd (true_is_false told)
  unfinished (Some files) None e told answers over = absurd (true_is_false (sym told))
  unfinished (Some files) (Some files') e told answers over =
      let a = answers base h (over files refl) in
      let left = a.1.1 in (
        (head, left.0, all_came before.left at.left head read.0 left.0 read.1 read.2 left.1, λ knows. left.2.grew),
        (λ other is. left.2.current),
        (λ knows. subst (λ (k : History). M base h k) a.1.0 a.2),
      )

  -- the source failed
  pub unread : (seen seen' : Option Files) → is_some seen' ≡ is_some seen → Gives answered.SourceFault seen seen' → Over seen engine base h
      → GrewBy (here_in seen) CameAt (old_in seen) (new_in h seen') × Over seen' engine' base h × (is_some seen ≡ true → M base h h)
  unread None None told answers over = (
    (head, [], some_came before.left at.left head read.0 [] read.1 read.2 (all_some (said (first_state head.framing (limit_of head)) at.left) (λ t. (t.body, refl))), λ knows. absurd (true_is_false (sym knows))),
    over_none engine' base h,
    (λ knows. absurd (true_is_false (sym knows))),
  )
  unread None (Some files') told answers over = absurd (true_is_false told)
  unread (Some files) None told answers over = absurd (true_is_false (sym told))
  unread (Some files) (Some files') told answers over =
      let a = answers base h (over files refl) in
      let left = a.1.1 in (
        (head, left.0, some_came before.left at.left head read.0 left.0 read.1 read.2 left.1, λ knows. left.2.grew),
        (λ other is. left.2.current),
        (λ knows. subst (λ (k : History). M base h k) a.1.0 a.2),
      )

  -- the disk failed: nothing stands, or the command of the message
  pub disk_failed : (since : ℕ → Files → Type 0) (seen seen' : Option Files) → moments x.asked moment → (at.left ≡ None → new.left ≡ None) → (engine'.log.closed ≡ false → is_some seen' ≡ is_some seen)
      → GotMore before.got (interim head) new.got → x.time ≤ x'.time → Gives answered.Disk seen seen' → Over seen engine base h
      → (k : History) × (Cut (here_in seen) since (old_in seen) (new_in k seen') ⊎ Unanswered (old_in seen) (new_in k seen'))
      × IsPrefixOf h k × (length k ≤ length h + 1) × (is_some seen ≡ true → M base h k) × (engine'.log.closed ≡ false → Over seen' engine' base k)
  disk_failed since None seen' given none told sink later answers over = (
    h,
    inr (unanswered before.left at.left head read.0 read.1 read.2 (old_in None) (new_in h seen') refl sink refl).0,
    all_of h,
    omega arith,
    (λ knows. absurd (true_is_false (sym knows))),
    (λ is_open. untold seen' engine' base h (told is_open)),
  )
  disk_failed since (Some files) seen' given none told sink later answers over =
      let a = answers base h (over files refl) in
      by_stand a.0 a.1.1 a.2
    where
      by_stand : (k : History) → (k ≡ h) ⊎ MayStand (record { login = login; head = head; body = said (first_state head.framing (limit_of head)) at.left; moment = moment }) engine base h new.left k → M base h k
          → (k : History) × (Cut (here_in (Some files)) since (old_in (Some files)) (new_in k seen') ⊎ Unanswered (old_in (Some files)) (new_in k seen'))
          × IsPrefixOf h k × (length k ≤ length h + 1) × (true ≡ true → M base h k) × (engine'.log.closed ≡ false → Over seen' engine' base k)
      by_stand k (inl same) m = (
        h,
        inr (unanswered before.left at.left head read.0 read.1 read.2 (old_in (Some files)) (new_in h seen') refl sink refl).0,
        all_of h,
        omega arith,
        (λ knows. subst (λ (k : History). M base h k) same m),
        (λ is_open. absurd (true_is_false (sym (answers base h (over files refl)).1.0 ∙ is_open))),
      )
      by_stand k (inr stood) m =
          let o : Option Told = said (first_state head.framing (limit_of head)) at.left in
          let r = message_read before.left at.left new.left head read.0 read.1 read.2 (IfSome_then o stood.whole (λ t w. (w.1, w.2))) none in (
            k,
            inl (record {
              read = r.0;
              head = head;
              body = stood.bytes;
              moment = moment;
              answer = answer_of login engine.log.limit (replay base h) (engine.log.gate + 1) head stood.bytes moment;
              written = [];
              is_read = r.2 stood.bytes (IfSome_then o stood.whole (λ t w. w.0));
              source = r.1;
              given = given;
              answered = refl;
              front = (_, refl);
              sink = subst (λ (bytes : Bytes). GotMore before.got bytes new.got) (sym (append-nil (interim head))) sink;
              history = stood.history;
              stands = nothing_told (here_in (Some files)) since (old_in (Some files)) (new_in k seen') k later;
            }),
            (_, sym stood.history),
            one_more h k _ stood.history (one_command login engine.log.limit (replay base h) (engine.log.gate + 1) head stood.bytes moment),
            (λ knows. m),
            (λ is_open. absurd (true_is_false (sym (answers base h (over files refl)).1.0 ∙ is_open))),
          )

  -- memory was wanting: nothing was added
  pub no_memory : (seen seen' : Option Files) → (engine'.log.closed ≡ false → is_some seen' ≡ is_some seen) → Gives answered.Memory seen seen' → Over seen engine base h
      → (engine'.log.closed ≡ false → Over seen' engine' base h) × (is_some seen ≡ true → M base h h)
  no_memory None seen' told answers over = ((λ is_open. untold seen' engine' base h (told is_open)), (λ knows. absurd (true_is_false (sym knows))))
  no_memory (Some files) seen' told answers over =
      let a = answers base h (over files refl) in
      ((λ is_open other is. a.1.1 is_open), (λ knows. subst (λ (k : History). M base h k) a.1.0 a.2))

-- what a reply shows stands in the log
pub can_be_read : (seen : Option Files) (engine : EngineState) (b : ReplyBody Body) → Shows b seen engine → CanBeRead seen b
can_be_read seen engine (Held held) shows = tt
can_be_read seen engine (Part body from to) shows = (shows.order, shows.within, λ ps is. (shows.stored ps is).pieces)

-- what was answered is no fault of the disk, and needed no more memory
pub not_disk : (reply : Reply Body) → answered.Replied reply ≡ answered.Disk → ⊥
not_disk reply is = cc

pub not_memory : (reply : Reply Body) → answered.Replied reply ≡ answered.Memory → ⊥
not_memory reply is = cc

pub unfinished_not_disk : (e : Ending) → answered.Unfinished e ≡ answered.Disk → ⊥
unfinished_not_disk e is = cc

pub unfinished_not_memory : (e : Ending) → answered.Unfinished e ≡ answered.Memory → ⊥
unfinished_not_memory e is = cc

pub fault_not_disk : answered.SourceFault ≡ answered.Disk → ⊥
fault_not_disk is = cc

pub fault_not_memory : answered.SourceFault ≡ answered.Memory → ⊥
fault_not_memory is = cc

-- how the body ended
pub ends_so : (o : Option Told) (e : Ending) (left' : Option Bytes) → IfSome o (λ t. Hears (answered.Unfinished e) t left') → IfSome o (λ t. t.ending ≡ e)
ends_so None e left' heard = tt
ends_so (Some t) e left' heard = heard.0
