-- What became of one message, before its turn.
use Rattle.std.proofs.Common.{◌≡◌, ℕ, ◌+◌, ◌≤◌, [], ◌++◌, Option, true, inl, inr, ◌⊎◌, refl, ap, sym, subst, ◌∙◌, arith, append-nil}
use Rattle.std.specs.Prelude.{IfSome}
use Rattle.mt_answer.specs.Answer.{Answer}
use Rattle.mt_base.specs.Counts.{NeverFell, Rose, RoseBy}
use Rattle.mt_base.specs.Lists.{IsPrefixOf}
use Rattle.mt_disk.specs.Files.{Files}
use Rattle.mt_edge.specs.Stream.{LeftAfter, GotMore}
use Rattle.mt_edge.proofs.Streams.{got_more, got_nothing}
use Rattle.mt_opening.specs.Current.{HasNearly}
use Rattle.mt_opening.specs.History.{Bytes, HasHistory, History}
use Rattle.mt_http.specs.Framing.{Place, PlaceAt}
use Rattle.mt_http.specs.Options.{closes, interim}
use Rattle.mt_http.specs.ReplyText.{reply_text}
use Rattle.mt_http.specs.declared.message.Head.{Head}
use Rattle.mt_model.specs.CommandStep.{replay}
use Rattle.mt_runner.specs.Account.{asked_again}
use Rattle.mt_connection.specs.Endings.{Cut, IsCutEarly, IsTruncated, IsUnread, Quiet, Refusing, Settled, Unanswered, refusal_text}
use Rattle.mt_connection.specs.Sides.{NoneFell, Sides}
use Rattle.mt_connection.specs.Steps.{Refuses, Sends, TakesMessage}
use Rattle.mt_connection.specs.Transcript.{Exchange, HoldsSince, IsTheAnswer, Setting, SpellsBoth, is_head}
use Rattle.mt_runner.specs.Turning.{companies, no_turn}
use Rattle.mt_connection.specs.declared.end.ConnectionEnd.TheVariants as ended
use Rattle.mt_connection.specs.declared.end.Step.{Step}
use Rattle.mt_connection.specs.declared.end.Step.TheVariants as step
use Rattle.mt_connection.proofs.Companies.{no_company}

-- A message was read and answered: its command stands, and this is the text of its reply.
pub record Replying (s : Setting) (old new : Sides) (head : Head) (text : Bytes) : Type 0 where
  pub read : Bytes
  pub body : Bytes
  pub moment : ℕ
  pub answer : Answer Bytes
  pub is_read : s.hears ≡ true → SpellsBoth read head body
  pub source : LeftAfter old.left read new.left
  pub given : s.moments old.asked moment
  pub answered : IsTheAnswer s old.history old.used head body moment answer
  pub is_text : reply_text answer.reply (is_head head) ≡ text
  pub history : new.history ≡ old.history ++ answer.added
  pub used : new.used ≡ old.used + answer.grew

-- the moment of the disk at which its answer was there
pub record AnswerStands (s : Setting) (since : ℕ → Files → Type 0) (old new : Sides) : Type 0 where
  pub settled : ℕ
  pub from : old.time ≤ settled
  pub to : settled ≤ new.time
  pub holds : s.knows ≡ true → HoldsSince since settled s.base new.history

-- what the counts of a step did that asks the clock once
pub record Counted (old new : Sides) (write_faults disk_faults : ℕ) : Type 0 where
  pub read : NeverFell old.read_faults new.read_faults
  pub write : NeverFell old.write_faults write_faults
  pub disk : NeverFell old.disk_faults disk_faults
  pub time : old.time ≤ new.time
  pub asked : new.asked ≡ asked_again old.asked
  pub tasks : new.tasks ≡ old.tasks

none_fell_by : (old new : Sides) (w d : ℕ) → Counted old new w d → NeverFell w new.write_faults → NeverFell d new.disk_faults → NoneFell old new
none_fell_by old new w d counted write disk =
    let spawn = ap (λ t. t.faults) counted.tasks in
    let waits = ap (λ t. t.waits) counted.tasks in
    let company = ap (λ t. t.company) counted.tasks in
    let one = counted.write in
    let two = counted.disk in
    let asked = counted.asked in
    let time = counted.time in
    record {
      read = counted.read;
      write = omega (arith, one, write);
      account = record { disk = omega (arith, two, disk); time = omega (arith, time); asked = omega (arith, asked); spawn = omega (arith, spawn); waits = omega (arith, waits); company = omega (arith, company) };
    }

-- where no byte was written, nothing is to be shown
pub nothing_told : (s : Setting) (since : ℕ → Files → Type 0) (old new : Sides) (h : History) → old.time ≤ new.time → Settled s since old new [] h
nothing_told s since old new h later = record { settled = old.time; from = omega arith; to = later; holds = λ knows some. absurd (some refl) }

module _ (s : Setting) (since : ℕ → Files → Type 0) (images : Files → Type 0) (old new : Sides) (head : Head) (text : Bytes) (r : Replying s old new head text) (t : AnswerStands s since old new) where
  -- the reply was cut behind these bytes
  abbrev cut_of : (written : Bytes) → IsPrefixOf written text → GotMore old.got (interim head ++ written) new.got → Cut s since old new
  cut_of written front sink = record {
    read = r.read;
    head = head;
    body = r.body;
    moment = r.moment;
    answer = r.answer;
    written = written;
    is_read = r.is_read;
    source = r.source;
    given = r.given;
    answered = r.answered;
    front = subst (λ (t : Bytes). IsPrefixOf written t) (sym r.is_text) front;
    sink = sink;
    history = r.history;
    stands = record { settled = t.settled; from = t.from; to = t.to; holds = λ knows some. t.holds knows };
  }

  module _ (no_turns : (k : History) (used asked : ℕ) → s.turned k used asked (no_turn asked)) (here : s.knows ≡ true → (c : Files) → images c → HasHistory s.base new.history c) where
    pub stepped_reply : (result : Step) (mid : Option Bytes) (w d : ℕ) → GotMore old.got (interim head) mid → Sends (closes head.minor head.fields) text result mid new.got w new.write_faults d new.disk_faults
        → Counted old new w d → TakesMessage s since images old result new
    stepped_reply (step.Went closed) mid w d before sent counted =
        let fell = none_fell_by old new w d counted sent.2 sent.3 in
        let said : GotMore old.got (interim head ++ text) new.got = got_more old.got (interim head) mid text new.got before sent.1 in
        let x : Exchange = record { read = r.read; head = head; body = r.body; moment = r.moment; answer = r.answer; settled = t.settled; turn = no_turn (asked_again old.asked) } in (
          x,
          sym sent.0,
          record {
            run = (record { is_read = r.is_read; given = r.given; answered = r.answered; turned = no_turns (old.history ++ r.answer.added) (old.used + r.answer.grew) (asked_again old.asked) }, (λ _. refl), tt);
            history = r.history ∙ ap (λ (cs : History). old.history ++ cs) (sym (append-nil r.answer.added) ∙ sym (append-nil (r.answer.added ++ [])));
            used = let grew = r.used in omega (arith, grew);
            asked = counted.asked;
            source = subst (λ (bytes : Bytes). LeftAfter old.left bytes new.left) (sym (append-nil r.read)) r.source;
            sink = subst (λ (bytes : Bytes). GotMore old.got bytes new.got) (ap (λ (t : Bytes). interim head ++ t) (sym r.is_text) ∙ sym (append-nil (interim head ++ reply_text r.answer.reply (is_head head)))) said;
            missed = let tasks = counted.tasks in let spawn = ap (λ t. t.faults) tasks in let waits = ap (λ t. t.waits) tasks in omega (arith, spawn, waits);
            company = subst (λ (n : ℕ). RoseBy n old.tasks.company new.tasks.company)
                (sym (ap (λ (cs : History). companies s.slots (replay s.base old.history) cs) (append-nil (r.answer.added ++ []) ∙ append-nil r.answer.added) ∙ no_company s old.history old.used head r.body r.moment r.answer r.answered))
                (let tasks = ap (λ t. t.company) counted.tasks in omega (arith, tasks));
            counts = fell;
          },
          (t.from, (λ knows. subst (λ (k : History). HoldsSince since t.settled s.base k) r.history (t.holds knows)), t.to),
        )
    stepped_reply (step.Over ended.SinkFault) mid w d before sent counted =
        let written = sent.0.written in
        let fell = let rose = sent.1 in none_fell_by old new w d counted (omega (arith, rose)) sent.2 in (
          (inl (inl (cut_of written sent.0.front (got_more old.got (interim head) mid written new.got before sent.0.grew), r.used)), (let rose = sent.1 in let one = counted.write in omega (arith, rose, one))),
          fell,
          here,
        )
    stepped_reply (step.Over ended.Disk) mid w d before sent counted =
        let written = sent.0.written in
        let fell = let rose = sent.2 in none_fell_by old new w d counted sent.1 (omega (arith, rose)) in (
          (inl (cut_of written sent.0.front (got_more old.got (interim head) mid written new.got before sent.0.grew)), (let rose = sent.2 in let one = counted.disk in omega (arith, rose, one))),
          fell,
          (λ knows c image. record { history = new.history; has = here knows c image; front = ([], append-nil new.history); last = omega arith }),
        )
    stepped_reply (step.Over ended.Memory) mid w d before sent counted = (
      inl (cut_of [] (text, refl) (got_more old.got (interim head) mid [] new.got before (subst (λ (got : Option Bytes). GotMore mid [] got) (sym sent.0) (got_nothing mid)))),
      none_fell_by old new w d counted sent.1 sent.2,
      here,
    )
    stepped_reply (step.Over ended.Ended) mid w d before sent counted = absurd sent
    stepped_reply (step.Over ended.Many) mid w d before sent counted = absurd sent
    stepped_reply (step.Over ended.Truncated) mid w d before sent counted = absurd sent
    stepped_reply (step.Over ended.Refused) mid w d before sent counted = absurd sent
    stepped_reply (step.Over ended.SourceFault) mid w d before sent counted = absurd sent
    stepped_reply (step.Over ended.Full) mid w d before sent counted = absurd sent

-- what is no message was refused
module _ (s : Setting) (since : ℕ → Files → Type 0) (images : Files → Type 0) (old new : Sides) (before text : Bytes)
    (refusing : (written : Bytes) → IsPrefixOf written text → GotMore old.got (before ++ written) new.got → (r : Refusing s since old new) × (r.written ≡ written) × (refusal_text r.code r.count r.moment ≡ text))
    (silent : GotMore old.got before new.got → Unanswered old new) (here : s.knows ≡ true → (c : Files) → images c → HasHistory s.base new.history c) where
  pub stepped_refusal : (result : Step) (mid : Option Bytes) (w : ℕ) → GotMore old.got before mid → Refuses text result mid new.got w new.write_faults → Counted old new w new.disk_faults → TakesMessage s since images old result new
  stepped_refusal (step.Over ended.Refused) mid w so_far wrote counted =
      let r = refusing text ([], append-nil text) (got_more old.got before mid text new.got so_far wrote.0) in (
        (r.0, r.1 ∙ sym r.2),
        none_fell_by old new w new.disk_faults counted wrote.1 (omega arith),
        here,
      )
  stepped_refusal (step.Over ended.SinkFault) mid w so_far wrote counted =
      let r = refusing wrote.0.written wrote.0.front (got_more old.got before mid wrote.0.written new.got so_far wrote.0.grew) in
      let rose = wrote.1 in (
        (inr r.0, (let one = counted.write in omega (arith, rose, one))),
        none_fell_by old new w new.disk_faults counted (omega (arith, rose)) (omega arith),
        here,
      )
  stepped_refusal (step.Over ended.Memory) mid w so_far wrote counted = (
    inr (silent (subst (λ (got : Option Bytes). GotMore old.got before got) (sym wrote.0) so_far)),
    none_fell_by old new w new.disk_faults counted wrote.1 (omega arith),
    here,
  )
  stepped_refusal (step.Went closed) mid w so_far wrote counted = absurd wrote
  stepped_refusal (step.Over ended.Ended) mid w so_far wrote counted = absurd wrote
  stepped_refusal (step.Over ended.Many) mid w so_far wrote counted = absurd wrote
  stepped_refusal (step.Over ended.Truncated) mid w so_far wrote counted = absurd wrote
  stepped_refusal (step.Over ended.SourceFault) mid w so_far wrote counted = absurd wrote
  stepped_refusal (step.Over ended.Full) mid w so_far wrote counted = absurd wrote
  stepped_refusal (step.Over ended.Disk) mid w so_far wrote counted = absurd wrote

-- nothing was added
module _ (s : Setting) (since : ℕ → Files → Type 0) (images : Files → Type 0) (old new : Sides) (fell : NoneFell old new) (here : s.knows ≡ true → (c : Files) → images c → HasHistory s.base new.history c) where
  pub stepped_ended : Quiet old new → IfSome old.left (λ bytes. PlaceAt bytes Place.End) → TakesMessage s since images old (step.Over ended.Ended) new
  stepped_ended quiet place = ((place, quiet), fell, here)

  pub stepped_truncated : IsTruncated s old new → TakesMessage s since images old (step.Over ended.Truncated) new
  stepped_truncated is = (is, fell, here)

  pub stepped_unread : IsUnread s old new → TakesMessage s since images old (step.Over ended.SourceFault) new
  stepped_unread is = (is, fell, here)

  pub stepped_cut_early : IsCutEarly old new → Rose old.write_faults new.write_faults → TakesMessage s since images old (step.Over ended.SinkFault) new
  stepped_cut_early is rose = ((inl (inr is), rose), fell, here)

  pub stepped_memory : Unanswered old new → TakesMessage s since images old (step.Over ended.Memory) new
  stepped_memory is = (inr is, fell, here)

-- the disk failed before a byte of a reply was written
pub stepped_disk : (s : Setting) (since : ℕ → Files → Type 0) (images : Files → Type 0) (old new : Sides) → NoneFell old new → Cut s since old new ⊎ Unanswered old new → Rose old.disk_faults new.disk_faults
    → (s.knows ≡ true → (c : Files) → images c → HasNearly s.base new.history c) → TakesMessage s since images old (step.Over ended.Disk) new
stepped_disk s since images old new fell is rose nearly = ((is, rose), fell, nearly)
