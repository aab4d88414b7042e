-- A message and the turn behind it are an exchange.
use Rattle.std.proofs.Common.{◌≡◌, ◌≢◌, ℕ, ◌+◌, ◌≤◌, ◌<◌, [], ◌∷◌, ◌++◌, Option, Bool, true, false, inl, inr, ◌⊎◌, refl, ap, sym, subst, ◌∙◌, arith, append_assoc, append-nil}
use Rattle.std.specs.List.{flat_map}
use Rattle.mt_base.specs.Counts.{NeverFell}
use Rattle.mt_disk.specs.Files.{Files}
use Rattle.mt_edge.specs.Stream.{LeftAfter}
use Rattle.mt_opening.specs.Current.{HasFront}
use Rattle.mt_opening.specs.History.{Bytes, History}
use Rattle.mt_model.specs.CommandStep.{replay}
use Rattle.mt_model.specs.State.{State}
use Rattle.mt_model.proofs.Replays.{replay_on}
use Rattle.mt_types.specs.declared.task.Raw.{Raw}
use Rattle.mt_types.specs.declared.task.Run.{Run as ChildRun}
use Rattle.mt_runner.specs.Account.{AccountSide, NoCountFell, asked_again}
use Rattle.mt_runner.specs.ByAnswer.{GoesOn}
use Rattle.mt_runner.specs.Turning.{Goes, MayTurn, TakesTurn, TurnImages, TurnTaken, companies, no_turn}
use Rattle.mt_runner.specs.declared.turn.Turn.{Turn}
use Rattle.mt_runner.specs.declared.turn.Turn.TheVariants as behind
use Rattle.mt_runner.proofs.Drains.{companies_add}
use Rattle.mt_connection.specs.Endings.{Cut, Ends, Halted, IsCut, IsCutEarly, IsOpen, Refusing, Settled, Unanswered}
use Rattle.mt_connection.specs.Sides.{LinkSide, NoneFell, Sides, account_of, link_of}
use Rattle.mt_connection.specs.Steps.{Stepped, Stops, TakesMessage, plain, step_of_turn}
use Rattle.mt_connection.specs.Transcript.{Exchange, Ran, Setting, Stand, closing, commands_of, read_of, setting, still, working}
use Rattle.mt_connection.specs.declared.end.ConnectionEnd.{ConnectionEnd}
use Rattle.mt_connection.specs.declared.end.ConnectionEnd.TheVariants as ended
use Rattle.mt_connection.specs.declared.end.Step.TheVariants as step
use Rattle.mt_connection.proofs.Runs.{no_count_fell}
use Rattle.mt_connection.proofs.Standing.{stand_kept}

pub open_at_first : (most : ℕ) → 0 < most → IsOpen most []
open_at_first most some = record { none = refl; few = some }

-- where the link was left alone
pub none_fell_on : (old mid new : Sides) → NoneFell old mid → NoCountFell (account_of mid) (account_of new) → link_of new ≡ link_of mid → NoneFell old new
none_fell_on old mid new a b same = record {
  read = subst (λ (n : ℕ). NeverFell old.read_faults n) (sym (ap (λ (l : LinkSide). l.read_faults) same)) a.read;
  write = subst (λ (n : ℕ). NeverFell old.write_faults n) (sym (ap (λ (l : LinkSide). l.write_faults) same)) a.write;
  account = no_count_fell _ _ _ a.account b;
}

-- the turn of a message is taken behind it
module _ (s : Setting) (turns : (h : History) (used asked : ℕ) (t : TurnTaken) → MayTurn (working s) h used asked t → s.turned h used asked t) where
  pub ran_with_turn : (old mid new : Sides) (x : Exchange) (t : TurnTaken) → Ran (still s) old (x ∷ []) mid → Goes (working s) (account_of mid) t (account_of new) → link_of new ≡ link_of mid → Ran s old (record x { turn = t } ∷ []) new
  ran_with_turn old mid new x t r w link =
      let e = r.run.0 in
      let none : x.turn ≡ no_turn (asked_again old.asked) = e.turned in
      let bare : commands_of x ≡ x.answer.added = ap (λ (u : TurnTaken). x.answer.added ++ u.added) none ∙ append-nil x.answer.added in
      let grew : x.turn.grew ≡ 0 = ap (λ (u : TurnTaken). u.grew) none in
      let missed : x.turn.missed ≡ 0 = ap (λ (u : TurnTaken). u.missed) none in
      let asked : mid.asked ≡ asked_again old.asked = r.asked ∙ ap (λ (u : TurnTaken). u.asked) none in
      let only : flat_map commands_of (x ∷ []) ≡ x.answer.added = append-nil (commands_of x) ∙ bare in
      let there : mid.history ≡ old.history ++ x.answer.added = r.history ∙ ap (λ (cs : History). old.history ++ cs) only in
      let long : mid.used ≡ old.used + x.answer.grew = let a = r.used in omega (arith, a, grew) in
      let both : companies s.slots (replay s.base old.history) (flat_map commands_of (record x { turn = t } ∷ [])) ≡ companies s.slots (replay s.base old.history) (flat_map commands_of (x ∷ [])) + companies s.slots (replay s.base mid.history) t.added =
      ap (λ (cs : History). companies s.slots (replay s.base old.history) cs) (append-nil (x.answer.added ++ t.added))
      ∙ (companies_add s.slots (replay s.base old.history) x.answer.added t.added
      ∙ (ap (λ (n : ℕ). n + companies s.slots (replay (replay s.base old.history) x.answer.added) t.added) (ap (λ (cs : History). companies s.slots (replay s.base old.history) cs) (sym only))
      ∙ ap (λ (st : State Bytes). companies s.slots (replay s.base old.history) (flat_map commands_of (x ∷ [])) + companies s.slots st t.added) (sym (replay_on s.base old.history x.answer.added) ∙ ap (λ (k : History). replay s.base k) (sym there)))) in
      record {
        run = (
          record {
            is_read = e.is_read;
            given = e.given;
            answered = e.answered;
            turned = subst (λ (n : ℕ). s.turned (old.history ++ x.answer.added) (old.used + x.answer.grew) n t) asked (subst (λ (u : ℕ). s.turned (old.history ++ x.answer.added) u mid.asked t) long (subst (λ (k : History). s.turned k mid.used mid.asked t) there (turns mid.history mid.used mid.asked t w.turned)));
          },
          (λ _. refl),
          tt,
        );
        history = w.history ∙ (ap (λ (k : History). k ++ t.added) there ∙ (append_assoc old.history x.answer.added t.added ∙ ap (λ (cs : History). old.history ++ cs) (sym (append-nil (x.answer.added ++ t.added)))));
        used = let a = w.used in omega (arith, a, long);
        asked = w.asked;
        source = subst (λ (left : Option Bytes). LeftAfter old.left (flat_map read_of (x ∷ [])) left) (sym (ap (λ (l : LinkSide). l.left) link)) r.source;
        sink = ap (λ (l : LinkSide). l.got) link ∙ r.sink;
        missed = let a = r.missed in let b = w.missed in omega (arith, a, b, missed);
        company = let a = r.company in let b = w.company in omega (arith, a, b, both);
        counts = none_fell_on old mid new r.counts w.counts link;
      }

module _ (hears knows : Bool) (moments : ℕ → ℕ → Type 0) (runs : ChildRun → Bytes → Raw → Type 0) (login : Bytes) (slots limit : ℕ) (base : State Bytes) where
  -- the setting with turns, and that of a message before its turn
  abbrev here : Setting
  here = setting hears knows moments runs login slots limit base

  abbrev alone : Setting
  alone = plain hears knows moments login slots limit base

  -- what holds of a message says nothing of children
  ran_still : (old new : Sides) (x : Exchange) → Ran alone old (x ∷ []) new → Ran (still here) old (x ∷ []) new
  ran_still old new x r =
      let e = r.run.0 in
      record {
        run = (record { is_read = e.is_read; given = e.given; answered = e.answered; turned = e.turned }, r.run.1, tt);
        history = r.history;
        used = r.used;
        asked = r.asked;
        source = r.source;
        sink = r.sink;
        missed = r.missed;
        company = r.company;
        counts = r.counts;
      }

  module _ (since : ℕ → Files → Type 0) (old new : Sides) where
    settled_here : (written : Bytes) (h : History) → Settled alone since old new written h → Settled here since old new written h
    settled_here written h x = record { settled = x.settled; from = x.from; to = x.to; holds = x.holds }

    abbrev cut_here : Cut alone since old new → Cut here since old new
    cut_here c = record {
      read = c.read;
      head = c.head;
      body = c.body;
      moment = c.moment;
      answer = c.answer;
      written = c.written;
      is_read = c.is_read;
      source = c.source;
      given = c.given;
      answered = c.answered;
      front = c.front;
      sink = c.sink;
      history = c.history;
      stands = settled_here c.written new.history c.stands;
    }

    abbrev refusing_here : Refusing alone since old new → Refusing here since old new
    refusing_here r = record {
      place = r.place;
      code = r.code;
      count = r.count;
      moment = r.moment;
      sent = r.sent;
      written = r.written;
      here = r.here;
      why = r.why;
      position = r.position;
      given = r.given;
      before = r.before;
      front = r.front;
      sink = r.sink;
      history = r.history;
      stands = settled_here r.written old.history r.stands;
      pieces = r.pieces;
    }

    either_here : Cut alone since old new ⊎ Unanswered old new → Cut here since old new ⊎ Unanswered old new
    either_here (inl c) = inl (cut_here c)
    either_here (inr u) = inr u

    sink_here : (IsCut alone since old new ⊎ IsCutEarly old new) ⊎ Refusing alone since old new → (IsCut here since old new ⊎ IsCutEarly old new) ⊎ Refusing here since old new
    sink_here (inl (inl c)) = inl (inl (cut_here c.0, c.1))
    sink_here (inl (inr early)) = inl (inr early)
    sink_here (inr r) = inr (refusing_here r)

    -- a message that ends its connection before a turn is its end
    stops_here : (end : ConnectionEnd) → Stops alone since old end new → (most : ℕ) → 0 < most → Ends here since most [] old end new
    stops_here ended.Ended e most some = (inr (open_at_first most some, e.0), e.1)
    stops_here ended.Many e most some = absurd e
    stops_here ended.Truncated e most some = (open_at_first most some, e)
    stops_here ended.Refused e most some = (open_at_first most some, (refusing_here e.0, e.1))
    stops_here ended.SourceFault e most some = (open_at_first most some, e)
    stops_here ended.SinkFault e most some = (open_at_first most some, sink_here e.0, e.1)
    stops_here ended.Full e most some = absurd e
    stops_here ended.Disk e most some = (open_at_first most some, inl (either_here e.0), e.1)
    stops_here ended.Memory e most some = (open_at_first most some, inl (either_here e))

    pub over_here : (images : Files → Type 0) (end : ConnectionEnd) → TakesMessage alone since images old (step.Over end) new → Stepped here since images old (step.Over end) new
    over_here images end o = (stops_here end o.0, o.1, o.2)

  -- the answer of a message stands still behind its turn
  module _ (past since : ℕ → Files → Type 0) (images : Files → Type 0) (old mid new : Sides) (now : ℕ) (there : mid.time ≤ now)
      (goes : knows ≡ true → (t : ℕ) (c : Files) → t ≤ now → since t c → past t c ⊎ HasFront base c mid.history) (x : Exchange) (ran : Ran alone old (x ∷ []) mid) (stand : Stand alone past old.history old.time (x ∷ []) mid.time)
      (link : link_of new ≡ link_of mid) where
    stand_here : Stand here since old.history old.time (x ∷ []) mid.time
    stand_here = stand_kept here since past now mid.history goes old.history old.time (x ∷ []) mid.time there ran.history stand

    went_here : (closed : Bool) → closing x ≡ closed → (t : TurnTaken) → Goes (working here) (account_of mid) t (account_of new) → Stepped here since images old (step.Went closed) new
    went_here closed is t w =
        let later = stand_here.2 in
        let more = w.counts.time in (
          record x { turn = t },
          is,
          ran_with_turn here (λ h used asked t may. may) old mid new x t (ran_still old mid x ran) w link,
          (stand_here.0, stand_here.1, omega (arith, later, more)),
        )

    halted_here : (Did : AccountSide → AccountSide → Type 0) → Did (account_of mid) (account_of new) → Halted here since old new Did
    halted_here Did did = record { exchange = x; middle = mid; answered = ran_still old mid x ran; stand = stand_here; did = did; link = link }

    fell_here : NoCountFell (account_of mid) (account_of new) → NoneFell old new
    fell_here counts = none_fell_on old mid new ran.counts counts link

    pub turned_here : (closed : Bool) → closing x ≡ closed → (end : Turn) → TakesTurn (working here) (account_of mid) end (account_of new) → (knows ≡ true → TurnImages end base new.history images)
        → Stepped here since images old (step_of_turn closed end) new
    turned_here closed is (behind.Closed job) t left = went_here closed is t.0 t.2
    turned_here closed is (behind.Committed task) t left = went_here closed is t.0 t.2
    turned_here closed is behind.Idle t left = went_here closed is t.0.0 t.0.2
    turned_here closed is behind.NotYet t left = went_here closed is t.0.0 t.0.2
    turned_here closed is behind.SpawnFault t left = went_here closed is t.0.0 t.0.2
    turned_here closed is behind.Full t left = ((λ most some. (open_at_first most some, halted_here _ t)), fell_here t.unmoved.counts, left)
    turned_here closed is behind.Disk t left =
        let rose = t.rose in
        let so_far = ran.counts.account.disk in (
          (λ most some. (open_at_first most some, inr (halted_here _ t), omega (arith, rose, so_far))),
          fell_here t.counts,
          left,
        )
    turned_here closed is behind.Memory t left = ((λ most some. (open_at_first most some, inr (halted_here _ t))), fell_here t.counts, left)

-- what the answer of a turn says of the engine, by the step
pub live_behind : (closing : Bool) (end : Turn) (closed : Bool) → GoesOn end closed → step_of_turn closing end ≢ step.Over ended.Disk → step_of_turn closing end ≢ step.Over ended.Memory → closed ≡ false
live_behind closing (behind.Closed job) closed g disk memory = g
live_behind closing (behind.Committed task) closed g disk memory = g
live_behind closing behind.Idle closed g disk memory = g
live_behind closing behind.NotYet closed g disk memory = g
live_behind closing behind.SpawnFault closed g disk memory = g
live_behind closing behind.Full closed g disk memory = g
live_behind closing behind.Disk closed g disk memory = absurd (disk refl)
live_behind closing behind.Memory closed g disk memory = absurd (memory refl)
