-- What a run adds to an account: commands that are honest, with their archives, by as many children side by side.
use Rattle.std.proofs.Common.{◌≡◌, ℕ, ◌+◌, List, [], ◌∷◌, ◌++◌, Bool, true, false, Option, Some, None, inl, inr, refl, ap, sym, subst, ◌∙◌, arith, append_assoc, append-nil}
use Rattle.std.specs.Bool.{MatchBool}
use Rattle.std.specs.List.{flat_map}
use Rattle.mt_answer.specs.Answer.{Answer}
use Rattle.mt_answer.specs.Whole.{answer_of}
use Rattle.mt_answer.proofs.Steps.{honest_answer}
use Rattle.mt_base.specs.Counts.{RoseBy}
use Rattle.mt_disk.specs.Files.{Files}
use Rattle.mt_opening.specs.History.{Bytes, History}
use Rattle.mt_http.specs.declared.message.Head.{Head}
use Rattle.mt_jobtext.specs.Archives.{ArchivesFrom, HasTexts}
use Rattle.mt_jobtext.specs.JobTexts.{archive_of}
use Rattle.mt_jobtext.proofs.Archived.{archives_grow}
use Rattle.mt_model.specs.CommandStep.{replay}
use Rattle.mt_model.specs.Honest.{HonestFrom}
use Rattle.mt_model.specs.State.{State, job_at}
use Rattle.mt_model.proofs.Replays.{replay_on}
use Rattle.mt_model.proofs.Stood.{honest_on}
use Rattle.mt_model.specs.Honest.{OfFound}
use Rattle.mt_model.specs.JobSteps.{done_at}
use Rattle.mt_records.specs.Fate.{fate}
use Rattle.mt_tasks.specs.Adding.{HasRoom}
use Rattle.mt_types.specs.declared.job.Job.{Job}
use Rattle.mt_types.specs.declared.command.Command.{Command}
use Rattle.mt_types.specs.declared.command.Command.TheVariants.{Close, Commit}
use Rattle.mt_runner.specs.Account.{AccountSide, NoCountFell}
use Rattle.mt_runner.specs.Turning.{DidAdd, Drained, Follow, Goes, InDoubt, IsDue, MayAdd, MayTurn, TakesTurn, TurnTaken, added_of, companies, most_turns, no_turn}
use Rattle.mt_runner.specs.declared.turn.Turn.{Turn}
use Rattle.mt_runner.specs.declared.turn.Turn.TheVariants as turn
use Rattle.mt_runner.proofs.Drains.{companies_add, companies_zero}
use Rattle.mt_connection.specs.Endings.{Cut, Ends, Halted, Served}
use Rattle.mt_connection.specs.Sides.{LinkSide, Sides, account_of, joined}
use Rattle.mt_connection.specs.Transcript.{Exchange, IsTheAnswer, Ran, Run as Runs, Setting, commands_of, still, working}
use Rattle.mt_connection.specs.declared.end.ConnectionEnd.{ConnectionEnd}
use Rattle.mt_connection.specs.declared.end.ConnectionEnd.TheVariants as ended
use Rattle.mt_connection.proofs.Companies.{no_company}
use Rattle.mt_connection.proofs.Runs.{no_count_fell_self}
use Rattle.mt_answer.proofs.Texts.{answers_have_texts}
use Rattle.mt_server.specs.Events.{DrainsBehind, DrainsUnless, Event, Events, Had, Round, Woke, end_breaks, on_link}
use Rattle.mt_server.specs.Guarantees.{Visited}
use Rattle.mt_server.specs.Statuses.{most_messages}
use Rattle.mt_server.specs.declared.status.ServeEnd.{ServeEnd}

-- these commands were added: they are honest and have their archives, and company rose by that of their commits
pub record Gained (s : Setting) (old new : AccountSide) : Type 0 where
  pub added : History
  pub grew : new.history ≡ old.history ++ added
  pub honest : HonestFrom s.login s.runs (fate s.login) (replay s.base old.history) added
  pub archives : ArchivesFrom s.login (replay s.base old.history) added
  pub company : RoseBy (companies s.slots (replay s.base old.history) added) old.tasks.company new.tasks.company

-- in a state, these commands are honest and have their archives
abbrev pub IsFair : Setting → State Bytes → History → Type 0
IsFair s t cs = HonestFrom s.login s.runs (fate s.login) t cs × ArchivesFrom s.login t cs

module _ (s : Setting) where
  fair_none : (t : State Bytes) → IsFair s t []
  unfolding HonestFrom ArchivesFrom
  fair_none t = (tt, tt)

  fair_on : (t : State Bytes) (a b : History) → IsFair s t a → IsFair s (replay t a) b → IsFair s t (a ++ b)
  fair_on t a b f g = (honest_on s.login s.runs (fate s.login) t a b f.0 g.0, archives_grow s.login t a b f.1 g.1)

  -- ---- gains

  pub gained_none : (old new : AccountSide) → new.history ≡ old.history → NoCountFell old new → Gained s old new
  gained_none old new same counts =
      let none = fair_none (replay s.base old.history) in
      let zero = companies_zero s.slots (replay s.base old.history) in
      let fell = counts.company in
      record { added = []; grew = same ∙ sym (append-nil old.history); honest = none.0; archives = none.1; company = omega (arith, zero, fell) }

  -- these commands, where the count of company rose so
  gained_by : (old new : AccountSide) (cs : History) → new.history ≡ old.history ++ cs → IsFair s (replay s.base old.history) cs → RoseBy (companies s.slots (replay s.base old.history) cs) old.tasks.company new.tasks.company → Gained s old new
  gained_by old new cs grew fair company = record { added = cs; grew = grew; honest = fair.0; archives = fair.1; company = company }

  pub gained_more : (old mid new : AccountSide) → Gained s old mid → Gained s mid new → Gained s old new
  gained_more old mid new a b =
      let there : replay s.base mid.history ≡ replay (replay s.base old.history) a.added = ap (λ (h : History). replay s.base h) a.grew ∙ replay_on s.base old.history a.added in
      let fair = fair_on (replay s.base old.history) a.added b.added (a.honest, a.archives) (subst (λ (t : State Bytes). IsFair s t b.added) there (b.honest, b.archives)) in
      let both : companies s.slots (replay s.base old.history) (a.added ++ b.added) ≡ companies s.slots (replay s.base old.history) a.added + companies s.slots (replay s.base mid.history) b.added =
      companies_add s.slots (replay s.base old.history) a.added b.added ∙ ap (λ (t : State Bytes). companies s.slots (replay s.base old.history) a.added + companies s.slots t b.added) (sym there) in
      record {
        added = a.added ++ b.added;
        grew = b.grew ∙ (ap (λ (h : History). h ++ b.added) a.grew ∙ append_assoc old.history a.added b.added);
        honest = fair.0;
        archives = fair.1;
        company = let one = a.company in let two = b.company in omega (arith, one, two, both);
      }

  -- ---- turns

  -- the archive of a command that is due is its texts
  due_texts : (call : ℕ) (t : State Bytes) (c : Command Bytes) → IsDue (working s) call t c → HasTexts s.login t c
  due_texts call t (Commit job phase place f moment) due = tt
  due_texts call t (Close job cancelled archive moment) due =
      subst (λ (b : Bool). OfFound (λ (j : Job Bytes). archive ≡ archive_of s.login (done_at moment b j)) (job_at t.jobs job)) (sym due.1) due.3
  due_texts call t other due = absurd due

  may_fair : (call : ℕ) (t : State Bytes) (used limit : ℕ) (c : Command Bytes) → MayAdd (working s) call t c → HasRoom t used limit c → IsFair s t (c ∷ [])
  unfolding HonestFrom ArchivesFrom
  may_fair call t used limit c may room =
      ((record { room = room.few; made = may.is_free.made; free = may.is_free.free; honest = may.honest }, tt), (due_texts call t c may.due, tt))

  did_fair : (call : ℕ) (t : State Bytes) (used : ℕ) (turn : TurnTaken) (cs : History) → DidAdd (working s) call t used turn cs → IsFair s t cs
  did_fair call t used turn [] did = fair_none t
  did_fair call t used turn (c ∷ []) did = may_fair call t used s.limit c did.0 did.1
  did_fair call t used turn (c ∷ d ∷ cs) did = absurd did

  turn_fair : (h : History) (used asked : ℕ) (t : TurnTaken) → MayTurn (working s) h used asked t → IsFair s (replay s.base h) t.added
  turn_fair h used asked t may = by s.knows may.1
    where
      by : (knows : Bool) → MatchBool knows (DidAdd (working s) asked (replay s.base h) used t t.added) (t ≡ no_turn t.asked) → IsFair s (replay s.base h) t.added
      by true did = did_fair asked (replay s.base h) used t t.added did
      by false none = subst (λ (cs : History). IsFair s (replay s.base h) cs) (sym (ap (λ (u : TurnTaken). u.added) none)) (fair_none (replay s.base h))

  follow_fair : (h : History) (used asked : ℕ) (ts : List TurnTaken) → Follow (working s) h used asked ts → IsFair s (replay s.base h) (flat_map added_of ts)
  follow_fair h used asked [] f = fair_none (replay s.base h)
  follow_fair h used asked (t ∷ ts) f =
      fair_on (replay s.base h) t.added (flat_map added_of ts) (turn_fair h used asked t f.0)
      (subst (λ (x : State Bytes). IsFair s x (flat_map added_of ts)) (replay_on s.base h t.added) (follow_fair (h ++ t.added) (used + t.grew) t.asked ts f.2))

  goes_gains : (old : AccountSide) (t : TurnTaken) (new : AccountSide) → Goes (working s) old t new → Gained s old new
  goes_gains old t new g = gained_by old new t.added g.history (turn_fair old.history old.used old.asked t g.turned) g.company

  doubt_fair : (old : AccountSide) (cs : History) → InDoubt (working s) old cs → IsFair s (replay s.base old.history) cs
  doubt_fair old [] d = fair_none (replay s.base old.history)
  doubt_fair old (c ∷ []) d = may_fair old.asked (replay s.base old.history) old.used s.limit c d.1 d.2
  doubt_fair old (c ∷ d ∷ cs) none = absurd none

  pub turn_gains : (old : AccountSide) (last : Turn) (new : AccountSide) → TakesTurn (working s) old last new → Gained s old new
  turn_gains old (turn.Closed job) new t = goes_gains old t.0 new t.2
  turn_gains old (turn.Committed task) new t = goes_gains old t.0 new t.2
  turn_gains old turn.Idle new t = goes_gains old t.0.0 new t.0.2
  turn_gains old turn.NotYet new t = goes_gains old t.0.0 new t.0.2
  turn_gains old turn.SpawnFault new t = goes_gains old t.0.0 new t.0.2
  turn_gains old turn.Full new t = gained_none old new t.unmoved.history t.unmoved.counts
  turn_gains old turn.Disk new t = gained_by old new t.last t.history (doubt_fair old t.last t.doubt) t.company
  turn_gains old turn.Memory new t = gained_none old new t.history t.counts

  pub drained_gains : (most : ℕ) (old : AccountSide) (last : Turn) (new : AccountSide) → Drained (working s) most old last new → Gained s old new
  drained_gains most old last new d =
      gained_more old d.middle new
      (gained_by old d.middle (flat_map added_of d.turns) d.led.history (follow_fair old.history old.used old.asked d.turns d.led.follow) d.led.company)
      (turn_gains d.middle last new d.ends)

  -- ---- messages

  -- the command of an answer is honest whatever children give, and has its archive
  answer_fair : (h : History) (used : ℕ) (head : Head) (body : Bytes) (moment : ℕ) (answer : Answer Bytes) → IsTheAnswer s h used head body moment answer → IsFair s (replay s.base h) answer.added
  answer_fair h used head body moment answer is = by s.knows is
    where
      by : (knows : Bool) → MatchBool knows (answer ≡ answer_of s.login s.limit (replay s.base h) used head body moment) ((answer.added ≡ []) × (answer.grew ≡ 0)) → IsFair s (replay s.base h) answer.added
      by true same =
          subst (λ (a : Answer Bytes). IsFair s (replay s.base h) a.added) (sym same)
          (honest_answer s.login s.runs (fate s.login) s.login s.limit (replay s.base h) used head body moment, answers_have_texts s.login s.limit (replay s.base h) used head body moment)
      by false none = subst (λ (cs : History). IsFair s (replay s.base h) cs) (sym none.0) (fair_none (replay s.base h))

  -- one exchange after another
  run_fair : (turns : (h : History) (used asked : ℕ) (t : TurnTaken) → s.turned h used asked t → MayTurn (working s) h used asked t) (h : History) (used asked : ℕ) (xs : List Exchange) → Runs s h used asked xs → IsFair s (replay s.base h) (flat_map commands_of xs)
  run_fair turns h used asked [] r = fair_none (replay s.base h)
  run_fair turns h used asked (x ∷ xs) r =
      let e = r.0 in
      let t = replay s.base h in
      let one = fair_on t x.answer.added x.turn.added (answer_fair h used x.head x.body x.moment x.answer e.answered)
      (subst (λ (y : State Bytes). IsFair s y x.turn.added) (replay_on s.base h x.answer.added) (turn_fair (h ++ x.answer.added) (used + x.answer.grew) _ x.turn (turns _ _ _ x.turn e.turned))) in
      fair_on t (commands_of x) (flat_map commands_of xs) one (subst (λ (y : State Bytes). IsFair s y (flat_map commands_of xs)) (replay_on s.base h (commands_of x)) (run_fair turns (h ++ commands_of x) _ _ xs r.2))

  ran_gains : (turns : (h : History) (used asked : ℕ) (t : TurnTaken) → s.turned h used asked t → MayTurn (working s) h used asked t) (old : Sides) (xs : List Exchange) (new : Sides) → Ran s old xs new → Gained s (account_of old) (account_of new)
  ran_gains turns old xs new r = gained_by (account_of old) (account_of new) (flat_map commands_of xs) r.history (run_fair turns old.history old.used old.asked xs r.run) r.company

  -- one message without its turn
  still_gains : (old : Sides) (x : Exchange) (new : Sides) → Ran (still s) old (x ∷ []) new → Gained s (account_of old) (account_of new)
  still_gains old x new r =
      let e = r.run.0 in
      let none : x.turn.added ≡ [] = ap (λ (u : TurnTaken). u.added) e.turned in
      let only : flat_map commands_of (x ∷ []) ≡ x.answer.added = append-nil (commands_of x) ∙ (ap (λ (cs : History). x.answer.added ++ cs) none ∙ append-nil x.answer.added) in
      gained_by (account_of old) (account_of new) (flat_map commands_of (x ∷ [])) r.history
      (subst (λ (cs : History). IsFair s (replay s.base old.history) cs) (sym only) (answer_fair old.history old.used x.head x.body x.moment x.answer e.answered)) r.company

  cut_gains : (since : ℕ → Files → Type 0) (old new : Sides) → NoCountFell (account_of old) (account_of new) → Cut s since old new → Gained s (account_of old) (account_of new)
  cut_gains since old new counts c =
      let zero = no_company s old.history old.used c.head c.body c.moment c.answer c.answered in
      let fell = counts.company in
      gained_by (account_of old) (account_of new) c.answer.added c.history (answer_fair old.history old.used c.head c.body c.moment c.answer c.answered) (omega (arith, zero, fell))

  halted_gains : (since : ℕ → Files → Type 0) (old new : Sides) (Did : AccountSide → AccountSide → Type 0) (h : Halted s since old new Did) → Gained s (account_of h.middle) (account_of new) → Gained s (account_of old) (account_of new)
  halted_gains since old new Did h more = gained_more (account_of old) (account_of h.middle) (account_of new) (still_gains old h.exchange h.middle h.answered) more

  ends_gains : (since : ℕ → Files → Type 0) (most : ℕ) (xs : List Exchange) (old : Sides) (end : ConnectionEnd) (new : Sides) → NoCountFell (account_of old) (account_of new) → Ends s since most xs old end new → Gained s (account_of old) (account_of new)
  ends_gains since most xs old ended.Ended new counts e = gained_none (account_of old) (account_of new) e.1.history counts
  ends_gains since most xs old ended.Many new counts e = gained_none (account_of old) (account_of new) e.3.history counts
  ends_gains since most xs old ended.Truncated new counts e = gained_none (account_of old) (account_of new) e.1.0.history counts
  ends_gains since most xs old ended.Refused new counts e = gained_none (account_of old) (account_of new) e.1.0.history counts
  ends_gains since most xs old ended.SourceFault new counts e = gained_none (account_of old) (account_of new) e.1.0.history counts
  ends_gains since most xs old ended.SinkFault new counts e =
      elim e.1 [
        | inl (inl cut) ↦ cut_gains since old new counts cut.0
        | inl (inr early) ↦ gained_none (account_of old) (account_of new) early.0.history counts
        | inr refusing ↦ gained_none (account_of old) (account_of new) refusing.history counts
      ]
  ends_gains since most xs old ended.Full new counts e = halted_gains since old new _ e.1 (turn_gains _ turn.Full _ e.1.did)
  ends_gains since most xs old ended.Disk new counts e =
      elim e.1 [
        | inl (inl cut) ↦ cut_gains since old new counts cut
        | inl (inr none) ↦ gained_none (account_of old) (account_of new) none.history counts
        | inr halted ↦ halted_gains since old new _ halted (turn_gains _ turn.Disk _ halted.did)
      ]
  ends_gains since most xs old ended.Memory new counts e =
      elim e.1 [
        | inl (inl cut) ↦ cut_gains since old new counts cut
        | inl (inr none) ↦ gained_none (account_of old) (account_of new) none.history counts
        | inr halted ↦ halted_gains since old new _ halted (turn_gains _ turn.Memory _ halted.did)
      ]

  -- one connection
  pub served_gains : (turns : (h : History) (used asked : ℕ) (t : TurnTaken) → s.turned h used asked t → MayTurn (working s) h used asked t) (since : ℕ → Files → Type 0) (most : ℕ) (old : Sides) (end : ConnectionEnd) (new : Sides) → Served s since most old end new
      → Gained s (account_of old) (account_of new)
  served_gains turns since most old end new x =
      gained_more (account_of old) (account_of x.middle) (account_of new) (ran_gains turns old x.exchanges x.middle x.ran) (ends_gains since most x.exchanges x.middle end new x.counts.account x.ends)

-- ---- events

-- what is gained on a link is gained in any setting that differs in the link alone
gained_on : (s : Setting) (link : LinkSide) (old new : AccountSide) → Gained (on_link s link) old new → Gained s old new
gained_on s link old new g = record { added = g.added; grew = g.grew; honest = g.honest; archives = g.archives; company = g.company }

module _ (s : Setting) (turns : (h : History) (used asked : ℕ) (t : TurnTaken) → s.turned h used asked t → MayTurn (working s) h used asked t) where
  visited_gains : {L : Type 0} (side : L → LinkSide) (stays : L → L → Type 0) (since : ℕ → Files → Type 0) (x : Round L) (old new : AccountSide) → Visited side stays s since x old new → Gained s old new
  visited_gains side stays since x old new did =
      gained_on s (side x.taken) old new (served_gains (on_link s (side x.taken)) turns since most_messages (joined (side x.taken) old) x.end (joined (side x.given) new) did.0)

  unless_gains : (why : Option ServeEnd) (drain : Option Turn) (old new : AccountSide) → DrainsUnless s why drain old new → Gained s old new
  unless_gains (Some why) drain old new d = subst (λ (x : AccountSide). Gained s old x) (sym d.1) (gained_none s old old refl (no_count_fell_self old))
  unless_gains None drain old new d = drained_gains s most_turns old d.0 new d.2

  pub behind_gains : {L : Type 0} (e : Event L) (old new : AccountSide) → DrainsBehind s e old new → Gained s old new
  behind_gains (Had x) old new d = unless_gains (end_breaks x.end) x.drain old new d
  behind_gains (Woke last) old new d = drained_gains s most_turns old last new d

  pub event_gains : {L : Type 0} (side : L → LinkSide) (stays : L → L → Type 0) (since : ℕ → Files → Type 0) (old : AccountSide) (es : List (Event L)) (new : AccountSide) → Events (Visited side stays s since) (DrainsBehind s) old es new → Gained s old new
  event_gains side stays since old [] new led = subst (λ (x : AccountSide). Gained s old x) (sym led) (gained_none s old old refl (no_count_fell_self old))
  event_gains {L} side stays since old (Woke last ∷ es) new led = let e : Event L = Woke last in gained_more s old led.0 new (behind_gains e old led.0 led.1) (event_gains side stays since led.0 es new led.3)
  event_gains side stays since old (Had x ∷ es) new led =
      gained_more s old led.0 new (visited_gains side stays since x old led.0 led.2)
      (gained_more s led.0 led.1 new (behind_gains (Had x) led.0 led.1 led.3) (event_gains side stays since led.1 es new led.5))
