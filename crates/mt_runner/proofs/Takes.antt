-- A turn, from what it did to children and to a history: how the account goes on.
use Rattle.std.proofs.Common.{◌≡◌, ◌≢◌, ◌⊎◌, inl, inr, ℕ, ◌+◌, ◌<◌, ◌≤◌, min, Bool, true, false, List, [], ◌∷◌, ◌++◌, length, map, refl, ap, sym, subst, ◌∙◌, arith, append-nil, length-append, Option, Some, None, ⊎_elim}
use Rattle.std.specs.Prelude.{is_some}
use Rattle.std.specs.Bool.{MatchBool}
use Rattle.mt_base.specs.Counts.{NeverFell, Rose, RoseBy}
use Rattle.mt_base.specs.Lists.{IsPrefixOf}
use Rattle.mt_disk.specs.Files.{Files}
use Rattle.mt_types.specs.declared.command.Command.{Command}
use Rattle.mt_types.specs.declared.command.Command.TheVariants.{Close, Commit}
use Rattle.mt_types.specs.declared.job.Task.{Task}
use Rattle.mt_types.specs.declared.task.Raw.{Raw}
use Rattle.mt_types.specs.declared.task.Run.{Run}
use Rattle.mt_model.specs.CommandStep.{replay}
use Rattle.mt_model.specs.Honest.{Bytes}
use Rattle.mt_model.specs.State.{State}
use Rattle.mt_spawn.specs.Children.{Seen}
use Rattle.mt_body.specs.Growth.{command_growth}
use Rattle.mt_opening.specs.Current.{EngineState, IsCurrent, told_size}
use Rattle.mt_opening.specs.History.{History}
use Rattle.mt_tasks.specs.Adding.{Added, HasRoom, Lacked, LacksRoom, MayHaveAdded}
use Rattle.mt_tasks.specs.Standing.{ready_tasks, waiting}
use Rattle.mt_runner.specs.Account.{AccountSide, NoCountFell, account_side, asked_again, tasks_of}
use Rattle.mt_runner.specs.Attends.{Attends, Ended, Finishes, WorkSide, Works}
use Rattle.mt_runner.specs.Moves.{Due, IsDueAt, Moves}
use Rattle.mt_runner.specs.Progress.{CompanyRose, Progressed}
use Rattle.mt_runner.specs.Turning.{AddsNone, AddsOne, Broke, DidAdd, ClosesJob, CommitsTask, Goes, HasReady, IsDue, IsFull, MayAdd, MayTurn, TakesTurn, TurnTaken, Unmoved, Working, companies, company_by, missed_by, no_turn, working_of}
use Rattle.mt_runner.specs.declared.turn.Turn.{Turn}
use Rattle.mt_runner.specs.declared.turn.Turn.TheVariants as turn

-- a command that is due at a moment that the clock may give is one that a turn may add
pub may_add : (knows : Bool) (moments : ℕ → ℕ → Type 0) (runs : Run → Bytes → Raw → Type 0) (login : Bytes) (slots limit : ℕ) (base : State Bytes) (call now : ℕ) (s : State Bytes) (c : Command Bytes)
    → moments call now → Due login runs now s c → MayAdd (working_of knows moments runs login slots limit base) call s c
may_add knows moments runs login slots limit base call now s c given d = record { due = by c d.due; honest = d.honest; is_free = d.is_free }
  where
    by : (c : Command Bytes) → IsDueAt login now s c → IsDue (working_of knows moments runs login slots limit base) call s c
    by (Commit job phase place f moment) due = (subst (λ (m : ℕ). moments call m) (sym due.0) given, due.1)
    by (Close job cancelled archive moment) due = (subst (λ (m : ℕ). moments call m) (sym due.0) given, due.1, due.2, due.3)
    by _ due = absurd due

-- ---- a turn over a disk that tells what it holds

head_is : (c d : Command Bytes) → c ∷ [] ≡ d ∷ [] → c ≡ d
head_is c d e = cc

companies_one : (slots : ℕ) (s : State Bytes) (c : Command Bytes) → companies slots s (c ∷ []) ≡ company_by slots s c
unfolding companies
companies_one slots s c = none (company_by slots s c)
  where
    none : (n : ℕ) → n + 0 ≡ n
    none n = omega arith

companies_none : (slots : ℕ) (s : State Bytes) → companies slots s [] ≡ 0
unfolding companies
companies_none slots s = refl

missed_one : (ts : List Task) → ts ≢ [] → missed_by ts ≡ 1
missed_one [] some = absurd (some refl)
missed_one (t ∷ ts) some = refl

pub size_is : (seen : Option Files) (e : EngineState) (base : State Bytes) (h : History) → IsCurrent seen e base h → told_size seen e ≡ e.log.gate + 1
size_is seen e base h i = ap (λ (o : Option Files). told_size o e) i.is_read.seen_is

module _ {F : Type 0} (moments : ℕ → ℕ → Type 0) (runs : Run → Bytes → Raw → Type 0) (login : Bytes) (slots : ℕ) (base : State Bytes) (knows : Bool) (is : knows ≡ true) (call now : ℕ) (given : moments call now)
    (h : History) (seen' : Option Files) (k : History) (old new : WorkSide F) (time time' : ℕ) (is_open : old.engine.log.closed ≡ false)
    (waits : waiting (replay base h) ≡ waiting old.engine.state) (ready : ready_tasks (replay base h) ≡ ready_tasks old.engine.state) where
  -- one command was added
  goes_one : (a : Added (Due login runs now) base h old.engine seen' new.engine k) → NoCountFell (account_side h (old.engine.log.gate + 1) old.disk_faults time call (tasks_of old.seen)) (account_side k (told_size seen' new.engine) new.disk_faults time' (asked_again call) (tasks_of new.seen))
      → RoseBy (company_by slots (replay base h) a.command) old.seen.company new.seen.company
      → Goes (working_of knows moments runs login slots old.engine.log.limit base) (account_side h (old.engine.log.gate + 1) old.disk_faults time call (tasks_of old.seen))
      (record { added = a.command ∷ []; grew = command_growth a.command; missed = 0; asked = asked_again call }) (account_side k (told_size seen' new.engine) new.disk_faults time' (asked_again call) (tasks_of new.seen))
  goes_one a counts company =
      let w : Working = working_of knows moments runs login slots old.engine.log.limit base in
      let t : TurnTaken = record { added = a.command ∷ []; grew = command_growth a.command; missed = 0; asked = asked_again call } in
      let did : DidAdd w call (replay base h) (old.engine.log.gate + 1) t (a.command ∷ []) = (may_add knows moments runs login slots old.engine.log.limit base call now (replay base h) a.command given a.is, a.room, refl, refl) in
      record {
        turned = (refl, subst (λ (b : Bool). MatchBool b (DidAdd w call (replay base h) (old.engine.log.gate + 1) t (a.command ∷ [])) (t ≡ no_turn t.asked)) (sym is) did);
        history = a.history;
        used = omega (arith, size_is seen' new.engine base k a.current, a.grew);
        asked = refl;
        missed = omega (arith, counts.waits, counts.spawn);
        company = subst (λ (n : ℕ). RoseBy n old.seen.company new.seen.company) (sym (companies_one slots (replay base h) a.command)) company;
        counts = counts;
      }

  -- nothing was added
  goes_none : k ≡ h → IsCurrent seen' new.engine base h → new.engine ≡ old.engine → (missed : ℕ) → (waiting (replay base h) ≡ None) → missed ≡ missed_by (ready_tasks (replay base h))
      → NoCountFell (account_side h (old.engine.log.gate + 1) old.disk_faults time call (tasks_of old.seen)) (account_side k (told_size seen' new.engine) new.disk_faults time' (asked_again call) (tasks_of new.seen))
      → RoseBy missed (old.seen.waits + old.seen.faults) (new.seen.waits + new.seen.faults)
      → Goes (working_of knows moments runs login slots old.engine.log.limit base) (account_side h (old.engine.log.gate + 1) old.disk_faults time call (tasks_of old.seen))
      (record { added = []; grew = 0; missed = missed; asked = asked_again call }) (account_side k (told_size seen' new.engine) new.disk_faults time' (asked_again call) (tasks_of new.seen))
  goes_none same i engine missed none is_missed counts rose =
      let w : Working = working_of knows moments runs login slots old.engine.log.limit base in
      let t : TurnTaken = record { added = []; grew = 0; missed = missed; asked = asked_again call } in
      let did : DidAdd w call (replay base h) (old.engine.log.gate + 1) t [] = (none, refl, is_missed) in
      record {
        turned = (refl, subst (λ (b : Bool). MatchBool b (DidAdd w call (replay base h) (old.engine.log.gate + 1) t []) (t ≡ no_turn t.asked)) (sym is) did);
        history = same ∙ sym (append-nil h);
        used = omega (arith, size_is seen' new.engine base h i, ap (λ (e : EngineState). e.log.gate) engine);
        asked = refl;
        missed = rose;
        company = omega (arith, counts.company, companies_none slots (replay base h));
        counts = counts;
      }

  -- one that is due stands or not, where the disk failed
  broke_one : (m : MayHaveAdded (Due login runs now) base h old.engine k) → new.engine.log.closed ≡ true
      → CompanyRose slots old.engine.state old new ⊎ ((new.seen.company ≡ old.seen.company) × (waiting old.engine.state ≡ None → new.engine.log.closed ≡ old.engine.log.closed))
      → RoseBy (company_by slots (replay base h) m.command) old.seen.company new.seen.company
  broke_one m closed p = by m.command m.is.due p
    where
      by : (c : Command Bytes) → IsDueAt login now (replay base h) c
          → CompanyRose slots old.engine.state old new ⊎ ((new.seen.company ≡ old.seen.company) × (waiting old.engine.state ≡ None → new.engine.log.closed ≡ old.engine.log.closed))
          → RoseBy (company_by slots (replay base h) c) old.seen.company new.seen.company
      by (Commit job phase place f moment) due (inl r) = omega (arith, r, ap length ready)
      by (Commit job phase place f moment) due (inr s) = let no : true ≡ false = sym closed ∙ (s.1 (sym waits ∙ due.1) ∙ is_open) in absurd (cc)
      by (Close job cancelled archive moment) due (inl r) = omega (arith, r)
      by (Close job cancelled archive moment) due (inr s) = omega (arith, s.0)
      by _ due p = absurd due

  pub takes_told : (end : Turn) → Moves (Due login runs now) end base h old.engine seen' new.engine k → Progressed slots old.engine.state old end new
      → NoCountFell (account_side h (old.engine.log.gate + 1) old.disk_faults time call (tasks_of old.seen)) (account_side k (told_size seen' new.engine) new.disk_faults time' (asked_again call) (tasks_of new.seen))
      → TakesTurn (working_of knows moments runs login slots old.engine.log.limit base) (account_side h (old.engine.log.gate + 1) old.disk_faults time call (tasks_of old.seen)) end
      (account_side k (told_size seen' new.engine) new.disk_faults time' (asked_again call) (tasks_of new.seen))
  takes_told (turn.Closed n) m p counts =
      let c : m.0.command ≡ Close n false m.1.0 m.1.1 = head_is m.0.command (Close n false m.1.0 m.1.1) m.1.2 in
      let none : company_by slots (replay base h) m.0.command ≡ 0 = ap (company_by slots (replay base h)) c in
      (record { added = m.0.command ∷ []; grew = command_growth m.0.command; missed = 0; asked = asked_again call }, (λ kn. m.1), goes_one m.0 counts (omega (arith, none, p.by_end.1)))
  takes_told (turn.Committed t) m p counts =
      let c : m.0.command ≡ Commit t.job t.phase t.place m.1.0 m.1.1 = head_is m.0.command (Commit t.job t.phase t.place m.1.0 m.1.1) m.1.2 in
      let many : company_by slots (replay base h) m.0.command ≡ min slots (length (ready_tasks (replay base h))) = ap (company_by slots (replay base h)) c in
      (record { added = m.0.command ∷ []; grew = command_growth m.0.command; missed = 0; asked = asked_again call }, (λ kn. m.1), goes_one m.0 counts (omega (arith, many, ap length ready, p.by_end.1)))
  takes_told turn.Idle m p counts =
      let none : ready_tasks (replay base h) ≡ [] = ready ∙ p.by_end.1 in
      ((record { added = []; grew = 0; missed = 0; asked = asked_again call }, refl, goes_none m.0 m.1 p.by_end.3 0 (waits ∙ p.by_end.0) (ap missed_by (sym none)) counts (omega (arith, counts.waits, counts.spawn))), (λ kn. none))
  takes_told turn.NotYet m p counts =
      let some : ready_tasks (replay base h) ≢ [] = λ e. p.by_end.1 (sym ready ∙ e) in (
        (
          record { added = []; grew = 0; missed = 1; asked = asked_again call },
          refl,
          goes_none m.0 m.1 p.by_end.4 1 (waits ∙ p.by_end.0) (sym (missed_one (ready_tasks (replay base h)) some)) counts (omega (arith, p.by_end.2, counts.spawn)),
        ),
        (λ kn. some),
        p.by_end.2,
      )
  takes_told turn.SpawnFault m p counts =
      let some : ready_tasks (replay base h) ≢ [] = λ e. p.by_end.1 (sym ready ∙ e) in (
        (
          record { added = []; grew = 0; missed = 1; asked = asked_again call },
          refl,
          goes_none m.0 m.1 p.by_end.4 1 (waits ∙ p.by_end.0) (sym (missed_one (ready_tasks (replay base h)) some)) counts (omega (arith, p.by_end.2, counts.waits)),
        ),
        (λ kn. some),
        p.by_end.2,
      )
  takes_told turn.Full m p counts = record {
    unmoved = record { history = m.history; counts = counts };
    used = omega (arith, size_is seen' new.engine base h m.current, ap (λ (e : EngineState). e.log.gate) p.by_end.1);
    why = λ kn. (m.command, may_add knows moments runs login slots old.engine.log.limit base call now (replay base h) m.command given m.is, m.lacks);
  }
  takes_told turn.Disk (inl same) p counts = record {
    last = [];
    history = same.0 ∙ sym (append-nil h);
    doubt = tt;
    company = omega (arith, counts.company, companies_none slots (replay base h));
    rose = p.by_end.0;
    counts = counts;
  }
  takes_told turn.Disk (inr m) p counts = record {
    last = m.1.command ∷ [];
    history = m.1.history;
    doubt = (is, may_add knows moments runs login slots old.engine.log.limit base call now (replay base h) m.1.command given m.1.is, m.1.room);
    company = subst (λ (n : ℕ). RoseBy n old.seen.company new.seen.company) (sym (companies_one slots (replay base h) m.1.command)) (broke_one m.1 m.0 p.by_end.1);
    rose = p.by_end.0;
    counts = counts;
  }
  takes_told turn.Memory m p counts = record { history = m.0; counts = counts }

-- ---- over a disk that tells nothing: nothing is said but of the counts

not_so : (b : Bool) → b ≡ false → b ≡ true → ⊥
not_so b wrong right = let bad : false ≡ true = sym wrong ∙ right in absurd (cc)

module _ (working : Working) (old new : AccountSide) (same : new.history ≡ old.history) (counts : NoCountFell old new) (untold : working.knows ≡ false) where
  -- a turn of which nothing is told
  quiet : new.used ≡ old.used → new.asked ≡ asked_again old.asked → Goes working old (no_turn (asked_again old.asked)) new
  quiet used asked =
      let t : TurnTaken = no_turn (asked_again old.asked) in
      record {
        turned = (refl, subst (λ (b : Bool). MatchBool b (DidAdd working old.asked (replay working.base old.history) old.used t []) (t ≡ no_turn t.asked)) (sym untold) refl);
        history = same ∙ sym (append-nil old.history);
        used = omega (arith, used);
        asked = asked;
        missed = omega (arith, counts.waits, counts.spawn);
        company = omega (arith, counts.company, companies_none working.slots (replay working.base old.history));
        counts = counts;
      }

  -- the length is told of no log, where the engine is open
  pub takes_untold : (end : Turn) → (used : end ≢ turn.Disk → end ≢ turn.Memory → new.used ≡ old.used) → new.asked ≡ asked_again old.asked
      → (end ≡ turn.NotYet → Rose old.tasks.waits new.tasks.waits) → (end ≡ turn.SpawnFault → Rose old.tasks.faults new.tasks.faults) → (end ≡ turn.Disk → Rose old.disk_faults new.disk_faults)
      → TakesTurn working old end new
  takes_untold (turn.Closed n) used asked waits faults disk = (no_turn (asked_again old.asked), (λ kn. absurd (not_so working.knows untold kn)), quiet (used (λ e. cc) (λ e. cc)) asked)
  takes_untold (turn.Committed t) used asked waits faults disk = (no_turn (asked_again old.asked), (λ kn. absurd (not_so working.knows untold kn)), quiet (used (λ e. cc) (λ e. cc)) asked)
  takes_untold turn.Idle used asked waits faults disk = ((no_turn (asked_again old.asked), refl, quiet (used (λ e. cc) (λ e. cc)) asked), (λ kn. absurd (not_so working.knows untold kn)))
  takes_untold turn.NotYet used asked waits faults disk = ((no_turn (asked_again old.asked), refl, quiet (used (λ e. cc) (λ e. cc)) asked), (λ kn. absurd (not_so working.knows untold kn)), waits refl)
  takes_untold turn.SpawnFault used asked waits faults disk = ((no_turn (asked_again old.asked), refl, quiet (used (λ e. cc) (λ e. cc)) asked), (λ kn. absurd (not_so working.knows untold kn)), faults refl)
  takes_untold turn.Full used asked waits faults disk = record { unmoved = record { history = same; counts = counts }; used = used (λ e. cc) (λ e. cc); why = λ kn. absurd (not_so working.knows untold kn) }
  takes_untold turn.Disk used asked waits faults disk = record {
    last = [];
    history = same ∙ sym (append-nil old.history);
    doubt = tt;
    company = omega (arith, counts.company, companies_none working.slots (replay working.base old.history));
    rose = disk refl;
    counts = counts;
  }
  takes_untold turn.Memory used asked waits faults disk = record { history = same; counts = counts }
