-- What was added to a history, by the answer.
use Rattle.std.proofs.Common.{◌≡◌, ◌≢◌, ◌⊎◌, inl, inr, ⊎_elim, ◌<◌, ◌≤◌, ℕ, ◌+◌, ◌-◌, Bool, true, false, true≢false, is_some, IsTrue, List, [], ◌∷◌, ◌++◌, length, Option, Some, None, refl, sym, ap, ◌∙◌, subst, arith, append_assoc, append-nil}
use Rattle.std.specs.Option.{ForSome}
use Rattle.std.proofs.lemmas.Option.{none-some}
use Rattle.mt_base.specs.Counts.{NeverFell}
use Rattle.mt_base.specs.Lists.{IsPrefixOf}
use Rattle.mt_codec.specs.Spelling.{spelling}
use Rattle.mt_codec.proofs.SizesRead.{read_size}
use Rattle.mt_disk.specs.CrashModel.{LeavesOnly}
use Rattle.mt_disk.specs.Files.{Files}
use Rattle.mt_disk.proofs.Moments.{joins, started, weakens}
use Rattle.mt_log.specs.LogImage.{Fit, payloads_of}
use Rattle.mt_log.specs.LogState.{Stands}
use Rattle.mt_log.specs.RunState.{RunState}
use Rattle.mt_log.proofs.Appended.{chosen_fit}
use Rattle.mt_log.proofs.Standing.{stands_leave}
use Rattle.mt_body.specs.Growth.{command_growth, command_pieces, growth}
use Rattle.mt_body.specs.Stored.{IsStored, bytes_of}
use Rattle.mt_model.specs.Bodies.{OfCommand, state_with}
use Rattle.mt_model.specs.CommandStep.{allowed, replay, step}
use Rattle.mt_model.specs.Honest.{Bytes}
use Rattle.mt_model.specs.State.{State}
use Rattle.mt_types.specs.Values.{command_with}
use Rattle.mt_types.specs.declared.body.Body.{Body}
use Rattle.mt_types.specs.declared.command.Command.{Command}
use Rattle.mt_types.specs.declared.limits.TheConstants.{MOST_COMMANDS}
use Rattle.mt_types.specs.declared.refusal.Refusal.{Refusal}
use Rattle.mt_opening.specs.Current.{EngineIsReady, EngineState, IsBetween, IsCurrent, IsWriting, Serves}
use Rattle.mt_opening.specs.History.{HasHistory, History}
use Rattle.mt_engine.specs.Accepting.{Accepts, Decided, HasRoomFor, Reaches, Takes, with_command}
use Rattle.mt_engine.specs.Ready.{EngineGoesOn, EngineStays}
use Rattle.mt_engine.specs.declared.engine.Accepted.{Accepted}
use Rattle.mt_engine.specs.declared.engine.Accepted.TheVariants as accepted
use Rattle.mt_engine.proofs.Accepts.{size_is}
use Rattle.mt_engine.proofs.Ends.{all_of}
use Rattle.mt_account.proofs.Commands.{size_of}
use Rattle.mt_tasks.specs.Adding.{Added, Adds, HasRoom, LacksRoom, LeavesEngine, MayHaveAdded}
use Rattle.mt_tasks.specs.declared.outcomes.OutcomeEnd.{OutcomeEnd}
use Rattle.mt_tasks.specs.declared.outcomes.OutcomeEnd.TheVariants as outcome

-- ---- histories

prefix_on : (g h k : History) → IsPrefixOf g h → IsPrefixOf h k → IsPrefixOf g k
prefix_on g h k first second = (first.0 ++ second.0, sym (append_assoc g first.0 second.0) ∙ ap (λ (x : History). x ++ second.0) first.1 ∙ second.1)

pub between_same : (base : State Bytes) (h : History) (c : Files) → HasHistory base h c → IsBetween base h h c
between_same base h c has = record { history = h; has = has; from = all_of h; to = all_of h }

between_more : (base : State Bytes) (h k l : History) → IsPrefixOf k l → (c : Files) → IsBetween base h k c → IsBetween base h l c
between_more base h k l more c is = record { history = is.history; has = is.has; from = is.from; to = prefix_on is.history k l is.to more }

module _ {D : Type 0} (moment : D → ℕ) (left_since : D → ℕ → Files → Type 0) where
  -- a call that leaves the history of before
  pub leaves_same : (old new : D) (base : State Bytes) (h : History) → LeavesOnly moment left_since old new (HasHistory base h) → LeavesOnly moment left_since old new (IsBetween base h h)
  leaves_same old new base h leaves = weakens moment left_since old new (HasHistory base h) (IsBetween base h h) (between_same base h) leaves

  pub leaves_at : (old new : D) (base : State Bytes) (h k l : History) → k ≡ l → LeavesOnly moment left_since old new (IsBetween base h k) → LeavesOnly moment left_since old new (IsBetween base h l)
  leaves_at old new base h k l same leaves = subst (λ (x : History). LeavesOnly moment left_since old new (IsBetween base h x)) same leaves

  pub leaves_more : (old new : D) (base : State Bytes) (h k l : History) → IsPrefixOf k l → LeavesOnly moment left_since old new (IsBetween base h k) → LeavesOnly moment left_since old new (IsBetween base h l)
  leaves_more old new base h k l more leaves = weakens moment left_since old new (IsBetween base h k) (IsBetween base h l) (between_more base h k l more) leaves

  -- one that leaves it, and then another
  pub leaves_then : (old mid new : D) (base : State Bytes) (h k : History) → IsPrefixOf h k → LeavesOnly moment left_since old mid (HasHistory base h) → LeavesOnly moment left_since mid new (IsBetween base h k)
      → LeavesOnly moment left_since old new (IsBetween base h k)
  leaves_then old mid new base h k more first second =
      joins moment left_since old mid new (HasHistory base h) (IsBetween base h k) (IsBetween base h k) first second
      (λ c has. between_more base h h k more c (between_same base h c has)) (λ c x. x)

  -- two that leave it
  pub leaves_twice : (old mid new : D) (base : State Bytes) (h : History) → LeavesOnly moment left_since old mid (HasHistory base h) → LeavesOnly moment left_since mid new (HasHistory base h) → LeavesOnly moment left_since old new (HasHistory base h)
  leaves_twice old mid new base h first second = joins moment left_since old mid new (HasHistory base h) (HasHistory base h) (HasHistory base h) first second (λ c x. x) (λ c x. x)

-- a disk that isn't called
module _ {D : Type 0} (seen : D → Option Files) (may_leave : D → Files → Type 0) (moment : D → ℕ) (left_since : D → ℕ → Files → Type 0) (disk : D) (engine : EngineState) (base : State Bytes) (h : History)
    (stands : Stands seen may_leave disk engine.log) (i : IsCurrent (seen disk) engine base h) (only_now : (c : Files) → left_since disk (moment disk) c → may_leave disk c) where
  here : (c : Files) → may_leave disk c → HasHistory base h c
  here c left = record {
    ps = payloads_of i.is_read.files;
    read = stands_leave seen may_leave disk engine.log stands i.is_read.is_open i.version i.is_read.files i.is_read.seen_is c left;
    fit = subst Fit (sym ((stands i.is_read.is_open i.is_read.files i.is_read.seen_is).0 c left)) (chosen_fit i.is_read.files engine.log.file i.is_read.log.is_chosen);
    is = i.is_read.history;
  }

  pub idle : LeavesOnly moment left_since disk disk (IsBetween base h h)
  idle = started moment left_since disk (IsBetween base h h) (λ c left. between_same base h c (here c (only_now c left)))

-- ---- what an engine is told to have added

module _ (Q R : State Bytes → Command Bytes → Type 0) (base : State Bytes) (h : History) (e : EngineState) (seen' : Option Files) (e' : EngineState) (k : History) (each : (c : Command Bytes) → Q (replay base h) c → R (replay base h) c) where
  -- what is such a command is another
  pub adds_more : (end : OutcomeEnd) → Adds Q end base h e seen' e' k → Adds R end base h e seen' e' k
  adds_more outcome.Added a = record { command = a.command; is = each a.command a.is; room = a.room; history = a.history; current = a.current; grew = a.grew }
  adds_more outcome.Full a = record { command = a.command; is = each a.command a.is; lacks = a.lacks; history = a.history; current = a.current }
  adds_more outcome.Unread a = a
  adds_more outcome.Disk a = (a.0, ⊎_elim (λ same. inl same) (λ m. inr (record { command = m.command; is = each m.command m.is; room = m.room; history = m.history })) a.1)
  adds_more outcome.Memory a = a

-- an engine that is open stands for what it has
pub adds_current : (Q : State Bytes → Command Bytes → Type 0) (end : OutcomeEnd) (base : State Bytes) (h : History) (e : EngineState) (seen' : Option Files) (e' : EngineState) (k : History)
    → Adds Q end base h e seen' e' k → e'.log.closed ≡ false → IsCurrent seen' e' base k
adds_current Q outcome.Added base h e seen' e' k a is_open = a.current
adds_current Q outcome.Full base h e seen' e' k a is_open = subst (λ (x : History). IsCurrent seen' e' base x) (sym a.history) a.current
adds_current Q outcome.Unread base h e seen' e' k a is_open = subst (λ (x : History). IsCurrent seen' e' base x) (sym a.0) a.1
adds_current Q outcome.Disk base h e seen' e' k a is_open = absurd (true≢false (sym a.0 ∙ is_open))
adds_current Q outcome.Memory base h e seen' e' k a is_open = subst (λ (x : History). IsCurrent seen' e' base x) (sym a.0) (a.1 is_open)

-- so it serves
pub serves_on : (seen seen' : Option Files) (engine engine' : EngineState) → Serves seen engine → engine.log.closed ≡ false → (engine'.log.closed ≡ false → is_some seen' ≡ is_some seen)
    → ((base : State Bytes) (h : History) → IsCurrent seen engine base h → engine'.log.closed ≡ false → (k : History) × IsCurrent seen' engine' base k) → Serves seen' engine'
serves_on None seen' engine engine' serves is_open told current open' files is = absurd (true≢false (sym (ap is_some is) ∙ told open'))
serves_on (Some old) seen' engine engine' serves is_open told current open' files is =
    let s = serves is_open old refl in
    let k = current s.0 s.1 s.2 open' in
    (s.0, k.0, k.1)

-- time goes on over a disk that tells what it holds
pub later_by : (seen : Option Files) (engine : EngineState) (P : Type 0) → Serves seen engine → engine.log.closed ≡ false → ((base : State Bytes) (h : History) → IsCurrent seen engine base h → P) → is_some seen ≡ true → P
later_by None engine P serves is_open each told = absurd (true≢false (sym told))
later_by (Some files) engine P serves is_open each told = let s = serves is_open files refl in each s.0 s.1 s.2

-- ---- a command that was accepted

-- how an answer of the engine is told
abbrev pub end_of : Accepted → OutcomeEnd
end_of accepted.Added = outcome.Added
end_of (accepted.Refused refusal) = outcome.Memory
end_of accepted.Full = outcome.Full
end_of accepted.Disk = outcome.Disk
end_of accepted.Memory = outcome.Memory
end_of accepted.Closed = outcome.Memory

module _ (engine engine' : EngineState) (run : RunState) (command : Command Body) (order : engine.log.gate ≤ run.next) (is_open : engine.log.closed ≡ false) (free : allowed size_of engine.state command ≡ None)
    (room : HasRoomFor engine (run.next - engine.log.gate) command) where
  -- it is not refused, has room, and the log is open
  pub never_refused : (refusal : Refusal) → Decided (accepted.Refused refusal) engine run command engine' → ⊥
  never_refused refusal d = none-some refusal (sym free ∙ d.0)

  pub never_full : Decided accepted.Full engine run command engine' → ⊥
  never_full d = ⊎_elim (λ all. omega (arith, room.few, all)) (λ lacks. omega (arith, lacks, room.fits, order, size_is command)) d.1

  pub never_closed : Decided accepted.Closed engine run command engine' → ⊥
  never_closed d = true≢false (sym d.0 ∙ is_open)

  -- what the engine is then
  pub accepted_leaves : (result : Accepted) → Decided result engine run command engine' → LeavesEngine (end_of result) (λ s. s ≡ step engine.state command) engine engine'
  accepted_leaves accepted.Added d = (ap (λ (e : EngineState). e.state) d.1, ap (λ (e : EngineState). e.log.closed) d.1 ∙ is_open)
  accepted_leaves (accepted.Refused refusal) d = absurd (never_refused refusal d)
  accepted_leaves accepted.Full d = absurd (never_full d)
  accepted_leaves accepted.Disk d = d
  accepted_leaves accepted.Memory d = inr d
  accepted_leaves accepted.Closed d = absurd (never_closed d)

  module _ (base : State Bytes) (h : History) (qs : List (List ℕ)) (seen seen' : Option Files) (w : IsWriting seen engine run base h qs) (pieces : command_pieces (command_with (bytes_of qs) command) ≡ run.next - engine.log.gate) where
    -- its room over bytes
    bytes_room : HasRoom (replay base h) (engine.log.gate + 1) engine.log.limit (command_with (bytes_of qs) command)
    bytes_room = record {
      few = subst (λ (s : State Bytes). s.count < MOST_COMMANDS) w.current.is_read.state room.few;
      fits = omega (arith, room.fits, pieces, read_size (bytes_of qs) command);
    }

    -- what was added, and that a crash leaves no more
    pub accepted_adds : (result : Accepted) (k : History) → Decided result engine run command engine' → Accepts result (command_with (bytes_of qs) command) seen' engine' base h
        → Reaches result engine run command (command_with (bytes_of qs) command) h k
        → (l : History) × Adds (λ s c. c ≡ command_with (bytes_of qs) command) (end_of result) base h engine seen' engine' l × IsPrefixOf k l
    accepted_adds accepted.Added k d current reaches = (
      h ++ command_with (bytes_of qs) command ∷ [],
      record {
        command = command_with (bytes_of qs) command;
        is = refl;
        room = bytes_room;
        history = refl;
        current = current;
        grew = ap (λ (e : EngineState). e.log.gate) d.1 ∙ omega (arith, order, pieces, read_size (bytes_of qs) command, size_is command);
      },
      ⊎_elim (λ same. (command_with (bytes_of qs) command ∷ [], ap (λ (x : History). x ++ command_with (bytes_of qs) command ∷ []) same)) (λ added. ([], append-nil k ∙ added.0)) reaches,
    )
    accepted_adds (accepted.Refused refusal) k d current reaches = absurd (never_refused refusal d)
    accepted_adds accepted.Full k d current reaches = absurd (never_full d)
    accepted_adds accepted.Disk k d current reaches = (
      k,
      (d, ⊎_elim (λ same. inl same) (λ added. inr (record { command = command_with (bytes_of qs) command; is = refl; room = bytes_room; history = added.0 })) reaches),
      all_of k,
    )
    accepted_adds accepted.Memory k d current reaches =
        ⊎_elim (λ same. (k, (same, λ open'. absurd (true≢false (sym d ∙ open'))), all_of k))
        (λ added. absurd (⊎_elim (λ e. cc) (λ e. cc) added.2)) reaches
    accepted_adds accepted.Closed k d current reaches = absurd (never_closed d)
