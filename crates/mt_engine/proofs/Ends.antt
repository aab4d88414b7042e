-- What a run leaves on the disk once it is ended, and at each moment before.
use Rattle.std.proofs.Common.{◌≡◌, ℕ, Bool, false, ⊎_elim, List, [], ◌∷◌, ◌++◌, Option, Some, Ok, refl, sym, ap, ◌∙◌, subst, append_assoc, append-nil}
use Rattle.std.specs.Prelude.{IsOk}
use Rattle.std.specs.Option.{ForSome}
use Rattle.mt_base.specs.Lists.{IsPrefixOf}
use Rattle.mt_codec.specs.Spelling.{HasSpelling, spelling}
use Rattle.mt_disk.specs.Files.{Files}
use Rattle.mt_disk.specs.CrashModel.{LeavesOnly, Only}
use Rattle.mt_disk.proofs.Moments.{weakens}
use Rattle.mt_log.specs.LogImage.{IsBeforeOrAfter, IsLogOf, ReadsAs, payloads, payloads_of}
use Rattle.mt_log.specs.LogState.{told, with_payloads}
use Rattle.mt_log.specs.RunState.{HasTaken, RunState}
use Rattle.mt_log.proofs.Standing.{log_is}
use Rattle.mt_log.proofs.Walks.{read_by}
use Rattle.mt_body.specs.Stored.{IsStored, bytes_of}
use Rattle.mt_model.specs.Bodies.{OfCommand}
use Rattle.mt_model.specs.State.{State}
use Rattle.mt_types.specs.Kinds.{kind_of}
use Rattle.mt_types.specs.Values.{command_with}
use Rattle.mt_types.specs.declared.body.Body.{Body}
use Rattle.mt_types.specs.declared.command.Command.{Command}
use Rattle.mt_account.specs.Taken.{IsTaken}
use Rattle.mt_opening.specs.Current.{EngineState, IsBetween, IsCurrent, IsWriting}
use Rattle.mt_opening.specs.History.{Bytes, HasHistory, History, IsHistoryOf}
use Rattle.mt_opening.proofs.Held.{Holding, current_at, holding_command, holding_in, told_now}
use Rattle.mt_engine.specs.Accepting.{Takes, with_command, with_run}

-- a front of a history, and of one with more
pub all_of : (h : History) → IsPrefixOf h h
all_of h = ([], append-nil h)

pub front_of : (h : History) (c : Command Bytes) → IsPrefixOf h (h ++ c ∷ [])
front_of h c = (c ∷ [], refl)

module _ (seen : Option Files) (engine : EngineState) (base : State Bytes) (h : History) (i : IsCurrent seen engine base h) where
  reads_ok : payloads i.is_read.files ≡ Ok (payloads_of i.is_read.files)
  reads_ok = log_is i.is_read.files engine.log i.is_read.log false ∙ ap (λ (old : Bool). read_by false old (Ok (payloads_of i.is_read.files))) i.version

  pub has_read : (c : Files) (ps : List (List ℕ)) (k : History) → ReadsAs i.is_read.files c ps → IsHistoryOf ps base k → HasHistory base k c
  has_read c ps k reads is = record { ps = ps; read = reads.reads false (subst IsOk (sym reads_ok) refl); fit = reads.fit; is = is }

  -- before or after records with which the history is another
  pub has_either : (records : List (List ℕ)) (k : History) → IsHistoryOf (payloads_of i.is_read.files ++ records) base k → (P : Files → Type 0)
      → ((c : Files) → HasHistory base h c → P c) → ((c : Files) → HasHistory base k c → P c) → (c : Files) → IsBeforeOrAfter i.is_read.files records c → P c
  has_either records k is P before after c either =
      ⊎_elim (λ b. before c (has_read c (payloads_of i.is_read.files) h b i.is_read.history)) (λ a. after c (has_read c (payloads_of i.is_read.files ++ records) k a is)) either

module _ {D : Type 0} (moment : D → ℕ) (left_since : D → ℕ → Files → Type 0) (old new : D) (seen : Option Files) (engine : EngineState) (run : RunState) (base : State Bytes) (h : History) (qs : List (List ℕ)) (w : IsWriting seen engine run base h qs) where
  -- a run goes on
  pub goes_on_leaves : ForSome seen (λ files. LeavesOnly moment left_since old new (IsBeforeOrAfter files [])) → LeavesOnly moment left_since old new (HasHistory base h)
  goes_on_leaves any =
      let i = w.current in
      weakens moment left_since old new (IsBeforeOrAfter i.is_read.files []) (HasHistory base h)
      (has_either seen engine base h i [] h (subst (λ (x : List (List ℕ)). IsHistoryOf x base h) (sym (append-nil (payloads_of i.is_read.files))) i.is_read.history) (HasHistory base h) (λ c x. x) (λ c x. x))
      (any i.is_read.files i.is_read.seen_is)

  -- a run is ended
  pub end_leaves : ForSome seen (λ files. (records : List (List ℕ)) → HasTaken seen engine.log run records → LeavesOnly moment left_since old new (IsBeforeOrAfter files records))
      → LeavesOnly moment left_since old new (HasHistory base h)
  end_leaves any =
      let i = w.current in
      let holds = holding_in seen engine base h run qs w in
      weakens moment left_since old new (IsBeforeOrAfter i.is_read.files w.records) (HasHistory base h)
      (has_either seen engine base h i w.records h (subst (λ (x : List (List ℕ)). IsHistoryOf x base h) w.all holds.history) (HasHistory base h) (λ c x. x) (λ c x. x))
      (any i.is_read.files i.is_read.seen_is w.records w.taken)

  -- and with a command
  pub command_leaves : (c : Command Body) → IsTaken (kind_of c) → HasSpelling c → OfCommand (IsStored qs) c → Takes engine run c
      → ForSome seen (λ files. (records : List (List ℕ)) → HasTaken seen engine.log run records → LeavesOnly moment left_since old new (IsBeforeOrAfter files (records ++ spelling c ∷ [])))
      → LeavesOnly moment left_since old new (IsBetween base h (h ++ command_with (bytes_of qs) c ∷ []))
  command_leaves c kind fits stored takes any =
      let i = w.current in
      let k = h ++ command_with (bytes_of qs) c ∷ [] in
      let holds = holding_command qs engine.state base h c (holding_in seen engine base h run qs w) kind fits stored takes.few takes.allows in
      let whole = ap (λ (x : List (List ℕ)). x ++ spelling c ∷ []) w.all ∙ append_assoc (payloads_of i.is_read.files) w.records (spelling c ∷ []) in
      weakens moment left_since old new (IsBeforeOrAfter i.is_read.files (w.records ++ spelling c ∷ [])) (IsBetween base h k)
      (has_either seen engine base h i (w.records ++ spelling c ∷ []) k (subst (λ (x : List (List ℕ)). IsHistoryOf x base k) whole holds.history) (IsBetween base h k)
      (λ f x. record { history = h; has = x; from = all_of h; to = front_of h (command_with (bytes_of qs) c) })
      (λ f x. record { history = k; has = x; from = front_of h (command_with (bytes_of qs) c); to = all_of k }))
      (any i.is_read.files i.is_read.seen_is w.records w.taken)

  pub only_before : LeavesOnly moment left_since old new (HasHistory base h) → LeavesOnly moment left_since old new (IsBetween base h h)
  only_before any = weakens moment left_since old new (HasHistory base h) (IsBetween base h h) (λ f x. record { history = h; has = x; from = all_of h; to = all_of h }) any

module _ (leaves : Files → Type 0) (seen seen' : Option Files) (engine engine' : EngineState) (run : RunState) (base : State Bytes) (h : History) (qs : List (List ℕ)) (w : IsWriting seen engine run base h qs) where
  -- an engine whose log stands
  stands_at : (e : EngineState) (k : History) (ps : List (List ℕ)) → engine' ≡ e → e.log.closed ≡ false → e.log.is_old ≡ false → told seen' ≡ Some ps
      → (engine'.log.closed ≡ false → ForSome seen' (λ files. Only files leaves × IsLogOf files engine'.log.file engine'.log.gate engine'.log.is_old)) → Holding ps e.state base k → IsCurrent seen' engine' base k
  stands_at e k ps is is_open new tells stands holds =
      let open' = ap (λ (x : EngineState). x.log.closed) is ∙ is_open in
      subst (λ (x : EngineState). IsCurrent seen' x base k) (sym is)
      (current_at seen' e base k ps tells (λ files at. subst (λ (x : EngineState). IsLogOf files x.log.file x.log.gate x.log.is_old) is (stands open' files at).1) is_open new holds)

  -- a run is ended
  pub ended_current : told seen' ≡ with_payloads w.records (told seen) → engine' ≡ with_run engine run
      → (engine'.log.closed ≡ false → ForSome seen' (λ files. Only files leaves × IsLogOf files engine'.log.file engine'.log.gate engine'.log.is_old)) → IsCurrent seen' engine' base h
  ended_current more is stands =
      let i = w.current in
      let holds = holding_in seen engine base h run qs w in
      stands_at (with_run engine run) h qs is i.is_read.is_open i.version (more ∙ ap (with_payloads w.records) (told_now seen engine base h i) ∙ ap (λ (x : List (List ℕ)). Some x) (sym w.all)) stands holds

  -- and with a command
  pub added_current : (c : Command Body) → IsTaken (kind_of c) → HasSpelling c → OfCommand (IsStored qs) c → Takes engine run c
      → told seen' ≡ with_payloads (w.records ++ spelling c ∷ []) (told seen) → engine' ≡ with_command engine run c
      → (engine'.log.closed ≡ false → ForSome seen' (λ files. Only files leaves × IsLogOf files engine'.log.file engine'.log.gate engine'.log.is_old))
      → IsCurrent seen' engine' base (h ++ command_with (bytes_of qs) c ∷ [])
  added_current c kind fits stored takes more is stands =
      let i = w.current in
      let holds = holding_command qs engine.state base h c (holding_in seen engine base h run qs w) kind fits stored takes.few takes.allows in
      let whole = ap (λ (x : List (List ℕ)). x ++ spelling c ∷ []) w.all ∙ append_assoc (payloads_of i.is_read.files) w.records (spelling c ∷ []) in
      stands_at (with_command engine run c) (h ++ command_with (bytes_of qs) c ∷ []) (qs ++ spelling c ∷ []) is i.is_read.is_open i.version
      (more ∙ ap (with_payloads (w.records ++ spelling c ∷ [])) (told_now seen engine base h i) ∙ ap (λ (x : List (List ℕ)). Some x) (sym whole)) stands holds
