-- The commit of a fate: that it is allowed, within its limits, and as long as was told.
use Rattle.std.proofs.Common.{◌≡◌, ◌≢◌, ◌⊎◌, inl, inr, ⊎_elim, ◌<◌, ◌≤◌, ℕ, ◌+◌, ◌-◌, Bool, true, false, true≢false, IsTrue, List, [], ◌∷◌, ◌++◌, length, map, Option, Some, None, IfSome, refl, sym, ap, ◌∙◌, subst, arith, append-nil}
use Rattle.std.specs.List.{AllByRecursion, AllZip}
use Rattle.std.proofs.lemmas.Bool.{cases_lt, le-leb}
use Rattle.std.proofs.lemmas.List.{length-map}
use Rattle.mt_base.specs.Lists.{IsPrefixOf}
use Rattle.mt_base.specs.declared.limits.TheConstants.{LAST_MOMENT}
use Rattle.mt_body.specs.Growth.{command_growth, command_pieces}
use Rattle.mt_body.specs.Stored.{bytes_of}
use Rattle.mt_codec.specs.Pieces.{blank_body, spelled_size}
use Rattle.mt_codec.specs.Spelling.{FitsBody, FitsFate, FitsPath, FitsRecord, IsWithinLimits, spelling}
use Rattle.mt_disk.specs.Files.{Files}
use Rattle.mt_log.specs.RunState.{RunState}
use Rattle.mt_model.specs.Bodies.{OfFate, OfRecord, state_with}
use Rattle.mt_model.specs.CommandStep.{allowed, replay, step}
use Rattle.mt_model.specs.Honest.{Bytes}
use Rattle.mt_model.specs.JobSteps.{commit_refusal, job_refusal}
use Rattle.mt_model.specs.Keeping.{IsSaidFate}
use Rattle.mt_model.specs.State.{State, job_at}
use Rattle.mt_sched.proofs.Ready.{a_ready_task}
use Rattle.mt_types.specs.Limits.{is_moment, is_number}
use Rattle.mt_types.specs.Values.{command_with, fate_with, record_with}
use Rattle.mt_types.specs.WellMade.{IsWellMadeFate}
use Rattle.mt_types.specs.declared.body.Body.{Body}
use Rattle.mt_types.specs.declared.command.Command.{Command}
use Rattle.mt_types.specs.declared.command.Command.TheVariants.{Commit}
use Rattle.mt_types.specs.declared.job.Job.{Job}
use Rattle.mt_types.specs.declared.job.Task.{Task}
use Rattle.mt_types.specs.declared.limits.TheConstants.{MOST_COMMANDS, MOST_RECORDS}
use Rattle.mt_types.specs.declared.refusal.Refusal.{Refusal}
use Rattle.mt_types.specs.declared.task.Fate.{Fate}
use Rattle.mt_types.specs.declared.task.Fate.TheVariants.{Good, Bad}
use Rattle.mt_types.specs.declared.task.Raw.{Raw}
use Rattle.mt_types.specs.declared.task.TaskFailure.TheVariants.{UserTaskError}
use Rattle.mt_types.specs.declared.task.TaskRecord.{TaskRecord}
use Rattle.mt_types.specs.declared.task.TaskRecord.TheVariants.{Emit, Keep, Ref}
use Rattle.mt_path.specs.AccountPath.{AccountPath}
use Rattle.mt_records.specs.Laws.{HasLength, IsOfRange, IsOver}
use Rattle.mt_records.specs.declared.range.Range.{Range}
use Rattle.mt_records.proofs.Said.{over_made}
use Rattle.mt_opening.specs.Current.{EngineState, IsCurrent}
use Rattle.mt_opening.specs.History.{History}
use Rattle.mt_opening.proofs.Held.{allowed_read}
use Rattle.mt_engine.specs.Accepting.{HasRoomFor}
use Rattle.mt_engine.proofs.Accepts.{size_is}
use Rattle.mt_log.specs.LogImage.{payloads_of}
use Rattle.mt_account.proofs.Commands.{size_of}
use Rattle.mt_tasks.specs.Adding.{Adds, HasRoom, IsFree, LacksRoom, LeavesEngine}
use Rattle.mt_tasks.specs.Over.{IsCommitOver}
use Rattle.mt_tasks.specs.Sizes.{blank, commit_of, fate_size}
use Rattle.mt_tasks.specs.Standing.{is_ready_in}
use Rattle.mt_tasks.specs.Storing.{placed}
use Rattle.mt_tasks.specs.declared.outcomes.OutcomeEnd.{OutcomeEnd}
use Rattle.mt_tasks.specs.declared.outcomes.OutcomeEnd.TheVariants as outcome
use Rattle.mt_tasks.specs.declared.sizes.TheConstants.{NO_BODY}
use Rattle.mt_tasks.proofs.Came.{blank_over, over_weaker, size_over}
use Rattle.mt_tasks.proofs.Rights.{ready_job}

-- ---- it is allowed

-- of a ready task
pub free_of : (s : State Body) (t : Task) (now : ℕ) (f : Fate Body) → is_ready_in s t ≡ true → allowed size_of s (commit_of t now f) ≡ None
unfolding allowed
free_of s t now f ready =
    let r = ready_job s t ready in
    ap (λ (o : Option (Job Body)). job_refusal o (commit_refusal t.phase t.place)) r.found ∙ a_ready_task r.job t.phase t.place r.ready

-- whatever its fate is
alike : (s : State Bytes) (t : Task) (now : ℕ) (f g : Fate Bytes) → allowed length s (commit_of t now f) ≡ allowed length s (commit_of t now g)
unfolding allowed
alike s t now f g = refl

module _ (seen : Option Files) (engine : EngineState) (base : State Bytes) (h : History) (i : IsCurrent seen engine base h) (t : Task) (now : ℕ) (ready : is_ready_in engine.state t ≡ true) where
  bytes_free : (g : Fate Bytes) → allowed length (replay base h) (commit_of t now g) ≡ None
  bytes_free g =
      let none : Fate Body = Bad UserTaskError 0 [] in
      let read : Body → Bytes = bytes_of (payloads_of i.is_read.files) in
      alike (replay base h) t now g (fate_with read none)
      ∙ ap (λ (s : State Bytes). allowed length s (commit_of t now (fate_with read none))) (sym i.is_read.state)
      ∙ allowed_read (payloads_of i.is_read.files) engine.state (commit_of t now none) ∙ free_of engine.state t now none ready

  -- over bytes of ranges it is well made and free
  pub over_free : (P : Range → Bytes → Type 0) (f : Fate Range) (g : Fate Bytes) → IsOver P f g → IsWellMadeFate f → IsFree (replay base h) (commit_of t now g)
  over_free P f g over made = record { made = over_made P f g over made; free = bytes_free g }

-- ---- it is as long as it is without bodies

module _ {B : Type 0} where
  one_twice : (r : TaskRecord B) → record_with (λ b. blank_body) r ≡ record_with (λ b. blank_body) (record_with (λ b. NO_BODY) r)
  one_twice (Emit place reducer body) = refl
  one_twice (Keep place body) = refl
  one_twice (Ref name) = refl

  list_twice : (rs : List (TaskRecord B)) → map (record_with (λ b. blank_body)) rs ≡ map (record_with (λ b. blank_body)) (map (record_with (λ b. NO_BODY)) rs)
  list_twice [] = refl
  list_twice (r ∷ rs) = λ i. one_twice r i ∷ list_twice rs i

  fate_twice : (f : Fate B) → fate_with (λ b. blank_body) f ≡ fate_with (λ b. blank_body) (blank f)
  fate_twice (Good records) = ap (λ (l : List (TaskRecord Body)). Good l) (list_twice records)
  fate_twice (Bad failure status stderr) = refl

  pub size_blank : (t : Task) (now : ℕ) (f : Fate B) → spelled_size (commit_of t now f) ≡ spelled_size (commit_of t now (blank f))
  unfolding spelled_size
  size_blank t now f = ap (λ (x : Fate Body). length (spelling (commit_of t now x))) (fate_twice f)

-- so it has its room behind pieces of its bodies
pub stored_room : (engine : EngineState) (run : RunState) (t : Task) (now : ℕ) (f : Fate Range) (g : Fate Body) → blank g ≡ blank f → run.next ≡ engine.log.gate + fate_size f → HasRoomFor engine (fate_size f) (commit_of t now (blank f))
    → HasRoomFor engine (run.next - engine.log.gate) (commit_of t now g)
stored_room engine run t now f g same next room =
    let size : spelled_size (commit_of t now g) ≡ spelled_size (commit_of t now (blank f)) = size_blank t now g ∙ ap (λ (x : Fate Body). spelled_size (commit_of t now x)) same in
    record { few = room.few; fits = omega (arith, room.fits, size, next) }

-- ---- it is within its limits

some_path : (o : Option AccountPath) → IfSome o (FitsPath false)
some_path None = tt
some_path (Some p) = tt

fits_record : (r : TaskRecord Body) → OfRecord placed r → FitsRecord false r
fits_record (Emit place reducer body) is = (some_path place, tt, record { placed = is; first = tt; len = tt })
fits_record (Keep place body) is = (tt, record { placed = is; first = tt; len = tt })
fits_record (Ref name) is = tt

fits_records : (rs : List (TaskRecord Body)) → AllByRecursion (OfRecord placed) rs → AllByRecursion (FitsRecord false) rs
fits_records [] all = tt
fits_records (r ∷ rs) all = (fits_record r all.0, fits_records rs all.1)

good_is : (xs ys : List (TaskRecord Body)) → Good xs ≡ Good ys → xs ≡ ys
good_is xs ys same = cc

fits_fate : (f : Fate Range) (g : Fate Body) → OfFate placed g → blank g ≡ blank f → IsWellMadeFate f → IsSaidFate f → FitsFate false g
fits_fate (Good rs) (Good ts) all same made said =
    let lists : map (record_with (λ b. NO_BODY)) ts ≡ map (record_with (λ b. NO_BODY)) rs = good_is _ _ same in
    let long : length ts ≡ length rs = sym (length-map ts (record_with (λ b. NO_BODY))) ∙ ap (λ (l : List (TaskRecord Body)). length l) lists ∙ length-map rs (record_with (λ b. NO_BODY)) in
    (omega (arith, long, made.0), fits_records ts all)
fits_fate (Good rs) (Bad failure status stderr) all same made said = cc
fits_fate (Bad failure status stderr) (Good ts) all same made said = cc
fits_fate (Bad failure status stderr) (Bad other number text) all same made said =
    let e : text ≡ stderr = cc in
    (tt, omega (arith, said, ap (λ (l : List ℕ). length l) e))

pub commit_fits : (t : Task) (now : ℕ) (f : Fate Range) (g : Fate Body) → now ≤ LAST_MOMENT → IsTrue (is_number t.job) → OfFate placed g → blank g ≡ blank f → IsWellMadeFate f → IsSaidFate f → IsWithinLimits (commit_of t now g)
commit_fits t now f g moment number all same made said = record { moment = le-leb now LAST_MOMENT moment; fields = (number, tt, fits_fate f g all same made said) }

module _ where
  blank_record_placed : (r : TaskRecord Range) → OfRecord placed (record_with (λ b. NO_BODY) r)
  blank_record_placed (Emit place reducer r) = refl
  blank_record_placed (Keep place r) = refl
  blank_record_placed (Ref name) = tt

  blank_records_placed : (rs : List (TaskRecord Range)) → AllByRecursion (OfRecord placed) (map (record_with (λ b. NO_BODY)) rs)
  blank_records_placed [] = tt
  blank_records_placed (r ∷ rs) = (blank_record_placed r, blank_records_placed rs)

  blank_placed : (f : Fate Range) → OfFate placed (blank f)
  blank_placed (Good rs) = blank_records_placed rs
  blank_placed (Bad failure status stderr) = tt

  blank_one_again : (r : TaskRecord Range) → record_with (λ (b : Body). NO_BODY) (record_with (λ b. NO_BODY) r) ≡ record_with (λ b. NO_BODY) r
  blank_one_again (Emit place reducer r) = refl
  blank_one_again (Keep place r) = refl
  blank_one_again (Ref name) = refl

  blank_all_again : (rs : List (TaskRecord Range)) → map (record_with (λ (b : Body). NO_BODY)) (map (record_with (λ b. NO_BODY)) rs) ≡ map (record_with (λ b. NO_BODY)) rs
  blank_all_again [] = refl
  blank_all_again (r ∷ rs) = λ i. blank_one_again r i ∷ blank_all_again rs i

  blank_again : (f : Fate Range) → blank (blank f) ≡ blank f
  blank_again (Good rs) = ap (λ (l : List (TaskRecord Body)). Good l) (blank_all_again rs)
  blank_again (Bad failure status stderr) = refl

  -- and so is the commit without bodies
  pub blank_fits : (t : Task) (now : ℕ) (f : Fate Range) → now ≤ LAST_MOMENT → IsTrue (is_number t.job) → IsWellMadeFate f → IsSaidFate f → IsWithinLimits (commit_of t now (blank f))
  blank_fits t now f moment number made said = commit_fits t now f (blank f) moment number (blank_placed f) (blank_again f) made said

-- ---- what was added

pub adds_front : (Q : State Bytes → Command Bytes → Type 0) (end : OutcomeEnd) (base : State Bytes) (h : History) (e : EngineState) (seen' : Option Files) (e' : EngineState) (k : History) → Adds Q end base h e seen' e' k → IsPrefixOf h k
adds_front Q outcome.Added base h e seen' e' k a = (a.command ∷ [], sym a.history)
adds_front Q outcome.Full base h e seen' e' k a = ([], append-nil h ∙ sym a.history)
adds_front Q outcome.Unread base h e seen' e' k a = ([], append-nil h ∙ sym a.0)
adds_front Q outcome.Disk base h e seen' e' k a = ⊎_elim (λ same. ([], append-nil h ∙ sym same)) (λ m. (m.command ∷ [], sym m.history)) a.1
adds_front Q outcome.Memory base h e seen' e' k a = ([], append-nil h ∙ sym a.0)

-- a run that was given up
module _ (Q : State Bytes → Command Bytes → Type 0) (base : State Bytes) (h : History) (e e' : EngineState) (seen' : Option Files) where
  pub given_up : (result end : OutcomeEnd) → (end ≡ outcome.Unread) ⊎ (end ≡ outcome.Memory) → ((result ≡ end) × (e' ≡ e)) ⊎ ((result ≡ outcome.Disk) × (e'.log.closed ≡ true))
      → (result ≢ outcome.Disk → IsCurrent seen' e' base h) → Adds Q result base h e seen' e' h
  given_up outcome.Added end which how current = absurd (⊎_elim (λ (x : (outcome.Added ≡ end) × (e' ≡ e)). ⊎_elim (λ u. cc (x.0 ∙ u)) (λ m. cc (x.0 ∙ m)) which) (λ (x : (outcome.Added ≡ outcome.Disk) × (e'.log.closed ≡ true)). cc (x.0)) how)
  given_up outcome.Full end which how current = absurd (⊎_elim (λ (x : (outcome.Full ≡ end) × (e' ≡ e)). ⊎_elim (λ u. cc (x.0 ∙ u)) (λ m. cc (x.0 ∙ m)) which) (λ (x : (outcome.Full ≡ outcome.Disk) × (e'.log.closed ≡ true)). cc (x.0)) how)
  given_up outcome.Unread end which how current = (refl, current (λ d. cc))
  given_up outcome.Disk end which how current = (⊎_elim (λ (x : (outcome.Disk ≡ end) × (e' ≡ e)). absurd (⊎_elim (λ u. cc (x.0 ∙ u)) (λ m. cc (x.0 ∙ m)) which)) (λ (x : (outcome.Disk ≡ outcome.Disk) × (e'.log.closed ≡ true)). x.1) how, inl refl)
  given_up outcome.Memory end which how current = (refl, λ is_open. current (λ d. cc))

pub up_leaves : (Became : State Body → Type 0) (e e' : EngineState) (result end : OutcomeEnd) → (end ≡ outcome.Unread) ⊎ (end ≡ outcome.Memory) → ((result ≡ end) × (e' ≡ e)) ⊎ ((result ≡ outcome.Disk) × (e'.log.closed ≡ true)) → LeavesEngine result Became e e'
up_leaves Became e e' result end which (inr x) = subst (λ (r : OutcomeEnd). LeavesEngine r Became e e') (sym x.0) x.1
up_leaves Became e e' result end (inl u) (inl x) = subst (λ (r : OutcomeEnd). LeavesEngine r Became e e') (sym (x.0 ∙ u)) x.1
up_leaves Became e e' result end (inr m) (inl x) = subst (λ (r : OutcomeEnd). LeavesEngine r Became e e') (sym (x.0 ∙ m)) (inl x.1)

-- ---- one over bytes

-- a state that has become so has become otherwise
pub leaves_more_so : (P Q : State Body → Type 0) (e e' : EngineState) (end : OutcomeEnd) → ((s : State Body) → P s → Q s) → LeavesEngine end P e e' → LeavesEngine end Q e e'
leaves_more_so P Q e e' outcome.Added each is = (each e'.state is.0, is.1)
leaves_more_so P Q e e' outcome.Full each is = is
leaves_more_so P Q e e' outcome.Unread each is = is
leaves_more_so P Q e e' outcome.Disk each is = is
leaves_more_so P Q e e' outcome.Memory each is = is

-- as long as its ranges say
pub pieces_over : (told : Option Raw) (t : Task) (now : ℕ) (f : Fate Range) (g : Fate Bytes) → IsOver (IsOfRange told) f g → command_pieces (commit_of t now g) ≡ fate_size f
pieces_over told t now f g over = size_over f g (over_weaker (IsOfRange told) HasLength (λ r b is. is.0) f g over)

-- one that has no room
pub commit_lacks : (engine : EngineState) (base : State Bytes) (h : History) (seen : Option Files) → IsCurrent seen engine base h → (told : Option Raw) (t : Task) (now : ℕ) (f : Fate Range) (g : Fate Bytes) → IsOver (IsOfRange told) f g
    → (HasRoomFor engine (fate_size f) (commit_of t now (blank f)) → ⊥) → LacksRoom (replay base h) (engine.log.gate + 1) engine.log.limit (commit_of t now g)
commit_lacks engine base h seen i told t now f g over lacks =
    let count : engine.state.count ≡ (replay base h).count = ap (λ (s : State Bytes). s.count) i.is_read.state in
    let size : spelled_size (commit_of t now g) ≡ spelled_size (commit_of t now (blank f)) = size_blank t now g ∙ ap (λ (x : Fate Body). spelled_size (commit_of t now x)) (blank_over (IsOfRange told) f g over) in
    let pieces = pieces_over told t now f g over in
    ⊎_elim
    (λ (less : engine.state.count < MOST_COMMANDS). ⊎_elim (λ (lack : engine.log.limit < engine.log.gate + 1 + command_growth (commit_of t now g)). inr lack)
    (λ (fits : engine.log.gate + 1 + command_growth (commit_of t now g) ≤ engine.log.limit). absurd (lacks (record { few = less; fits = omega (arith, fits, size, pieces) })))
    (cases_lt engine.log.limit (engine.log.gate + 1 + command_growth (commit_of t now g))))
    (λ (most : MOST_COMMANDS ≤ engine.state.count). inl (omega (arith, most, count)))
    (cases_lt engine.state.count MOST_COMMANDS)
