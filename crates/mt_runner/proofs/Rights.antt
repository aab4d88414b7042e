-- Attempts stay right as a history goes on; and what a turn does to a history.
use Rattle.std.proofs.Common.{◌≡◌, ◌⊎◌, inl, inr, ℕ, ◌+◌, ◌<◌, ◌≤◌, Bool, true, false, cond, List, [], ◌∷◌, ◌++◌, length, map, refl, ap, sym, subst, ◌∙◌, arith, Option, Some, None}
use Rattle.std.specs.Prelude.{is_some}
use Rattle.std.specs.List.{AllByRecursion, AllZip, find, flat_map}
use Rattle.std.specs.Option.{option_map}
use Rattle.mt_base.specs.Lists.{IsPrefixOf}
use Rattle.mt_disk.specs.CrashModel.{LeavesOnly, OnlyRead}
use Rattle.mt_disk.specs.Files.{Files}
use Rattle.mt_disk.proofs.Readings.{reads_leave}
use Rattle.mt_types.specs.declared.body.Body.{Body}
use Rattle.mt_types.specs.declared.command.Command.{Command}
use Rattle.mt_types.specs.declared.job.Job.{Job}
use Rattle.mt_types.specs.declared.job.Task.{Task}
use Rattle.mt_types.specs.declared.limits.TheConstants.{MOST_COMMANDS}
use Rattle.mt_types.specs.declared.task.Raw.{Raw}
use Rattle.mt_types.specs.declared.task.Run.{Run}
use Rattle.mt_types.specs.Values.{job_with}
use Rattle.mt_types.specs.WellMade.{IsWellMade}
use Rattle.mt_model.specs.Bodies.{state_with}
use Rattle.mt_model.specs.CommandStep.{allowed, replay, step}
use Rattle.mt_model.specs.Feed.{feed}
use Rattle.mt_model.specs.Honest.{Bytes, itself}
use Rattle.mt_model.specs.Later.{TaskStays}
use Rattle.mt_model.specs.Lawful.{Lawful}
use Rattle.mt_model.specs.State.{State}
use Rattle.mt_model.specs.Tasks.{input_of, ready, run_over, waits_finish}
use Rattle.mt_model.proofs.LawfulRead.{lawful_on}
use Rattle.mt_model.proofs.TasksStay.{tasks_stay}
use Rattle.mt_model.proofs.TasksWith.{ready-with, waits_finish-with}
use Rattle.mt_model.proofs.Replays.{replay_more}
use Rattle.mt_body.specs.Stored.{bytes_of}
use Rattle.mt_log.specs.LogImage.{payloads_of}
use Rattle.mt_opening.specs.Current.{EngineIsReady, EngineState, IsBetween, IsCurrent, Over}
use Rattle.mt_opening.specs.History.{History}
use Rattle.mt_tasks.specs.Adding.{Added, IsFree}
use Rattle.mt_tasks.specs.Right.{IsRight, IsRightNow}
use Rattle.mt_tasks.specs.Standing.{ready_tasks, waiting}
use Rattle.mt_runner.specs.Attempts.{Attempt, HasWaited}
use Rattle.mt_runner.specs.AtWork.{AreRight}
use Rattle.mt_runner.proofs.Crashes.{all_of, between_all, images_open}

-- ---- a history over references and over bytes

module _ (read : Body → Bytes) where
  waiting_jobs : (jobs : List (Job Body)) → option_map (λ (j : Job Bytes). j.number) (find waits_finish (map (job_with read) jobs)) ≡ option_map (λ (j : Job Body). j.number) (find waits_finish jobs)
  waiting_jobs [] = refl
  waiting_jobs (j ∷ js) = by (waits_finish (job_with read j)) (waits_finish j) (waits_finish-with read j) (waiting_jobs js)
    where
      by : (a b : Bool) → a ≡ b → option_map (λ (j : Job Bytes). j.number) (find waits_finish (map (job_with read) js)) ≡ option_map (λ (j : Job Body). j.number) (find waits_finish js)
          → option_map (λ (j : Job Bytes). j.number) (cond {A = Option (Job Bytes)} a (Some (job_with read j)) (find waits_finish (map (job_with read) js))) ≡ option_map (λ (j : Job Body). j.number) (cond {A = Option (Job Body)} b (Some j) (find waits_finish js))
      by true true e rest = refl
      by false false e rest = rest
      by true false e rest = cc
      by false true e rest = cc

  ready_jobs : (jobs : List (Job Body)) → flat_map ready (map (job_with read) jobs) ≡ flat_map ready jobs
  ready_jobs [] = refl
  ready_jobs (j ∷ js) = ap (λ (ts : List Task). ts ++ flat_map ready (map (job_with read) js)) (ready-with read j) ∙ ap (λ (ts : List Task). ready j ++ ts) (ready_jobs js)

module _ (seen : Option Files) (engine : EngineState) (base : State Bytes) (h : History) (i : IsCurrent seen engine base h) where
  read_so : Body → Bytes
  read_so = bytes_of (payloads_of i.is_read.files)

  -- the job that waits is the same, and so are the ready tasks; the state is lawful
  pub waiting_is : waiting (replay base h) ≡ waiting engine.state
  waiting_is = ap (λ (s : State Bytes). waiting s) (sym i.is_read.state) ∙ waiting_jobs (bytes_of (payloads_of i.is_read.files)) engine.state.jobs

  pub ready_is : ready_tasks (replay base h) ≡ ready_tasks engine.state
  ready_is = ap (λ (s : State Bytes). ready_tasks s) (sym i.is_read.state) ∙ ready_jobs (bytes_of (payloads_of i.is_read.files)) engine.state.jobs

  pub lawful_is : Lawful engine.state → Lawful (replay base h)
  lawful_is law = subst (λ (s : State Bytes). Lawful s) i.is_read.state (lawful_on (bytes_of (payloads_of i.is_read.files)) engine.state law)

-- ---- attempts

module _ {F : Type 0} (login : Bytes) (runs : Run → Bytes → Raw → Type 0) (may : F → Raw → Type 0) where
  -- a command leaves a child right
  pub right_grows : (s : State Bytes) (c : Command Bytes) → Lawful s → s.count < MOST_COMMANDS → IsFree s c → (t : Task) (f : F) → IsRight login runs may s t f → IsRight login runs may (step s c) t f
  right_grows s c law room free t f r =
      let l = tasks_stay s c law room free.made free.free login t.job t.phase t.place r.job r.p r.found r.has r.task in
      let stays : TaskStays login r.job l.0 t.phase t.place r.p = l.2 in
      record {
        job = l.0;
        p = r.p;
        found = l.1;
        has = stays.has;
        task = stays.task;
        given = λ raw m. subst (λ (x : Run). runs x (input_of itself r.p.kind (feed l.0 t.phase) t.place) raw) (sym stays.run)
            (subst (λ (x : Bytes). runs (run_over itself login r.job t.phase t.place r.p (feed r.job t.phase)) x raw) (sym stays.input) (r.given raw m));
      }

  pub rights_grow : (base : State Bytes) (h : History) (c : Command Bytes) → Lawful (replay base h) → (replay base h).count < MOST_COMMANDS → IsFree (replay base h) c → (xs : List (Attempt F))
      → AreRight login runs may (replay base h) xs → AreRight login runs may (replay base (h ++ c ∷ [])) xs
  rights_grow base h c law room free xs r =
      subst (λ (s : State Bytes). AreRight login runs may s xs) (sym (replay_more base h c)) (each xs r)
    where
      each : (xs : List (Attempt F)) → AreRight login runs may (replay base h) xs → AreRight login runs may (step (replay base h) c) xs
      each [] a = tt
      each (x ∷ xs) a = (right_grows (replay base h) c law room free x.task x.fate a.0, each xs a.1)

  -- those that were waited for are the same
  pub rights_waited : (s : State Bytes) (xs zs : List (Attempt F)) → AllZip HasWaited xs zs → AreRight login runs may s xs → AreRight login runs may s zs
  rights_waited s [] [] w a = tt
  rights_waited s [] (z ∷ zs) w a = absurd w
  rights_waited s (x ∷ xs) [] w a = absurd w
  rights_waited s (x ∷ xs) (z ∷ zs) w a =
      (subst (λ (t : Task). IsRight login runs may s t z.fate) (sym w.0.task) (subst (λ (f : F). IsRight login runs may s x.task f) (sym w.0.fate) a.0), rights_waited s xs zs w.1 a.1)

-- ---- a disk that was only read

module _ {D : Type 0} (seen : D → Option Files) (may_leave : D → Files → Type 0) (moment : D → ℕ) (left_since : D → ℕ → Files → Type 0) where
  over_is : (disk : D) (engine : EngineState) (base : State Bytes) (h : History) → IsCurrent (seen disk) engine base h → Over (seen disk) engine base h
  over_is disk engine base h i = λ files is. i

  pub current_on : (old new : D) (engine : EngineState) (base : State Bytes) (h : History) → OnlyRead seen may_leave moment left_since old new → IsCurrent (seen old) engine base h → IsCurrent (seen new) engine base h
  current_on old new engine base h read i = subst (λ (o : Option Files). IsCurrent o engine base h) (sym read.seen_same) i

  pub reads_between : (old new : D) (engine : EngineState) (base : State Bytes) (h : History) → ((c : Files) → left_since old (moment old) c → may_leave old c) → EngineIsReady seen may_leave old engine
      → IsCurrent (seen old) engine base h → OnlyRead seen may_leave moment left_since old new → LeavesOnly moment left_since old new (IsBetween base h h)
  reads_between old new engine base h only_now r i read =
      reads_leave seen may_leave moment left_since old new (IsBetween base h h) read only_now
      (λ c image. between_all base h h c (all_of h) (images_open seen may_leave old engine base h r.stands r.is_open (over_is old engine base h i) (ap is_some i.is_read.seen_is) c image))
