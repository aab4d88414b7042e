-- A child that was started on what a task reads may only end in what its run gives.
use Rattle.std.proofs.Common.{◌≡◌, ℕ, zero, suc, Bool, true, false, ◌&&◌, List, [], ◌∷◌, ◌++◌, length, map, drop, Option, Some, None, refl, sym, ap, ◌∙◌, subst}
use Rattle.std.specs.Prelude.{IfSome}
use Rattle.std.specs.List.{AllByRecursion, flat_map, list_all, slice_get}
use Rattle.std.specs.Option.{ForSome, option_map, option_map_or}
use Rattle.std.proofs.lemmas.Option.{same_Some}
use Rattle.mt_disk.specs.Files.{Files}
use Rattle.mt_log.specs.LogImage.{payloads_of}
use Rattle.mt_log.specs.LogState.{told}
use Rattle.mt_body.specs.Stored.{IsStored, bytes_of, is_stored}
use Rattle.mt_body.proofs.Keeping.{length-bytes_of}
use Rattle.mt_types.specs.Values.{item_with, job_with}
use Rattle.mt_types.specs.declared.body.Body.{Body}
use Rattle.mt_types.specs.declared.document.Phase.{Phase}
use Rattle.mt_types.specs.declared.job.Item.{Item}
use Rattle.mt_types.specs.declared.job.Job.{Job}
use Rattle.mt_types.specs.declared.job.Outcome.{Outcome}
use Rattle.mt_types.specs.declared.job.Outcome.TheVariants.{Good, Bad}
use Rattle.mt_types.specs.declared.job.Task.{Task}
use Rattle.mt_types.specs.declared.job.TraceEntry.{TraceEntry}
use Rattle.mt_types.specs.declared.task.Raw.{Raw}
use Rattle.mt_types.specs.declared.task.Run.{Run}
use Rattle.mt_model.specs.Bodies.{OfItems, OfJob, OfOutcome}
use Rattle.mt_model.specs.CommandStep.{replay}
use Rattle.mt_model.specs.Feed.{feed}
use Rattle.mt_model.specs.Honest.{Bytes, itself}
use Rattle.mt_model.specs.State.{State, job_at}
use Rattle.mt_model.specs.Tasks.{input_of, is_ready, is_task, is_task_of, may_run, run_in, run_of}
use Rattle.mt_model.proofs.TasksWith.{feed-with, input_of-with, is_task-with, run_of-with}
use Rattle.mt_phase.specs.Laws.{KeepsSize, bytes_with}
use Rattle.mt_phase.specs.Orders.{order_at, order_in}
use Rattle.mt_phase.proofs.Runs.{orders_run}
use Rattle.mt_spawn.specs.Orders.{input_from, run_from}
use Rattle.mt_spawn.specs.declared.task.Order.{Order}
use Rattle.mt_records.specs.Fate.{fate}
use Rattle.mt_opening.specs.Current.{EngineIsReady, EngineState, IsCurrent, Serves}
use Rattle.mt_opening.specs.History.{History}
use Rattle.mt_opening.proofs.Held.{told_now}
use Rattle.mt_engine.proofs.Objects.{jobs_read, served_jobs}
use Rattle.mt_tasks.specs.Reading.{IsLogThere, ReadsTask, bodies_of_task, bodies_with, first_place, input_left, left_at}
use Rattle.mt_tasks.specs.Right.{IsRight, IsRightNow}
use Rattle.mt_tasks.specs.Standing.{is_ready_in}
use Rattle.mt_tasks.proofs.Passing.{bodies_bytes, of_task}
use Rattle.mt_tasks.proofs.There.{keeps_there}

and_left : (a b : Bool) → (a && b) ≡ true → a ≡ true
and_left true b is = refl
and_left false b is = is

and_right : (a b : Bool) → (a && b) ≡ true → b ≡ true
and_right true b is = is
and_right false b is = cc

-- ---- a ready task is one of a job

module _ {B : Type 0} where
  -- a ready task's job, and its phase
  pub record ReadyJob (jobs : List (Job B)) (t : Task) : Type 0 where
    pub job : Job B
    pub found : job_at jobs t.job ≡ Some job
    pub ready : is_ready job t.phase t.place ≡ true
    pub task : is_task job t.phase t.place ≡ true
    pub p : Phase
    pub has : slice_get job.document.phases t.phase ≡ Some p

  phase_of : (job : Job B) (phase place : ℕ) (o : Option Phase) → is_task_of job phase place o ≡ true → (p : Phase) × (o ≡ Some p)
  phase_of job phase place None is = cc
  phase_of job phase place (Some p) is = (p, refl)

  is_task_ready : (job : Job B) (phase place : ℕ) → is_ready job phase place ≡ true → is_task job phase place ≡ true
  is_task_ready job phase place is = and_right _ _ (and_left _ _ is)

  by_job : (jobs : List (Job B)) (t : Task) (o : Option (Job B)) → job_at jobs t.job ≡ o → option_map_or (λ j. is_ready j t.phase t.place) o false ≡ true → ReadyJob jobs t
  by_job jobs t None at is = cc
  by_job jobs t (Some job) at is =
      let task = is_task_ready job t.phase t.place is in
      let p = phase_of job t.phase t.place (slice_get job.document.phases t.phase) task in
      record { job = job; found = at; ready = is; task = task; p = p.0; has = p.1 }

  pub ready_job : (s : State B) (t : Task) → is_ready_in s t ≡ true → ReadyJob s.jobs t
  ready_job s t is = by_job s.jobs t (job_at s.jobs t.job) refl is

-- ---- each body of a job

module _ (P : Body → Type 0) (each : (b : Body) → P b) where
  every_body : (bs : List Body) → AllByRecursion P bs
  every_body [] = tt
  every_body (b ∷ bs) = (each b, every_body bs)

  every_list : (bss : List (List Body)) → AllByRecursion (λ bs. AllByRecursion P bs) bss
  every_list [] = tt
  every_list (bs ∷ bss) = (every_body bs, every_list bss)

  every_item : (items : List (Item Body)) → OfItems P items
  every_item [] = tt
  every_item (i ∷ items) = (each i.body, every_item items)

  every_outcome : (o : Outcome Body) → OfOutcome P o
  every_outcome (Good items) = every_item items
  every_outcome (Bad failure status stderr) = tt

  every_entry : (es : List (TraceEntry Body)) → AllByRecursion (λ e. OfOutcome P e.outcome) es
  every_entry [] = tt
  every_entry (e ∷ es) = (every_outcome e.outcome, every_entry es)

  pub every_of : (job : Job Body) → OfJob P job
  every_of job = record { assets = every_list job.assets; inputs = every_item job.inputs; trace = every_entry job.trace }

-- ---- what is read

stored_tests : (ps : List (List ℕ)) (bs : List Body) → AllByRecursion (IsStored ps) bs → list_all (is_stored ps) bs ≡ true
stored_tests ps [] all = refl
stored_tests ps (b ∷ bs) all = ap (λ (t : Bool). t && list_all (is_stored ps) bs) all.0.pieces ∙ stored_tests ps bs all.1

pub test_stored : (ps : List (List ℕ)) (bs : List Body) (k : ℕ) (b : Body) → list_all (is_stored ps) bs ≡ true → slice_get bs k ≡ Some b → is_stored ps b ≡ true
test_stored ps [] k b all is = cc
test_stored ps (c ∷ bs) zero b all is = let e : c ≡ b = cc in ap (is_stored ps) (sym e) ∙ and_left (is_stored ps c) (list_all (is_stored ps) bs) all
test_stored ps (c ∷ bs) (suc k) b all is = test_stored ps bs k b (and_right (is_stored ps c) (list_all (is_stored ps) bs) all) is

-- a ready engine can be read for a ready task
pub reads_task : {D : Type 0} (seen : D → Option Files) (may_leave : D → Files → Type 0) (disk : D) (engine : EngineState) (t : Task) (count : ℕ) → EngineIsReady seen may_leave disk engine → is_ready_in engine.state t ≡ true
    → count ≡ length (bodies_of_task engine.state.jobs t) → ReadsTask seen disk engine t count
reads_task seen may_leave disk engine t count is ready long =
    let r = ready_job engine.state t ready in
    record {
      is_open = is.is_open;
      there = keeps_there (seen disk) engine.log (λ files at. (is.stands is.is_open files at).1);
      ready = ready;
      stored = λ ps at.
          subst (λ (o : Option (Job Body)). list_all (is_stored ps) (option_map_or (bodies_with t.phase t.place) o []) ≡ true) (sym r.found)
          (stored_tests ps (bodies_with t.phase t.place r.job)
          (of_task (IsStored ps) r.job t.phase t.place (served_jobs (seen disk) engine t.job r.job is.serves is.is_open r.found ps at)));
      count_is = long;
    }

-- and still, where nothing was written
pub reads_still : {D : Type 0} (seen : D → Option Files) (disk disk' : D) (engine : EngineState) (t : Task) (count : ℕ) → seen disk' ≡ seen disk → ReadsTask seen disk engine t count → ReadsTask seen disk' engine t count
reads_still seen disk disk' engine t count same r = record {
  is_open = r.is_open;
  there = subst (λ (o : Option Files). ForSome o (λ files. IsLogThere files engine.log.file engine.log.gate engine.log.is_old)) (sym same) r.there;
  ready = r.ready;
  stored = subst (λ (o : Option Files). ForSome (told o) (λ ps. list_all (is_stored ps) (bodies_of_task engine.state.jobs t) ≡ true)) (sym same) r.stored;
  count_is = r.count_is;
}

-- ---- what a child may give

pub right_now : {F : Type 0} (seen : Option Files) (engine : EngineState) (login : Bytes) (runs : Run → Bytes → Raw → Type 0) (may : F → Raw → Type 0) (t : Task) (f : F) (order : Order)
    → is_ready_in engine.state t ≡ true → IfSome (job_at engine.state.jobs t.job) (λ j. order_at (λ b. b.len) login j t ≡ Some order)
    → IfSome (input_left seen engine t first_place) (λ bytes. (raw : Raw) → may f raw → runs (run_from order bytes) (input_from order bytes) raw)
    → IsRightNow login runs may seen engine t f
right_now seen engine login runs may t f order ready ordered honest base h i =
    let r = ready_job engine.state t ready in
    let ps = payloads_of i.is_read.files in
    let content : Body → List ℕ = bytes_of ps in
    let found : job_at (replay base h).jobs t.job ≡ Some (job_with content r.job) = jobs_read seen engine base h i t.job ∙ ap (option_map (job_with content)) r.found in
    let is : order_at (λ b. b.len) login r.job t ≡ Some order = subst (λ (o : Option (Job Body)). IfSome o (λ j. order_at (λ b. b.len) login j t ≡ Some order)) r.found ordered in
    let same : order_in (λ b. b.len) login r.job t.phase t.place r.p ≡ order = same_Some _ _ (sym (ap (option_map (order_in (λ b. b.len) login r.job t.phase t.place)) r.has) ∙ is) in
    let all : List ℕ = bytes_with content login r.job t.phase t.place r.p in
    let bytes : left_at content (bodies_of_task engine.state.jobs t) first_place ≡ all =
    ap (λ (o : Option (Job Body)). flat_map content (option_map_or (bodies_with t.phase t.place) o [])) r.found ∙ bodies_bytes content login r.job t.phase t.place r.p r.has in
    let left : input_left seen engine t first_place ≡ Some all =
    ap (option_map (λ qs. left_at (bytes_of qs) (bodies_of_task engine.state.jobs t) first_place)) (told_now seen engine base h i) ∙ ap (λ (l : List ℕ). Some l) bytes in
    let may_give : (raw : Raw) → may f raw → runs (run_from order all) (input_from order all) raw =
    subst (λ (o : Option (List ℕ)). IfSome o (λ bytes. (raw : Raw) → may f raw → runs (run_from order bytes) (input_from order bytes) raw)) left honest in
    let runs_as = orders_run content login r.job t.phase t.place r.p (every_of (KeepsSize content) (λ b. length-bytes_of ps b) r.job) in
    let job = job_with content r.job in
    let run : run_from order all ≡ run_in itself login job t.phase t.place r.p =
    ap (λ (o : Order). run_from o all) (sym same) ∙ runs_as.run
    ∙ sym (same_Some _ _ (sym (ap (option_map (run_in itself login job t.phase t.place)) r.has) ∙ run_of-with content itself login r.job t.phase t.place ∙ ap (option_map (run_in content login r.job t.phase t.place)) r.has)) in
    let input : input_from order all ≡ input_of itself r.p.kind (feed job t.phase) t.place =
    ap (λ (o : Order). input_from o all) (sym same) ∙ runs_as.input
    ∙ sym (ap (λ (items : List (Item Bytes)). input_of itself r.p.kind items t.place) (feed-with content r.job t.phase) ∙ input_of-with content itself r.p.kind (feed r.job t.phase) t.place) in
    record {
      job = job;
      p = r.p;
      found = found;
      has = r.has;
      task = is_task-with content r.job t.phase t.place ∙ r.task;
      given = λ raw gives. subst (λ (n : Bytes). runs (run_in itself login job t.phase t.place r.p) n raw) input (subst (λ (x : Run). runs x (input_from order all) raw) run (may_give raw gives));
    }
