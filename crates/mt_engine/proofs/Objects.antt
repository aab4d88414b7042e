-- The objects and the jobs of an engine's state, as the history has them.
use Rattle.std.proofs.Common.{◌≡◌, ℕ, Bool, true, false, cond, List, [], ◌∷◌, map, Option, Some, refl, sym, ap, ◌∙◌, subst}
use Rattle.std.specs.Prelude.{◌==◌, IfSome, option_map}
use Rattle.std.specs.List.{AllByRecursion}
use Rattle.std.specs.Map.{lookup}
use Rattle.std.specs.Option.{ForSome}
use Rattle.std.proofs.lemmas.Option.{same_Some}
use Rattle.mt_disk.specs.Files.{Files}
use Rattle.mt_log.specs.LogImage.{payloads_of}
use Rattle.mt_log.specs.LogState.{told}
use Rattle.mt_log.proofs.Told.{mapped_some}
use Rattle.mt_body.specs.Stored.{IsStored, bytes_of}
use Rattle.mt_path.specs.AccountPath.{AccountPath}
use Rattle.mt_model.specs.Bodies.{OfEntry, OfJob}
use Rattle.mt_model.specs.CommandStep.{replay}
use Rattle.mt_model.specs.Rows.{Rows, is_path, object_at, object_in}
use Rattle.mt_model.specs.State.{State, job_at}
use Rattle.mt_model.proofs.RowsWith.{object_at-with}
use Rattle.mt_types.specs.Values.{job_with, object_with}
use Rattle.mt_types.specs.declared.body.Body.{Body}
use Rattle.mt_types.specs.declared.job.Job.{Job}
use Rattle.mt_types.specs.declared.object.Entry.{Entry}
use Rattle.mt_types.specs.declared.object.Entry.TheVariants as entry
use Rattle.mt_types.specs.declared.object.Object.{Object}
use Rattle.mt_opening.specs.Current.{EngineState, IsCurrent, Serves}
use Rattle.mt_opening.specs.History.{Bytes, History}
use Rattle.mt_opening.proofs.Held.{told_now}
use Rattle.mt_engine.specs.Reading.{HasObjects, StandsFor}

module _ (P : Body → Type 0) where
  of_object : (e : Entry Body) → OfEntry P e → IfSome (object_in (Some e)) (λ o. P o.body)
  of_object (entry.Directory mtime) is = tt
  of_object (entry.Object object) is = is

  -- what holds of each body of the rows holds of that of the object that is found
  of_found : (test : AccountPath → Bool) (rows : Rows Body) → AllByRecursion (λ r. OfEntry P r.1) rows → IfSome (object_in (lookup test rows)) (λ o. P o.body)
  of_found test [] all = tt
  of_found test (r ∷ rows) all = elim (test r.0) as (λ b. IfSome (object_in (cond b (Some r.1) (lookup test rows))) (λ o. P o.body)) [
    | true ↦ of_object r.1 all.0
    | false ↦ of_found test rows all.1
  ]

-- what holds of each job holds of the one that is found
of_job : (P : Job Body → Type 0) (jobs : List (Job Body)) (number : ℕ) → AllByRecursion P jobs → IfSome (job_at jobs number) P
of_job P [] number all = tt
of_job P (j ∷ jobs) number all = elim (j.number == number) as (λ b. IfSome (cond b (Some j) (job_at jobs number)) P) [
  | true ↦ all.0
  | false ↦ of_job P jobs number all.1
]

-- jobs over other bodies are found by the same numbers
job_at-with : (f : Body → Bytes) (jobs : List (Job Body)) (number : ℕ) → job_at (map (job_with f) jobs) number ≡ option_map (job_with f) (job_at jobs number)
job_at-with f [] number = refl
job_at-with f (j ∷ jobs) number = elim (j.number == number) as (λ b. cond b (Some (job_with f j)) (job_at (map (job_with f) jobs) number) ≡ option_map (job_with f) (cond b (Some j) (job_at jobs number))) [
  | true ↦ refl
  | false ↦ job_at-with f jobs number
]

module _ (seen : Option Files) (engine : EngineState) (base : State Bytes) (h : History) (i : IsCurrent seen engine base h) where
  pub objects : HasObjects (payloads_of i.is_read.files) engine base h
  objects = record {
    stored = λ path object is. subst (λ (o : Option (Object Body)). IfSome o (λ x. IsStored (payloads_of i.is_read.files) x.body)) is
        (of_found (IsStored (payloads_of i.is_read.files)) (is_path path) engine.state.rows i.is_read.stored.rows);
    read = λ path. ap (λ (s : State Bytes). object_at s.rows path) (sym i.is_read.state) ∙ object_at-with (bytes_of (payloads_of i.is_read.files)) engine.state.rows path;
  }

  -- the jobs are the history's, with the bytes of their bodies
  pub jobs_read : (number : ℕ) → job_at (replay base h).jobs number ≡ option_map (job_with (bytes_of (payloads_of i.is_read.files))) (job_at engine.state.jobs number)
  jobs_read number = ap (λ (s : State Bytes). job_at s.jobs number) (sym i.is_read.state) ∙ job_at-with (bytes_of (payloads_of i.is_read.files)) engine.state.jobs number

  jobs_stored : (number : ℕ) (job : Job Body) → job_at engine.state.jobs number ≡ Some job → OfJob (IsStored (payloads_of i.is_read.files)) job
  jobs_stored number job is = subst (λ (o : Option (Job Body)). IfSome o (OfJob (IsStored (payloads_of i.is_read.files)))) is
      (of_job (OfJob (IsStored (payloads_of i.is_read.files))) engine.state.jobs number i.is_read.stored.jobs)

  -- a body stands for its bytes
  pub stands_for : (body : Body) → StandsFor engine base h body (bytes_of (payloads_of i.is_read.files) body)
  stands_for body path object is same =
      objects.read path ∙ ap (option_map (object_with (bytes_of (payloads_of i.is_read.files)))) is
      ∙ ap (λ (bytes : Bytes). Some (object_with (λ (b : Body). bytes) object)) (ap (bytes_of (payloads_of i.is_read.files)) same)

-- where some history is the engine's, the bodies of its objects stand in its log
pub served_stored : (seen : Option Files) (engine : EngineState) (path : AccountPath) (object : Object Body) → Serves seen engine → engine.log.closed ≡ false → object_at engine.state.rows path ≡ Some object
    → ForSome (told seen) (λ ps. IsStored ps object.body)
served_stored seen engine path object serves is_open there ps is =
    let from = mapped_some payloads_of seen ps is in
    let served = serves is_open from.0 from.1 in
    let i = served.2 in
    subst (λ (x : List (List ℕ)). IsStored x object.body) (same_Some _ _ (sym (told_now seen engine served.0 served.1 i) ∙ is)) ((objects seen engine served.0 served.1 i).stored path object there)

-- and so do the bodies of its jobs
pub served_jobs : (seen : Option Files) (engine : EngineState) (number : ℕ) (job : Job Body) → Serves seen engine → engine.log.closed ≡ false → job_at engine.state.jobs number ≡ Some job
    → ForSome (told seen) (λ ps. OfJob (IsStored ps) job)
served_jobs seen engine number job serves is_open there ps is =
    let from = mapped_some payloads_of seen ps is in
    let served = serves is_open from.0 from.1 in
    let i = served.2 in
    subst (λ (x : List (List ℕ)). OfJob (IsStored x) job) (same_Some _ _ (sym (told_now seen engine served.0 served.1 i) ∙ is)) (jobs_stored seen engine served.0 served.1 i number job there)
