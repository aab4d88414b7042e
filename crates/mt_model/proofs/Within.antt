-- Each command that says what is within the limits keeps the values of a state within them.
use Rattle.std.proofs.Common.{◌≡◌, ℕ, ◌==◌, ◌<◌, ◌^◌, Bool, true, false, cond, List, [], ◌∷◌, Option, Some, None, refl, arith}
use Rattle.std.specs.Prelude.{Result, Ok, Err, IfSome, IsTrue, ⊤}
use Rattle.std.specs.List.{AllByRecursion}
use Rattle.mt_path.specs.AccountPath.{AccountPath}
use Rattle.mt_path.specs.PathOrder.{path_cmp}
use Rattle.mt_types.specs.Kinds.{OnRows, kind_of}
use Rattle.mt_types.specs.Limits.{FitsMetadata, is_content_type, is_plain_text}
use Rattle.mt_types.specs.declared.command.Command.{Command}
use Rattle.mt_types.specs.declared.command.Command.TheVariants.{Put, MakeDirectory, Link, Delete, NewJob, AddInputs, EndInput, Commit, Finish, Cancel, Close, NewUpload, PutPart, CommitUpload, AbortUpload}
use Rattle.mt_types.specs.declared.document.InputLine.{InputLine}
use Rattle.mt_types.specs.declared.document.InputLine.TheVariants.{Named, Other}
use Rattle.mt_types.specs.declared.job.Job.{Job}
use Rattle.mt_types.specs.declared.job.TraceEntry.{TraceEntry}
use Rattle.mt_types.specs.declared.object.Entry.TheVariants as entry
use Rattle.mt_types.specs.declared.object.Object.{Object}
use Rattle.mt_types.specs.declared.task.Fate.{Fate}
use Rattle.mt_types.specs.declared.task.Fate.TheVariants as fate
use Rattle.mt_types.specs.declared.task.TaskFailure.{TaskFailure}
use Rattle.mt_types.specs.declared.task.TaskFailure.TheVariants.{TaskPlaceRefused}
use Rattle.mt_types.specs.declared.task.TaskRecord.{TaskRecord}
use Rattle.mt_types.specs.declared.task.TaskRecord.TheVariants.{Emit, Keep, Ref}
use Rattle.mt_types.specs.declared.upload.Stage.{Stage}
use Rattle.mt_types.specs.declared.upload.Stage.TheVariants.{Aborted, Committed}
use Rattle.mt_types.specs.declared.upload.Upload.{Upload}
use Rattle.mt_model.specs.Bodies.{OfFate, OfRecord}
use Rattle.mt_model.specs.CommandStep.{change, step}
use Rattle.mt_model.specs.JobSteps.{archive_bodies, archive_names, commit, done_at, new_job, resolve_task, task_root, with_end, with_entry, with_line, with_lines, with_named}
use Rattle.mt_model.specs.Keeping.{IsEntry, IsItem, IsJob, IsLine, IsMoment, IsOutcome, IsSaid, IsSaidFate, IsSaidRecord, IsUpload, KeepsLimits, SaysWithin}
use Rattle.mt_model.specs.Names.{job_folder, job_stor, number_at, root_of_input}
use Rattle.mt_model.specs.Resolve.{Committing, Resolved, Taken, and_then, can_hold_object, fresh_place, kept, resolve, resolved, take_record, take_records, take_reference, task_content_type, with_output}
use Rattle.mt_model.specs.Rows.{Rows, object_at, with_row}
use Rattle.mt_model.specs.State.{State, first_state, upload_at, job_at, with_job}
use Rattle.mt_model.specs.UploadSteps.{commit_upload, ended_as, new_upload, upload_object, with_part}
use Rattle.mt_model.proofs.EachStep.{archive_keeps, changed, first_found, pushed, resolve_keeps}
use Rattle.mt_model.proofs.Keeping.{inserted, step_within}

-- what the store itself says of an object is within the limits
no_metadata : FitsMetadata []
no_metadata = record { few = omega arith; each = tt; all = refl }

tasks_type : IsTrue (is_content_type task_content_type)
unfolding is_plain_text
tasks_type = refl

archive_types : AllByRecursion (λ n. IsTrue (is_content_type n.1)) archive_names
unfolding is_plain_text
archive_types = (refl, (refl, (refl, (refl, (refl, tt)))))

said : (content_type : List ℕ) (moment : ℕ) → IsTrue (is_content_type content_type) → IsMoment moment → IsSaid content_type None [] moment
said content_type moment is now = record { content_type_is = is; durability_is = tt; metadata_is = no_metadata; moment_is = now }

module _ {B : Type 0} where
  -- nothing is asked of bodies
  abbrev Any : B → Type 0
  Any b = ⊤

  any_record : (r : TaskRecord B) → OfRecord Any r
  any_record (Emit place reducer body) = tt
  any_record (Keep place body) = tt
  any_record (Ref name) = tt

  any_records : (rs : List (TaskRecord B)) → AllByRecursion (OfRecord Any) rs
  any_records [] = tt
  any_records (r ∷ rs) = (any_record r, any_records rs)

  any_fate : (x : Fate B) → OfFate Any x
  any_fate (fate.Good records) = any_records records
  any_fate (fate.Bad failure status stderr) = tt

  any_bodies : (bs : List B) → AllByRecursion Any bs
  any_bodies [] = tt
  any_bodies (b ∷ bs) = (tt, any_bodies bs)

  -- ---- jobs

  named_within : (p : AccountPath) (j : Job B) (o : Option (Object B)) → IsJob j → IsJob (with_named p j o)
  named_within p j None i = record { created = i.created; done = i.done; document = i.document; inputs = i.inputs; missing = pushed IsLine j.missing (Named p) i.missing tt; outcomes = i.outcomes }
  named_within p j (Some o) i =
      record { created = i.created; done = i.done; document = i.document; inputs = pushed IsItem j.inputs (record { name = p; root = root_of_input p; body = o.body; reducer = None }) i.inputs tt; missing = i.missing; outcomes = i.outcomes }

  line_within : (rows : Rows B) (j : Job B) (line : InputLine) → IsJob j → IsLine line → IsJob (with_line rows j line)
  line_within rows j (Named p) i is = named_within p j (object_at rows p) i
  line_within rows j (Other t) i is = record { created = i.created; done = i.done; document = i.document; inputs = i.inputs; missing = pushed IsLine j.missing (Other t) i.missing is; outcomes = i.outcomes }

  lines_within : (rows : Rows B) (lines : List InputLine) (j : Job B) → IsJob j → AllByRecursion IsLine lines → IsJob (with_lines rows lines j)
  lines_within rows [] j i all = i
  lines_within rows (l ∷ ls) j i all = lines_within rows ls (with_line rows j l) (line_within rows j l i all.0) all.1

  end_within : (j : Job B) → IsJob j → IsJob (with_end j)
  end_within j i = record { created = i.created; done = i.done; document = i.document; inputs = i.inputs; missing = i.missing; outcomes = i.outcomes }

  done_within : (moment : ℕ) (cancelled : Bool) → IsMoment moment → (j : Job B) → IsJob j → IsJob (done_at moment cancelled j)
  done_within moment cancelled now j i = record { created = i.created; done = now; document = i.document; inputs = i.inputs; missing = i.missing; outcomes = i.outcomes }

  entry_within : (e : TraceEntry B) → IsOutcome e.outcome → (j : Job B) → IsJob j → IsJob (with_entry e j)
  entry_within e is j i =
      record { created = i.created; done = i.done; document = i.document; inputs = i.inputs; missing = i.missing; outcomes = pushed (λ (x : TraceEntry B). IsOutcome x.outcome) j.trace e i.outcomes is }

  -- ---- commits

  abbrev SaidItems : Result (Taken B) TaskFailure → Type 0
  SaidItems (Ok t) = AllByRecursion IsItem t.items
  SaidItems (Err failure) = ⊤

  module _ (c : Committing) where
    output_within : (name : AccountPath) (body : B) (reducer : Option ℕ) (t : Taken B) → IfSome reducer (λ n. n < 2 ^ 32) → AllByRecursion IsItem t.items → AllByRecursion IsItem (with_output c name body reducer t).items
    output_within name body reducer t is all = pushed IsItem t.items (record { name = name; root = c.root; body = body; reducer = reducer }) all is

    emitted_within : (place : AccountPath) (body : B) (reducer : Option ℕ) (t : Taken B) → IfSome reducer (λ n. n < 2 ^ 32) → AllByRecursion IsItem t.items
        → (b : Bool) → SaidItems (and_then (λ new. Ok (with_output c place body reducer new)) (cond b (Ok (kept c place body t)) (Err TaskPlaceRefused)))
    emitted_within place body reducer t is all true = output_within place body reducer (kept c place body t) is all
    emitted_within place body reducer t is all false = tt

    placed_within : (place : AccountPath) (body : B) (t : Taken B) → AllByRecursion IsItem t.items → (b : Bool) → SaidItems (cond b (Ok (kept c place body t)) (Err TaskPlaceRefused))
    placed_within place body t all true = all
    placed_within place body t all false = tt

    referred_within : (name : AccountPath) (t : Taken B) → AllByRecursion IsItem t.items → (o : Option (Object B)) → SaidItems (take_reference c name t o)
    referred_within name t all None = tt
    referred_within name t all (Some o) = output_within name o.body None t tt all

    record_within : (t : Taken B) (r : TaskRecord B) → IsSaidRecord r → AllByRecursion IsItem t.items → SaidItems (take_record c t r)
    record_within t (Emit None reducer body) is all = output_within (fresh_place c t) body reducer (kept c (fresh_place c t) body t) is all
    record_within t (Emit (Some place) reducer body) is all = emitted_within place body reducer t is all (can_hold_object t.rows c.job place)
    record_within t (Keep place body) is all = placed_within place body t all (can_hold_object t.rows c.job place)
    record_within t (Ref name) is all = referred_within name t all (object_at t.rows name)

    next_within : (r : TaskRecord B) → IsSaidRecord r → (x : Result (Taken B) TaskFailure) → SaidItems x → SaidItems (and_then (λ t. take_record c t r) x)
    next_within r is (Ok t) all = record_within t r is all
    next_within r is (Err failure) all = tt

    records_within : (rs : List (TaskRecord B)) → AllByRecursion IsSaidRecord rs → (x : Result (Taken B) TaskFailure) → SaidItems x → SaidItems (take_records c rs x)
    records_within [] is x all = all
    records_within (r ∷ rs) is x all = records_within rs is.1 (and_then (λ t. take_record c t r) x) (next_within r is.0 x all)

  resolved_within : (rows : Rows B) (r : Result (Taken B) TaskFailure) → SaidItems r → IsOutcome (resolved rows r).outcome
  resolved_within rows (Ok t) all = all
  resolved_within rows (Err failure) all = omega arith

  outcome_within : (c : Committing) (rows : Rows B) (x : Fate B) → IsSaidFate x → IsOutcome (resolve c rows x).outcome
  outcome_within c rows (fate.Good records) is = resolved_within rows (take_records c records (Ok (record { rows = rows; items = []; made = 0 })))
      (records_within c records is (Ok (record { rows = rows; items = []; made = 0 })) tt)
  outcome_within c rows (fate.Bad failure status stderr) is = is

  commit_within : (s : State B) (o : Option (Job B)) (phase place : ℕ) (x : Fate B) (moment : ℕ) → KeepsLimits s → IsMoment moment → IsSaidFate x → KeepsLimits (commit s o phase place x moment)
  commit_within s None phase place x moment k now is = k
  commit_within s (Some j) phase place x moment k now is =
      let c : Committing = record { job = j.number; phase = phase; root = task_root j phase place; position = s.count; moment = moment } in
      let r : Resolved B = resolve_task s j phase place x moment in
      let e : TraceEntry B = record { phase = phase; place = place; position = s.count; outcome = r.outcome } in
      record {
        rows = (resolve_keeps Any IsEntry (λ o is. tt) c now (λ number body is. said task_content_type moment tasks_type now) s.rows x k.rows (any_fate x)).0;
        jobs = changed IsJob (λ y. y.number == j.number) (with_entry e) (entry_within e (outcome_within c s.rows x is)) s.jobs k.jobs;
        uploads = k.uploads;
      }

  -- ---- uploads

  ended_within : (stage : Stage) (u : Upload B) → IsUpload u → IsUpload (ended_as stage u)
  ended_within stage u i = record { content_type = i.content_type; moment = i.moment }

  upload_within : (s : State B) (number : ℕ) (o : Option (Upload B)) → upload_at s.uploads number ≡ o → (body : B) (moment : ℕ) → KeepsLimits s → IsMoment moment → KeepsLimits (commit_upload s o body moment)
  upload_within s number None is body moment k now = k
  upload_within s number (Some u) is body moment k now =
      let i : IsUpload u = first_found IsUpload (λ x. x.number == number) s.uploads u k.uploads is in
      record {
        rows = inserted IsEntry path_cmp s.rows u.path (entry.Object (upload_object (number_at s.count 0) u body moment)) k.rows (said u.content_type moment i.content_type now);
        jobs = k.jobs;
        uploads = changed IsUpload (λ x. x.number == u.number) (ended_as Committed) (ended_within Committed) s.uploads k.uploads;
      }

  -- ---- each command

  job_within : (s : State B) (number : ℕ) (f : Job B → Job B) → ((j : Job B) → IsJob j → IsJob (f j)) → KeepsLimits s → KeepsLimits (record s { jobs = with_job s.jobs number f })
  job_within s number f keep k = record { rows = k.rows; jobs = changed IsJob (λ j. j.number == number) f keep s.jobs k.jobs; uploads = k.uploads }

  rows_within : (s : State B) (c : Command B) → kind_of c ≡ OnRows → KeepsLimits s → SaysWithin c → KeepsLimits (change s c)
  unfolding step
  rows_within s c kind k is = let new = step_within s c kind k is in record { rows = new.rows; jobs = new.jobs; uploads = new.uploads }

  change_within : (s : State B) (c : Command B) → KeepsLimits s → SaysWithin c → KeepsLimits (change s c)
  unfolding change
  change_within s (Put path content_type body durability metadata moment) k is = rows_within s (Put path content_type body durability metadata moment) refl k is
  change_within s (MakeDirectory path moment) k is = rows_within s (MakeDirectory path moment) refl k is
  change_within s (Link path source moment) k is = rows_within s (Link path source moment) refl k is
  change_within s (Delete path moment) k is = rows_within s (Delete path moment) refl k is
  change_within s (NewJob document moment) k is =
      let n : ℕ = number_at s.count 0 in
      record {
        rows = inserted IsEntry path_cmp (with_row s.rows (job_folder n) (entry.Directory moment)) (job_stor n) (entry.Directory moment)
            (inserted IsEntry path_cmp s.rows (job_folder n) (entry.Directory moment) k.rows is.0) is.0;
        jobs = pushed IsJob s.jobs (new_job s.rows n document moment) k.jobs (record { created = is.0; done = tt; document = is.1; inputs = tt; missing = tt; outcomes = tt });
        uploads = k.uploads;
      }
  change_within s (AddInputs job lines moment) k is = job_within s job (with_lines s.rows lines) (λ j i. lines_within s.rows lines j i is) k
  change_within s (EndInput job moment) k is = job_within s job with_end end_within k
  change_within s (Commit job phase place fate moment) k is = commit_within s (job_at s.jobs job) phase place fate moment k is.0 is.1
  change_within s (Finish job moment) k is = job_within s job (done_at moment false) (done_within moment false is) k
  change_within s (Cancel job moment) k is = job_within s job (done_at moment true) (done_within moment true is) k
  change_within s (Close job cancelled archive moment) k is = record {
    rows = archive_keeps Any (λ t. IsTrue (is_content_type t)) IsEntry moment (λ number t body typed any. said t moment typed is) 0 s.rows job s.count archive_names (archive_bodies archive)
        archive_types (any_bodies (archive_bodies archive)) k.rows;
    jobs = changed IsJob (λ j. j.number == job) (done_at moment cancelled) (done_within moment cancelled is) s.jobs k.jobs;
    uploads = k.uploads;
  }
  change_within s (NewUpload path content_type moment) k is = record {
    rows = k.rows;
    jobs = k.jobs;
    uploads = pushed IsUpload s.uploads (new_upload (number_at s.count 0) path content_type moment) k.uploads (record { content_type = is.0; moment = is.1 });
  }
  change_within s (PutPart upload index body moment) k is = record {
    rows = k.rows;
    jobs = k.jobs;
    uploads = changed IsUpload (λ u. u.number == upload) (λ u. record u { parts = with_part (record { index = index; number = number_at s.count 0; body = body }) u.parts })
        (λ u i. record { content_type = i.content_type; moment = i.moment }) s.uploads k.uploads;
  }
  change_within s (CommitUpload upload parts body moment) k is = upload_within s upload (upload_at s.uploads upload) refl body moment k is
  change_within s (AbortUpload upload moment) k is = record {
    rows = k.rows;
    jobs = k.jobs;
    uploads = changed IsUpload (λ u. u.number == upload) (ended_as Aborted) (ended_within Aborted) s.uploads k.uploads;
  }

  pub keeps_limits : (s : State B) (c : Command B) → KeepsLimits s → SaysWithin c → KeepsLimits (step s c)
  unfolding step
  keeps_limits s c k is = let new = change_within s c k is in record { rows = new.rows; jobs = new.jobs; uploads = new.uploads }

  pub first_within : KeepsLimits {B = B} first_state
  first_within = record { rows = (refl, (refl, (refl, tt))); jobs = tt; uploads = tt }
