-- Each command leaves objects with the names of outputs as they are, so the outputs of all jobs keep their bodies.
use Rattle.std.proofs.Common.{◌≡◌, ℕ, ◌+◌, ◌-◌, ◌==◌, ◌<◌, Bool, true, false, not, ◌||◌, List, [], ◌∷◌, length, map, Option, Some, None, refl, sym, ap, subst, ◌∙◌, arith, codes, drop, cond, zero, suc}
use Rattle.std.specs.Prelude.{slice_index_or}
use Rattle.std.specs.List.{AllByRecursion, Contains}
use Rattle.std.specs.Option.{option_map, option_map_or}
use Rattle.std.proofs.lemmas.Bool.{eqb-true}
use Rattle.mt_ident.specs.Identifiers.{identifier_number}
use Rattle.mt_path.specs.AccountPath.{AccountPath}
use Rattle.mt_path.specs.declared.area.Area.TheVariants.{Jobs}
use Rattle.mt_types.specs.WellMade.{IsWellMade, IsWellMadeFate}
use Rattle.mt_types.specs.declared.command.Command.{Command}
use Rattle.mt_types.specs.declared.command.Command.TheVariants.{Put, MakeDirectory, Link, Delete, NewJob, AddInputs, EndInput, Commit, Finish, Cancel, Close, NewUpload, PutPart, CommitUpload, AbortUpload}
use Rattle.mt_types.specs.declared.document.InputLine.{InputLine}
use Rattle.mt_types.specs.declared.job.Job.{Job}
use Rattle.mt_types.specs.declared.job.TraceEntry.{TraceEntry}
use Rattle.mt_types.specs.declared.limits.TheConstants.{MOST_COMMANDS}
use Rattle.mt_types.specs.declared.object.Entry.{Entry}
use Rattle.mt_types.specs.declared.object.Entry.TheVariants as entry
use Rattle.mt_types.specs.declared.object.Object.{Object}
use Rattle.mt_types.specs.declared.task.Fate.{Fate}
use Rattle.mt_types.specs.declared.upload.Upload.{Upload}
use Rattle.mt_model.specs.CommandStep.{allowed, change, linked, put_object, replay, step}
use Rattle.mt_model.specs.Feed.{items_of}
use Rattle.mt_model.specs.JobSteps.{archive_bodies, archive_names, archive_object, commit, commit_refusal, done_at, job_refusal, new_job, resolve_task, task_root, with_archive_from, with_end, with_entry, with_lines}
use Rattle.mt_model.specs.Lawful.{Lawful, LawfulJob, LawfulUpload, fits_below, is_output, job_named}
use Rattle.mt_model.specs.Laws.{TakenFrom}
use Rattle.mt_model.specs.Names.{ends_in_output, in_job_folder, job_folder, job_stor, number_at, output_path}
use Rattle.mt_model.specs.Resolve.{Committing, Resolved}
use Rattle.mt_model.specs.Rows.{Rows, at, object_at, object_in, with_row, without_row}
use Rattle.mt_model.specs.Stays.{OutputsHaveBodies, OutputsStay}
use Rattle.mt_model.specs.State.{State, first_state, job_at, upload_at}
use Rattle.mt_model.specs.UploadSteps.{commit_upload, is_jobs}
use Rattle.mt_model.proofs.EachStep.{changed, pushed}
use Rattle.mt_model.proofs.LawfulCommit.{task_good}
use Rattle.mt_model.proofs.LawfulHistories.{lawful_step, lawful_taken}
use Rattle.mt_model.proofs.LawfulInputs.{or_none}
use Rattle.mt_model.proofs.LawfulClose.{job_in}
use Rattle.mt_model.proofs.LawfulNewJob.{other_path}
use Rattle.mt_model.proofs.LawfulRows.{jobs-with_row, jobs-without_row}
use Rattle.mt_model.proofs.LawfulSteps.{Lawful-first_state}
use Rattle.mt_model.proofs.LawfulParts.{upload_found}
use Rattle.mt_model.proofs.OutputsStay.{IsHeld, Numbered, Stays, all_later, put_at, resolve_holds}
use Rattle.mt_model.proofs.RowLaws.{neither, not_refused}
use Rattle.mt_model.proofs.Standing.{posted_lines}

is_own : (n : Option ℕ) (m : ℕ) → option_map_or (λ k. k == m) n false ≡ true → n ≡ Some m
is_own None m is = cc
is_own (Some k) m is = ap Some (eqb-true k m is)

or_other : (a b : Bool) → a ≡ true → (not a || b) ≡ true → b ≡ true
or_other true b is or = or
or_other false b is or = cc

module _ {B : Type 0} where
  -- the outputs of all jobs have their objects
  abbrev pub JobHeld : Rows B → Job B → Type 0
  JobHeld rows j = AllByRecursion (λ (e : TraceEntry B). AllByRecursion (IsHeld rows) (items_of e.outcome)) j.trace

  abbrev pub AllHeld : Rows B → List (Job B) → Type 0
  AllHeld rows jobs = AllByRecursion (JobHeld rows) jobs

  trace_later : (rows new : Rows B) → Stays rows new → (es : List (TraceEntry B)) → AllByRecursion (λ (e : TraceEntry B). AllByRecursion (IsHeld rows) (items_of e.outcome)) es
      → AllByRecursion (λ (e : TraceEntry B). AllByRecursion (IsHeld new) (items_of e.outcome)) es
  trace_later rows new stays [] all = tt
  trace_later rows new stays (e ∷ es) all = (all_later rows new stays (items_of e.outcome) all.0, trace_later rows new stays es all.1)

  jobs_later : (rows new : Rows B) → Stays rows new → (jobs : List (Job B)) → AllHeld rows jobs → AllHeld new jobs
  jobs_later rows new stays [] all = tt
  jobs_later rows new stays (j ∷ js) all = (trace_later rows new stays j.trace all.0, jobs_later rows new stays js all.1)

  -- ---- rows that are put or removed elsewhere

  outside_stays : (rows new : Rows B) → ((names : List (List ℕ)) → at new (record { area = Jobs; parts = names }) ≡ at rows (record { area = Jobs; parts = names })) → Stays rows new
  outside_stays rows new same id name o ends is = ap object_in (same (id ∷ codes "stor" ∷ name ∷ [])) ∙ is

  few_stays : (rows : Rows B) (p : AccountPath) (e : Entry B) → length p.parts < 3 → Stays rows (with_row rows p e)
  few_stays rows p e less id name o ends is =
      put_at rows p (output_path id name) e o (other_path p (output_path id name) (λ same. let three : length p.parts ≡ 3 = ap (λ (x : AccountPath). length x.parts) same in absurd (omega (arith, three, less)))) is

  archive_stays : (index : ℕ) (rows : Rows B) (job position moment : ℕ) (names : List (List ℕ × List ℕ)) (bodies : List B) → Stays rows (with_archive_from index rows job position moment names bodies)
  archive_stays index rows job position moment [] bodies = λ id name o ends is. is
  archive_stays index rows job position moment (n ∷ ns) [] = λ id name o ends is. is
  archive_stays index rows job position moment (n ∷ ns) (b ∷ bs) = λ id name o ends is.
      archive_stays (index + 1) (with_row rows (in_job_folder job n.0) (entry.Object (archive_object (number_at position index) n.1 b moment))) job position moment ns bs id name o ends
      (few_stays rows (in_job_folder job n.0) (entry.Object (archive_object (number_at position index) n.1 b moment)) (omega arith) id name o ends is)

  linked_stays : (rows : Rows B) (p : AccountPath) (o : Option (Object B)) (moment : ℕ) → is_jobs p.area ≡ false → Stays rows (linked rows p o moment)
  linked_stays rows p None moment outside = λ id name o ends is. is
  linked_stays rows p (Some x) moment outside = outside_stays rows (with_row rows p (entry.Object (record x { mtime = moment }))) (jobs-with_row rows p (entry.Object (record x { mtime = moment })) outside)

  -- ---- numbers of a lawful state

  fits_case : (j : Option (Job B)) (name : List ℕ) (o : Object B) → ends_in_output name ≡ true → fits_below j (codes "stor" ∷ name ∷ []) (entry.Object o) ≡ true → identifier_number 3 (drop (length name - 36) name) ≡ Some o.number
  fits_case None name o ends is = cc
  fits_case (Some j) name o ends is = is_own (identifier_number 3 (drop (length name - 36) name)) o.number (or_other (ends_in_output name) (is_output name [] (entry.Object o)) ends is)

  entry_case : (e : Option (Entry B)) (o : Object B) → object_in e ≡ Some o → e ≡ Some (entry.Object o)
  entry_case None o is = cc
  entry_case (Some (entry.Directory mtime)) o is = cc
  entry_case (Some (entry.Object x)) o is = ap (λ y. option_map entry.Object y) is

  pub numbered_start : (s : State B) → Lawful s → Numbered (number_at s.count 0) s.rows
  numbered_start s law id name o ends is = (
    fits_case (job_named s.jobs id) name o ends (law.jobs.entries id (codes "stor" ∷ name ∷ []) (entry.Object o) (entry_case (at s.rows (output_path id name)) o is)),
    (let below = law.rows.numbers (output_path id name) o is in omega (arith, below)),
  )

  -- ---- each command

  pub record Held (rows : Rows B) (s : State B) : Type 0 where
    pub stays : Stays rows s.rows
    pub held : AllHeld s.rows s.jobs

  rows_held : (s : State B) (new : Rows B) → AllHeld s.rows s.jobs → Stays s.rows new → Held s.rows (record s { rows = new })
  rows_held s new all stays = record { stays = stays; held = jobs_later s.rows new stays s.jobs all }

  job_held : (s : State B) (number : ℕ) (f : Job B → Job B) → AllHeld s.rows s.jobs → ((j : Job B) → JobHeld s.rows j → JobHeld s.rows (f j)) → AllHeld s.rows (map (λ j. cond (j.number == number) (f j) j) s.jobs)
  job_held s number f all keep = changed (JobHeld s.rows) (λ j. j.number == number) f keep s.jobs all

  lines_held : (rows : Rows B) (lines : List InputLine) (j : Job B) → JobHeld rows j → JobHeld rows (with_lines rows lines j)
  lines_held rows lines j held = let same : j.trace ≡ (with_lines rows lines j).trace = sym (ap (λ (x : Job B). x.trace) (posted_lines rows lines j).is) in
      subst (λ es. AllByRecursion (λ (e : TraceEntry B). AllByRecursion (IsHeld rows) (items_of e.outcome)) es) same held

module _ {B : Type 0} (size : B → ℕ) (s : State B) (law : Lawful s) (room : s.count < MOST_COMMANDS) (all : AllHeld s.rows s.jobs) where
  commit_held : (number phase place : ℕ) (f : Fate B) (moment : ℕ) → IsWellMadeFate f → (o : Option (Job B)) → job_at s.jobs number ≡ o → job_refusal o (commit_refusal phase place) ≡ None
      → Held s.rows (commit s o phase place f moment)
  commit_held number phase place f moment made None at e = cc
  commit_held number phase place f moment made (Some j) at e =
      let l : LawfulJob s.count j = job_in number s.jobs j at (LawfulJob s.count) law.jobs.each in
      let task = task_good s.count j l phase place e in
      let few : phase < 16 = (let under = task.few in let most = l.document.few in omega (arith, under, most)) in
      let c : Committing = record { job = j.number; phase = phase; root = task_root j phase place; position = s.count; moment = moment } in
      let r : Resolved B = resolve_task s j phase place f moment in
      let end_is = resolve_holds c few task.root_is.component task.root_is.short room s.rows (numbered_start s law) f made in
      let x : TraceEntry B = record { phase = phase; place = place; position = s.count; outcome = r.outcome } in
      record {
        stays = end_is.stays;
        held = changed (JobHeld r.rows) (λ y. y.number == j.number) (with_entry x)
            (λ y held. pushed (λ (z : TraceEntry B). AllByRecursion (IsHeld r.rows) (items_of z.outcome)) y.trace x held end_is.items) s.jobs (jobs_later s.rows r.rows end_is.stays s.jobs all);
      }

  upload_held : (body : B) (moment : ℕ) (o : Option (Upload B)) → ((u : Upload B) → o ≡ Some u → LawfulUpload s.count u) → Held s.rows (commit_upload s o body moment)
  upload_held body moment None good = record { stays = λ id name o ends is. is; held = all }
  upload_held body moment (Some u) good =
      let new : Rows B = with_row s.rows u.path (entry.Object (record { number = number_at s.count 0; body = body; content_type = u.content_type; durability = None; metadata = []; mtime = moment })) in
      let base = rows_held s new all (outside_stays s.rows new (jobs-with_row s.rows u.path _ (or_none _ _ (good u refl).place).0)) in
      record { stays = base.stays; held = base.held }

  none_held : Held s.rows s
  none_held = record { stays = λ id name o ends is. is; held = all }

  change_held : (c : Command B) → IsWellMade c → allowed size s c ≡ None → Held s.rows (change s c)
  unfolding allowed change
  change_held (Put path content_type body durability metadata moment) made e =
      let x : Entry B = entry.Object (put_object (number_at s.count 0) body content_type durability metadata moment) in
      rows_held s (with_row s.rows path x) all (outside_stays s.rows (with_row s.rows path x) (jobs-with_row s.rows path x (not_refused _ _ (neither _ _ e).0)))
  change_held (MakeDirectory path moment) made e =
      let x : Entry B = entry.Directory moment in
      rows_held s (with_row s.rows path x) all (outside_stays s.rows (with_row s.rows path x) (jobs-with_row s.rows path x (not_refused _ _ (neither _ _ e).0)))
  change_held (Link path source moment) made e = rows_held s (linked s.rows path (object_at s.rows source) moment) all (linked_stays s.rows path (object_at s.rows source) moment (not_refused _ _ (neither _ _ e).0))
  change_held (Delete path moment) made e = rows_held s (without_row s.rows path) all (outside_stays s.rows (without_row s.rows path) (jobs-without_row s.rows path law.rows.tree (not_refused _ _ (neither _ _ e).0)))
  change_held (NewJob document moment) made e =
      let n : ℕ = number_at s.count 0 in
      let one : Rows B = with_row s.rows (job_folder n) (entry.Directory moment) in
      let two : Rows B = with_row one (job_stor n) (entry.Directory moment) in
      let stays : Stays s.rows two = λ id name o ends is. few_stays one (job_stor n) (entry.Directory moment) (omega arith) id name o ends (few_stays s.rows (job_folder n) (entry.Directory moment) (omega arith) id name o ends is) in
      record { stays = stays; held = pushed (JobHeld two) s.jobs (new_job s.rows n document moment) (jobs_later s.rows two stays s.jobs all) tt }
  change_held (AddInputs job lines moment) made e = record { stays = none_held.stays; held = job_held s job (with_lines s.rows lines) all (lines_held s.rows lines) }
  change_held (EndInput job moment) made e = record { stays = none_held.stays; held = job_held s job with_end all (λ j held. held) }
  change_held (Commit job phase place fate moment) made e = commit_held job phase place fate moment made (job_at s.jobs job) refl e
  change_held (Finish job moment) made e = record { stays = none_held.stays; held = job_held s job (done_at moment false) all (λ j held. held) }
  change_held (Cancel job moment) made e = record { stays = none_held.stays; held = job_held s job (done_at moment true) all (λ j held. held) }
  change_held (Close job cancelled archive moment) made e =
      let new : Rows B = with_archive_from 0 s.rows job s.count moment archive_names (archive_bodies archive) in
      let stays : Stays s.rows new = archive_stays 0 s.rows job s.count moment archive_names (archive_bodies archive) in
      record { stays = stays; held = changed (JobHeld new) (λ j. j.number == job) (done_at moment cancelled) (λ j held. held) s.jobs (jobs_later s.rows new stays s.jobs all) }
  change_held (NewUpload path content_type moment) made e = record { stays = none_held.stays; held = all }
  change_held (PutPart upload index body moment) made e = record { stays = none_held.stays; held = all }
  change_held (CommitUpload upload parts body moment) made e = upload_held body moment (upload_at s.uploads upload) (λ u at. upload_found (LawfulUpload s.count) upload s.uploads u law.uploads.each at)
  change_held (AbortUpload upload moment) made e = record { stays = none_held.stays; held = all }

  step_held : (c : Command B) → IsWellMade c → allowed size s c ≡ None → Held s.rows (step s c)
  unfolding step
  step_held c made e = let h = change_held c made e in record { stays = h.stays; held = h.held }

one_of : {X : Type 0} (P : X → Type 0) (xs : List X) (k : ℕ) (d : X) → AllByRecursion P xs → k < length xs → P (slice_index_or xs k d)
one_of P [] k d all less = absurd (omega (arith, less))
one_of P (x ∷ xs) zero d all less = all.0
one_of P (x ∷ xs) (suc k) d all less = one_of P xs k d all.1 (omega (arith, less))

contained : {X : Type 0} (P : X → Type 0) (xs : List X) (x : X) → AllByRecursion P xs → Contains xs x → P x
contained P xs x all c = subst P c.2 (one_of P xs c.0 x all c.1)

module _ {B : Type 0} (size : B → ℕ) where
  history_held : (s : State B) (h : List (Command B)) → Lawful s → AllHeld s.rows s.jobs → TakenFrom size s h → Held s.rows (replay s h)
  unfolding TakenFrom replay
  history_held s [] law all taken = record { stays = λ id name o ends is. is; held = all }
  history_held s (c ∷ cs) law all taken =
      let one = step_held size s law taken.0 all c taken.1 taken.2 in
      let rest = history_held (step s c) cs (lawful_step size s c law taken.0 taken.1 taken.2) one.held taken.3 in
      record { stays = λ id name o ends is. rest.stays id name o ends (one.stays id name o ends is); held = rest.held }

  -- of a history from the first state on
  outputs_held : (h : List (Command B)) → TakenFrom size first_state h → AllHeld (replay first_state h).rows (replay first_state h).jobs
  outputs_held h taken = (history_held first_state h (Lawful-first_state B) tt taken).held

  pub outputs_stay : OutputsStay size
  outputs_stay h more taken next = (history_held (replay first_state h) more (lawful_taken size first_state h (Lawful-first_state B) taken) (outputs_held h taken) next).stays

  pub outputs_have_bodies : OutputsHaveBodies size
  outputs_have_bodies h taken job e i at_job at_e at_i id name ends is =
      let rows : Rows B = (replay first_state h).rows in
      let of_job : JobHeld rows job = contained (JobHeld rows) (replay first_state h).jobs job (outputs_held h taken) at_job in
      let of_entry : AllByRecursion (IsHeld rows) (items_of e.outcome) = contained (λ (x : TraceEntry B). AllByRecursion (IsHeld rows) (items_of x.outcome)) job.trace e of_job at_e in
      let has = contained (IsHeld rows) (items_of e.outcome) i of_entry at_i id name ends is in
      ap (λ p. option_map (λ o. o.body) (object_at rows p)) is ∙ ap (λ x. option_map (λ o. o.body) x) has.there ∙ ap Some has.is
