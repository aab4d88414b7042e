-- Each of these commands keeps a state lawful, where it is allowed.
use Rattle.std.proofs.Common.{◌≡◌, ℕ, ◌+◌, ◌<◌, ◌≤◌, Bool, true, false, cond, List, [], ◌∷◌, length, Option, Some, None, refl, sym, ap, subst, ◌∙◌, arith}
use Rattle.std.proofs.lemmas.Bool.{ltb-false}
use Rattle.std.specs.Prelude.{All, IsSome, nat_lt, not}
use Rattle.std.specs.List.{AllByRecursion, enumerate_from, list_all, sum_by}
use Rattle.std.specs.Option.{unwrap_or}
use Rattle.std.proofs.lemmas.List.Elements.{All-nil, All-cons, All-head, All-tail}
use Rattle.mt_path.specs.AccountPath.{AccountPath, IsPath, root_of}
use Rattle.mt_path.specs.declared.area.Area.{Area}
use Rattle.mt_path.specs.declared.area.Area.TheVariants.{Stor, Public, Jobs}
use Rattle.mt_types.specs.declared.command.Command.TheVariants.{Put, MakeDirectory, Link, Delete, NewJob, AddInputs, EndInput, Commit, Finish, Cancel, Close, NewUpload, PutPart, CommitUpload, AbortUpload}
use Rattle.mt_types.specs.declared.command.Archive.{Archive}
use Rattle.mt_types.specs.declared.document.InputLine.{InputLine}
use Rattle.mt_types.specs.WellMade.{IsDocument, IsWellMadeFate, IsWellMadeLine}
use Rattle.mt_types.specs.declared.document.JobDocument.{JobDocument}
use Rattle.mt_types.specs.declared.job.Job.{Job}
use Rattle.mt_types.specs.declared.object.Entry.{Entry}
use Rattle.mt_types.specs.declared.object.Entry.TheVariants as entry
use Rattle.mt_types.specs.declared.object.Field.{Field}
use Rattle.mt_types.specs.declared.object.Object.{Object}
use Rattle.mt_types.specs.Limits.{is_index}
use Rattle.mt_types.specs.declared.refusal.Refusal.TheVariants.{UploadPart, UploadState, UploadTooLarge}
use Rattle.mt_types.specs.declared.job.TraceEntry.{TraceEntry}
use Rattle.mt_types.specs.declared.task.Fate.{Fate}
use Rattle.mt_model.specs.Resolve.{Resolved}
use Rattle.mt_types.specs.declared.upload.Stage.TheVariants.{Aborted, Committed}
use Rattle.mt_types.specs.declared.upload.Upload.{Upload}
use Rattle.mt_model.specs.CommandStep.{allowed, change, linked, put_object, step}
use Rattle.mt_model.specs.JobSteps.{add_inputs_refusal, archive_bodies, close, close_refusal, commit, commit_refusal, done_at, job_refusal, resolve_task, task_root, with_entry, finish_refusal, input_refusal, running_refusal, with_end, with_lines}
use Rattle.mt_model.specs.Lawful.{HasFolders, IsBelow, Lawful, LawfulJob, LawfulRows, LawfulUpload}
use Rattle.mt_types.specs.declared.limits.TheConstants.{LARGEST_JOINED, MOST_COMMANDS}
use Rattle.mt_model.specs.Limits.{most_inputs}
use Rattle.mt_model.specs.Names.{number_at}
use Rattle.mt_model.specs.Rows.{Rows, at, first_refusal, first_rows, is_path, link_refusal, object_at, object_in, put_refusal, refuse_if, with_row, without_row}
use Rattle.mt_model.specs.State.{State, first_state, job_at, upload_at, with_job}
use Rattle.mt_model.specs.UploadSteps.{commit_upload, commit_upload_refusal, is_jobs, is_listed, is_open, listed, upload_object, upload_refusal}
use Rattle.mt_model.proofs.FewOutputs.{few_outputs}
use Rattle.mt_model.proofs.LawfulEnds.{KeepsJob-done, LawfulJob-closed, LawfulJob-cancelled, LawfulJob-finished}
use Rattle.mt_model.proofs.LawfulClose.{LawfulJobs-closed, LawfulRows-closed, job_in, named}
use Rattle.mt_model.proofs.LawfulCommit.{LawfulJob-entry, resolve_good, task_good}
use Rattle.mt_model.proofs.LawfulPuts.{Whole}
use Rattle.mt_model.proofs.Standing.{KeepsJob-entry, complete_closed, number_at_job}
use Rattle.mt_model.proofs.LawfulInputs.{KeepsJob-end, KeepsJob-lines, LawfulJob-ended, lines_good, open-allowed, or_none}
use Rattle.mt_model.proofs.LawfulJobs.{KeepsJob, LawfulJobs-changed, LawfulJobs-same, found, in_jobs}
use Rattle.mt_model.proofs.LawfulNewJob.{LawfulJobs-new_job, LawfulRows-new_job, sorted_nil}
use Rattle.mt_model.proofs.LawfulParts.{LawfulUploads-part, new_part, upload_found}
use Rattle.mt_model.proofs.LawfulRows.{LawfulRows-later, LawfulRows-with_row, LawfulRows-without_row, jobs-with_row, jobs-without_row}
use Rattle.mt_model.proofs.LawfulUploads.{LawfulUploads-ended, LawfulUploads-later, LawfulUploads-new}
use Rattle.mt_model.proofs.RowLaws.{IsTree-first_rows, IsTree-link, IsTree-make_directory, IsTree-put, IsTree-remove, is_path-exact, neither, not_refused}

-- what holds of each element, with what holds of it besides
both : {X : Type 0} (P Q R : X → Type 0) → ((x : X) → P x → Q x → R x) → (xs : List X) → All P xs → All Q xs → All R xs
both P Q R each [] a b = All-nil R
both P Q R each (x ∷ xs) a b =
    All-cons R x xs (each x (All-head P x xs a) (All-head Q x xs b)) (both P Q R each xs (All-tail P x xs a) (All-tail Q x xs b))

module _ {B : Type 0} (size : B → ℕ) (s : State B) (law : Lawful s) where
  later : s.count ≤ s.count + 1
  later = omega arith

  -- a change of the rows outside the area of jobs
  rows_changed : (rows : Rows B) → LawfulRows (s.count + 1) rows → ((names : List (List ℕ)) → in_jobs rows names ≡ in_jobs s.rows names) → Lawful (record s { count = s.count + 1; rows = rows })
  rows_changed rows good same = record {
    rows = good;
    jobs = LawfulJobs-same s.count (s.count + 1) later s.rows rows s.jobs same law.jobs;
    uploads = LawfulUploads-later s.count (s.count + 1) later s.uploads law.uploads;
  }

  -- a change of one job
  job_changed : (number : ℕ) (c : Job B → Job B) → KeepsJob c → All (λ j. j.number ≡ number → LawfulJob s.count (c j)) s.jobs → Lawful (record s { count = s.count + 1; jobs = with_job s.jobs number c })
  job_changed number c keeps good = record {
    rows = LawfulRows-later s.count (s.count + 1) s.rows later law.rows;
    jobs = LawfulJobs-same s.count (s.count + 1) later s.rows s.rows (with_job s.jobs number c) (λ names. refl)
        (LawfulJobs-changed number c keeps s.count s.rows s.jobs law.jobs good);
    uploads = LawfulUploads-later s.count (s.count + 1) later s.uploads law.uploads;
  }

  -- the rows so far, under the next count
  rows_later : LawfulRows (s.count + 1) s.rows
  rows_later = LawfulRows-later s.count (s.count + 1) s.rows later law.rows

  new_number : (x o : Object B) → x.number ≡ number_at s.count 0 → object_in (Some (entry.Object x)) ≡ Some o → IsBelow (s.count + 1) o.number
  new_number x o number is =
      let same : o.number ≡ number_at s.count 0 = sym (ap (λ m. (unwrap_or m x).number) is) ∙ number in
      omega arith

  pub Lawful-put : (path : AccountPath) (content_type : List ℕ) (body : B) (durability : Option ℕ) (metadata : List Field) (moment : ℕ) → IsPath path → allowed size s (Put path content_type body durability metadata moment) ≡ None → Lawful (step s (Put path content_type body durability metadata moment))
  unfolding allowed change step
  Lawful-put path content_type body durability metadata moment is_one e =
      let parts = neither _ _ e in
      let x : Object B = put_object (number_at s.count 0) body content_type durability metadata moment in
      rows_changed (with_row s.rows path (entry.Object x))
      (LawfulRows-with_row (s.count + 1) s.rows rows_later path (entry.Object x) is_one (IsTree-put s.rows path x law.rows.tree parts.1) (λ o is. new_number x o refl is))
      (jobs-with_row s.rows path (entry.Object x) (not_refused _ _ parts.0))

  no_object : (moment : ℕ) (o : Object B) → let e : Entry B = entry.Directory moment in object_in (Some e) ≡ Some o → IsBelow (s.count + 1) o.number
  no_object moment o e = cc

  pub Lawful-make_directory : (path : AccountPath) (moment : ℕ) → IsPath path → allowed size s (MakeDirectory path moment) ≡ None → Lawful (step s (MakeDirectory path moment))
  unfolding allowed change step
  Lawful-make_directory path moment is_one e =
      let parts = neither _ _ e in
      rows_changed (with_row s.rows path (entry.Directory moment))
      (LawfulRows-with_row (s.count + 1) s.rows rows_later path (entry.Directory moment) is_one (IsTree-make_directory s.rows path moment law.rows.tree parts.1) (no_object moment))
      (jobs-with_row s.rows path (entry.Directory moment) (not_refused _ _ parts.0))

  -- the number of a link is that of its source
  linked_number : (source : AccountPath) (x : Object B) (moment : ℕ) → object_at s.rows source ≡ Some x → (o : Object B) → object_in (Some (entry.Object (record x { mtime = moment }))) ≡ Some o → IsBelow (s.count + 1) o.number
  linked_number source x moment there o is =
      let same : o.number ≡ x.number = sym (ap (λ m. (unwrap_or m x).number) is) in
      let below : IsBelow (s.count + 1) x.number = rows_later.numbers source x there in
      omega arith

  link_case : (path source : AccountPath) (moment : ℕ) → IsPath path → is_jobs path.area ≡ false → link_refusal s.rows path source ≡ None → (o : Option (Object B)) → object_at s.rows source ≡ o → Lawful (record s { count = s.count + 1; rows = linked s.rows path o moment })
  link_case path source moment is_one outside e None is = rows_changed s.rows rows_later (λ names. refl)
  link_case path source moment is_one outside e (Some x) is =
      let y : Object B = record x { mtime = moment } in
      rows_changed (with_row s.rows path (entry.Object y))
      (LawfulRows-with_row (s.count + 1) s.rows rows_later path (entry.Object y) is_one (IsTree-link s.rows path source y law.rows.tree e) (linked_number source x moment is))
      (jobs-with_row s.rows path (entry.Object y) outside)

  pub Lawful-link : (path source : AccountPath) (moment : ℕ) → IsPath path → allowed size s (Link path source moment) ≡ None → Lawful (step s (Link path source moment))
  unfolding allowed change step
  Lawful-link path source moment is_one e =
      let parts = neither _ _ e in
      link_case path source moment is_one (not_refused _ _ parts.0) parts.1 (object_at s.rows source) refl

  pub Lawful-delete : (path : AccountPath) (moment : ℕ) → allowed size s (Delete path moment) ≡ None → Lawful (step s (Delete path moment))
  unfolding allowed change step
  Lawful-delete path moment e =
      let parts = neither _ _ e in
      rows_changed (without_row s.rows path)
      (LawfulRows-without_row (s.count + 1) s.rows rows_later path (IsTree-remove s.rows path law.rows.tree parts.1))
      (jobs-without_row s.rows path law.rows.tree (not_refused _ _ parts.0))

  pub Lawful-new_job : (document : JobDocument) (moment : ℕ) → IsDocument document → s.count < MOST_COMMANDS → allowed size s (NewJob document moment) ≡ None → Lawful (step s (NewJob document moment))
  unfolding allowed change step
  Lawful-new_job document moment is room e =
      let none = not_refused _ _ (neither _ _ e).0 in
      record {
        rows = LawfulRows-later s.count (s.count + 1) _ later (LawfulRows-new_job s.count s.rows s.jobs law.rows law.jobs room document moment is none);
        jobs = LawfulJobs-new_job s.count s.rows s.jobs law.rows law.jobs room document moment is none;
        uploads = LawfulUploads-later s.count (s.count + 1) later s.uploads law.uploads;
      }

  pub Lawful-add_inputs : (job : ℕ) (lines : List InputLine) (moment : ℕ) → AllByRecursion IsWellMadeLine lines → allowed size s (AddInputs job lines moment) ≡ None → Lawful (step s (AddInputs job lines moment))
  unfolding allowed change step
  Lawful-add_inputs job lines moment made e =
      job_changed job (with_lines s.rows lines) (KeepsJob-lines s.rows lines)
      (both (LawfulJob s.count) (λ j. j.number ≡ job → add_inputs_refusal lines j ≡ None) (λ j. j.number ≡ job → LawfulJob s.count (with_lines s.rows lines j))
      (λ j l none same. (lines_good s.count s.rows law.rows lines j l (open-allowed j (neither _ _ (none same)).0) made (ltb-false most_inputs (length j.inputs + length j.missing + length lines) (not_refused _ _ (neither _ _ (none same)).1))).law)
      s.jobs law.jobs.each (found job (add_inputs_refusal lines) s.jobs law.jobs.rising e))

  pub Lawful-end_input : (job moment : ℕ) → allowed size s (EndInput job moment) ≡ None → Lawful (step s (EndInput job moment))
  unfolding allowed change step
  Lawful-end_input job moment e =
      job_changed job with_end KeepsJob-end
      (both (LawfulJob s.count) (λ j. j.number ≡ job → input_refusal j ≡ None) (λ j. j.number ≡ job → LawfulJob s.count (with_end j))
      (λ j l none same. LawfulJob-ended s.count j (open-allowed j (none same)) l)
      s.jobs law.jobs.each (found job input_refusal s.jobs law.jobs.rising e))

  pub Lawful-finish : (job moment : ℕ) → allowed size s (Finish job moment) ≡ None → Lawful (step s (Finish job moment))
  unfolding allowed change step
  Lawful-finish job moment e =
      job_changed job (done_at moment false) (KeepsJob-done moment false)
      (both (LawfulJob s.count) (λ j. j.number ≡ job → finish_refusal j ≡ None) (λ j. j.number ≡ job → LawfulJob s.count (done_at moment false j))
      (λ j l none same. LawfulJob-finished s.count j moment (none same) l)
      s.jobs law.jobs.each (found job finish_refusal s.jobs law.jobs.rising e))

  pub Lawful-cancel : (job moment : ℕ) → allowed size s (Cancel job moment) ≡ None → Lawful (step s (Cancel job moment))
  unfolding allowed change step
  Lawful-cancel job moment e =
      job_changed job (done_at moment true) (KeepsJob-done moment true)
      (both (LawfulJob s.count) (λ j. j.number ≡ job → running_refusal j ≡ None) (λ j. j.number ≡ job → LawfulJob s.count (done_at moment true j))
      (λ j l none same. LawfulJob-cancelled s.count j moment l)
      s.jobs law.jobs.each (found job running_refusal s.jobs law.jobs.rising e))

  -- a job that is closed is as one that is finished or cancelled
  closed_good : (cancelled : Bool) (moment : ℕ) (j : Job B) → close_refusal cancelled j ≡ None → LawfulJob s.count j → LawfulJob s.count (done_at moment cancelled j)
  closed_good cancelled moment j none l = LawfulJob-closed s.count j moment cancelled (complete_closed j cancelled none) l

  close_case : (job : ℕ) (cancelled : Bool) (archive : Archive B) (moment : ℕ) → s.count < MOST_COMMANDS → (o : Option (Job B)) → job_at s.jobs job ≡ o → job_refusal o (close_refusal cancelled) ≡ None
      → All (λ j. j.number ≡ job → LawfulJob s.count (done_at moment cancelled j)) s.jobs → Lawful (record (close s job cancelled archive moment) { count = s.count + 1 })
  close_case job cancelled archive moment room None at e good = cc
  close_case job cancelled archive moment room (Some j) at e good = record {
    rows = LawfulRows-closed s.count s.rows s.jobs law.rows law.jobs room job moment cancelled (archive_bodies archive) refl j at good;
    jobs = LawfulJobs-closed s.count s.rows s.jobs law.rows law.jobs room job moment cancelled (archive_bodies archive) refl j at good;
    uploads = LawfulUploads-later s.count (s.count + 1) later s.uploads law.uploads;
  }

  pub Lawful-close : (job : ℕ) (cancelled : Bool) (archive : Archive B) (moment : ℕ) → s.count < MOST_COMMANDS → allowed size s (Close job cancelled archive moment) ≡ None → Lawful (step s (Close job cancelled archive moment))
  unfolding allowed change step
  Lawful-close job cancelled archive moment room e =
      close_case job cancelled archive moment room (job_at s.jobs job) refl e
      (both (LawfulJob s.count) (λ j. j.number ≡ job → close_refusal cancelled j ≡ None) (λ j. j.number ≡ job → LawfulJob s.count (done_at moment cancelled j))
      (λ j l none same. closed_good cancelled moment j (none same) l)
      s.jobs law.jobs.each (found job (close_refusal cancelled) s.jobs law.jobs.rising e))

  pub Lawful-new_upload : (path : AccountPath) (content_type : List ℕ) (moment : ℕ) → IsPath path → allowed size s (NewUpload path content_type moment) ≡ None → Lawful (step s (NewUpload path content_type moment))
  unfolding allowed change step
  Lawful-new_upload path content_type moment is_one e = record {
    rows = rows_later;
    jobs = LawfulJobs-same s.count (s.count + 1) later s.rows s.rows s.jobs (λ names. refl) law.jobs;
    uploads = LawfulUploads-new s.count s.uploads path content_type moment is_one e law.uploads;
  }

  pub Lawful-abort_upload : (upload moment : ℕ) → Lawful (step s (AbortUpload upload moment))
  unfolding change step
  Lawful-abort_upload upload moment = record {
    rows = rows_later;
    jobs = LawfulJobs-same s.count (s.count + 1) later s.rows s.rows s.jobs (λ names. refl) law.jobs;
    uploads = LawfulUploads-later s.count (s.count + 1) later _ (LawfulUploads-ended s.count upload Aborted s.uploads law.uploads);
  }

  pub Lawful-put_part : (upload index : ℕ) (body : B) (moment : ℕ) → is_index index ≡ true → Lawful (step s (PutPart upload index body moment))
  unfolding change step
  Lawful-put_part upload index body moment is = record {
    rows = rows_later;
    jobs = LawfulJobs-same s.count (s.count + 1) later s.rows s.rows s.jobs (λ names. refl) law.jobs;
    uploads = LawfulUploads-part (s.count + 1) upload (record { index = index; number = number_at s.count 0; body = body })
        (new_part s.count index body (number_at s.count 0) (omega arith) is) s.uploads (LawfulUploads-later s.count (s.count + 1) later s.uploads law.uploads);
  }

  commit_upload_case : (parts : List ℕ) (body : B) (moment : ℕ) (o : Option (Upload B)) → ((u : Upload B) → o ≡ Some u → LawfulUpload s.count u) → upload_refusal o (commit_upload_refusal size s.rows parts) ≡ None
      → Lawful (record (commit_upload s o body moment) { count = s.count + 1 })
  commit_upload_case parts body moment None good e = cc
  commit_upload_case parts body moment (Some u) good e =
      let up : LawfulUpload s.count u = good u refl in
      let open_yet = neither (refuse_if (not (is_open u.stage)) UploadState) (commit_upload_refusal size s.rows parts u) e in
      let there = neither (refuse_if (not (list_all (is_listed u.parts) (enumerate_from 0 parts))) UploadPart)
      (first_refusal (refuse_if (nat_lt LARGEST_JOINED (sum_by (λ p. size p.body) (listed u.parts parts))) UploadTooLarge) (put_refusal s.rows u.path)) open_yet.1 in
      let fits_body = neither (refuse_if (nat_lt LARGEST_JOINED (sum_by (λ p. size p.body) (listed u.parts parts))) UploadTooLarge) (put_refusal s.rows u.path) there.1 in
      let free = fits_body.1 in
      let outside : is_jobs u.path.area ≡ false = (or_none _ _ up.place).0 in
      let x : Object B = upload_object (number_at s.count 0) u body moment in
      let base = rows_changed (with_row s.rows u.path (entry.Object x))
      (LawfulRows-with_row (s.count + 1) s.rows rows_later u.path (entry.Object x) up.path (IsTree-put s.rows u.path x law.rows.tree free) (λ o is. new_number x o refl is))
      (jobs-with_row s.rows u.path (entry.Object x) outside) in
      record {
        rows = base.rows;
        jobs = base.jobs;
        uploads = LawfulUploads-ended (s.count + 1) u.number Committed s.uploads base.uploads;
      }

  pub Lawful-commit_upload : (upload : ℕ) (parts : List ℕ) (body : B) (moment : ℕ) → allowed size s (CommitUpload upload parts body moment) ≡ None → Lawful (step s (CommitUpload upload parts body moment))
  unfolding allowed change step
  Lawful-commit_upload upload parts body moment e =
      commit_upload_case parts body moment (upload_at s.uploads upload) (λ u at. upload_found (LawfulUpload s.count) upload s.uploads u law.uploads.each at) e

  -- ---- a commit

  commit_case : (number phase place : ℕ) (f : Fate B) (moment : ℕ) → IsWellMadeFate f → s.count < MOST_COMMANDS → (o : Option (Job B)) → job_at s.jobs number ≡ o → job_refusal o (commit_refusal phase place) ≡ None
      → All (λ x. x.number ≡ number → commit_refusal phase place x ≡ None) s.jobs → Lawful (record (commit s o phase place f moment) { count = s.count + 1 })
  commit_case number phase place f moment made room None at e none = cc
  commit_case number phase place f moment made room (Some j) at e none =
      let same : j.number ≡ number = number_at_job number s.jobs j at in
      let at_own : job_at s.jobs j.number ≡ Some j = ap (job_at s.jobs) same ∙ at in
      let l : LawfulJob s.count j = job_in number s.jobs j at (LawfulJob s.count) law.jobs.each in
      let task = task_good s.count j l phase place e in
      let few : phase < 16 = (let under = task.few in let most = l.document.few in omega (arith, under, most)) in
      let start : Whole (s.count + 1) s.jobs s.rows = record { rows_are = rows_later; jobs_are = LawfulJobs-same s.count (s.count + 1) later s.rows s.rows s.jobs (λ names. refl) law.jobs } in
      let r : Resolved B = resolve_task s j phase place f moment in
      let end_good = resolve_good s.count room s.jobs j (job_in j.number s.jobs j at_own) (named s.count s.rows s.jobs law.rows law.jobs room j.number j at_own)
      phase few (task_root j phase place) task.root_is.component task.root_is.short moment s.rows start f made in
      let x : TraceEntry B = record { phase = phase; place = place; position = s.count; outcome = r.outcome } in
      record {
        rows = end_good.whole.rows_are;
        jobs = LawfulJobs-changed j.number (with_entry x) (KeepsJob-entry x) (s.count + 1) r.rows s.jobs end_good.whole.jobs_are
            (both (LawfulJob s.count) (λ y. y.number ≡ number → commit_refusal phase place y ≡ None) (λ y. y.number ≡ j.number → LawfulJob (s.count + 1) (with_entry x y))
            (λ y ly free is. LawfulJob-entry s.count y x (free (is ∙ same)) refl end_good.items (few_outputs (record { job = j.number; phase = phase; root = task_root j phase place; position = s.count; moment = moment }) s.rows f made) ly) s.jobs law.jobs.each none);
        uploads = LawfulUploads-later s.count (s.count + 1) later s.uploads law.uploads;
      }

  pub Lawful-commit : (number phase place : ℕ) (f : Fate B) (moment : ℕ) → IsWellMadeFate f → s.count < MOST_COMMANDS → allowed size s (Commit number phase place f moment) ≡ None → Lawful (step s (Commit number phase place f moment))
  unfolding allowed change step
  Lawful-commit number phase place f moment made room e =
      commit_case number phase place f moment made room (job_at s.jobs number) refl e (found number (commit_refusal phase place) s.jobs law.jobs.rising e)

-- ---- the first state

module _ (B : Type 0) where
  abbrev first : Rows B
  first = first_rows

  root_is_path : (area : Area) → IsPath (root_of area)
  root_is_path Stor = record { components = All-nil _; short = omega arith }
  root_is_path Public = record { components = All-nil _; short = omega arith }
  root_is_path Jobs = record { components = All-nil _; short = omega arith }

  path_case : (p : AccountPath) (area : Area) (b : Bool) (rest : Option (Entry B)) → is_path p (root_of area) ≡ b → (IsSome rest → IsPath p) → IsSome (cond b (Some (entry.Directory 0)) rest) → IsPath p
  path_case p area true rest t more some = subst IsPath (sym (is_path-exact p (root_of area) t)) (root_is_path area)
  path_case p area false rest t more some = more some

  first_paths : (p : AccountPath) → IsSome (at first p) → IsPath p
  first_paths p =
      path_case p Stor (is_path p (root_of Stor)) _ refl
      (path_case p Public (is_path p (root_of Public)) _ refl
      (path_case p Jobs (is_path p (root_of Jobs)) None refl (λ some. cc)))

  object_case : (o : Object B) (b : Bool) (rest : Option (Entry B)) → (object_in rest ≡ Some o → ⊥) → object_in (cond b (Some (entry.Directory 0)) rest) ≡ Some o → ⊥
  object_case o true rest none is = cc
  object_case o false rest none is = none is

  first_objects : (p : AccountPath) (o : Object B) → object_at first p ≡ Some o → ⊥
  first_objects p o =
      object_case o (is_path p (root_of Stor)) _
      (object_case o (is_path p (root_of Public)) _
      (object_case o (is_path p (root_of Jobs)) None (λ is. cc)))

  pub Lawful-first_state : Lawful {B = B} first_state
  Lawful-first_state = record {
    rows = record { tree = IsTree-first_rows B; paths = first_paths; numbers = λ p o is. absurd (first_objects p o is) };
    jobs = record {
      rising = sorted_nil;
      each = All-nil (LawfulJob 0);
      folders = All-nil (HasFolders first);
      entries = λ id names e is. cc;
    };
    uploads = record { rising = sorted_nil; each = All-nil (LawfulUpload 0) };
  }
