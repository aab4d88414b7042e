-- Commands over other bodies: the same refusals, and the same steps.
use Rattle.std.proofs.Common.{◌≡◌, ℕ, ◌+◌, ◌==◌, Bool, false, not, cond, ◌&&◌, nat_lt, List, [], ◌∷◌, ◌++◌, length, map, Option, Some, None, refl, sym, ap, ◌∙◌}
use Rattle.std.specs.List.{enumerate_from, filter_map, list_all, list_any, slice_get, sum_by}
use Rattle.std.specs.Option.{option_map, option_map_or, unwrap_or}
use Rattle.std.specs.Ordering.{match_ordering, nat_cmp}
use Rattle.std.specs.declared.cmp.Ordering.{Ordering}
use Rattle.std.specs.declared.cmp.Ordering.TheVariants.{Less, Equal, Greater}
use Rattle.mt_path.specs.AccountPath.{AccountPath}
use Rattle.mt_types.specs.Values.{archive_with, command_with, fate_with, item_with, job_with, object_with, part_with, trace_entry_with, upload_with}
use Rattle.mt_types.specs.declared.command.Archive.{Archive}
use Rattle.mt_types.specs.declared.command.Command.{Command}
use Rattle.mt_types.specs.declared.command.Command.TheVariants.{Put, MakeDirectory, Link, Delete, NewJob, AddInputs, EndInput, Commit, Finish, Cancel, Close, NewUpload, PutPart, CommitUpload, AbortUpload}
use Rattle.mt_types.specs.declared.document.InputLine.{InputLine}
use Rattle.mt_types.specs.declared.document.InputLine.TheVariants.{Named, Other}
use Rattle.mt_types.specs.declared.document.JobDocument.{JobDocument}
use Rattle.mt_types.specs.declared.document.Phase.{Phase}
use Rattle.mt_types.specs.declared.job.Job.{Job}
use Rattle.mt_types.specs.declared.object.Entry.TheVariants as entry
use Rattle.mt_types.specs.declared.object.Object.{Object}
use Rattle.mt_types.specs.declared.refusal.Refusal.{Refusal}
use Rattle.mt_types.specs.declared.refusal.Refusal.TheVariants as refusal
use Rattle.mt_types.specs.declared.task.Fate.{Fate}
use Rattle.mt_types.specs.declared.upload.PartRow.{PartRow}
use Rattle.mt_types.specs.declared.upload.Stage.TheVariants.{Committed}
use Rattle.mt_types.specs.declared.upload.Upload.{Upload}
use Rattle.mt_model.specs.Bodies.{resolved_with, rows_with, state_with}
use Rattle.mt_model.specs.CommandStep.{allowed, change, linked, outside_jobs, put_object, replay, step}
use Rattle.mt_model.specs.Feed.{feed}
use Rattle.mt_model.specs.JobSteps.{add_inputs_refusal, add_job, archive_bodies, archive_names, archive_object, bodies_of, close, close_refusal, commit, commit_refusal, committed, done_at, finish_refusal, has_large_assets, input_refusal, job_refusal, lacks_asset, new_job, new_job_refusal, resolve_task, running_refusal, task_root, with_archive_from, with_folders, with_line, with_lines, with_named}
use Rattle.mt_model.specs.Limits.{most_asset_bytes, most_inputs}
use Rattle.mt_types.specs.declared.limits.TheConstants.{LARGEST_JOINED}
use Rattle.mt_model.specs.Names.{in_job_folder, job_folder, job_stor, number_at}
use Rattle.mt_model.specs.Resolve.{Resolved, is_object_at, resolve}
use Rattle.mt_model.specs.Rows.{Rows, first_refusal, object_at, put_refusal, refuse_if, with_row}
use Rattle.mt_model.specs.State.{State, job_at, upload_at, with_job, with_upload}
use Rattle.mt_model.specs.Tasks.{is_committed, may_run, root_at}
use Rattle.mt_model.specs.UploadSteps.{add_upload, commit_upload, commit_upload_refusal, ended_as, is_listed, is_open, listed, part_at, put_part, upload_object, upload_refusal, with_part}
use Rattle.mt_model.proofs.Maps.{cond_ap, find-map, fold-with, length-map, map-append, map-filter_map, map-map, same_function, sum_by-map}
use Rattle.mt_model.proofs.ResolveWith.{is_object_at-with, resolve-with}
use Rattle.mt_model.proofs.RowsWith.{link_refusal-with, make_directory_refusal-with, object_at-with, put_refusal-with, remove_refusal-with, with_row-with, without_row-with}
use Rattle.mt_model.proofs.TasksWith.{feed-with, is_committed-with, may_run-with, root_at-with, waits_finish-with}

module _ {A B : Type 0} (f : A → B) where
  -- ---- jobs and uploads by their numbers

  job_at-with : (jobs : List (Job A)) (number : ℕ) → job_at (map (job_with f) jobs) number ≡ option_map (job_with f) (job_at jobs number)
  job_at-with jobs number = find-map (job_with f) (λ j. j.number == number) jobs

  upload_at-with : (uploads : List (Upload A)) (number : ℕ) → upload_at (map (upload_with f) uploads) number ≡ option_map (upload_with f) (upload_at uploads number)
  upload_at-with uploads number = find-map (upload_with f) (λ u. u.number == number) uploads

  with_job-with : (number : ℕ) (c : Job A → Job A) (d : Job B → Job B) → ((j : Job A) → d (job_with f j) ≡ job_with f (c j)) → (jobs : List (Job A)) → with_job (map (job_with f) jobs) number d ≡ map (job_with f) (with_job jobs number c)
  with_job-with number c d each jobs =
      map-map (λ j. cond (j.number == number) (d j) j) (job_with f) jobs
      ∙ ap (λ h. map h jobs) (same_function _ _ (λ j.
      ap (λ x. cond (j.number == number) x (job_with f j)) (each j) ∙ sym (cond_ap (job_with f) (j.number == number) (c j) j)))
      ∙ sym (map-map (job_with f) (λ j. cond (j.number == number) (c j) j) jobs)

  with_upload-with : (number : ℕ) (c : Upload A → Upload A) (d : Upload B → Upload B) → ((u : Upload A) → d (upload_with f u) ≡ upload_with f (c u)) → (uploads : List (Upload A)) → with_upload (map (upload_with f) uploads) number d ≡ map (upload_with f) (with_upload uploads number c)
  with_upload-with number c d each uploads =
      map-map (λ u. cond (u.number == number) (d u) u) (upload_with f) uploads
      ∙ ap (λ h. map h uploads) (same_function _ _ (λ u.
      ap (λ x. cond (u.number == number) x (upload_with f u)) (each u) ∙ sym (cond_ap (upload_with f) (u.number == number) (c u) u)))
      ∙ sym (map-map (upload_with f) (λ u. cond (u.number == number) (c u) u) uploads)

  job_cases : (r : Job A → Option Refusal) (r' : Job B → Option Refusal) → ((j : Job A) → r' (job_with f j) ≡ r j) → (o : Option (Job A)) → job_refusal (option_map (job_with f) o) r' ≡ job_refusal o r
  job_cases r r' each None = refl
  job_cases r r' each (Some j) = each j

  job_refusal-with : (jobs : List (Job A)) (number : ℕ) (r : Job A → Option Refusal) (r' : Job B → Option Refusal) → ((j : Job A) → r' (job_with f j) ≡ r j) → job_refusal (job_at (map (job_with f) jobs) number) r' ≡ job_refusal (job_at jobs number) r
  job_refusal-with jobs number r r' each = ap (λ o. job_refusal o r') (job_at-with jobs number) ∙ job_cases r r' each (job_at jobs number)

  upload_cases : (r : Upload A → Option Refusal) (r' : Upload B → Option Refusal) → ((u : Upload A) → r' (upload_with f u) ≡ r u) → (o : Option (Upload A)) → upload_refusal (option_map (upload_with f) o) r' ≡ upload_refusal o r
  upload_cases r r' each None = refl
  upload_cases r r' each (Some u) = ap (first_refusal (refuse_if (not (is_open u.stage)) refusal.UploadState)) (each u)

  upload_refusal-with : (uploads : List (Upload A)) (number : ℕ) (r : Upload A → Option Refusal) (r' : Upload B → Option Refusal) → ((u : Upload A) → r' (upload_with f u) ≡ r u) → upload_refusal (upload_at (map (upload_with f) uploads) number) r' ≡ upload_refusal (upload_at uploads number) r
  upload_refusal-with uploads number r r' each = ap (λ o. upload_refusal o r') (upload_at-with uploads number) ∙ upload_cases r r' each (upload_at uploads number)

  -- ---- new jobs

  body_cases : (o : Option (Object A)) → option_map (λ x. x.body) (option_map (object_with f) o) ≡ option_map f (option_map (λ x. x.body) o)
  body_cases None = refl
  body_cases (Some o) = refl

  bodies-with : (rows : Rows A) (p : Phase) → bodies_of (rows_with f rows) p ≡ map f (bodies_of rows p)
  bodies-with rows p =
      ap (λ h. filter_map h p.assets) (same_function (λ name. option_map (λ o. o.body) (object_at (rows_with f rows) name)) (λ name. option_map f (option_map (λ o. o.body) (object_at rows name)))
      (λ name. ap (option_map (λ o. o.body)) (object_at-with f rows name) ∙ body_cases (object_at rows name)))
      ∙ map-filter_map f (λ name. option_map (λ o. o.body) (object_at rows name)) p.assets

  lacks-with : (rows : Rows A) (p : Phase) → lacks_asset (rows_with f rows) p ≡ lacks_asset rows p
  lacks-with rows p =
      ap (λ t. list_any (λ name. not (t name)) p.assets) (same_function (is_object_at (rows_with f rows)) (is_object_at rows) (is_object_at-with f rows))

  large-with : (size : B → ℕ) (rows : Rows A) (p : Phase) → has_large_assets size (rows_with f rows) p ≡ has_large_assets (λ a. size (f a)) rows p
  large-with size rows p =
      ap (λ bs. nat_lt most_asset_bytes (sum_by size bs)) (bodies-with rows p)
      ∙ ap (nat_lt most_asset_bytes) (sum_by-map f size (bodies_of rows p))

  new_job_refusal-with : (size : B → ℕ) (rows : Rows A) (d : JobDocument) → new_job_refusal size (rows_with f rows) d ≡ new_job_refusal (λ a. size (f a)) rows d
  new_job_refusal-with size rows d =
      ap (λ t. first_refusal (refuse_if (list_any t d.phases) refusal.NotFound) (refuse_if (list_any (has_large_assets size (rows_with f rows)) d.phases) refusal.AssetsTooLarge)) (same_function (lacks_asset (rows_with f rows)) (lacks_asset rows) (lacks-with rows))
      ∙ ap (λ t. first_refusal (refuse_if (list_any (lacks_asset rows) d.phases) refusal.NotFound) (refuse_if (list_any t d.phases) refusal.AssetsTooLarge)) (same_function (has_large_assets size (rows_with f rows)) (has_large_assets (λ a. size (f a)) rows) (large-with size rows))

  new_job-with : (rows : Rows A) (number : ℕ) (d : JobDocument) (moment : ℕ) → new_job (rows_with f rows) number d moment ≡ job_with f (new_job rows number d moment)
  new_job-with rows number d moment =
      ap (λ bodies. record { number = number; document = d; assets = bodies; inputs = []; missing = []; ended = false; cancelled = false; created = moment; done = None; trace = [] })
      (ap (λ h. map h d.phases) (same_function (bodies_of (rows_with f rows)) (λ p. map f (bodies_of rows p)) (bodies-with rows)) ∙ sym (map-map (map f) (bodies_of rows) d.phases))

  folders-with : (rows : Rows A) (number moment : ℕ) → with_folders (rows_with f rows) number moment ≡ rows_with f (with_folders rows number moment)
  folders-with rows number moment =
      ap (λ rs. with_row rs (job_stor number) (entry.Directory moment)) (with_row-with f rows (job_folder number) (entry.Directory moment))
      ∙ with_row-with f (with_row rows (job_folder number) (entry.Directory moment)) (job_stor number) (entry.Directory moment)

  add_job-with : (s : State A) (d : JobDocument) (moment : ℕ) → add_job (state_with f s) d moment ≡ state_with f (add_job s d moment)
  add_job-with s d moment =
      let number : ℕ = number_at s.count 0 in
      ap (λ rows. record (state_with f s) { rows = rows; jobs = map (job_with f) s.jobs ++ new_job (rows_with f s.rows) number d moment ∷ [] }) (folders-with s.rows number moment)
      ∙ ap (λ j. record (state_with f s) { rows = rows_with f (with_folders s.rows number moment); jobs = map (job_with f) s.jobs ++ j ∷ [] }) (new_job-with s.rows number d moment)
      ∙ ap (λ js. record (state_with f s) { rows = rows_with f (with_folders s.rows number moment); jobs = js }) (sym (map-append (job_with f) s.jobs (new_job s.rows number d moment ∷ [])))

  -- ---- inputs

  named-with : (p : AccountPath) (j : Job A) (o : Option (Object A)) → with_named p (job_with f j) (option_map (object_with f) o) ≡ job_with f (with_named p j o)
  named-with p j None = refl
  named-with p j (Some o) = ap (λ is. record (job_with f j) { inputs = is }) (sym (map-append (item_with f) j.inputs _))

  line-with : (rows : Rows A) (j : Job A) (line : InputLine) → with_line (rows_with f rows) (job_with f j) line ≡ job_with f (with_line rows j line)
  line-with rows j (Named p) = ap (with_named p (job_with f j)) (object_at-with f rows p) ∙ named-with p j (object_at rows p)
  line-with rows j (Other text) = refl

  lines-with : (rows : Rows A) (lines : List InputLine) (j : Job A) → with_lines (rows_with f rows) lines (job_with f j) ≡ job_with f (with_lines rows lines j)
  lines-with rows lines j = fold-with (job_with f) (with_line rows) (with_line (rows_with f rows)) (line-with rows) j lines

  inputs_refusal-with : (lines : List InputLine) (j : Job A) → add_inputs_refusal lines (job_with f j) ≡ add_inputs_refusal lines j
  inputs_refusal-with lines j =
      ap (λ n. first_refusal (input_refusal j) (refuse_if (nat_lt most_inputs (n + length j.missing + length lines)) refusal.TooManyInputs)) (length-map (item_with f) j.inputs)

  -- ---- commits and ends

  commit_refusal-with : (phase place : ℕ) (j : Job A) → commit_refusal phase place (job_with f j) ≡ commit_refusal phase place j
  commit_refusal-with phase place j =
      ap (λ b. first_refusal (running_refusal j) (first_refusal (refuse_if (not b) refusal.NotATask) (refuse_if (is_committed (map (trace_entry_with f) j.trace) phase place) refusal.AlreadyCommitted))) (may_run-with f j phase place)
      ∙ ap (λ b. first_refusal (running_refusal j) (first_refusal (refuse_if (not (may_run j phase place)) refusal.NotATask) (refuse_if b refusal.AlreadyCommitted))) (is_committed-with f j.trace phase place)

  finish_refusal-with : (j : Job A) → finish_refusal (job_with f j) ≡ finish_refusal j
  finish_refusal-with j = ap (λ b. first_refusal (running_refusal j) (refuse_if (not b) refusal.NotComplete)) (waits_finish-with f j)

  close_refusal-with : (cancelled : Bool) (j : Job A) → close_refusal cancelled (job_with f j) ≡ close_refusal cancelled j
  close_refusal-with cancelled j = ap (λ b. first_refusal (running_refusal j) (refuse_if (not cancelled && not b) refusal.NotComplete)) (waits_finish-with f j)

  root-with : (j : Job A) (phase place : ℕ) → task_root (job_with f j) phase place ≡ task_root j phase place
  root-with j phase place =
      ap (λ h. unwrap_or (option_map h (slice_get j.document.phases phase)) []) (same_function (λ p. root_at p.kind (feed (job_with f j) phase) place) (λ p. root_at p.kind (feed j phase) place)
      (λ p. ap (λ is. root_at p.kind is place) (feed-with f j phase) ∙ root_at-with f p.kind (feed j phase) place))

  resolve_task-with : (s : State A) (j : Job A) (phase place : ℕ) (x : Fate A) (moment : ℕ) → resolve_task (state_with f s) (job_with f j) phase place (fate_with f x) moment ≡ resolved_with f (resolve_task s j phase place x moment)
  resolve_task-with s j phase place x moment =
      ap (λ r. resolve (record { job = j.number; phase = phase; root = r; position = s.count; moment = moment }) (rows_with f s.rows) (fate_with f x)) (root-with j phase place)
      ∙ resolve-with f (record { job = j.number; phase = phase; root = task_root j phase place; position = s.count; moment = moment }) s.rows x

  committed-with : (s : State A) (job phase place : ℕ) (r : Resolved A) → committed (state_with f s) job phase place (resolved_with f r) ≡ state_with f (committed s job phase place r)
  committed-with s job phase place r =
      ap (λ js. record (state_with f s) { rows = rows_with f r.rows; jobs = js })
      (with_job-with job _ _ (λ j. ap (λ es. record (job_with f j) { trace = es }) (sym (map-append (trace_entry_with f) j.trace _))) s.jobs)

  commit_cases : (s : State A) (o : Option (Job A)) (phase place : ℕ) (x : Fate A) (moment : ℕ) → commit (state_with f s) (option_map (job_with f) o) phase place (fate_with f x) moment ≡ state_with f (commit s o phase place x moment)
  commit_cases s None phase place x moment = refl
  commit_cases s (Some j) phase place x moment =
      ap (committed (state_with f s) j.number phase place) (resolve_task-with s j phase place x moment)
      ∙ committed-with s j.number phase place (resolve_task s j phase place x moment)

  archive_from-with : (index : ℕ) (rows : Rows A) (job position moment : ℕ) (names : List (List ℕ × List ℕ)) (bodies : List A) → with_archive_from index (rows_with f rows) job position moment names (map f bodies) ≡ rows_with f (with_archive_from index rows job position moment names bodies)
  archive_from-with index rows job position moment [] bodies = refl
  archive_from-with index rows job position moment (n ∷ ns) [] = refl
  archive_from-with index rows job position moment (n ∷ ns) (b ∷ bs) =
      ap (λ rs. with_archive_from (index + 1) rs job position moment ns (map f bs)) (with_row-with f rows (in_job_folder job n.0) (entry.Object (archive_object (number_at position index) n.1 b moment)))
      ∙ archive_from-with (index + 1) (with_row rows (in_job_folder job n.0) (entry.Object (archive_object (number_at position index) n.1 b moment))) job position moment ns bs

  close-with : (s : State A) (job : ℕ) (cancelled : Bool) (a : Archive A) (moment : ℕ) → close (state_with f s) job cancelled (archive_with f a) moment ≡ state_with f (close s job cancelled a moment)
  close-with s job cancelled a moment =
      ap (λ rows. record (state_with f s) { rows = rows; jobs = with_job (map (job_with f) s.jobs) job (done_at moment cancelled) }) (archive_from-with 0 s.rows job s.count moment archive_names (archive_bodies a))
      ∙ ap (λ js. record (state_with f s) { rows = rows_with f (with_archive_from 0 s.rows job s.count moment archive_names (archive_bodies a)); jobs = js }) (with_job-with job _ _ (λ j. refl) s.jobs)

  -- ---- uploads

  match_part : (r : Ordering) (a b c : List (PartRow A)) → map (part_with f) (match_ordering r a b c) ≡ match_ordering r (map (part_with f) a) (map (part_with f) b) (map (part_with f) c)
  match_part Less a b c = refl
  match_part Equal a b c = refl
  match_part Greater a b c = refl

  part-with : (part : PartRow A) (ps : List (PartRow A)) → with_part (part_with f part) (map (part_with f) ps) ≡ map (part_with f) (with_part part ps)
  part-with part [] = refl
  part-with part (p ∷ ps) =
      ap (λ l. match_ordering (nat_cmp part.index p.index) (part_with f part ∷ map (part_with f) (p ∷ ps)) (part_with f part ∷ map (part_with f) ps) (part_with f p ∷ l)) (part-with part ps)
      ∙ sym (match_part (nat_cmp part.index p.index) (part ∷ p ∷ ps) (part ∷ ps) (p ∷ with_part part ps))

  part_at-with : (ps : List (PartRow A)) (index : ℕ) → part_at (map (part_with f) ps) index ≡ option_map (part_with f) (part_at ps index)
  part_at-with ps index = find-map (part_with f) (λ p. p.index == index) ps

  listed_cases : (n : ℕ) (o : Option (PartRow A)) → option_map_or (λ p. p.number == n) (option_map (part_with f) o) false ≡ option_map_or (λ p. p.number == n) o false
  listed_cases n None = refl
  listed_cases n (Some p) = refl

  is_listed-with : (ps : List (PartRow A)) (l : ℕ × ℕ) → is_listed (map (part_with f) ps) l ≡ is_listed ps l
  is_listed-with ps l = ap (λ o. option_map_or (λ p. p.number == l.1) o false) (part_at-with ps l.0) ∙ listed_cases l.1 (part_at ps l.0)

  listed-with : (ps : List (PartRow A)) (numbers : List ℕ) → listed (map (part_with f) ps) numbers ≡ map (part_with f) (listed ps numbers)
  listed-with ps numbers =
      ap (λ h. filter_map h (enumerate_from 0 numbers)) (same_function (λ l. part_at (map (part_with f) ps) l.0) (λ l. option_map (part_with f) (part_at ps l.0)) (λ l. part_at-with ps l.0))
      ∙ map-filter_map (part_with f) (λ l. part_at ps l.0) (enumerate_from 0 numbers)

  commit_upload_refusal-with : (size : B → ℕ) (rows : Rows A) (numbers : List ℕ) (u : Upload A) → commit_upload_refusal size (rows_with f rows) numbers (upload_with f u) ≡ commit_upload_refusal (λ a. size (f a)) rows numbers u
  commit_upload_refusal-with size rows numbers u =
      ap (λ t. first_refusal (refuse_if (not (list_all t (enumerate_from 0 numbers))) refusal.UploadPart) (first_refusal (refuse_if (nat_lt LARGEST_JOINED (sum_by (λ p. size p.body) (listed (map (part_with f) u.parts) numbers))) refusal.UploadTooLarge) (put_refusal (rows_with f rows) u.path))) (same_function (is_listed (map (part_with f) u.parts)) (is_listed u.parts) (is_listed-with u.parts))
      ∙ ap (λ n. first_refusal (refuse_if (not (list_all (is_listed u.parts) (enumerate_from 0 numbers))) refusal.UploadPart) (first_refusal (refuse_if (nat_lt LARGEST_JOINED n) refusal.UploadTooLarge) (put_refusal (rows_with f rows) u.path)))
      (ap (sum_by (λ p. size p.body)) (listed-with u.parts numbers) ∙ sum_by-map (part_with f) (λ p. size p.body) (listed u.parts numbers))
      ∙ ap (λ r. first_refusal (refuse_if (not (list_all (is_listed u.parts) (enumerate_from 0 numbers))) refusal.UploadPart) (first_refusal (refuse_if (nat_lt LARGEST_JOINED (sum_by (λ p. size (f p.body)) (listed u.parts numbers))) refusal.UploadTooLarge) r)) (put_refusal-with f rows u.path)

  add_upload-with : (s : State A) (p : AccountPath) (t : List ℕ) (moment : ℕ) → add_upload (state_with f s) p t moment ≡ state_with f (add_upload s p t moment)
  add_upload-with s p t moment = ap (λ us. record (state_with f s) { uploads = us }) (sym (map-append (upload_with f) s.uploads _))

  put_part-with : (s : State A) (upload index : ℕ) (body : A) → put_part (state_with f s) upload index (f body) ≡ state_with f (put_part s upload index body)
  put_part-with s upload index body =
      ap (λ us. record (state_with f s) { uploads = us })
      (with_upload-with upload _ _ (λ u. ap (λ ps. record (upload_with f u) { parts = ps }) (part-with (record { index = index; number = number_at s.count 0; body = body }) u.parts)) s.uploads)

  commit_upload-with : (s : State A) (o : Option (Upload A)) (body : A) (moment : ℕ) → commit_upload (state_with f s) (option_map (upload_with f) o) (f body) moment ≡ state_with f (commit_upload s o body moment)
  commit_upload-with s None body moment = refl
  commit_upload-with s (Some u) body moment =
      ap (λ rows. record (state_with f s) { rows = rows; uploads = with_upload (map (upload_with f) s.uploads) u.number (ended_as Committed) }) (with_row-with f s.rows u.path (entry.Object (upload_object (number_at s.count 0) u body moment)))
      ∙ ap (λ us. record (state_with f s) { rows = rows_with f (with_row s.rows u.path (entry.Object (upload_object (number_at s.count 0) u body moment))); uploads = us }) (with_upload-with u.number _ _ (λ v. refl) s.uploads)

  -- ---- commands

  linked-with : (rows : Rows A) (p : AccountPath) (o : Option (Object A)) (moment : ℕ) → linked (rows_with f rows) p (option_map (object_with f) o) moment ≡ rows_with f (linked rows p o moment)
  linked-with rows p None moment = refl
  linked-with rows p (Some o) moment = with_row-with f rows p (entry.Object (record o { mtime = moment }))

  -- a command is refused for the same cause, where sizes are kept
  pub allowed-with : (size : B → ℕ) (s : State A) (c : Command A) → allowed size (state_with f s) (command_with f c) ≡ allowed (λ a. size (f a)) s c
  unfolding allowed
  allowed-with size s (Put path content_type body durability metadata moment) = ap (outside_jobs path) (put_refusal-with f s.rows path)
  allowed-with size s (MakeDirectory path moment) = ap (outside_jobs path) (make_directory_refusal-with f s.rows path)
  allowed-with size s (Link path source moment) = ap (outside_jobs path) (link_refusal-with f s.rows path source)
  allowed-with size s (Delete path moment) = ap (outside_jobs path) (remove_refusal-with f s.rows path)
  allowed-with size s (NewJob document moment) = new_job_refusal-with size s.rows document
  allowed-with size s (AddInputs job lines moment) = job_refusal-with s.jobs job _ _ (inputs_refusal-with lines)
  allowed-with size s (EndInput job moment) = job_refusal-with s.jobs job _ _ (λ j. refl)
  allowed-with size s (Commit job phase place fate moment) = job_refusal-with s.jobs job _ _ (commit_refusal-with phase place)
  allowed-with size s (Finish job moment) = job_refusal-with s.jobs job _ _ finish_refusal-with
  allowed-with size s (Cancel job moment) = job_refusal-with s.jobs job _ _ (λ j. refl)
  allowed-with size s (Close job cancelled archive moment) = job_refusal-with s.jobs job _ _ (close_refusal-with cancelled)
  allowed-with size s (NewUpload path content_type moment) = refl
  allowed-with size s (PutPart upload index body moment) = upload_refusal-with s.uploads upload _ _ (λ u. refl)
  allowed-with size s (CommitUpload upload parts body moment) = upload_refusal-with s.uploads upload _ _ (commit_upload_refusal-with size s.rows parts)
  allowed-with size s (AbortUpload upload moment) = upload_refusal-with s.uploads upload _ _ (λ u. refl)

  change-with : (s : State A) (c : Command A) → change (state_with f s) (command_with f c) ≡ state_with f (change s c)
  unfolding change
  change-with s (Put path content_type body durability metadata moment) =
      ap (λ rows. record (state_with f s) { rows = rows }) (with_row-with f s.rows path (entry.Object (put_object (number_at s.count 0) body content_type durability metadata moment)))
  change-with s (MakeDirectory path moment) = ap (λ rows. record (state_with f s) { rows = rows }) (with_row-with f s.rows path (entry.Directory moment))
  change-with s (Link path source moment) =
      ap (λ o. record (state_with f s) { rows = linked (rows_with f s.rows) path o moment }) (object_at-with f s.rows source)
      ∙ ap (λ rows. record (state_with f s) { rows = rows }) (linked-with s.rows path (object_at s.rows source) moment)
  change-with s (Delete path moment) = ap (λ rows. record (state_with f s) { rows = rows }) (without_row-with f s.rows path)
  change-with s (NewJob document moment) = add_job-with s document moment
  change-with s (AddInputs job lines moment) = ap (λ js. record (state_with f s) { jobs = js }) (with_job-with job _ _ (lines-with s.rows lines) s.jobs)
  change-with s (EndInput job moment) = ap (λ js. record (state_with f s) { jobs = js }) (with_job-with job _ _ (λ j. refl) s.jobs)
  change-with s (Commit job phase place fate moment) =
      ap (λ o. commit (state_with f s) o phase place (fate_with f fate) moment) (job_at-with s.jobs job)
      ∙ commit_cases s (job_at s.jobs job) phase place fate moment
  change-with s (Finish job moment) = ap (λ js. record (state_with f s) { jobs = js }) (with_job-with job _ _ (λ j. refl) s.jobs)
  change-with s (Cancel job moment) = ap (λ js. record (state_with f s) { jobs = js }) (with_job-with job _ _ (λ j. refl) s.jobs)
  change-with s (Close job cancelled archive moment) = close-with s job cancelled archive moment
  change-with s (NewUpload path content_type moment) = add_upload-with s path content_type moment
  change-with s (PutPart upload index body moment) = put_part-with s upload index body
  change-with s (CommitUpload upload parts body moment) =
      ap (λ o. commit_upload (state_with f s) o (f body) moment) (upload_at-with s.uploads upload)
      ∙ commit_upload-with s (upload_at s.uploads upload) body moment
  change-with s (AbortUpload upload moment) = ap (λ us. record (state_with f s) { uploads = us }) (with_upload-with upload _ _ (λ u. refl) s.uploads)

  -- a step does the same
  pub step-with : (s : State A) (c : Command A) → step (state_with f s) (command_with f c) ≡ state_with f (step s c)
  unfolding step
  step-with s c =
      let counted : State B → State B = λ t. record t { count = s.count + 1 } in
      ap counted (change-with s c)

  -- and so does a history
  pub replay-with : (s : State A) (cs : List (Command A)) → replay (state_with f s) (map (command_with f) cs) ≡ state_with f (replay s cs)
  unfolding replay
  replay-with s [] = refl
  replay-with s (c ∷ cs) = ap (λ t. replay t (map (command_with f) cs)) (step-with s c) ∙ replay-with (step s c) cs
