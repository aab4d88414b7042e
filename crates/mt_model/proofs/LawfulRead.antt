-- A state is lawful where it is so over other bodies: what is lawful looks at no body.
use Rattle.std.proofs.Common.{◌≡◌, ℕ, ◌+◌, ◌<◌, ◌≤◌, Bool, true, false, not, ◌&&◌, ◌||◌, List, [], ◌∷◌, length, map, Option, Some, None, refl, sym, ap, subst, ◌∙◌}
use Rattle.std.specs.Prelude.{◌↔◌, All, is_some, bytes_eq, codes, take}
use Rattle.std.specs.List.{list_all, slice_get}
use Rattle.std.specs.List.Sorted.{IsStrictlySortedBy}
use Rattle.std.specs.Map.{keys_of}
use Rattle.std.specs.Option.{option_map}
use Rattle.std.specs.Ordering.{nat_cmp}
use Rattle.std.proofs.lemmas.List.Elements.{All-nil, All-cons, All-head, All-tail}
use Rattle.std.proofs.lemmas.Option.{none-some, same_Some}
use Rattle.mt_path.specs.AccountPath.{AccountPath, root_of}
use Rattle.mt_path.specs.PathOrder.{path_cmp}
use Rattle.mt_path.specs.declared.area.Area.TheVariants.{Jobs}
use Rattle.mt_types.specs.Values.{entry_with, item_with, job_with, object_with, part_with, trace_entry_with, upload_with}
use Rattle.mt_types.specs.declared.job.Item.{Item}
use Rattle.mt_types.specs.declared.job.Job.{Job}
use Rattle.mt_types.specs.declared.job.TraceEntry.{TraceEntry}
use Rattle.mt_types.specs.declared.object.Entry.{Entry}
use Rattle.mt_types.specs.declared.object.Entry.TheVariants as entry
use Rattle.mt_types.specs.declared.object.Object.{Object}
use Rattle.mt_types.specs.declared.upload.PartRow.{PartRow}
use Rattle.mt_types.specs.declared.upload.Upload.{Upload}
use Rattle.mt_model.specs.Types.{MOST_RECORDS}
use Rattle.mt_model.specs.Bodies.{rows_with, state_with}
use Rattle.mt_model.specs.Feed.{items_of}
use Rattle.mt_model.specs.JobSteps.{archive_names}
use Rattle.mt_model.specs.Lawful.{HasFolders, IsBelow, Lawful, LawfulItem, LawfulJob, LawfulJobs, LawfulPart, LawfulRows, LawfulUpload, fits_below, fits_in_folder, is_output, job_named}
use Rattle.mt_model.specs.Limits.{most_inputs}
use Rattle.mt_model.specs.Names.{ends_in_output, in_job_folder, job_folder, job_name, job_stor}
use Rattle.mt_model.specs.Resolve.{is_object_at}
use Rattle.mt_model.specs.Rows.{Rows, at, object_at}
use Rattle.mt_model.specs.Sound.{Sound, before}
use Rattle.mt_model.specs.State.{State}
use Rattle.mt_model.specs.Tasks.{is_committed, is_task}
use Rattle.mt_model.proofs.Maps.{find-map, length-map, map-map, same_function, slice_get-map, take-map}
use Rattle.mt_model.proofs.RowsWith.{at-with, is_directory-with, is_some-map, is_there-with, object_at-with}
use Rattle.mt_model.proofs.TasksWith.{all_complete-with, is_committed-with, is_task-with, outcome_items}

-- ---- each element of a list

module _ {X Y : Type 0} (P : X → Type 0) (Q : Y → Type 0) (g : X → Y) where
  each_on : ((x : X) → P x → Q (g x)) → (xs : List X) → All P xs → All Q (map g xs)
  each_on more [] all = All-nil Q
  each_on more (x ∷ xs) all = All-cons Q (g x) (map g xs) (more x (All-head P x xs all)) (each_on more xs (All-tail P x xs all))

  each_back : ((x : X) → Q (g x) → P x) → (xs : List X) → All Q (map g xs) → All P xs
  each_back more [] all = All-nil P
  each_back more (x ∷ xs) all = All-cons P x xs (more x (All-head Q (g x) (map g xs) all)) (each_back more xs (All-tail Q (g x) (map g xs) all))

module _ {A B : Type 0} (f : A → B) where
  -- ---- rows

  same_keys : (rows : Rows A) → keys_of (rows_with f rows) ≡ keys_of rows
  same_keys [] = refl
  same_keys (r ∷ rs) = ap (λ ks. r.0 ∷ ks) (same_keys rs)

  object_back : (n : ℕ) (o : Option (Object A)) (x : Object B) → option_map (object_with f) o ≡ Some x → ((y : Object A) → o ≡ Some y → IsBelow n y.number) → IsBelow n x.number
  object_back n None x is below = absurd (none-some x is)
  object_back n (Some y) x is below = subst (λ (z : Object B). IsBelow n z.number) (same_Some (object_with f y) x is) (below y refl)

  rows_on : (n : ℕ) (rows : Rows A) → LawfulRows n rows → LawfulRows n (rows_with f rows)
  rows_on n rows law = record {
    tree = record {
      ordered = subst (IsStrictlySortedBy path_cmp) (sym (same_keys rows)) law.tree.ordered;
      roots = λ area. is_directory-with f rows (root_of area) ∙ law.tree.roots area;
      parents = λ p d some is. is_directory-with f rows d ∙ law.tree.parents p d (sym (is_there-with f rows p) ∙ some) is;
    };
    paths = λ p some. law.paths p (sym (is_there-with f rows p) ∙ some);
    numbers = λ p x is. object_back n (object_at rows p) x (sym (object_at-with f rows p) ∙ is) (λ y there. law.numbers p y there);
  }

  rows_back : (n : ℕ) (rows : Rows A) → LawfulRows n (rows_with f rows) → LawfulRows n rows
  rows_back n rows law = record {
    tree = record {
      ordered = subst (IsStrictlySortedBy path_cmp) (same_keys rows) law.tree.ordered;
      roots = λ area. sym (is_directory-with f rows (root_of area)) ∙ law.tree.roots area;
      parents = λ p d some is. sym (is_directory-with f rows d) ∙ law.tree.parents p d (is_there-with f rows p ∙ some) is;
    };
    paths = λ p some. law.paths p (is_there-with f rows p ∙ some);
    numbers = λ p y is. law.numbers p (object_with f y) (object_at-with f rows p ∙ ap (option_map (object_with f)) is);
  }

  -- ---- traces

  abbrev entry_on : TraceEntry A → TraceEntry B
  entry_on = trace_entry_with f

  before_same : (j : Job A) (k : ℕ) → before (job_with f j) k ≡ job_with f (before j k)
  before_same j k = ap (λ t. record (job_with f j) { trace = t }) (take-map entry_on k j.trace)

  task_same : (j : Job A) (k phase place : ℕ) → is_task (before (job_with f j) k) phase place ≡ is_task (before j k) phase place
  task_same j k phase place = ap (λ x. is_task x phase place) (before_same j k) ∙ is_task-with f (before j k) phase place

  committed_same : (j : Job A) (k phase place : ℕ) → is_committed (take k (map entry_on j.trace)) phase place ≡ is_committed (take k j.trace) phase place
  committed_same j k phase place = ap (λ t. is_committed t phase place) (take-map entry_on k j.trace) ∙ is_committed-with f (take k j.trace) phase place

  positions_same : (es : List (TraceEntry A)) → map (λ e. e.position) (map entry_on es) ≡ map (λ e. e.position) es
  positions_same es = map-map (λ e. e.position) entry_on es

  -- what holds of each entry by its place
  entry_back : (P : ℕ → ℕ → Type 0) (o : Option (TraceEntry A)) (e : TraceEntry B) → option_map entry_on o ≡ Some e → ((d : TraceEntry A) → o ≡ Some d → P d.phase d.place) → P e.phase e.place
  entry_back P None e is each = absurd (none-some e is)
  entry_back P (Some d) e is each = subst (λ (x : TraceEntry B). P x.phase x.place) (same_Some (entry_on d) e is) (each d refl)

  sound_on : (j : Job A) → Sound j → Sound (job_with f j)
  sound_on j s = record {
    tasks = λ k e is. entry_back (λ phase place. is_task (before (job_with f j) k) phase place ≡ true) (slice_get j.trace k) e (sym (slice_get-map entry_on j.trace k) ∙ is)
        (λ d there. task_same j k d.phase d.place ∙ s.tasks k d there);
    once = λ k e is. entry_back (λ phase place. is_committed (take k (map entry_on j.trace)) phase place ≡ false) (slice_get j.trace k) e (sym (slice_get-map entry_on j.trace k) ∙ is)
        (λ d there. committed_same j k d.phase d.place ∙ s.once k d there);
    rising = subst (IsStrictlySortedBy nat_cmp) (sym (positions_same j.trace)) s.rising;
    finished = λ some is. let both = s.finished some is in (both.0, all_complete-with f j ∙ both.1);
    cancelled = s.cancelled;
  }

  sound_back : (j : Job A) → Sound (job_with f j) → Sound j
  sound_back j s = record {
    tasks = λ k d is. sym (task_same j k d.phase d.place) ∙ s.tasks k (entry_on d) (slice_get-map entry_on j.trace k ∙ ap (option_map entry_on) is);
    once = λ k d is. sym (committed_same j k d.phase d.place) ∙ s.once k (entry_on d) (slice_get-map entry_on j.trace k ∙ ap (option_map entry_on) is);
    rising = subst (IsStrictlySortedBy nat_cmp) (positions_same j.trace) s.rising;
    finished = λ some is. let both = s.finished some is in (both.0, sym (all_complete-with f j) ∙ both.1);
    cancelled = s.cancelled;
  }

  -- ---- jobs

  item_on : (i : Item A) → LawfulItem i → LawfulItem (item_with f i)
  item_on i l = record { name = l.name; component = l.component; short = l.short }

  item_back : (i : Item A) → LawfulItem (item_with f i) → LawfulItem i
  item_back i l = record { name = l.name; component = l.component; short = l.short }

  items_same : (e : TraceEntry A) → length (items_of (entry_on e).outcome) ≡ length (items_of e.outcome)
  items_same e = ap length (outcome_items f e.outcome) ∙ length-map (item_with f) (items_of e.outcome)

  assets_same : (bs : List (List A)) → map length (map (map f) bs) ≡ map length bs
  assets_same bs = map-map length (map f) bs ∙ ap (λ h. map h bs) (same_function (λ b. length (map f b)) length (λ b. length-map f b))

  job_on : (n : ℕ) (j : Job A) → LawfulJob n j → LawfulJob n (job_with f j)
  job_on n j l = record {
    number = record { first = l.number.first; below = l.number.below };
    positions = each_on (λ e. e.position < n) (λ e. e.position < n) entry_on (λ e is. is) j.trace l.positions;
    few = subst (λ m. m + length j.missing ≤ most_inputs) (sym (length-map (item_with f) j.inputs)) l.few;
    inputs = each_on LawfulItem LawfulItem (item_with f) item_on j.inputs l.inputs;
    missing = l.missing;
    few_each = each_on (λ e. length (items_of e.outcome) ≤ MOST_RECORDS) (λ e. length (items_of e.outcome) ≤ MOST_RECORDS) entry_on (λ e is. subst (λ m. m ≤ MOST_RECORDS) (sym (items_same e)) is) j.trace l.few_each;
    outputs = each_on (λ e. All LawfulItem (items_of e.outcome)) (λ e. All LawfulItem (items_of e.outcome)) entry_on
        (λ e is. subst (All LawfulItem) (sym (outcome_items f e.outcome)) (each_on LawfulItem LawfulItem (item_with f) item_on (items_of e.outcome) is)) j.trace l.outputs;
    document = l.document;
    assets = assets_same j.assets ∙ l.assets;
    sound = sound_on j l.sound;
  }

  job_back : (n : ℕ) (j : Job A) → LawfulJob n (job_with f j) → LawfulJob n j
  job_back n j l = record {
    number = record { first = l.number.first; below = l.number.below };
    positions = each_back (λ e. e.position < n) (λ e. e.position < n) entry_on (λ e is. is) j.trace l.positions;
    few = subst (λ m. m + length j.missing ≤ most_inputs) (length-map (item_with f) j.inputs) l.few;
    inputs = each_back LawfulItem LawfulItem (item_with f) item_back j.inputs l.inputs;
    missing = l.missing;
    few_each = each_back (λ e. length (items_of e.outcome) ≤ MOST_RECORDS) (λ e. length (items_of e.outcome) ≤ MOST_RECORDS) entry_on (λ e is. subst (λ m. m ≤ MOST_RECORDS) (items_same e) is) j.trace l.few_each;
    outputs = each_back (λ e. All LawfulItem (items_of e.outcome)) (λ e. All LawfulItem (items_of e.outcome)) entry_on
        (λ e is. each_back LawfulItem LawfulItem (item_with f) item_back (items_of e.outcome) (subst (All LawfulItem) (outcome_items f e.outcome) is)) j.trace l.outputs;
    document = l.document;
    assets = sym (assets_same j.assets) ∙ l.assets;
    sound = sound_back j l.sound;
  }

  -- ---- folders

  abbrev all_there : Rows A → ℕ → Bool
  all_there rows number = list_all (λ n. is_object_at rows (in_job_folder number n.0)) archive_names

  abbrev none_there : Rows A → ℕ → Bool
  none_there rows number = list_all (λ n. not (is_some (at rows (in_job_folder number n.0)))) archive_names

  object_same : (rows : Rows A) (p : AccountPath) → is_object_at (rows_with f rows) p ≡ is_object_at rows p
  object_same rows p = ap is_some (object_at-with f rows p) ∙ is_some-map (object_with f) (object_at rows p)

  archive_same : (rows : Rows A) (number : ℕ)
      → (list_all (λ n. is_object_at (rows_with f rows) (in_job_folder number n.0)) archive_names || list_all (λ n. not (is_some (at (rows_with f rows) (in_job_folder number n.0)))) archive_names) ≡ (all_there rows number || none_there rows number)
  archive_same rows number =
      ap (λ t. list_all t archive_names || list_all (λ n. not (is_some (at (rows_with f rows) (in_job_folder number n.0)))) archive_names)
      (same_function (λ (n : List ℕ × List ℕ). is_object_at (rows_with f rows) (in_job_folder number n.0)) (λ n. is_object_at rows (in_job_folder number n.0)) (λ n. object_same rows (in_job_folder number n.0)))
      ∙ ap (λ t. all_there rows number || list_all t archive_names)
      (same_function (λ (n : List ℕ × List ℕ). not (is_some (at (rows_with f rows) (in_job_folder number n.0)))) (λ n. not (is_some (at rows (in_job_folder number n.0)))) (λ n. ap not (is_there-with f rows (in_job_folder number n.0))))

  folders_on : (rows : Rows A) (j : Job A) → HasFolders rows j → HasFolders (rows_with f rows) (job_with f j)
  folders_on rows j h = record {
    folder = is_directory-with f rows (job_folder j.number) ∙ h.folder;
    stor = is_directory-with f rows (job_stor j.number) ∙ h.stor;
    archive = archive_same rows j.number ∙ h.archive;
  }

  folders_back : (rows : Rows A) (j : Job A) → HasFolders (rows_with f rows) (job_with f j) → HasFolders rows j
  folders_back rows j h = record {
    folder = sym (is_directory-with f rows (job_folder j.number)) ∙ h.folder;
    stor = sym (is_directory-with f rows (job_stor j.number)) ∙ h.stor;
    archive = sym (archive_same rows j.number) ∙ h.archive;
  }

  output_same : (name : List ℕ) (more : List (List ℕ)) (e : Entry A) → is_output name more (entry_with f e) ≡ is_output name more e
  output_same name [] (entry.Directory mtime) = refl
  output_same name [] (entry.Object o) = refl
  output_same name (below ∷ more) e = refl

  fits_same : (j : Job A) (names : List (List ℕ)) (e : Entry A) → fits_in_folder (job_with f j) names (entry_with f e) ≡ fits_in_folder j names e
  fits_same j [] (entry.Directory mtime) = refl
  fits_same j [] (entry.Object o) = refl
  fits_same j (name ∷ []) (entry.Directory mtime) = refl
  fits_same j (name ∷ []) (entry.Object o) = refl
  fits_same j (folder ∷ name ∷ more) e = ap (λ b. bytes_eq folder (codes "stor") && (not (ends_in_output name) || b)) (output_same name more e)

  below_same : (o : Option (Job A)) (names : List (List ℕ)) (e : Entry A) → fits_below (option_map (job_with f) o) names (entry_with f e) ≡ fits_below o names e
  below_same None names e = refl
  below_same (Some j) names e = fits_same j names e

  place_same : (jobs : List (Job A)) (id : List ℕ) (names : List (List ℕ)) (e : Entry A) → fits_below (job_named (map (job_with f) jobs) id) names (entry_with f e) ≡ fits_below (job_named jobs id) names e
  place_same jobs id names e = ap (λ o. fits_below o names (entry_with f e)) (find-map (job_with f) (λ j. bytes_eq (job_name j.number) id) jobs) ∙ below_same (job_named jobs id) names e

  fits_back : (P : Entry B → Type 0) (o : Option (Entry A)) (e : Entry B) → option_map (entry_with f) o ≡ Some e → ((d : Entry A) → o ≡ Some d → P (entry_with f d)) → P e
  fits_back P None e is each = absurd (none-some e is)
  fits_back P (Some d) e is each = subst P (same_Some (entry_with f d) e is) (each d refl)

  numbers_same : (jobs : List (Job A)) → map (λ j. j.number) (map (job_with f) jobs) ≡ map (λ j. j.number) jobs
  numbers_same jobs = map-map (λ j. j.number) (job_with f) jobs

  jobs_on : (n : ℕ) (rows : Rows A) (jobs : List (Job A)) → LawfulJobs n rows jobs → LawfulJobs n (rows_with f rows) (map (job_with f) jobs)
  jobs_on n rows jobs law = record {
    rising = subst (IsStrictlySortedBy nat_cmp) (sym (numbers_same jobs)) law.rising;
    each = each_on (LawfulJob n) (LawfulJob n) (job_with f) (job_on n) jobs law.each;
    folders = each_on (HasFolders rows) (HasFolders (rows_with f rows)) (job_with f) (folders_on rows) jobs law.folders;
    entries = λ id names e is.
        let q : AccountPath = record { area = Jobs; parts = id ∷ names } in
        fits_back (λ x. fits_below (job_named (map (job_with f) jobs) id) names x ≡ true) (at rows q) e (sym (at-with f rows q) ∙ is) (λ d there. place_same jobs id names d ∙ law.entries id names d there);
  }

  jobs_back : (n : ℕ) (rows : Rows A) (jobs : List (Job A)) → LawfulJobs n (rows_with f rows) (map (job_with f) jobs) → LawfulJobs n rows jobs
  jobs_back n rows jobs law = record {
    rising = subst (IsStrictlySortedBy nat_cmp) (numbers_same jobs) law.rising;
    each = each_back (LawfulJob n) (LawfulJob n) (job_with f) (job_back n) jobs law.each;
    folders = each_back (HasFolders rows) (HasFolders (rows_with f rows)) (job_with f) (folders_back rows) jobs law.folders;
    entries = λ id names d is.
        let q : AccountPath = record { area = Jobs; parts = id ∷ names } in
        sym (place_same jobs id names d) ∙ law.entries id names (entry_with f d) (at-with f rows q ∙ ap (option_map (entry_with f)) is);
  }

  -- ---- uploads

  part_on : (n : ℕ) (p : PartRow A) → LawfulPart n p → LawfulPart n (part_with f p)
  part_on n p l = record { index = l.index; number = l.number }

  part_back : (n : ℕ) (p : PartRow A) → LawfulPart n (part_with f p) → LawfulPart n p
  part_back n p l = record { index = l.index; number = l.number }

  indexes_same : (ps : List (PartRow A)) → map (λ p. p.index) (map (part_with f) ps) ≡ map (λ p. p.index) ps
  indexes_same ps = map-map (λ p. p.index) (part_with f) ps

  upload_on : (n : ℕ) (u : Upload A) → LawfulUpload n u → LawfulUpload n (upload_with f u)
  upload_on n u l = record {
    number = record { first = l.number.first; below = l.number.below };
    path = l.path;
    place = l.place;
    rising = subst (IsStrictlySortedBy nat_cmp) (sym (indexes_same u.parts)) l.rising;
    parts = each_on (LawfulPart n) (LawfulPart n) (part_with f) (part_on n) u.parts l.parts;
  }

  upload_back : (n : ℕ) (u : Upload A) → LawfulUpload n (upload_with f u) → LawfulUpload n u
  upload_back n u l = record {
    number = record { first = l.number.first; below = l.number.below };
    path = l.path;
    place = l.place;
    rising = subst (IsStrictlySortedBy nat_cmp) (indexes_same u.parts) l.rising;
    parts = each_back (LawfulPart n) (LawfulPart n) (part_with f) (part_back n) u.parts l.parts;
  }

  uploads_same : (us : List (Upload A)) → map (λ u. u.number) (map (upload_with f) us) ≡ map (λ u. u.number) us
  uploads_same us = map-map (λ u. u.number) (upload_with f) us

  -- ---- a state

  pub lawful_on : (s : State A) → Lawful s → Lawful (state_with f s)
  lawful_on s law = record {
    rows = rows_on s.count s.rows law.rows;
    jobs = jobs_on s.count s.rows s.jobs law.jobs;
    uploads = record {
      rising = subst (IsStrictlySortedBy nat_cmp) (sym (uploads_same s.uploads)) law.uploads.rising;
      each = each_on (LawfulUpload s.count) (LawfulUpload s.count) (upload_with f) (upload_on s.count) s.uploads law.uploads.each;
    };
  }

  pub lawful_back : (s : State A) → Lawful (state_with f s) → Lawful s
  lawful_back s law = record {
    rows = rows_back s.count s.rows law.rows;
    jobs = jobs_back s.count s.rows s.jobs law.jobs;
    uploads = record {
      rising = subst (IsStrictlySortedBy nat_cmp) (uploads_same s.uploads) law.uploads.rising;
      each = each_back (LawfulUpload s.count) (LawfulUpload s.count) (upload_with f) (upload_back s.count) s.uploads law.uploads.each;
    };
  }

  pub lawful_is_read : (s : State A) → Lawful s ↔ Lawful (state_with f s)
  lawful_is_read s = (lawful_on s, lawful_back s)
