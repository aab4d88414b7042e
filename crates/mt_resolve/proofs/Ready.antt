-- The records of a commit that is allowed are ready: an output without a place can always stand where it is to stand.
use Rattle.std.proofs.Common.{◌≡◌, ℕ, ◌+◌, ◌-◌, ◌^◌, ◌<◌, ◌≤◌, Bool, true, false, cond, not, ◌||◌, List, [], ◌∷◌, ◌++◌, length, take, drop, Option, Some, None, refl, sym, ap, subst, ◌∙◌, arith, true≢false, codes, zero, suc}
use Rattle.std.specs.Prelude.{⊤, Result, Ok, Err, is_some}
use Rattle.std.specs.List.{AllByRecursion}
use Rattle.mt_ident.specs.Identifiers.{identifier_number, identifier_text}
use Rattle.mt_path.specs.AccountPath.{AccountPath}
use Rattle.mt_path.specs.declared.area.Area.TheVariants.{Jobs}
use Rattle.mt_types.specs.WellMade.{IsWellMadeFate, IsWellMadeRecord}
use Rattle.mt_types.specs.declared.job.Job.{Job}
use Rattle.mt_types.specs.declared.limits.TheConstants.{MOST_COMMANDS}
use Rattle.mt_types.specs.declared.object.Entry.{Entry}
use Rattle.mt_types.specs.declared.object.Entry.TheVariants as entry
use Rattle.mt_types.specs.declared.object.Object.{Object}
use Rattle.mt_types.specs.declared.refusal.Refusal.TheVariants.{RootDirectory, DirectoryOperation}
use Rattle.mt_types.specs.declared.task.Fate.{Fate}
use Rattle.mt_types.specs.declared.task.Fate.TheVariants as fate
use Rattle.mt_types.specs.declared.task.TaskFailure.{TaskFailure}
use Rattle.mt_types.specs.declared.task.TaskFailure.TheVariants.{TaskPlaceRefused}
use Rattle.mt_types.specs.declared.task.TaskRecord.{TaskRecord}
use Rattle.mt_types.specs.declared.task.TaskRecord.TheVariants.{Emit, Keep, Ref}
use Rattle.mt_model.specs.JobSteps.{commit_refusal, task_root}
use Rattle.mt_model.specs.Lawful.{HasFolders, LawfulJob, LawfulJobs, LawfulRows, fits_below, is_output, job_named}
use Rattle.mt_model.specs.Names.{ends_in_output, job_name, job_stor, output_prefix}
use Rattle.mt_model.specs.Resolve.{Committing, Taken, and_then, can_hold_object, fresh_place, kept, next_number, resolved, take_placed, take_record, take_records, take_reference, with_directory, with_output, with_parents}
use Rattle.mt_model.specs.Rows.{Rows, above_refusal, at, directory_refusal, first_refusal, is_directory, object_at, parent_refusal, put_refusal, refuse_if, with_row}
use Rattle.mt_model.specs.State.{job_at}
use Rattle.mt_model.proofs.Children.{parent-above}
use Rattle.mt_model.proofs.LawfulClose.{job_in, named, number}
use Rattle.mt_model.proofs.LawfulCommit.{IsTaskOf, resolve_good, task_good}
use Rattle.mt_model.proofs.LawfulJobs.{LawfulJobs-same}
use Rattle.mt_model.proofs.LawfulNames.{output_number}
use Rattle.mt_model.proofs.LawfulPuts.{Whole}
use Rattle.mt_model.proofs.LawfulRows.{LawfulRows-later}
use Rattle.mt_resolve.specs.Committing.{IsCommitting, committing_of}
use Rattle.mt_resolve.specs.Taking.{AreReady, HasReady, IsReady, first_taken}

-- ---- each record makes at most one object

module _ {B : Type 0} (c : Committing) where
  -- at most so many more were made
  abbrev Within : ℕ → Result (Taken B) TaskFailure → Type 0
  Within most (Ok t) = t.made ≤ most
  Within most (Err failure) = ⊤

  placed_within : (t : Taken B) (p : AccountPath) (body : B) (b : Bool) → can_hold_object t.rows c.job p ≡ b → Within (t.made + 1) (take_placed c p body t)
  placed_within t p body b is = subst (λ x. Within (t.made + 1) (cond x (Ok (kept c p body t)) (Err TaskPlaceRefused))) (sym is) (by b)
    where
      by : (x : Bool) → Within (t.made + 1) (cond x (Ok (kept c p body t)) (Err TaskPlaceRefused))
      by true = omega arith
      by false = tt

  output_within : (most : ℕ) (p : AccountPath) (body : B) (reducer : Option ℕ) (r : Result (Taken B) TaskFailure) → Within most r → Within most (and_then (λ t. Ok (with_output c p body reducer t)) r)
  output_within most p body reducer (Ok t) within = within
  output_within most p body reducer (Err failure) within = tt

  reference_within : (t : Taken B) (p : AccountPath) (o : Option (Object B)) → Within (t.made + 1) (take_reference c p t o)
  reference_within t p None = tt
  reference_within t p (Some o) = omega arith

  record_within : (t : Taken B) (r : TaskRecord B) → Within (t.made + 1) (take_record c t r)
  record_within t (Emit None reducer body) = omega arith
  record_within t (Emit (Some p) reducer body) = output_within (t.made + 1) p body reducer (take_placed c p body t) (placed_within t p body (can_hold_object t.rows c.job p) refl)
  record_within t (Keep p body) = placed_within t p body (can_hold_object t.rows c.job p) refl
  record_within t (Ref name) = reference_within t name (object_at t.rows name)

  more_within : (a b : ℕ) (r : Result (Taken B) TaskFailure) → a ≤ b → Within a r → Within b r
  more_within a b (Ok t) le within = omega (arith, le, within)
  more_within a b (Err failure) le within = tt

  next_within : (most : ℕ) (r : TaskRecord B) (x : Result (Taken B) TaskFailure) → Within most x → Within (most + 1) (and_then (λ t. take_record c t r) x)
  next_within most r (Ok t) within = more_within (t.made + 1) (most + 1) (take_record c t r) (omega (arith, within)) (record_within t r)
  next_within most r (Err failure) within = tt

  pub records_within : (rs : List (TaskRecord B)) (most : ℕ) (x : Result (Taken B) TaskFailure) → Within most x → Within (most + length rs) (take_records c rs x)
  records_within [] most x within = let same : most ≡ most + 0 = omega arith in subst (λ n. Within n x) same within
  records_within (r ∷ rs) most x within =
      let same : most + 1 + length rs ≡ most + suc (length rs) = omega arith in
      subst (λ n. Within n (take_records c (r ∷ rs) x)) same (records_within rs (most + 1) (and_then (λ t. take_record c t r) x) (next_within most r x within))

-- ---- a front of records that are well made

module _ {B : Type 0} where
  front_made : (n : ℕ) (rs : List (TaskRecord B)) → AllByRecursion IsWellMadeRecord rs → AllByRecursion IsWellMadeRecord (take n rs)
  front_made zero rs made = tt
  front_made (suc n) [] made = tt
  front_made (suc n) (r ∷ rs) made = (made.0, front_made n rs made.1)

  front_short : (n : ℕ) (rs : List (TaskRecord B)) → n < length rs → length (take n rs) ≡ n
  front_short zero rs less = refl
  front_short (suc n) [] less = absurd (omega arith)
  front_short (suc n) (r ∷ rs) less = ap suc (front_short n rs (omega (arith, less)))

-- ---- a commit that is allowed

module _ {B : Type 0} (count : ℕ) (room : count < MOST_COMMANDS) (rows : Rows B) (jobs : List (Job B)) (law : LawfulRows count rows) (lawful : LawfulJobs count rows jobs)
    (n : ℕ) (j : Job B) (found_j : job_at jobs n ≡ Some j) (phase place : ℕ) (allowed : commit_refusal phase place j ≡ None) (moment : ℕ) where
  own : LawfulJob count j
  own = job_in n jobs j found_j (LawfulJob count) lawful.each

  task : IsTaskOf j phase (task_root j phase place)
  task = task_good count j own phase place allowed

  few : phase < 16
  few = let most = own.document.few in let under = task.few in omega (arith, most, under)

  abbrev c : Committing
  c = committing_of j phase place count moment

  pub is_committing : IsCommitting c
  is_committing = record {
    job = let below = own.number.below in omega (arith, below, room);
    phase = few;
    root = task.root_is.component;
    short = task.root_is.short;
    position = room;
  }

  start : Whole (count + 1) jobs rows
  start = record {
    rows_are = LawfulRows-later count (count + 1) rows (omega arith) law;
    jobs_are = LawfulJobs-same count (count + 1) (omega arith) rows rows jobs (λ names. refl) lawful;
  }

  found_own : job_at jobs j.number ≡ Some j
  found_own = ap (job_at jobs) (number count rows jobs law lawful room n j found_j) ∙ found_j

  named_own : job_named jobs (job_name j.number) ≡ Some j
  named_own = named count rows jobs law lawful room j.number j found_own

  -- after each front of the records that is taken, rows and jobs are lawful together
  whole_after : (records : List (TaskRecord B)) → IsWellMadeFate (fate.Good records) → (t : Taken B) → take_records c records (Ok (first_taken rows)) ≡ Ok t → Whole (count + 1) jobs t.rows
  whole_after records made t is =
      subst (λ r. Whole (count + 1) jobs (resolved rows r).rows) is
      (resolve_good count room jobs j (job_in j.number jobs j found_own) named_own phase few (task_root j phase place) task.root_is.component task.root_is.short moment rows start (fate.Good records) made).whole

  -- ---- where an output without a place is to stand

  module _ (t : Taken B) (w : Whole (count + 1) jobs t.rows) (less : t.made < 4096) where
    abbrev fresh : AccountPath
    fresh = fresh_place c t

    abbrev name : List ℕ
    name = output_prefix (task_root j phase place) phase ++ identifier_text 3 (next_number c t)

    small : next_number c t < 2 ^ 62
    small = omega (arith, less, room)

    ends : identifier_number 3 (drop (length name - 36) name) ≡ Some (next_number c t)
    ends = output_number (task_root j phase place) task.root_is.component task.root_is.short phase few (next_number c t) small

    folders : HasFolders t.rows j
    folders = job_in j.number jobs j found_own (HasFolders t.rows) w.jobs_are.folders

    no_directory : (e : Entry B) → (not (ends_in_output name) || is_output name [] e) ≡ true → is_directory (Some e) ≡ false
    no_directory (entry.Object o) fits = refl
    no_directory (entry.Directory mtime) fits = absurd (let never : (not (is_some (identifier_number 3 (drop (length name - 36) name))) || false) ≡ false = ap (λ o. not (is_some o) || false) ends in true≢false (sym fits ∙ never))

    free_case : (o : Option (Entry B)) → at t.rows fresh ≡ o → is_directory o ≡ false
    free_case None is = refl
    free_case (Some e) is = no_directory e (sym (ap (λ o. fits_below o (codes "stor" ∷ name ∷ []) e) named_own) ∙ w.jobs_are.entries (job_name j.number) (codes "stor" ∷ name ∷ []) e is)

    fine : (o : Option (Entry B)) → is_directory o ≡ true → directory_refusal o ≡ None
    fine None is = cc
    fine (Some (entry.Directory mtime)) is = refl
    fine (Some (entry.Object object)) is = cc

    stands : (o : Option (Entry B)) → is_directory o ≡ true → is_some o ≡ true
    stands None is = cc
    stands (Some e) is = refl

    parent : parent_refusal t.rows fresh ≡ None
    parent = ap (above_refusal t.rows) (parent-above fresh (omega arith)) ∙ fine (at t.rows (job_stor j.number)) folders.stor

    place_free : put_refusal t.rows fresh ≡ None
    place_free =
        ap (λ b. first_refusal (refuse_if b RootDirectory) (first_refusal (parent_refusal t.rows fresh) (refuse_if (is_directory (at t.rows fresh)) DirectoryOperation))) (ap (λ o. not (is_some o)) (parent-above fresh (omega arith)))
        ∙ ap (λ r. first_refusal r (refuse_if (is_directory (at t.rows fresh)) DirectoryOperation)) parent
        ∙ ap (λ b. refuse_if b DirectoryOperation) (free_case (at t.rows fresh) refl)

    -- a directory that stands is not made
    one_stands : (p : AccountPath) → is_directory (at t.rows p) ≡ true → with_directory moment t.rows p ≡ t.rows
    one_stands p is = ap (λ b. cond b t.rows (with_row t.rows p (entry.Directory moment))) (stands (at t.rows p) is)

    all_stand : with_parents t.rows fresh moment ≡ t.rows
    all_stand =
        ap (λ r. with_directory moment (with_directory moment r (record { area = Jobs; parts = job_name j.number ∷ [] })) (job_stor j.number)) (one_stands (record { area = Jobs; parts = [] }) (w.rows_are.tree.roots Jobs))
        ∙ ap (λ r. with_directory moment r (job_stor j.number)) (one_stands (record { area = Jobs; parts = job_name j.number ∷ [] }) folders.folder)
        ∙ one_stands (job_stor j.number) folders.stor

    ready : IsReady c t
    ready = record { tree = w.rows_are.tree; place = place_free; parents = all_stand; few = less }

  made_of : (records : List (TaskRecord B)) (t : Taken B) → take_records c records (Ok (first_taken rows)) ≡ Ok t → t.made ≤ 0 + length records
  made_of records t is = subst (λ r. Within c (0 + length records) r) is (records_within c records 0 (Ok (first_taken rows)) (omega arith))

  are_ready : (records : List (TaskRecord B)) → IsWellMadeFate (fate.Good records) → AreReady c rows records
  are_ready records made k t less is =
      let short : length (take k records) ≡ k = front_short k records less in
      let most = made.0 in
      let under = made_of (take k records) t is in
      ready t (whole_after (take k records) (omega (arith, short, less, most), front_made k records made.1) t is) (omega (arith, short, less, most, under))

  -- each record of a fate that is well made finds what it needs
  pub records_ready : (f : Fate B) → IsWellMadeFate f → HasReady c rows f
  records_ready (fate.Good records) made = are_ready records made
  records_ready (fate.Bad failure status stderr) made = tt
