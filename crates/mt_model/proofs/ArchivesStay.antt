-- An object of the archive of a job stays: requests change nothing there, tasks make nothing there, and a job is closed
-- once.
use Rattle.std.proofs.Common.{◌≡◌, ℕ, ◌+◌, ◌<◌, Bool, true, false, cond, not, ◌&&◌, ◌||◌, List, [], ◌∷◌, length, Option, Some, None, refl, sym, ap, subst, ◌∙◌, arith, codes, bytes_eq}
use Rattle.std.specs.Prelude.{Result, Ok, Err, is_some}
use Rattle.std.specs.Option.{option_map}
use Rattle.std.proofs.lemmas.Option.{none-some}
use Rattle.mt_path.specs.AccountPath.{AccountPath}
use Rattle.mt_path.specs.declared.area.Area.TheVariants.{Jobs}
use Rattle.mt_types.specs.WellMade.{IsDocument, IsWellMade}
use Rattle.mt_types.specs.declared.command.Command.{Command}
use Rattle.mt_types.specs.declared.command.Command.TheVariants.{Put, MakeDirectory, Link, Delete, NewJob, AddInputs, EndInput, Commit, Finish, Cancel, Close, NewUpload, PutPart, CommitUpload, AbortUpload}
use Rattle.mt_types.specs.declared.document.JobDocument.{JobDocument}
use Rattle.mt_types.specs.declared.job.Job.{Job}
use Rattle.mt_types.specs.declared.limits.TheConstants.{MOST_COMMANDS}
use Rattle.mt_types.specs.declared.object.Entry.{Entry}
use Rattle.mt_types.specs.declared.object.Entry.TheVariants as entry
use Rattle.mt_types.specs.declared.object.Object.{Object}
use Rattle.mt_types.specs.declared.task.Fate.{Fate}
use Rattle.mt_types.specs.declared.task.Fate.TheVariants as fate
use Rattle.mt_types.specs.declared.task.TaskFailure.{TaskFailure}
use Rattle.mt_types.specs.declared.task.TaskFailure.TheVariants.{TaskPlaceRefused}
use Rattle.mt_types.specs.declared.task.TaskRecord.{TaskRecord}
use Rattle.mt_types.specs.declared.task.TaskRecord.TheVariants.{Emit, Keep, Ref}
use Rattle.mt_types.specs.declared.upload.Upload.{Upload}
use Rattle.mt_model.specs.CommandStep.{allowed, change, linked, put_object, replay, step}
use Rattle.mt_model.specs.JobSteps.{archive_bodies, archive_names, archive_object, close_refusal, commit, job_refusal, new_job_refusal, task_root, with_archive_from, with_folders}
use Rattle.mt_model.specs.Lawful.{Lawful, LawfulUpload, fits_below, fits_in_folder, is_archive_name}
use Rattle.mt_model.specs.Laws.{TakenFrom}
use Rattle.mt_model.specs.Names.{in_job_folder, is_task_place, job_folder, job_name, job_stor, number_at, paths_above}
use Rattle.mt_model.specs.Resolve.{Committing, Taken, and_then, can_hold_object, fresh_place, kept, next_number, resolve, resolved, take_record, take_records, take_reference, task_object, with_output, with_parents}
use Rattle.mt_model.specs.Rows.{Rows, at, is_path, object_at, object_in, with_row, without_row}
use Rattle.mt_model.specs.State.{State, job_at, upload_at}
use Rattle.mt_model.specs.Stays.{ArchivesStay, archive_path}
use Rattle.mt_model.specs.UploadSteps.{commit_upload, is_jobs, upload_object}
use Rattle.mt_model.proofs.LawfulClose.{named}
use Rattle.mt_model.proofs.LawfulHistories.{lawful_step}
use Rattle.mt_model.proofs.LawfulInputs.{and_left, or_none}
use Rattle.mt_model.proofs.LawfulNewJob.{other_path, unused}
use Rattle.mt_model.proofs.LawfulParts.{upload_found}
use Rattle.mt_model.proofs.LawfulRows.{jobs-with_row, jobs-without_row}
use Rattle.mt_model.proofs.OutputsStay.{directories_at, put_at}
use Rattle.mt_model.proofs.RowLaws.{neither, not_refused}
use Rattle.mt_model.proofs.Standing.{number_at_job}

some_object : {B : Type 0} (e : Option (Entry B)) (o : Object B) → object_in e ≡ Some o → e ≡ Some (entry.Object o)
some_object None o is = cc
some_object (Some (entry.Directory mtime)) o is = cc
some_object (Some (entry.Object x)) o is = ap (λ y. option_map entry.Object y) is

runs_not_done : (d : Option ℕ) → not (not (is_some d)) ≡ false → is_some d ≡ true → ⊥
runs_not_done None running done = cc
runs_not_done (Some x) running done = cc

done_of : (a b c : Bool) → (a && false || b && c) ≡ true → c ≡ true
done_of true true c is = is
done_of true false c is = cc
done_of false true c is = is
done_of false false c is = cc

short_of : (p : AccountPath) (id name : List ℕ) → p ≡ archive_path id name → length p.parts ≡ 2
short_of p id name same = ap (λ (q : AccountPath). length q.parts) same

module _ {B : Type 0} (id name : List ℕ) (o : Object B) where
  abbrev p : AccountPath
  p = archive_path id name

  abbrev Has : Rows B → Type 0
  Has rows = object_at rows p ≡ Some o

  outside : (rows new : Rows B) → ((names : List (List ℕ)) → at new (record { area = Jobs; parts = names }) ≡ at rows (record { area = Jobs; parts = names })) → Has rows → Has new
  outside rows new same has = ap object_in (same (id ∷ name ∷ [])) ∙ has

  link : (rows : Rows B) (q : AccountPath) (x : Option (Object B)) (moment : ℕ) → is_jobs q.area ≡ false → Has rows → Has (linked rows q x moment)
  link rows q None moment off has = has
  link rows q (Some x) moment off has = outside rows (with_row rows q (entry.Object (record x { mtime = moment }))) (jobs-with_row rows q (entry.Object (record x { mtime = moment })) off) has

  -- ---- a commit

  -- no task may make an object there
  no_place : (job : ℕ) (q : AccountPath) → is_task_place job q.area q.parts ≡ true → is_path q p ≡ false
  no_place job q is = other_path q p (λ same. let t : is_task_place job Jobs (id ∷ name ∷ []) ≡ true = subst (λ (x : AccountPath). is_task_place job x.area x.parts ≡ true) same is in cc)

  module _ (c : Committing) where
    abbrev HasIn : Result (Taken B) TaskFailure → Type 0
    HasIn (Ok t) = Has t.rows
    HasIn (Err failure) = Unit {0}

    made : (place : AccountPath) (body : B) (t : Taken B) → is_path place p ≡ false → Has t.rows → Has (kept c place body t).rows
    made place body t off has =
        put_at (with_parents t.rows place c.moment) place p (entry.Object (task_object (next_number c t) body c.moment)) o off (directories_at c.moment p o (paths_above place) t.rows has)

    placed : (place : AccountPath) (body : B) (t : Taken B) → Has t.rows → (b : Bool) → can_hold_object t.rows c.job place ≡ b → HasIn (cond b (Ok (kept c place body t)) (Err TaskPlaceRefused))
    placed place body t has true holds = made place body t (no_place c.job place (and_left _ _ (and_left _ _ holds))) has
    placed place body t has false holds = tt

    emitted : (place : AccountPath) (body : B) (reducer : Option ℕ) (t : Taken B) → Has t.rows → (b : Bool) → can_hold_object t.rows c.job place ≡ b
        → HasIn (and_then (λ new. Ok (with_output c place body reducer new)) (cond b (Ok (kept c place body t)) (Err TaskPlaceRefused)))
    emitted place body reducer t has true holds = made place body t (no_place c.job place (and_left _ _ (and_left _ _ holds))) has
    emitted place body reducer t has false holds = tt

    referred : (q : AccountPath) (t : Taken B) → Has t.rows → (x : Option (Object B)) → HasIn (take_reference c q t x)
    referred q t has None = tt
    referred q t has (Some x) = has

    one : (r : TaskRecord B) (t : Taken B) → Has t.rows → HasIn (take_record c t r)
    one (Emit None reducer body) t has =
        made (fresh_place c t) body t (other_path (fresh_place c t) p (λ same. let three : 3 ≡ 2 = short_of (fresh_place c t) id name same in absurd (omega (arith, three)))) has
    one (Emit (Some place) reducer body) t has = emitted place body reducer t has (can_hold_object t.rows c.job place) refl
    one (Keep place body) t has = placed place body t has (can_hold_object t.rows c.job place) refl
    one (Ref q) t has = referred q t has (object_at t.rows q)

    next : (r : TaskRecord B) (x : Result (Taken B) TaskFailure) → HasIn x → HasIn (and_then (λ t. take_record c t r) x)
    next r (Ok t) has = one r t has
    next r (Err failure) has = tt

    all : (rs : List (TaskRecord B)) (x : Result (Taken B) TaskFailure) → HasIn x → HasIn (take_records c rs x)
    all [] x has = has
    all (r ∷ rs) x has = all rs (and_then (λ t. take_record c t r) x) (next r x has)

    after : (rows : Rows B) (x : Result (Taken B) TaskFailure) → Has rows → HasIn x → Has (resolved rows x).rows
    after rows (Ok t) has in_t = in_t
    after rows (Err failure) has in_t = has

    resolve_has : (rows : Rows B) (f : Fate B) → Has rows → Has (resolve c rows f).rows
    resolve_has rows (fate.Good records) has =
        after rows (take_records c records (Ok (record { rows = rows; items = []; made = 0 }))) has (all records (Ok (record { rows = rows; items = []; made = 0 })) has)
    resolve_has rows (fate.Bad failure status stderr) has = has

  commit_has : (s : State B) (x : Option (Job B)) (phase place : ℕ) (f : Fate B) (moment : ℕ) → Has s.rows → Has (commit s x phase place f moment).rows
  commit_has s None phase place f moment has = has
  commit_has s (Some j) phase place f moment has = resolve_has (record { job = j.number; phase = phase; root = task_root j phase place; position = s.count; moment = moment }) s.rows f has

  -- ---- a new job, a close, the object of an upload

  module _ (s : State B) (law : Lawful s) (room : s.count < MOST_COMMANDS) where
    new_has : (document : JobDocument) (moment : ℕ) → IsDocument document → (size : B → ℕ) → new_job_refusal size s.rows document ≡ None → Has s.rows → Has (with_folders s.rows (number_at s.count 0) moment)
    new_has document moment is size none has =
        let n : ℕ = number_at s.count 0 in
        let lacks = not_refused _ _ (neither _ _ none).0 in
        put_at (with_row s.rows (job_folder n) (entry.Directory moment)) (job_stor n) p (entry.Directory moment) o
        (other_path (job_stor n) p (λ same.
        none-some o (sym (ap object_in (unused s.count s.rows s.jobs law.rows law.jobs room document moment is lacks (codes "stor" ∷ []))) ∙ (ap (object_at s.rows) same ∙ has))))
        (put_at s.rows (job_folder n) p (entry.Directory moment) o (other_path (job_folder n) p (λ same. let one : 1 ≡ 2 = short_of (job_folder n) id name same in absurd (omega (arith, one)))) has)

    -- an object there is of a job that is done
    apart : (number : ℕ) (cancelled : Bool) (j : Job B) → job_at s.jobs number ≡ Some j → close_refusal cancelled j ≡ None → Has s.rows → (n : List ℕ) → is_path (in_job_folder number n) p ≡ false
    apart number cancelled j found none has n =
        other_path (in_job_folder number n) p (λ same.
        let own : j.number ≡ number = number_at_job number s.jobs j found in
        let here : job_at s.jobs j.number ≡ Some j = ap (job_at s.jobs) own ∙ found in
        let there : object_at s.rows (in_job_folder j.number n) ≡ Some o = ap (λ m. object_at s.rows (in_job_folder m n)) own ∙ (ap (object_at s.rows) same ∙ has) in
        let fits : fits_in_folder j (n ∷ []) (entry.Object o) ≡ true =
        sym (ap (λ x. fits_below x (n ∷ []) (entry.Object o)) (named s.count s.rows s.jobs law.rows law.jobs room j.number j here))
        ∙ law.jobs.entries (job_name j.number) (n ∷ []) (entry.Object o) (some_object (at s.rows (in_job_folder j.number n)) o there) in
        let done : is_some j.done ≡ true = done_of (bytes_eq n (codes "stor")) (is_archive_name n && is_some (object_in (Some (entry.Object o)))) (is_some j.done) fits in
        runs_not_done j.done (not_refused _ _ (neither _ _ none).0) done)

    archive_has : (number : ℕ) → ((n : List ℕ) → is_path (in_job_folder number n) p ≡ false) → (index : ℕ) (rows : Rows B) (position moment : ℕ) (names : List (List ℕ × List ℕ)) (bodies : List B) → Has rows → Has (with_archive_from index rows number position moment names bodies)
    archive_has number off index rows position moment [] bodies has = has
    archive_has number off index rows position moment (n ∷ ns) [] has = has
    archive_has number off index rows position moment (n ∷ ns) (b ∷ bs) has =
        archive_has number off (index + 1) _ position moment ns bs (put_at rows (in_job_folder number n.0) p (entry.Object (archive_object (number_at position index) n.1 b moment)) o (off n.0) has)

    close_has : (number : ℕ) (cancelled : Bool) (bodies : List B) (moment : ℕ) (x : Option (Job B)) → job_at s.jobs number ≡ x → job_refusal x (close_refusal cancelled) ≡ None → Has s.rows
        → Has (with_archive_from 0 s.rows number s.count moment archive_names bodies)
    close_has number cancelled bodies moment None found none has = cc
    close_has number cancelled bodies moment (Some j) found none has = archive_has number (apart number cancelled j found none has) 0 s.rows s.count moment archive_names bodies has

    upload_has : (x : Option (Upload B)) (body : B) (moment : ℕ) → ((u : Upload B) → x ≡ Some u → LawfulUpload s.count u) → Has s.rows → Has (commit_upload s x body moment).rows
    upload_has None body moment good has = has
    upload_has (Some u) body moment good has =
        outside s.rows (with_row s.rows u.path (entry.Object (upload_object (number_at s.count 0) u body moment))) (jobs-with_row s.rows u.path (entry.Object (upload_object (number_at s.count 0) u body moment)) (or_none _ _ (good u refl).place).0) has

  step_has : (size : B → ℕ) (s : State B) (c : Command B) → Lawful s → s.count < MOST_COMMANDS → IsWellMade c → allowed size s c ≡ None → Has s.rows → Has (step s c).rows
  unfolding allowed change step
  step_has size s (Put path content_type body durability metadata moment) law room well e has =
      let x : Entry B = entry.Object (put_object (number_at s.count 0) body content_type durability metadata moment) in
      outside s.rows (with_row s.rows path x) (jobs-with_row s.rows path x (not_refused _ _ (neither _ _ e).0)) has
  step_has size s (MakeDirectory path moment) law room well e has =
      let x : Entry B = entry.Directory moment in
      outside s.rows (with_row s.rows path x) (jobs-with_row s.rows path x (not_refused _ _ (neither _ _ e).0)) has
  step_has size s (Link path source moment) law room well e has = link s.rows path (object_at s.rows source) moment (not_refused _ _ (neither _ _ e).0) has
  step_has size s (Delete path moment) law room well e has =
      outside s.rows (without_row s.rows path) (jobs-without_row s.rows path law.rows.tree (not_refused _ _ (neither _ _ e).0)) has
  step_has size s (NewJob document moment) law room well e has = new_has s law room document moment well size e has
  step_has size s (AddInputs job lines moment) law room well e has = has
  step_has size s (EndInput job moment) law room well e has = has
  step_has size s (Commit job phase place f moment) law room well e has = commit_has s (job_at s.jobs job) phase place f moment has
  step_has size s (Finish job moment) law room well e has = has
  step_has size s (Cancel job moment) law room well e has = has
  step_has size s (Close job cancelled archive moment) law room well e has = close_has s law room job cancelled (archive_bodies archive) moment (job_at s.jobs job) refl e has
  step_has size s (NewUpload path content_type moment) law room well e has = has
  step_has size s (PutPart upload index body moment) law room well e has = has
  step_has size s (CommitUpload upload parts body moment) law room well e has =
      upload_has s law room (upload_at s.uploads upload) body moment (λ u found. upload_found (LawfulUpload s.count) upload s.uploads u law.uploads.each found) has
  step_has size s (AbortUpload upload moment) law room well e has = has

pub archives_stay : {B : Type 0} (size : B → ℕ) → ArchivesStay size
unfolding TakenFrom replay
archives_stay size s [] law taken id name o has = has
archives_stay size s (c ∷ cs) law taken id name o has =
    archives_stay size (step s c) cs (lawful_step size s c law taken.0 taken.1 taken.2) taken.3 id name o (step_has id name o size s c law taken.0 taken.1 taken.2 has)
