-- Where something stands, something stands until it is removed.
use Rattle.std.proofs.Common.{◌≡◌, ℕ, ◌+◌, Bool, true, false, cond, List, [], ◌∷◌, Option, Some, None, refl, sym, ap, subst, ◌∙◌}
use Rattle.std.specs.Prelude.{Result, Ok, Err, is_some, IsSome}
use Rattle.std.specs.List.{fold, list_any}
use Rattle.mt_path.specs.AccountPath.{AccountPath}
use Rattle.mt_types.specs.declared.command.Command.{Command}
use Rattle.mt_types.specs.declared.command.Command.TheVariants.{Put, MakeDirectory, Link, Delete, NewJob, AddInputs, EndInput, Commit, Finish, Cancel, Close, NewUpload, PutPart, CommitUpload, AbortUpload}
use Rattle.mt_types.specs.declared.job.Job.{Job}
use Rattle.mt_types.specs.declared.object.Entry.{Entry}
use Rattle.mt_types.specs.declared.object.Entry.TheVariants as entry
use Rattle.mt_types.specs.declared.object.Object.{Object}
use Rattle.mt_types.specs.declared.task.Fate.{Fate}
use Rattle.mt_types.specs.declared.task.Fate.TheVariants as fate
use Rattle.mt_types.specs.declared.task.TaskFailure.{TaskFailure}
use Rattle.mt_types.specs.declared.task.TaskFailure.TheVariants.{TaskPlaceRefused}
use Rattle.mt_types.specs.declared.task.TaskRecord.{TaskRecord}
use Rattle.mt_types.specs.declared.task.TaskRecord.TheVariants.{Emit, Keep, Ref}
use Rattle.mt_types.specs.declared.upload.Upload.{Upload}
use Rattle.mt_model.specs.CommandStep.{change, linked, put_object, replay, step}
use Rattle.mt_model.specs.JobSteps.{archive_bodies, archive_names, archive_object, commit, task_root, with_archive_from}
use Rattle.mt_model.specs.Laws.{TakenFrom}
use Rattle.mt_model.specs.Names.{in_job_folder, job_folder, job_stor, number_at, paths_above}
use Rattle.mt_model.specs.Resolve.{Committing, Taken, and_then, can_hold_object, fresh_place, kept, next_number, resolve, resolved, take_record, take_records, take_reference, task_object, with_directory, with_output, with_parents}
use Rattle.mt_model.specs.Rows.{IsTree, Rows, at, is_path, object_at, with_row, without_row}
use Rattle.mt_model.specs.State.{State, job_at, upload_at}
use Rattle.mt_model.specs.Stays.{StaysTaken, deletes_at}
use Rattle.mt_model.specs.UploadSteps.{commit_upload, upload_object}
use Rattle.mt_model.proofs.LawfulHistories.{lawful_step}
use Rattle.mt_model.proofs.LawfulInputs.{or_none}
use Rattle.mt_model.proofs.RowLaws.{at-with_row, at-without_row}

module _ {B : Type 0} (p : AccountPath) where
  abbrev Has : Rows B → Type 0
  Has rows = IsSome (at rows p)

  put : (rows : Rows B) (q : AccountPath) (e : Entry B) → Has rows → Has (with_row rows q e)
  put rows q e has = subst IsSome (sym (at-with_row rows q e p)) (by (is_path q p))
    where
      by : (b : Bool) → IsSome (cond b (Some e) (at rows p))
      by true = refl
      by false = has

  removed : (rows : Rows B) (q : AccountPath) → IsTree rows → is_path q p ≡ false → Has rows → Has (without_row rows q)
  removed rows q tree apart has = subst IsSome (sym (at-without_row rows q p tree.ordered ∙ ap (λ b. cond b None (at rows p)) apart)) has

  link : (rows : Rows B) (q : AccountPath) (o : Option (Object B)) (moment : ℕ) → Has rows → Has (linked rows q o moment)
  link rows q None moment has = has
  link rows q (Some x) moment has = put rows q (entry.Object (record x { mtime = moment })) has

  one_directory : (moment : ℕ) (rows : Rows B) (q : AccountPath) → Has rows → Has (with_directory moment rows q)
  one_directory moment rows q has = by (is_some (at rows q))
    where
      by : (b : Bool) → Has (cond b rows (with_row rows q (entry.Directory moment)))
      by true = has
      by false = put rows q (entry.Directory moment) has

  directories : (moment : ℕ) (qs : List AccountPath) (rows : Rows B) → Has rows → Has (fold (with_directory moment) rows qs)
  directories moment [] rows has = has
  directories moment (q ∷ qs) rows has = directories moment qs (with_directory moment rows q) (one_directory moment rows q has)

  -- ---- a commit

  module _ (c : Committing) where
    abbrev HasIn : Result (Taken B) TaskFailure → Type 0
    HasIn (Ok t) = Has t.rows
    HasIn (Err failure) = Unit {0}

    made : (place : AccountPath) (body : B) (t : Taken B) → Has t.rows → Has (kept c place body t).rows
    made place body t has = put (with_parents t.rows place c.moment) place (entry.Object (task_object (next_number c t) body c.moment)) (directories c.moment (paths_above place) t.rows has)

    placed : (place : AccountPath) (body : B) (t : Taken B) → Has t.rows → (b : Bool) → HasIn (cond b (Ok (kept c place body t)) (Err TaskPlaceRefused))
    placed place body t has true = made place body t has
    placed place body t has false = tt

    emitted : (place : AccountPath) (body : B) (reducer : Option ℕ) (t : Taken B) → Has t.rows → (b : Bool) → HasIn (and_then (λ new. Ok (with_output c place body reducer new)) (cond b (Ok (kept c place body t)) (Err TaskPlaceRefused)))
    emitted place body reducer t has true = made place body t has
    emitted place body reducer t has false = tt

    referred : (name : AccountPath) (t : Taken B) → Has t.rows → (o : Option (Object B)) → HasIn (take_reference c name t o)
    referred name t has None = tt
    referred name t has (Some o) = has

    one : (r : TaskRecord B) (t : Taken B) → Has t.rows → HasIn (take_record c t r)
    one (Emit None reducer body) t has = made (fresh_place c t) body t has
    one (Emit (Some place) reducer body) t has = emitted place body reducer t has (can_hold_object t.rows c.job place)
    one (Keep place body) t has = placed place body t has (can_hold_object t.rows c.job place)
    one (Ref name) t has = referred name t has (object_at t.rows name)

    next : (r : TaskRecord B) (x : Result (Taken B) TaskFailure) → HasIn x → HasIn (and_then (λ t. take_record c t r) x)
    next r (Ok t) has = one r t has
    next r (Err failure) has = tt

    all : (rs : List (TaskRecord B)) (x : Result (Taken B) TaskFailure) → HasIn x → HasIn (take_records c rs x)
    all [] x has = has
    all (r ∷ rs) x has = all rs (and_then (λ t. take_record c t r) x) (next r x has)

    after : (rows : Rows B) (x : Result (Taken B) TaskFailure) → Has rows → HasIn x → Has (resolved rows x).rows
    after rows (Ok t) has in_t = in_t
    after rows (Err failure) has in_t = has

    resolve_has : (rows : Rows B) (f : Fate B) → Has rows → Has (resolve c rows f).rows
    resolve_has rows (fate.Good records) has =
        after rows (take_records c records (Ok (record { rows = rows; items = []; made = 0 }))) has (all records (Ok (record { rows = rows; items = []; made = 0 })) has)
    resolve_has rows (fate.Bad failure status stderr) has = has

  commit_has : (s : State B) (o : Option (Job B)) (phase place : ℕ) (f : Fate B) (moment : ℕ) → Has s.rows → Has (commit s o phase place f moment).rows
  commit_has s None phase place f moment has = has
  commit_has s (Some j) phase place f moment has = resolve_has (record { job = j.number; phase = phase; root = task_root j phase place; position = s.count; moment = moment }) s.rows f has

  -- ---- each command

  archive_has : (index : ℕ) (rows : Rows B) (job position moment : ℕ) (names : List (List ℕ × List ℕ)) (bodies : List B) → Has rows → Has (with_archive_from index rows job position moment names bodies)
  archive_has index rows job position moment [] bodies has = has
  archive_has index rows job position moment (n ∷ ns) [] has = has
  archive_has index rows job position moment (n ∷ ns) (b ∷ bs) has =
      archive_has (index + 1) _ job position moment ns bs (put rows (in_job_folder job n.0) (entry.Object (archive_object (number_at position index) n.1 b moment)) has)

  upload_has : (s : State B) (o : Option (Upload B)) (body : B) (moment : ℕ) → Has s.rows → Has (commit_upload s o body moment).rows
  upload_has s None body moment has = has
  upload_has s (Some u) body moment has = put s.rows u.path (entry.Object (upload_object (number_at s.count 0) u body moment)) has

  step_has : (s : State B) (c : Command B) → IsTree s.rows → deletes_at p c ≡ false → Has s.rows → Has (step s c).rows
  unfolding change step
  step_has s (Put path content_type body durability metadata moment) tree apart has = put s.rows path (entry.Object (put_object (number_at s.count 0) body content_type durability metadata moment)) has
  step_has s (MakeDirectory path moment) tree apart has = put s.rows path (entry.Directory moment) has
  step_has s (Link path source moment) tree apart has = link s.rows path (object_at s.rows source) moment has
  step_has s (Delete path moment) tree apart has = removed s.rows path tree apart has
  step_has s (NewJob document moment) tree apart has =
      put _ (job_stor (number_at s.count 0)) (entry.Directory moment) (put s.rows (job_folder (number_at s.count 0)) (entry.Directory moment) has)
  step_has s (AddInputs job lines moment) tree apart has = has
  step_has s (EndInput job moment) tree apart has = has
  step_has s (Commit job phase place f moment) tree apart has = commit_has s (job_at s.jobs job) phase place f moment has
  step_has s (Finish job moment) tree apart has = has
  step_has s (Cancel job moment) tree apart has = has
  step_has s (Close job cancelled archive moment) tree apart has = archive_has 0 s.rows job s.count moment archive_names (archive_bodies archive) has
  step_has s (NewUpload path content_type moment) tree apart has = has
  step_has s (PutPart upload index body moment) tree apart has = has
  step_has s (CommitUpload upload parts body moment) tree apart has = upload_has s (upload_at s.uploads upload) body moment has
  step_has s (AbortUpload upload moment) tree apart has = has

pub stays_taken : {B : Type 0} (size : B → ℕ) → StaysTaken size
unfolding TakenFrom replay
stays_taken size s [] p law taken none has = has
stays_taken size s (c ∷ cs) p law taken none has =
    let apart = or_none (deletes_at p c) (list_any (deletes_at p) cs) none in
    stays_taken size (step s c) cs p (lawful_step size s c law taken.0 taken.1 taken.2) taken.3 apart.1 (step_has p s c law.rows.tree apart.0 has)
