-- What stands at the root of an area stays, whatever command is allowed.
use Rattle.std.proofs.Common.{◌≡◌, ℕ, ◌+◌, ◌-◌, length, take, arith, Bool, true, false, cond, List, [], ◌∷◌, Option, Some, None, refl, ap, ◌∙◌}
use Rattle.std.specs.Prelude.{Result, Ok, Err, is_some, nat_lt, not, ◌&&◌}
use Rattle.std.specs.List.{enumerate_from, fold, list_all, list_any, sum_by}
use Rattle.std.proofs.lemmas.Bool.{and_parts, lt-ltb}
use Rattle.mt_path.specs.AccountPath.{AccountPath, root_of}
use Rattle.mt_path.specs.declared.area.Area.{Area}
use Rattle.mt_path.specs.declared.area.Area.TheVariants.{Stor, Public, Jobs}
use Rattle.mt_types.specs.declared.command.Command.{Command}
use Rattle.mt_types.specs.declared.command.Command.TheVariants.{Put, MakeDirectory, Link, Delete, NewJob, AddInputs, EndInput, Commit, Finish, Cancel, Close, NewUpload, PutPart, CommitUpload, AbortUpload}
use Rattle.mt_types.specs.declared.job.Job.{Job}
use Rattle.mt_types.specs.declared.object.Entry.{Entry}
use Rattle.mt_types.specs.declared.object.Entry.TheVariants as entry
use Rattle.mt_types.specs.declared.object.Object.{Object}
use Rattle.mt_types.specs.declared.task.Fate.{Fate}
use Rattle.mt_types.specs.declared.task.Fate.TheVariants as fate
use Rattle.mt_types.specs.declared.task.TaskFailure.{TaskFailure}
use Rattle.mt_types.specs.declared.task.TaskFailure.TheVariants.{TaskPlaceRefused}
use Rattle.mt_types.specs.declared.task.TaskRecord.{TaskRecord}
use Rattle.mt_types.specs.declared.task.TaskRecord.TheVariants.{Emit, Keep, Ref}
use Rattle.mt_types.specs.declared.upload.Upload.{Upload}
use Rattle.mt_model.specs.CommandStep.{allowed, change, linked, put_object, step}
use Rattle.mt_model.specs.JobSteps.{archive_bodies, archive_names, archive_object, commit, task_root, with_archive_from}
use Rattle.mt_model.specs.Names.{in_job_folder, is_task_place, job_folder, job_stor, number_at, paths_above}
use Rattle.mt_model.specs.Resolve.{Committing, Taken, and_then, can_hold_object, fresh_place, is_object_at, kept, next_number, resolve, resolved, take_record, take_records, take_reference, task_object, with_directory, with_output, with_parents}
use Rattle.mt_types.specs.declared.limits.TheConstants.{LARGEST_JOINED}
use Rattle.mt_types.specs.declared.refusal.Refusal.TheVariants.{UploadPart, UploadState, UploadTooLarge}
use Rattle.mt_model.specs.Rows.{IsTree, Rows, at, first_refusal, is_directory, is_path, is_root, object_at, put_refusal, refuse_if, with_row, without_row}
use Rattle.mt_model.specs.State.{State, job_at, upload_at}
use Rattle.mt_model.specs.UploadSteps.{commit_upload, commit_upload_refusal, is_listed, is_open, listed, upload_object, upload_refusal}
use Rattle.mt_model.proofs.RowLaws.{at-with_row, at-without_row, is_path-exact, link-allowed, make_directory-allowed, neither, put-allowed, remove-allowed}

-- a path with a component is no root
named_below : (area : Area) (n : List ℕ) (ns : List (List ℕ)) → is_root (record { area = area; parts = n ∷ ns }) ≡ false
named_below area n ns =
    let above : AccountPath = record { area = area; parts = take (length (n ∷ ns) - 1) (n ∷ ns) } in
    ap (λ b. not (is_some {T = AccountPath} (cond b (Some above) None))) (lt-ltb 0 (length (n ∷ ns)) (omega arith))

-- a place where tasks make objects is no root
below_root : (job : ℕ) (area : Area) (parts : List (List ℕ)) → is_task_place job area parts ≡ true → is_root (record { area = area; parts = parts }) ≡ false
below_root job Stor [] is = cc
below_root job Stor (n ∷ ns) is = named_below Stor n ns
below_root job Public [] is = cc
below_root job Public (n ∷ ns) is = named_below Public n ns
below_root job Jobs [] is = cc
below_root job Jobs (n ∷ ns) is = named_below Jobs n ns

module _ {B : Type 0} (area : Area) (e : Entry B) where
  abbrev Has : Rows B → Type 0
  Has rows = at rows (root_of area) ≡ Some e

  -- a path that is no root is another
  other : (q : AccountPath) → is_root q ≡ false → is_path q (root_of area) ≡ false
  other q below = by (is_path q (root_of area)) refl
    where
      by : (b : Bool) → is_path q (root_of area) ≡ b → b ≡ false
      by false is = refl
      by true is = let root : is_root q ≡ true = ap is_root (is_path-exact q (root_of area) is) in cc

  -- and so is one where nothing stands
  vacant : (rows : Rows B) (q : AccountPath) → Has rows → is_some (at rows q) ≡ false → is_path q (root_of area) ≡ false
  vacant rows q has none = by (is_path q (root_of area)) refl
    where
      by : (b : Bool) → is_path q (root_of area) ≡ b → b ≡ false
      by false is = refl
      by true is = let some : is_some (at rows q) ≡ true = ap (λ x. is_some (at rows x)) (is_path-exact q (root_of area) is) ∙ ap is_some has in cc

  put : (rows : Rows B) (q : AccountPath) (x : Entry B) → is_path q (root_of area) ≡ false → Has rows → Has (with_row rows q x)
  put rows q x apart has = at-with_row rows q x (root_of area) ∙ ap (λ b. cond b (Some x) (at rows (root_of area))) apart ∙ has

  removed : (rows : Rows B) (q : AccountPath) → IsTree rows → is_path q (root_of area) ≡ false → Has rows → Has (without_row rows q)
  removed rows q tree apart has = at-without_row rows q (root_of area) tree.ordered ∙ ap (λ b. cond b None (at rows (root_of area))) apart ∙ has

  link : (rows : Rows B) (q : AccountPath) (o : Option (Object B)) (moment : ℕ) → is_path q (root_of area) ≡ false → Has rows → Has (linked rows q o moment)
  link rows q None moment apart has = has
  link rows q (Some x) moment apart has = put rows q (entry.Object (record x { mtime = moment })) apart has

  one_directory : (moment : ℕ) (rows : Rows B) (q : AccountPath) → Has rows → Has (with_directory moment rows q)
  one_directory moment rows q has = by (is_some (at rows q)) refl
    where
      by : (b : Bool) → is_some (at rows q) ≡ b → Has (cond b rows (with_row rows q (entry.Directory moment)))
      by true is = has
      by false is = put rows q (entry.Directory moment) (vacant rows q has is) has

  directories : (moment : ℕ) (qs : List AccountPath) (rows : Rows B) → Has rows → Has (fold (with_directory moment) rows qs)
  directories moment [] rows has = has
  directories moment (q ∷ qs) rows has = directories moment qs (with_directory moment rows q) (one_directory moment rows q has)

  -- ---- a commit

  module _ (c : Committing) where
    abbrev HasIn : Result (Taken B) TaskFailure → Type 0
    HasIn (Ok t) = Has t.rows
    HasIn (Err failure) = Unit {0}

    made : (place : AccountPath) (body : B) (t : Taken B) → is_root place ≡ false → Has t.rows → Has (kept c place body t).rows
    made place body t below has = put (with_parents t.rows place c.moment) place (entry.Object (task_object (next_number c t) body c.moment)) (other place below) (directories c.moment (paths_above place) t.rows has)

    held : (place : AccountPath) (t : Taken B) → can_hold_object t.rows c.job place ≡ true → is_root place ≡ false
    held place t is =
        let both = and_parts (is_task_place c.job place.area place.parts && not (is_directory (at t.rows place))) (not (list_any (is_object_at t.rows) (paths_above place))) is in
        below_root c.job place.area place.parts (and_parts (is_task_place c.job place.area place.parts) (not (is_directory (at t.rows place))) both.0).0

    placed : (place : AccountPath) (body : B) (t : Taken B) → Has t.rows → (b : Bool) → can_hold_object t.rows c.job place ≡ b → HasIn (cond b (Ok (kept c place body t)) (Err TaskPlaceRefused))
    placed place body t has true is = made place body t (held place t is) has
    placed place body t has false is = tt

    emitted : (place : AccountPath) (body : B) (reducer : Option ℕ) (t : Taken B) → Has t.rows → (b : Bool) → can_hold_object t.rows c.job place ≡ b → HasIn (and_then (λ new. Ok (with_output c place body reducer new)) (cond b (Ok (kept c place body t)) (Err TaskPlaceRefused)))
    emitted place body reducer t has true is = made place body t (held place t is) has
    emitted place body reducer t has false is = tt

    referred : (name : AccountPath) (t : Taken B) → Has t.rows → (o : Option (Object B)) → HasIn (take_reference c name t o)
    referred name t has None = tt
    referred name t has (Some o) = has

    one : (r : TaskRecord B) (t : Taken B) → Has t.rows → HasIn (take_record c t r)
    one (Emit None reducer body) t has = made (fresh_place c t) body t refl has
    one (Emit (Some place) reducer body) t has = emitted place body reducer t has (can_hold_object t.rows c.job place) refl
    one (Keep place body) t has = placed place body t has (can_hold_object t.rows c.job place) refl
    one (Ref name) t has = referred name t has (object_at t.rows name)

    next : (r : TaskRecord B) (x : Result (Taken B) TaskFailure) → HasIn x → HasIn (and_then (λ t. take_record c t r) x)
    next r (Ok t) has = one r t has
    next r (Err failure) has = tt

    all : (rs : List (TaskRecord B)) (x : Result (Taken B) TaskFailure) → HasIn x → HasIn (take_records c rs x)
    all [] x has = has
    all (r ∷ rs) x has = all rs (and_then (λ t. take_record c t r) x) (next r x has)

    after : (rows : Rows B) (x : Result (Taken B) TaskFailure) → Has rows → HasIn x → Has (resolved rows x).rows
    after rows (Ok t) has in_t = in_t
    after rows (Err failure) has in_t = has

    resolve_has : (rows : Rows B) (f : Fate B) → Has rows → Has (resolve c rows f).rows
    resolve_has rows (fate.Good records) has =
        after rows (take_records c records (Ok (record { rows = rows; items = []; made = 0 }))) has (all records (Ok (record { rows = rows; items = []; made = 0 })) has)
    resolve_has rows (fate.Bad failure status stderr) has = has

  commit_has : (s : State B) (o : Option (Job B)) (phase place : ℕ) (f : Fate B) (moment : ℕ) → Has s.rows → Has (commit s o phase place f moment).rows
  commit_has s None phase place f moment has = has
  commit_has s (Some j) phase place f moment has = resolve_has (record { job = j.number; phase = phase; root = task_root j phase place; position = s.count; moment = moment }) s.rows f has

  -- ---- each command

  archive_has : (index : ℕ) (rows : Rows B) (job position moment : ℕ) (names : List (List ℕ × List ℕ)) (bodies : List B) → Has rows → Has (with_archive_from index rows job position moment names bodies)
  archive_has index rows job position moment [] bodies has = has
  archive_has index rows job position moment (n ∷ ns) [] has = has
  archive_has index rows job position moment (n ∷ ns) (b ∷ bs) has =
      archive_has (index + 1) _ job position moment ns bs (put rows (in_job_folder job n.0) (entry.Object (archive_object (number_at position index) n.1 b moment)) (other (in_job_folder job n.0) refl) has)

  upload_has : (size : B → ℕ) (s : State B) (o : Option (Upload B)) (parts : List ℕ) (body : B) (moment : ℕ) → upload_refusal o (commit_upload_refusal size s.rows parts) ≡ None → Has s.rows → Has (commit_upload s o body moment).rows
  upload_has size s None parts body moment free has = has
  upload_has size s (Some u) parts body moment free has =
      let listed_refusal = refuse_if (not (list_all (is_listed u.parts) (enumerate_from 0 parts))) UploadPart in
      let size_refusal = refuse_if (nat_lt LARGEST_JOINED (sum_by (λ p. size p.body) (listed u.parts parts))) UploadTooLarge in
      let first = neither (refuse_if (not (is_open u.stage)) UploadState) (commit_upload_refusal size s.rows parts u) free in
      let second = neither listed_refusal (first_refusal size_refusal (put_refusal s.rows u.path)) first.1 in
      let third = neither size_refusal (put_refusal s.rows u.path) second.1 in
      put s.rows u.path (entry.Object (upload_object (number_at s.count 0) u body moment)) (other u.path (put-allowed s.rows u.path third.1).below) has

  pub root_stays : (size : B → ℕ) (s : State B) (c : Command B) → IsTree s.rows → allowed size s c ≡ None → Has s.rows → Has (step s c).rows
  unfolding change step allowed
  root_stays size s (Put path content_type body durability metadata moment) tree free has =
      put s.rows path (entry.Object (put_object (number_at s.count 0) body content_type durability metadata moment)) (other path (put-allowed s.rows path (neither _ _ free).1).below) has
  root_stays size s (MakeDirectory path moment) tree free has =
      put s.rows path (entry.Directory moment) (vacant s.rows path has (ap is_some (make_directory-allowed s.rows path (neither _ _ free).1).0)) has
  root_stays size s (Link path source moment) tree free has =
      link s.rows path (object_at s.rows source) moment (other path (put-allowed s.rows path (link-allowed s.rows path source (neither _ _ free).1)).below) has
  root_stays size s (Delete path moment) tree free has = removed s.rows path tree (other path (remove-allowed s.rows path (neither _ _ free).1).below) has
  root_stays size s (NewJob document moment) tree free has =
      put _ (job_stor (number_at s.count 0)) (entry.Directory moment) (other (job_stor (number_at s.count 0)) refl) (put s.rows (job_folder (number_at s.count 0)) (entry.Directory moment) (other (job_folder (number_at s.count 0)) refl) has)
  root_stays size s (AddInputs job lines moment) tree free has = has
  root_stays size s (EndInput job moment) tree free has = has
  root_stays size s (Commit job phase place f moment) tree free has = commit_has s (job_at s.jobs job) phase place f moment has
  root_stays size s (Finish job moment) tree free has = has
  root_stays size s (Cancel job moment) tree free has = has
  root_stays size s (Close job cancelled archive moment) tree free has = archive_has 0 s.rows job s.count moment archive_names (archive_bodies archive) has
  root_stays size s (NewUpload path content_type moment) tree free has = has
  root_stays size s (PutPart upload index body moment) tree free has = has
  root_stays size s (CommitUpload upload parts body moment) tree free has = upload_has size s (upload_at s.uploads upload) parts body moment free has
  root_stays size s (AbortUpload upload moment) tree free has = has
