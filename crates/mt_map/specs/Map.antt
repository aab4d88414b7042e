-- The rows of an account are a map from paths to entries: what each command changes of it.
use Rattle.std.specs.Prelude.{◌≡◌, ℕ, Bool, true, false, not, ◌&&◌, ◌||◌, List, [], ◌∷◌, bytes_eq, Option, Some, None, is_some}
use Rattle.std.specs.List.{list_any}
use Rattle.mt_model.specs.Types.{AbortUpload, AccountPath, AddInputs, Cancel, Close, Command, Commit, CommitUpload, Delete, Emit, EndInput, Fate, Field, Finish, Keep, Link, MakeDirectory, NewJob, NewUpload, Object, Put, PutPart, Ref, TaskRecord}
use Rattle.mt_model.specs.CommandStep.{put_object, step}
use Rattle.mt_model.specs.JobSteps.{archive_names}
use Rattle.mt_model.specs.Lawful.{Lawful}
use Rattle.mt_model.specs.Names.{in_job_folder, job_folder, job_name, job_stor, number_at, paths_above}
use Rattle.mt_model.specs.Resolve.{puts_at}
use Rattle.mt_model.specs.Rows.{Rows, at, is_path, object_at}
use Rattle.mt_model.specs.State.{State}
use Rattle.mt_model.specs.UploadSteps.{is_jobs}
use Rattle.mt_types.specs.declared.object.Entry.{Entry}
use Rattle.mt_types.specs.declared.object.Entry.TheVariants as entry
use Rattle.mt_types.specs.declared.task.Fate.TheVariants as fate

-- ---- what a client's command does

-- this is at a path of new rows, and at each other path what was in the old ones
pub record IsChangedAt {B : Type 0} (p : AccountPath) (e : Option (Entry B)) (old new : Rows B) : Type 0 where
  pub own : at new p ≡ e
  pub others : (q : AccountPath) → is_path p q ≡ false → at new q ≡ at old q

module _ (B : Type 0) where
  abbrev pub PutChanges : Type 0
  PutChanges = (s : State B) (p : AccountPath) (content_type : List ℕ) (body : B) (durability : Option ℕ) (metadata : List Field) (moment : ℕ)
      → IsChangedAt p (Some (entry.Object (put_object (number_at s.count 0) body content_type durability metadata moment))) s.rows (step s (Put p content_type body durability metadata moment)).rows

  abbrev pub MakeDirectoryChanges : Type 0
  MakeDirectoryChanges = (s : State B) (p : AccountPath) (moment : ℕ) → IsChangedAt p (Some (entry.Directory moment)) s.rows (step s (MakeDirectory p moment)).rows

  abbrev pub LinkChanges : Type 0
  LinkChanges = (s : State B) (p source : AccountPath) (moment : ℕ) (o : Object B) → object_at s.rows source ≡ Some o
      → IsChangedAt p (Some (entry.Object (record o { mtime = moment }))) s.rows (step s (Link p source moment)).rows

  abbrev pub DeleteChanges : Type 0
  DeleteChanges = (s : State B) (p : AccountPath) (moment : ℕ) → Lawful s → IsChangedAt p None s.rows (step s (Delete p moment)).rows

  -- an object that was put is there
  abbrev pub IsThere : Type 0
  IsThere = (s : State B) (p : AccountPath) (content_type : List ℕ) (body : B) (durability : Option ℕ) (metadata : List Field) (moment : ℕ)
      → object_at (step s (Put p content_type body durability metadata moment)).rows p ≡ Some (put_object (number_at s.count 0) body content_type durability metadata moment)

-- ---- which paths any command may change

-- a path begins with this name, or is a root
abbrev pub begins_with : List ℕ → List (List ℕ) → Bool
begins_with name [] = true
begins_with name (first ∷ rest) = bytes_eq first name

-- a path is in the folder of this job, or above it
abbrev pub is_of_job : ℕ → AccountPath → Bool
is_of_job job p = is_jobs p.area && begins_with (job_name job) p.parts

module _ {B : Type 0} where
  -- a record puts an object below this path
  abbrev pub puts_below : AccountPath → TaskRecord B → Bool
  puts_below q (Emit None reducer body) = false
  puts_below q (Emit (Some place) reducer body) = list_any (λ d. is_path d q) (paths_above place)
  puts_below q (Keep place body) = list_any (λ d. is_path d q) (paths_above place)
  puts_below q (Ref name) = false

  -- records put an object at this path, or below it where nothing is there
  abbrev pub may_put : Rows B → AccountPath → List (TaskRecord B) → Bool
  may_put rows q records = list_any (puts_at q) records || (not (is_some (at rows q)) && list_any (puts_below q) records)

  abbrev pub fate_may_put : Rows B → AccountPath → Fate B → Bool
  fate_may_put rows q (fate.Good records) = may_put rows q records
  fate_may_put rows q (fate.Bad failure status stderr) = false

  -- a command may change what is at this path: a client's its own; a new job its two folders; a commit what is in the folder of its job and what its
  -- records name, with the directories that are missing above; the end of a job its archive
  abbrev pub may_change : State B → Command B → AccountPath → Bool
  may_change s (Put path content_type body durability metadata moment) q = is_path path q
  may_change s (MakeDirectory path moment) q = is_path path q
  may_change s (Link path source moment) q = is_path path q
  may_change s (Delete path moment) q = is_path path q
  may_change s (NewJob document moment) q = is_path (job_folder (number_at s.count 0)) q || is_path (job_stor (number_at s.count 0)) q
  may_change s (AddInputs job lines moment) q = false
  may_change s (EndInput job moment) q = false
  may_change s (Commit job phase place f moment) q = is_of_job job q || fate_may_put s.rows q f
  may_change s (Finish job moment) q = false
  may_change s (Cancel job moment) q = false
  may_change s (Close job cancelled archive moment) q = list_any (λ n. is_path (in_job_folder job n.0) q) archive_names
  may_change s (NewUpload path content_type moment) q = false
  may_change s (PutPart upload index body moment) q = false
  may_change s (CommitUpload upload parts body moment) q = true
  may_change s (AbortUpload upload moment) q = false

-- at each other path is what was there
abbrev pub OnlyItsOwn : (B : Type 0) → Type 0
OnlyItsOwn B = (s : State B) (c : Command B) (q : AccountPath) → Lawful s → may_change s c q ≡ false → at (step s c).rows q ≡ at s.rows q
