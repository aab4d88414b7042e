-- What holds of every state that well made, allowed commands reach.
use Rattle.std.specs.Prelude.{◌≡◌, ℕ, ◌+◌, ◌-◌, ◌*◌, ◌%◌, ◌==◌, ◌<◌, ◌≤◌, Bool, true, false, not, ◌&&◌, ◌||◌, List, [], ◌∷◌, map, length, drop, bytes_eq, codes, All, Option, Some, None, IsSome, is_some}
use Rattle.std.specs.List.{AllByRecursion, find, list_all, list_any}
use Rattle.std.specs.List.Sorted.{IsStrictlySortedBy}
use Rattle.std.specs.Option.{option_map_or}
use Rattle.std.specs.Ordering.{nat_cmp}
use Rattle.mt_ident.specs.Identifiers.{identifier_number}
use Rattle.mt_model.specs.Types.{AccountPath, Entry, IsComponent, IsDocument, IsPath, Item, Job, Jobs, LAST_PART, MOST_RECORDS, NUMBERS_A_COMMAND, Object, PartRow, Upload}
use Rattle.mt_types.specs.WellMade.{IsWellMadeLine}
use Rattle.mt_types.specs.declared.object.Entry.TheVariants as entry
use Rattle.mt_model.specs.Feed.{items_of}
use Rattle.mt_model.specs.JobSteps.{archive_names}
use Rattle.mt_model.specs.Limits.{longest_root, most_inputs}
use Rattle.mt_model.specs.Names.{ends_in_output, in_job_folder, job_folder, job_name, job_stor}
use Rattle.mt_model.specs.Resolve.{is_object_at}
use Rattle.mt_model.specs.Rows.{Rows, IsTree, at, is_directory, is_root, object_at, object_in}
use Rattle.mt_model.specs.Sound.{Sound}
use Rattle.mt_model.specs.State.{State}
use Rattle.mt_model.specs.UploadSteps.{is_jobs}

-- below the first number of a position
abbrev pub IsBelow : ℕ → ℕ → Type 0
IsBelow count number = number < count * NUMBERS_A_COMMAND

-- the number of a job or an upload: the first of its position
pub record IsFirstNumber (count number : ℕ) : Type 0 where
  pub first : number % NUMBERS_A_COMMAND ≡ 0
  pub below : IsBelow count number

-- one of the five names of an archive
abbrev pub is_archive_name : List ℕ → Bool
is_archive_name name = list_any (λ n. bytes_eq n.0 name) archive_names

module _ {B : Type 0} where
  -- each path is one, the tree is whole, and the numbers of objects are of commands so far
  pub record LawfulRows (count : ℕ) (rows : Rows B) : Type 0 where
    pub tree : IsTree rows
    pub paths : (p : AccountPath) → IsSome (at rows p) → IsPath p
    pub numbers : (p : AccountPath) (object : Object B) → object_at rows p ≡ Some object → IsBelow count object.number

  -- the job of a name, if there is one
  abbrev pub job_named : List (Job B) → List ℕ → Option (Job B)
  job_named jobs name = find (λ j. bytes_eq (job_name j.number) name) jobs

  -- the object whose number its name ends in, with nothing below
  abbrev pub is_output : List ℕ → List (List ℕ) → Entry B → Bool
  is_output name [] (entry.Directory mtime) = false
  is_output name [] (entry.Object object) = option_map_or (λ n. n == object.number) (identifier_number 3 (drop (length name - 36) name)) false
  is_output name (below ∷ more) e = false

  -- what may stand below the folder of a job: `stor`, the archive of a job that is done, and what tasks make
  abbrev pub fits_in_folder : Job B → List (List ℕ) → Entry B → Bool
  fits_in_folder job [] e = is_directory (Some e)
  fits_in_folder job (name ∷ []) e =
      (bytes_eq name (codes "stor") && is_directory (Some e)) || (is_archive_name name && is_some (object_in (Some e)) && is_some job.done)
  fits_in_folder job (folder ∷ name ∷ more) e = bytes_eq folder (codes "stor") && (not (ends_in_output name) || is_output name more e)

  -- it stands in the folder of a job
  abbrev pub fits_below : Option (Job B) → List (List ℕ) → Entry B → Bool
  fits_below None names e = false
  fits_below (Some job) names e = fits_in_folder job names e

  -- a job has its two folders, and all of its archive or none
  pub record HasFolders (rows : Rows B) (job : Job B) : Type 0 where
    pub folder : is_directory (at rows (job_folder job.number)) ≡ true
    pub stor : is_directory (at rows (job_stor job.number)) ≡ true
    pub archive : (list_all (λ n. is_object_at rows (in_job_folder job.number n.0)) archive_names
        || list_all (λ n. not (is_some (at rows (in_job_folder job.number n.0)))) archive_names) ≡ true

  -- it is named by a path, and its root is a name of at most 200 bytes, of which the names of outputs can be made
  pub record LawfulItem (item : Item B) : Type 0 where
    pub name : IsPath item.name
    pub component : IsComponent item.root
    pub short : length item.root ≤ longest_root

  -- its number is of a command so far, it has at most 1,000,000 inputs and missing lines, and each of its tasks at most
  -- 4,095 outputs; its names can be made, its document is one with a body for each asset, and its trace is sound
  pub record LawfulJob (count : ℕ) (job : Job B) : Type 0 where
    pub number : IsFirstNumber count job.number
    pub positions : All (λ e. e.position < count) job.trace
    pub few : length job.inputs + length job.missing ≤ most_inputs
    pub inputs : All LawfulItem job.inputs
    pub missing : AllByRecursion IsWellMadeLine job.missing
    pub few_each : All (λ e. length (items_of e.outcome) ≤ MOST_RECORDS) job.trace
    pub outputs : All (λ e. All LawfulItem (items_of e.outcome)) job.trace
    pub document : IsDocument job.document
    pub assets : map length job.assets ≡ map (λ p. length p.assets) job.document.phases
    pub sound : Sound job

  -- the area of jobs holds their folders, with what belongs there, and nothing else
  pub record LawfulJobs (count : ℕ) (rows : Rows B) (jobs : List (Job B)) : Type 0 where
    pub rising : IsStrictlySortedBy nat_cmp (map (λ j. j.number) jobs)
    pub each : All (LawfulJob count) jobs
    pub folders : All (HasFolders rows) jobs
    pub entries : (id : List ℕ) (names : List (List ℕ)) (e : Entry B) → at rows (record { area = Jobs; parts = id ∷ names }) ≡ Some e → fits_below (job_named jobs id) names e ≡ true

  -- its index and its number are within their bounds
  pub record LawfulPart (count : ℕ) (part : PartRow B) : Type 0 where
    pub index : part.index ≤ LAST_PART
    pub number : IsBelow count part.number

  -- its number is of a command so far, an object can be asked for at its path, and its parts rise
  pub record LawfulUpload (count : ℕ) (u : Upload B) : Type 0 where
    pub number : IsFirstNumber count u.number
    pub path : IsPath u.path
    pub place : (is_jobs u.path.area || is_root u.path) ≡ false
    pub rising : IsStrictlySortedBy nat_cmp (map (λ p. p.index) u.parts)
    pub parts : All (LawfulPart count) u.parts

  -- each upload is lawful, and they rise
  pub record LawfulUploads (count : ℕ) (uploads : List (Upload B)) : Type 0 where
    pub rising : IsStrictlySortedBy nat_cmp (map (λ u. u.number) uploads)
    pub each : All (LawfulUpload count) uploads

  -- the rows, the jobs and the uploads are, under the number of commands so far
  pub record Lawful (s : State B) : Type 0 where
    pub rows : LawfulRows s.count s.rows
    pub jobs : LawfulJobs s.count s.rows s.jobs
    pub uploads : LawfulUploads s.count s.uploads
