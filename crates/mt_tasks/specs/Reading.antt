-- What a task reads, as the bodies in the log that come with its order.
use Rattle.std.specs.Prelude.{◌≡◌, ◌≢◌, ◌≤◌, ◌+◌, ℕ, nat_lt, Bool, false, true, List, [], ◌∷◌, ◌++◌, length, map, drop, get_or, Option, Some}
use Rattle.std.specs.List.{flat_map, list_all, slice_get, zip}
use Rattle.std.specs.Option.{ForSome, option_map, option_map_or, unwrap_or}
use Rattle.mt_types.specs.declared.body.Body.{Body}
use Rattle.mt_types.specs.declared.document.Phase.{Phase}
use Rattle.mt_types.specs.declared.job.Job.{Job}
use Rattle.mt_types.specs.declared.job.Task.{Task}
use Rattle.mt_body.specs.Stored.{bytes_of, is_stored}
use Rattle.mt_disk.specs.Files.{Files, contents}
use Rattle.mt_disk.specs.declared.disk.FileNo.{FileNo}
use Rattle.mt_feeds.specs.Reading.{task_items}
use Rattle.mt_log.specs.LogImage.{chosen_file, magic_of, payloads_of, record_of}
use Rattle.mt_log.specs.LogState.{told}
use Rattle.mt_model.specs.State.{job_at}
use Rattle.mt_opening.specs.Current.{EngineState}
use Rattle.mt_tasks.specs.Standing.{is_ready_in}
use Rattle.mt_tasks.specs.declared.bodies.Place.{Place}

module _ {B : Type 0} where
  -- what the assets of a phase held when the job was made
  abbrev pub assets_held : Job B → ℕ → Phase → List B
  assets_held job phase p = map (λ a. a.1) (zip p.assets (unwrap_or (slice_get job.assets phase) []))

  -- the assets of a task of a job; none where the job doesn't have that phase
  abbrev pub task_assets : ℕ → Job B → List B
  task_assets phase job = option_map_or (assets_held job phase) (slice_get job.document.phases phase) []

  -- the bodies that come with the order of a task: of what it reads, and then of its assets
  abbrev pub bodies_with : ℕ → ℕ → Job B → List B
  bodies_with phase place job = map (λ i. i.body) (task_items phase place job) ++ task_assets phase job

  -- the same, if there is such a job
  abbrev pub bodies_of_task : List (Job B) → Task → List B
  bodies_of_task jobs t = option_map_or (bodies_with t.phase t.place) (job_at jobs t.job) []

-- what is left of bodies, from a place in one of them on
abbrev pub left_at : (Body → List ℕ) → List Body → Place → List ℕ
left_at content bodies place = drop place.at (flat_map content (drop place.next bodies))

-- the place is one within its body, or behind all
abbrev pub IsPlace : List Body → Place → Type 0
IsPlace bodies place = ForSome (slice_get bodies place.next) (λ b. place.at ≤ b.len)

-- the byte behind so many of a file
abbrev pub byte_behind : List ℕ → List ℕ → ℕ
byte_behind front bytes = get_or (drop (length front) bytes) 0 0

-- The log of files, as `IsLogOf` has it, without a word on what stands behind its gate: so it is a fact alone, which a value may keep.
pub record IsLogThere (files : Files) (file : FileNo) (gate : ℕ) (old : Bool) : Type 0 where
  pub is_chosen : chosen_file files ≡ Some file
  pub shut : byte_behind (magic_of old ++ flat_map record_of (payloads_of files)) (contents files file) ≢ 1
  pub place : gate ≡ length (magic_of old ++ flat_map record_of (payloads_of files))
  pub whole : contents files file ≡ (magic_of old ++ flat_map record_of (payloads_of files))
      ++ byte_behind (magic_of old ++ flat_map record_of (payloads_of files)) (contents files file) ∷ drop (length (magic_of old ++ flat_map record_of (payloads_of files)) + 1) (contents files file)
  pub each : list_all (λ p. nat_lt (length p) 4294967296) (payloads_of files) ≡ true

-- An open engine stands over a disk, each body that this ready task reads is stored in its log, and there are so many.
pub record ReadsTask {D : Type 0} (seen : D → Option Files) (disk : D) (engine : EngineState) (task : Task) (count : ℕ) : Type 0 where
  pub is_open : engine.log.closed ≡ false
  pub there : ForSome (seen disk) (λ files. IsLogThere files engine.log.file engine.log.gate engine.log.is_old)
  pub ready : is_ready_in engine.state task ≡ true
  pub stored : ForSome (told (seen disk)) (λ ps. list_all (is_stored ps) (bodies_of_task engine.state.jobs task) ≡ true)
  pub count_is : count ≡ length (bodies_of_task engine.state.jobs task)

-- the bytes of a task that are left from a place on, where the disk tells what it holds
abbrev pub input_left : Option Files → EngineState → Task → Place → Option (List ℕ)
input_left seen engine task place = option_map (λ ps. left_at (bytes_of ps) (bodies_of_task engine.state.jobs task) place) (told seen)

-- where a task is read from
abbrev pub first_place : Place
first_place = record { next = 0; at = 0 }
