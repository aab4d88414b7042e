-- How the bytes of stored parts become one body in a run of records.
use Rattle.std.specs.Prelude.{◌≡◌, ℕ, ◌+◌, ◌≤◌, ◌<◌, true, IsTrue, List, length, Option}
use Rattle.std.specs.List.{flat_map, sum_by}
use Rattle.std.specs.Option.{ForSome}
use Rattle.md5.specs.Md5.{Holds, md5}
use Rattle.md5.specs.declared.Md5.{Md5}
use Rattle.mt_base.specs.Lists.{IsPrefixOf}
use Rattle.mt_disk.specs.Files.{Files}
use Rattle.mt_log.specs.LogState.{LogState, told}
use Rattle.mt_log.specs.RunState.{RunState}
use Rattle.mt_types.specs.Limits.{is_placed}
use Rattle.mt_types.specs.declared.body.Body.{Body}
use Rattle.mt_types.specs.declared.upload.PartRow.{PartRow}
use Rattle.mt_body.specs.Stored.{IsCut, bytes_of, pieces_size, pieces_that_fit}
use Rattle.mt_body.specs.Storing.{StandsBehind, TakesMore}
use Rattle.mt_join.specs.declared.pieces.Joining.{Joining}
use Rattle.mt_join.specs.declared.pieces.Joining.TheVariants as joining

-- the bytes of these parts in a list of payloads, one behind another
abbrev pub joined : List (List ℕ) → List (PartRow Body) → List ℕ
joined ps parts = flat_map (λ p. bytes_of ps p.body) parts

-- how many bytes they have together
abbrev pub joined_len : List (PartRow Body) → ℕ
joined_len parts = sum_by (λ p. p.body.len) parts

-- all bytes of the parts are in the run as a body
pub record Whole (body : Body) (parts : List (PartRow Body)) (seen seen' : Option Files) (log : LogState) (run run' : RunState) : Type 0 where
  pub bytes : List ℕ
  pub are : ForSome (told seen) (λ ps. bytes ≡ joined ps parts)
  -- also over a disk that tells nothing
  pub size : length bytes ≡ joined_len parts
  pub pieces : List (List ℕ)
  pub cut : IsCut pieces bytes
  pub taken : TakesMore seen log run pieces seen' run'
  pub len : body.len ≡ length bytes
  pub placed : IsTrue (is_placed body)
  pub digest : body.md5 ≡ md5 bytes
  pub stands : StandsBehind seen log run pieces body bytes
  pub next : run'.next ≡ run.next + pieces_size (length bytes)
  -- where the log was not over its limit before
  pub fits : run.next + 1 ≤ log.limit → run'.next + 1 ≤ log.limit

-- not all bytes of the parts have room, and those of the front that have are in the run as full pieces
pub record Front (parts : List (PartRow Body)) (seen seen' : Option Files) (log : LogState) (run run' : RunState) : Type 0 where
  pub front : List ℕ
  pub is_front : ForSome (told seen) (λ ps. IsPrefixOf front (joined ps parts))
  pub pieces : List (List ℕ)
  pub cut : IsCut pieces front
  pub taken : TakesMore seen log run pieces seen' run'
  pub next : run'.next ≡ run.next + pieces_that_fit log.limit (run.next + 1) (joined_len parts)
  pub lacks : log.limit < run.next + pieces_size (joined_len parts) + 1

-- what became of a join
abbrev pub Joins : Joining → List (PartRow Body) → Option Files → Option Files → LogState → LogState → RunState → RunState → Type 0
Joins (joining.Joined body) parts seen seen' log log' run run' = Whole body parts seen seen' log run run' × (log' ≡ log)
Joins joining.Full parts seen seen' log log' run run' = Front parts seen seen' log run run' × (log' ≡ log)
Joins joining.Disk parts seen seen' log log' run run' = log' ≡ record log { closed = true }
Joins joining.Memory parts seen seen' log log' run run' = (log' ≡ log) × (run' ≡ run)

-- the answer where no byte is left
abbrev pub WholeIs : Joining → ℕ → ℕ → Md5 → Type 0
WholeIs (joining.Joined body) first len sum = (body.first ≡ first) × (body.len ≡ len) × ((bytes : List ℕ) → Holds sum bytes → body.md5 ≡ md5 bytes)
WholeIs _ first len sum = ⊥
