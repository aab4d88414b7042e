-- The parts of what an ended child wrote, and how they are read.
use Rattle.std.specs.Prelude.{◌≡◌, ◌≤◌, ◌<◌, ◌+◌, ◌-◌, ℕ, List, [], length, take, drop, Option, Some, None, IfSome, option_map}
use Rattle.std.specs.List.{slice_get}
use Rattle.mt_base.specs.Counts.{NeverFell, Rose}
use Rattle.mt_edge.specs.declared.source.ReadStep.{ReadStep}
use Rattle.mt_edge.specs.declared.source.ReadStep.TheVariants as read
use Rattle.mt_types.specs.declared.task.Made.{Made}
use Rattle.mt_types.specs.declared.task.Made.TheVariants as made
use Rattle.mt_types.specs.declared.task.Raw.{Raw}
use Rattle.mt_types.specs.declared.task.RecordFile.{RecordFile}
use Rattle.mt_spawn.specs.declared.task.FileSize.{FileSize}
use Rattle.mt_spawn.specs.declared.task.Left.{Left}
use Rattle.mt_spawn.specs.declared.task.Part.{Part}
use Rattle.mt_spawn.specs.declared.task.Part.TheVariants as part
use Rattle.mt_spawn.specs.declared.task.Sizes.{Sizes}
use Rattle.mt_spawn.specs.declared.task.Sizes.TheVariants as sizes

abbrev pub file_bytes : Option RecordFile → List ℕ
file_bytes (Some f) = f.bytes
file_bytes None = []

-- the bytes of a part; of a file that isn't there, and of what was not kept, none
abbrev pub part_bytes : Made → Part → List ℕ
part_bytes (made.Whole out files) part.Out = out
part_bytes (made.Whole out files) (part.File index) = file_bytes (slice_get files index)
part_bytes (made.TooLarge total) p = []

abbrev pub file_size : Option FileSize → ℕ
file_size (Some f) = f.len
file_size None = 0

abbrev pub size_among : Sizes → Part → ℕ
size_among (sizes.Whole out files) part.Out = out
size_among (sizes.Whole out files) (part.File index) = file_size (slice_get files index)
size_among (sizes.TooLarge total) p = 0

-- the size of a part of what is held; where nothing is, 0
abbrev pub size_in : Option Left → Part → ℕ
size_in (Some left) p = size_among left.made p
size_in None p = 0

-- the bytes of a part, where the outcome is told
abbrev pub told_part : Option Raw → Part → Option (List ℕ)
told_part told p = option_map (λ raw. part_bytes raw.made p) told

-- those from a place up to another
abbrev pub told_between : Option Raw → Part → ℕ → ℕ → Option (List ℕ)
told_between told p at end = option_map (λ bytes. take (end - at) (drop at bytes)) (told_part told p)

-- a read of a part of this size from a place on: some bytes within the part, or the end where none is left, or a counted fault
abbrev pub ReadsPart : Option (List ℕ) → ℕ → ℕ → ℕ → List ℕ → ReadStep → ℕ → Type 0
ReadsPart told size at faults into (read.Took n) faults' =
    (0 < n) × (n ≤ length into) × (at + n ≤ size) × IfSome told (λ bytes. take n into ≡ take n (drop at bytes)) × NeverFell faults faults'
ReadsPart told size at faults into read.End faults' = (size ≤ at) × NeverFell faults faults'
ReadsPart told size at faults into read.Failed faults' = Rose faults faults'
