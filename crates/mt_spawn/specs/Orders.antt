-- What a child is run with, by its order and the bytes that came with it, and what is told of it once it has ended.
use Rattle.std.specs.Prelude.{ℕ, List, [], ◌∷◌, length, map, take, drop}
use Rattle.mt_types.specs.declared.task.Asset.{Asset}
use Rattle.mt_types.specs.declared.task.Made.{Made}
use Rattle.mt_types.specs.declared.task.Made.TheVariants as made
use Rattle.mt_types.specs.declared.task.Raw.{Raw}
use Rattle.mt_types.specs.declared.task.RecordFile.{RecordFile}
use Rattle.mt_types.specs.declared.task.Run.{Run}
use Rattle.mt_spawn.specs.declared.task.AssetSize.{AssetSize}
use Rattle.mt_spawn.specs.declared.task.FileSize.{FileSize}
use Rattle.mt_spawn.specs.declared.task.Left.{Left}
use Rattle.mt_spawn.specs.declared.task.Order.{Order}
use Rattle.mt_spawn.specs.declared.task.Sizes.{Sizes}
use Rattle.mt_spawn.specs.declared.task.Sizes.TheVariants as sizes

-- assets of these sizes, one behind another in the bytes
abbrev pub cut_assets : List AssetSize → List ℕ → List Asset
cut_assets [] bytes = []
cut_assets (a ∷ rest) bytes = record { name = a.name; bytes = take a.len bytes } ∷ cut_assets rest (drop a.len bytes)

-- what the child is run with: of the bytes the input comes first, and then each asset
abbrev pub run_from : Order → List ℕ → Run
run_from o bytes = record {
  job = o.job;
  phase = o.phase;
  exec = o.exec;
  init = o.init;
  base = o.base;
  object = o.object;
  reducer = o.reducer;
  assets = cut_assets o.assets (drop o.input bytes);
}

-- what it reads
abbrev pub input_from : Order → List ℕ → List ℕ
input_from o bytes = take o.input bytes

abbrev pub size_of : RecordFile → FileSize
size_of f = record { number = f.number; len = length f.bytes }

abbrev pub sizes_of : Made → Sizes
sizes_of (made.Whole out files) = sizes.Whole (length out) (map size_of files)
sizes_of (made.TooLarge total) = sizes.TooLarge total

-- what is told of an outcome before its bytes are read
abbrev pub told_of : Raw → Left
told_of raw = record { status = raw.status; stderr = raw.stderr; made = sizes_of raw.made }
