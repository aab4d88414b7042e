-- What the children of the table end in.
use Rattle.std.specs.Prelude.{ℕ, Bool, List, [], ◌∷◌, Option, None, Some, if◌then◌else◌}
use Rattle.mt_types.specs.declared.task.Made.{Made}
use Rattle.mt_types.specs.declared.task.Made.TheVariants as made
use Rattle.mt_types.specs.declared.task.Raw.{Raw}
use Rattle.mt_types.specs.declared.task.Run.{Run}

-- standard output, and a record file 3
abbrev pub whole : List ℕ → List ℕ → Made
whole out file = made.Whole out (record { number = 3; bytes = file } ∷ [])

-- its input and its base, or a sum that is too large
abbrev pub made_of : Option ℕ → List ℕ → List ℕ → Made
made_of None input base = whole input base
made_of (Some total) input base = made.TooLarge total

-- 0, or the other way 7; its command line on standard error
abbrev pub raw_of : Option ℕ → Run → List ℕ → Bool → Raw
raw_of too_large run input otherwise = record { status = if otherwise then 7 else 0; stderr = run.exec; made = made_of too_large input run.base }
