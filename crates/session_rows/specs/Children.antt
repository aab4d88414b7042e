-- What the children of the table end in.
use Rattle.std.specs.Prelude.{ℕ, Bool, List, [], if◌then◌else◌}
use Rattle.mt_types.specs.declared.task.Made.TheVariants as made
use Rattle.mt_types.specs.declared.task.Raw.{Raw}
use Rattle.mt_types.specs.declared.task.Run.{Run}

-- the input on standard output, and 0, or the other way 7
abbrev pub echoed : List ℕ → Bool → Raw
echoed input otherwise = record { status = if otherwise then 7 else 0; stderr = []; made = made.Whole input [] }

abbrev pub raw_of : Run → List ℕ → Bool → Raw
raw_of run input otherwise = echoed input otherwise
