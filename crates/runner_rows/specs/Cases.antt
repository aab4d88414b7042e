-- What the commands of the table leave of what they read.
use Rattle.std.specs.Prelude.{ℕ, Bool, List, [], ◌∷◌, ◌++◌, nat_eq, if◌then◌else◌, false}
use Rattle.std.specs.Cmp.Lexicographic.{pointwise}
use Rattle.mt_types.specs.declared.task.Asset.{Asset}
use Rattle.mt_types.specs.declared.task.Made.TheVariants as made
use Rattle.mt_types.specs.declared.task.Raw.{Raw}
use Rattle.mt_types.specs.declared.task.Run.{Run}
use Rattle.runner_rows.specs.declared.cases.Case.{Case}

-- an asset behind what is said of others: a bar, its name, an equals sign, and its bytes
abbrev pub said_asset : List ℕ → List ℕ → List ℕ → List ℕ
said_asset said name bytes = (((said ++ 124 ∷ []) ++ name) ++ 61 ∷ []) ++ bytes

abbrev pub said_assets : List ℕ → List Asset → List ℕ
said_assets said [] = said
said_assets said (a ∷ rest) = said_assets (said_asset said a.name a.bytes) rest

-- what a command reads: its input, and then its assets
abbrev pub said_of : Run → List ℕ → List ℕ
said_of run input = said_assets input run.assets

-- a case of this command, and of what it reads
abbrev pub is_case : List ℕ → List ℕ → Case → Bool
is_case exec reads c = if pointwise nat_eq c.exec exec then pointwise nat_eq c.reads reads else false

-- a command that isn't in the list
abbrev pub unknown : List ℕ → Raw
unknown exec = record { status = 99; stderr = exec; made = made.Whole [] [] }

-- of the first case that fits
abbrev pub raw_in : List ℕ → List ℕ → List Case → Raw
raw_in exec reads [] = unknown exec
raw_in exec reads (c ∷ rest) = if is_case exec reads c then c.raw else raw_in exec reads rest

abbrev pub raw_of : List Case → Run → List ℕ → Bool → Raw
raw_of cases run input otherwise = raw_in run.exec (said_of run input) cases
