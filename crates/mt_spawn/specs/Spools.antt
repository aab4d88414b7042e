-- The files that helpers write, by number.
use Rattle.std.specs.Prelude.{◌≡◌, ◌<◌, ◌==◌, ℕ, Bool, true, false, List, [], ◌∷◌, ◌++◌, length, map, Option, IfSome, option_map, Result, Ok, Err, if◌then◌else◌}
use Rattle.std.specs.List.{list_any}
use Rattle.mt_base.specs.Counts.{NeverFell, Rose}
use Rattle.mt_base.specs.Lists.{IsPrefixOf}
use Rattle.mt_spawn.specs.declared.spool.SpoolStep.{SpoolStep}
use Rattle.mt_spawn.specs.declared.spool.SpoolStep.TheVariants as step
use Rattle.mt_spawn.specs.declared.spool.SpoolFault.{SpoolFault}

-- a file: its number and its bytes
pub record SpoolFile : Type 0 where
  pub number : ℕ
  pub bytes : List ℕ

abbrev pub number_of : SpoolFile → ℕ
number_of f = f.number

-- a file of this number is there
abbrev pub has_file : ℕ → List SpoolFile → Bool
has_file n files = list_any (λ m. n == m) (map number_of files)

-- an empty file more
abbrev pub with_file : ℕ → List SpoolFile → List SpoolFile
with_file n files = files ++ record { number = n; bytes = [] } ∷ []

-- these bytes more at the end of the first file of this number
abbrev pub with_bytes : ℕ → List ℕ → List SpoolFile → List SpoolFile
with_bytes n piece [] = []
with_bytes n piece (f ∷ fs) = if n == f.number then record f { bytes = f.bytes ++ piece } ∷ fs else f ∷ with_bytes n piece fs

-- a front of the piece, and not all of it, was written
pub record AppendsFront (files : Option (List SpoolFile)) (n : ℕ) (piece : List ℕ) (files' : Option (List SpoolFile)) : Type 0 where
  pub written : List ℕ
  pub front : IsPrefixOf written piece
  pub short : length written < length piece
  pub grew : files' ≡ option_map (with_bytes n written) files

-- a file is made: where none of its number was there; or one was, and nothing is done
abbrev pub Creates : Option (List SpoolFile) → ℕ → ℕ → SpoolStep → Option (List SpoolFile) → ℕ → Type 0
Creates files faults n step.Done files' faults' =
    IfSome files (λ fs. has_file n fs ≡ false) × (files' ≡ option_map (with_file n) files) × NeverFell faults faults'
Creates files faults n step.Taken files' faults' = IfSome files (λ fs. has_file n fs ≡ true) × (files' ≡ files) × NeverFell faults faults'
Creates files faults n step.Failed files' faults' = (files' ≡ files) × Rose faults faults'

-- a piece is added to a file: whole, or a front of it before a counted fault
abbrev pub Appends : Option (List SpoolFile) → ℕ → ℕ → List ℕ → Result (Unit {0}) SpoolFault → Option (List SpoolFile) → ℕ → Type 0
Appends files faults n piece (Ok _) files' faults' = (files' ≡ option_map (with_bytes n piece) files) × NeverFell faults faults'
Appends files faults n piece (Err _) files' faults' = AppendsFront files n piece files' × Rose faults faults'
