-- Files in a spool: each whole, under the lowest number that is free.
use Rattle.std.specs.Prelude.{◌≡◌, ◌<◌, ℕ, true, false, List, [], ◌∷◌, ◌++◌, length, Option, Some, None, IfSome, option_map, ◌⊎◌, Result, Ok, Err}
use Rattle.mt_base.specs.Counts.{NeverFell, Rose}
use Rattle.mt_base.specs.Lists.{IsPrefixOf}
use Rattle.mt_types.specs.declared.limits.TheConstants.{MOST_RECORDS}
use Rattle.mt_spawn.specs.Spools.{AppendsFront, SpoolFile, has_file, with_bytes, with_file}
use Rattle.mt_spawn.specs.declared.spool.SpoolFault.{SpoolFault}
use Rattle.mt_helper.specs.declared.spooling.Halt.{Halt}
use Rattle.mt_helper.specs.declared.spooling.Halt.TheVariants.{Taken, Fault}

-- no file has this number, and each number below it is taken
pub record IsLowestFree (files : List SpoolFile) (n : ℕ) : Type 0 where
  pub small : n < MOST_RECORDS
  pub free : has_file n files ≡ false
  pub below : (k : ℕ) → k < n → has_file k files ≡ true

-- each number below this one is taken
abbrev pub AreTakenBelow : ℕ → List SpoolFile → Type 0
AreTakenBelow n files = (k : ℕ) → k < n → has_file k files ≡ true

-- all 4,095 numbers are taken
abbrev pub AreTaken : List SpoolFile → Type 0
AreTaken files = (k : ℕ) → k < MOST_RECORDS → has_file k files ≡ true

-- the files are told before and after, and go on so; or they are never told
abbrev pub Goes : Option (List SpoolFile) → (List SpoolFile → List SpoolFile → Type 0) → Option (List SpoolFile) → Type 0
Goes None P files' = files' ≡ None
Goes (Some fs) P files' = (gs : List SpoolFile) × (files' ≡ Some gs) × P fs gs

-- a file more, of this number and with these bytes
abbrev pub with_record : ℕ → List ℕ → List SpoolFile → List SpoolFile
with_record n bytes files = files ++ record { number = n; bytes = bytes } ∷ []

-- ---- one number, one piece, one file

-- an empty file is made, of the lowest number that is free
abbrev pub Takes : Option (List SpoolFile) → Result ℕ Halt → Option (List SpoolFile) → Type 0
Takes files (Ok n) files' = IfSome files (λ fs. IsLowestFree fs n) × (files' ≡ option_map (with_file n) files)
Takes files (Err Taken) files' = IfSome files AreTaken × (files' ≡ files)
Takes files (Err Fault) files' = files' ≡ files

-- a piece is added, which may be empty; or a front of it
abbrev pub Adds : Option (List SpoolFile) → ℕ → List ℕ → Result (Unit {0}) SpoolFault → Option (List SpoolFile) → Type 0
Adds files n piece (Ok _) files' = files' ≡ option_map (with_bytes n piece) files
Adds files n piece (Err _) files' = AppendsFront files n piece files'

-- a file is made with all of these bytes
pub record PutsWhole (files : Option (List SpoolFile)) (bytes : List ℕ) (files' : Option (List SpoolFile)) : Type 0 where
  pub number : ℕ
  pub free : IfSome files (λ fs. IsLowestFree fs number)
  pub put : files' ≡ option_map (with_record number bytes) files

-- a file is made with a front of these bytes, and not all of them
pub record PutsFront (files : Option (List SpoolFile)) (bytes : List ℕ) (files' : Option (List SpoolFile)) : Type 0 where
  pub number : ℕ
  pub front : List ℕ
  pub begins : IsPrefixOf front bytes
  pub short : length front < length bytes
  pub free : IfSome files (λ fs. IsLowestFree fs number)
  pub put : files' ≡ option_map (with_record number front) files

-- a file is made whole; or not whole, or not at all
abbrev pub Puts : Option (List SpoolFile) → List ℕ → Result (Unit {0}) Halt → Option (List SpoolFile) → Type 0
Puts files bytes (Ok _) files' = PutsWhole files bytes files'
Puts files bytes (Err Taken) files' = IfSome files AreTaken × (files' ≡ files)
Puts files bytes (Err Fault) files' = (files' ≡ files) ⊎ PutsFront files bytes files'

-- the same, with the number of a file that is whole
abbrev pub PutsAt : Option (List SpoolFile) → List ℕ → Result ℕ Halt → Option (List SpoolFile) → Type 0
PutsAt files bytes (Ok n) files' = IfSome files (λ fs. IsLowestFree fs n) × (files' ≡ option_map (with_record n bytes) files)
PutsAt files bytes (Err Taken) files' = IfSome files AreTaken × (files' ≡ files)
PutsAt files bytes (Err Fault) files' = (files' ≡ files) ⊎ PutsFront files bytes files'

-- a fault of the spool is counted
abbrev pub Halts : {A : Type 0} → ℕ → Result A Halt → ℕ → Type 0
Halts faults (Ok _) faults' = NeverFell faults faults'
Halts faults (Err Taken) faults' = NeverFell faults faults'
Halts faults (Err Fault) faults' = Rose faults faults'

-- ---- several files

-- files of these bytes, each whole
abbrev pub Added : List (List ℕ) → List SpoolFile → List SpoolFile → Type 0
Added [] fs gs = gs ≡ fs
Added (bytes ∷ others) fs gs = (n : ℕ) × IsLowestFree fs n × Added others (with_record n bytes fs) gs

-- a file of a front of these bytes, and not all of them
pub record HasBegun (bytes : List ℕ) (fs gs : List SpoolFile) : Type 0 where
  pub number : ℕ
  pub front : List ℕ
  pub begins : IsPrefixOf front bytes
  pub short : length front < length bytes
  pub free : IsLowestFree fs number
  pub put : gs ≡ with_record number front fs

-- the first of them, each whole, and then a front of the next, or nothing: never all of them
abbrev pub AddedFront : List (List ℕ) → List SpoolFile → List SpoolFile → Type 0
AddedFront [] fs gs = ⊥
AddedFront (bytes ∷ others) fs gs =
    (gs ≡ fs) ⊎ (HasBegun bytes fs gs ⊎ ((n : ℕ) × IsLowestFree fs n × AddedFront others (with_record n bytes fs) gs))
