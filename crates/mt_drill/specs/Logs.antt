-- The log before a drill.
use Rattle.std.specs.Prelude.{◌≡◌, ℕ, List, [], ◌∷◌, Ok}
use Rattle.mt_disk.specs.Files.{Files}
use Rattle.mt_log.specs.LogImage.{payloads}

-- the files' log can be read, and has a record
abbrev pub HasRecord : Files → Type 0
HasRecord files = (p : List ℕ) × (ps : List (List ℕ)) × (payloads files ≡ Ok (p ∷ ps))

-- or none
abbrev pub HasNone : Files → Type 0
HasNone files = payloads files ≡ Ok []
