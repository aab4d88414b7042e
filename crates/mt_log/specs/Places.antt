-- Where payloads stand in a log: a payload's place is that of its record's gate.
use Rattle.std.specs.Prelude.{◌≡◌, ℕ, if◌then◌else◌, ◌==◌, List, [], ◌∷◌, length}
use Rattle.mt_log.specs.LogImage.{log_magic}
use Rattle.mt_log.specs.LogState.{next_place}

-- the place behind these payloads, of which the first stands at this place
abbrev pub end_from : ℕ → List (List ℕ) → ℕ
end_from at [] = at
end_from at (p ∷ ps) = end_from (next_place at (length p)) ps

-- the place behind a log's payloads, which is that of its closed gate
unfoldable pub end_of : List (List ℕ) → ℕ
end_of ps = end_from (length log_magic) ps

-- those of these payloads, of which the first stands at the second place, that stand from the first place on; none where no record
-- stands there
abbrev pub from_at : ℕ → ℕ → List (List ℕ) → List (List ℕ)
from_at place at [] = []
from_at place at (p ∷ ps) = if at == place then p ∷ ps else from_at place (next_place at (length p)) ps

-- a log's payloads from a place on
unfoldable pub from_place : ℕ → List (List ℕ) → List (List ℕ)
from_place place ps = from_at place (length log_magic) ps

abbrev pub first_payload : List (List ℕ) → List ℕ
first_payload [] = []
first_payload (p ∷ ps) = p

-- the payload at a place; empty where no record stands there
abbrev pub payload_at : ℕ → List (List ℕ) → List ℕ
payload_at place ps = first_payload (from_place place ps)

-- a record stands at the place
pub record IsPlace (place : ℕ) (ps : List (List ℕ)) : Type 0 where
  pub payload : List ℕ
  pub more : List (List ℕ)
  pub is : from_place place ps ≡ payload ∷ more
