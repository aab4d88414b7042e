-- Where the pieces of bodies stand in a log, in memory of one entry a body.
use Rattle.std.specs.Prelude.{◌≡◌, ℕ, ◌+◌, ◌-◌, ◌*◌, ◌/◌, ◌%◌, ◌<◌, ◌≤◌, ◌==◌, ◌&&◌, nat_lt, nat_le, if◌then◌else◌, List, [], ◌∷◌, length}
use Rattle.mt_codec.specs.Pieces.{is_piece}
use Rattle.mt_log.specs.Places.{end_of, from_place}
use Rattle.mt_body.specs.Stored.{piece_bytes, pieces_size}
use Rattle.mt_opening.specs.declared.places.Stretch.{Stretch}

-- the bytes of the pieces that stand in front, one behind another: full ones, and the first that isn't full
abbrev pub bytes_ahead : List (List ℕ) → ℕ
bytes_ahead [] = 0
bytes_ahead (p ∷ ps) = if is_piece p then (if length (piece_bytes p) == 65536 then 65536 + bytes_ahead ps else length (piece_bytes p)) else 0

-- the bytes of a stretch from a place on; none where no piece of it stands there
abbrev pub bytes_from : ℕ → Stretch → ℕ
bytes_from place s = if nat_le s.first place && ((place - s.first) % 65558 == 0) then s.len - 65536 * ((place - s.first) / 65558) else 0

-- those of the last of these stretches that has some
abbrev pub bytes_in : ℕ → List Stretch → ℕ
bytes_in place [] = 0
bytes_in place (s ∷ ss) = if nat_lt 0 (bytes_in place ss) then bytes_in place ss else bytes_from place s

-- a stretch begins and ends before a place
pub record IsBefore (s : Stretch) (place : ℕ) : Type 0 where
  pub begins : s.first < place
  pub ends : s.first + pieces_size s.len ≤ place

-- where the first of these stretches begins; this place where there is none
abbrev pub first_place : List Stretch → ℕ → ℕ
first_place [] place = place
first_place (s ∷ ss) place = s.first

-- each stretch stands before the next, and the last of them before this place
abbrev pub AreApart : List Stretch → ℕ → Type 0
AreApart [] place = Unit {0}
AreApart (s ∷ ss) place = IsBefore s (first_place ss place) × AreApart ss place

-- these stretches, and the last, are all pieces of these payloads
pub record ArePlaces (ps : List (List ℕ)) (earlier : List Stretch) (last : Stretch) : Type 0 where
  pub each : (place : ℕ) → bytes_ahead (from_place place ps) ≡ (if nat_lt 0 (bytes_from place last) then bytes_from place last else bytes_in place earlier)
  pub apart : AreApart earlier last.first
  pub before : IsBefore last (end_of ps)
