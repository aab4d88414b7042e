-- A text that is read in parts.
use Rattle.std.specs.Prelude.{◌≡◌, ℕ, ◌<◌, length}
use Rattle.mt_jobtext.specs.declared.fill.Place.{Place}
use Rattle.mt_jobtext.specs.declared.pieces.Shown.{Shown}
use Rattle.mt_jobtext.specs.Pieces.{IsShown, pieces_of}
use Rattle.mt_jobtext.specs.Places.{IsPlace, left_of}

-- what is kept of it: how many pieces it has, how far it was read, how many bytes are left, and how many a window takes
pub record IsReady {B : Type 0} (s : Shown B) (count : ℕ) (place : Place) (left size : ℕ) : Type 0 where
  pub shown : IsShown s
  pub count_is : count ≡ length (pieces_of s)
  pub at_place : IsPlace (pieces_of s) place
  pub left_is : left ≡ length (left_of (pieces_of s) place)
  pub some : 0 < size
