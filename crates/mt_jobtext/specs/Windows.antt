-- A part of a text that is written piece by piece: bytes in front of it are passed over, and those behind it are dropped.
use Rattle.std.specs.Prelude.{◌≡◌, ℕ, ◌-◌, List, ◌++◌, length, take, drop}

-- how many bytes are still to be passed over, the bytes in the window so far, how many more it takes, and how many it can take
pub record Seen : Type 0 where
  pub skip : ℕ
  pub got : List ℕ
  pub room : ℕ
  pub size : ℕ

-- these bytes are the next of the text
pub record Puts (bytes : List ℕ) (old new : Seen) : Type 0 where
  pub skip_is : new.skip ≡ old.skip - length bytes
  pub got_is : new.got ≡ old.got ++ take old.room (drop old.skip bytes)
  pub room_is : new.room ≡ old.room - length (drop old.skip bytes)
  pub size_is : new.size ≡ old.size
