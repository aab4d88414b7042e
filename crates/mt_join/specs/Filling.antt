-- What is left of parts, and what reading the next piece of them does.
use Rattle.std.specs.Prelude.{◌≡◌, ℕ, ◌+◌, ◌-◌, ◌≤◌, ◌<◌, List, [], ◌∷◌, ◌++◌, length, take, drop, Option}
use Rattle.std.specs.Option.{ForSome}
use Rattle.md5.specs.Md5.{Holds}
use Rattle.md5.specs.declared.Md5.{Md5}
use Rattle.mt_types.specs.declared.body.Body.{Body}
use Rattle.mt_types.specs.declared.upload.PartRow.{PartRow}
use Rattle.mt_join.specs.Joining.{joined, joined_len}
use Rattle.mt_join.specs.declared.fill.Cursor.{Cursor}

-- no further than behind the last byte of the first part, and at no byte where there is none
abbrev pub IsIn : List (PartRow Body) → ℕ → Type 0
IsIn [] at = at ≡ 0
IsIn (p ∷ parts) at = at ≤ p.body.len

-- the cursor stands within its part, or behind the last one
abbrev pub IsWithin : List (PartRow Body) → Cursor → Type 0
IsWithin parts c = IsIn (drop c.next parts) c.at

-- the bytes from the cursor on
abbrev pub rest : List (List ℕ) → List (PartRow Body) → Cursor → List ℕ
rest ps parts c = drop c.at (joined ps (drop c.next parts))

-- how many they are
abbrev pub rest_len : List (PartRow Body) → Cursor → ℕ
rest_len parts c = joined_len (drop c.next parts) - c.at

-- so many bytes from a cursor on stand at the front of a buffer, and reading goes on at another
pub record Fills (count : ℕ) (into : List ℕ) (parts : List (PartRow Body)) (c c' : Cursor) (told : Option (List (List ℕ))) : Type 0 where
  pub few : count ≤ length into
  pub within : IsWithin parts c'
  pub len : rest_len parts c ≡ count + rest_len parts c'
  pub are : ForSome told (λ ps. rest ps parts c ≡ take count into ++ rest ps parts c')
  pub all : count < length into → rest_len parts c' ≡ 0

-- the same behind the mark of a piece, and digested
pub record FillsPiece (count : ℕ) (buffer : List ℕ) (parts : List (PartRow Body)) (c c' : Cursor) (told : Option (List (List ℕ))) (sum sum' : Md5) : Type 0 where
  pub bytes : List ℕ
  pub is : take (count + 1) buffer ≡ 0 ∷ bytes
  pub size : length bytes ≡ count
  pub few : count ≤ 65536
  pub within : IsWithin parts c'
  pub len : rest_len parts c ≡ count + rest_len parts c'
  pub are : ForSome told (λ ps. rest ps parts c ≡ bytes ++ rest ps parts c')
  pub all : count < 65536 → rest_len parts c' ≡ 0
  pub digested : (front : List ℕ) → Holds sum front → Holds sum' (front ++ bytes)
