-- What reading the next piece of a source does.
use Rattle.std.specs.Prelude.{◌≡◌, ℕ, ◌+◌, ◌≤◌, List, [], ◌∷◌, ◌++◌, length, take, Option, IfSome}
use Rattle.md5.specs.Md5.{Holds}
use Rattle.md5.specs.declared.Md5.{Md5}
use Rattle.mt_base.specs.Counts.{NeverFell, Rose}
use Rattle.mt_edge.specs.Stream.{LeftAfter}
use Rattle.mt_body.specs.declared.fill.End.{End}
use Rattle.mt_body.specs.declared.fill.End.TheVariants as end
use Rattle.mt_body.specs.declared.fill.Filled.{Filled}

-- nothing is left, where that is told
abbrev pub AtEnd : Option (List ℕ) → Type 0
AtEnd left = IfSome left (λ rest. rest ≡ [])

-- why no more was read: there was no more room, or nothing is left, or a read failed
abbrev pub EndsSo : End → ℕ → ℕ → Option (List ℕ) → ℕ → ℕ → Type 0
EndsSo end.Whole count room left' faults faults' = (count ≡ room) × NeverFell faults faults'
EndsSo end.Ended count room left' faults faults' = AtEnd left' × NeverFell faults faults'
EndsSo end.Failed count room left' faults faults' = Rose faults faults'

-- so many bytes from the front of a source stand at the front of a buffer
pub record Fills (filled : Filled) (into : List ℕ) (left left' : Option (List ℕ)) (faults faults' : ℕ) : Type 0 where
  pub few : filled.count ≤ length into
  pub took : LeftAfter left (take filled.count into) left'
  pub ends : EndsSo filled.end filled.count (length into) left' faults faults'

-- the same behind the mark of a piece, and digested
pub record FillsPiece (filled : Filled) (buffer : List ℕ) (left left' : Option (List ℕ)) (sum sum' : Md5) (faults faults' : ℕ) : Type 0 where
  pub bytes : List ℕ
  pub is : take (filled.count + 1) buffer ≡ 0 ∷ bytes
  pub size : length bytes ≡ filled.count
  pub few : filled.count ≤ 65536
  pub took : LeftAfter left bytes left'
  pub digested : (front : List ℕ) → Holds sum front → Holds sum' (front ++ bytes)
  pub ends : EndsSo filled.end filled.count 65536 left' faults faults'
