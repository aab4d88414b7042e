-- The bytes that a request carries: a source, read whole.
use Rattle.std.specs.Prelude.{◌≡◌, ℕ, ◌<◌, ◌≤◌, List, [], length, Option, IfSome, Result, Ok, Err}
use Rattle.std.specs.Bool.{MatchBool}
use Rattle.mt_base.specs.Counts.{NeverFell, Rose}
use Rattle.mt_edge.specs.Stream.{LeftAfter}
use Rattle.mt_ask.specs.declared.ask.Ask.{Ask}
use Rattle.mt_ask.specs.Requests.{carries_source}
use Rattle.mt_script.specs.declared.end.ClientEnd.{ClientEnd}
use Rattle.mt_script.specs.declared.end.ClientEnd.TheVariants as end

-- a request carries at most so many bytes
abbrev pub largest_input : ℕ
largest_input = 16777216

-- a source is read whole: what was left and is left of it, and its count of faults before and after
abbrev pub ReadsInput : Option (List ℕ) → ℕ → Result (List ℕ) ClientEnd → Option (List ℕ) → ℕ → Type 0
ReadsInput left faults (Ok input) left' faults' = LeftAfter left input left' × IfSome left' (λ rest. rest ≡ []) × (length input ≤ largest_input) × NeverFell faults faults'
ReadsInput left faults (Err end.InputTooLarge) left' faults' = IfSome left (λ bytes. largest_input < length bytes) × NeverFell faults faults'
ReadsInput left faults (Err end.SourceFault) left' faults' = Rose faults faults'
ReadsInput left faults (Err end.Memory) left' faults' = NeverFell faults faults'
ReadsInput left faults (Err e) left' faults' = ⊥

-- no byte is carried, and the source is as it was
abbrev pub TakesNone : Option (List ℕ) → ℕ → Result (List ℕ) ClientEnd → Option (List ℕ) → ℕ → Type 0
TakesNone left faults answer left' faults' = (answer ≡ Ok []) × (left' ≡ left) × (faults' ≡ faults)

-- the bytes that the request of an ask carries
abbrev pub TakesInput : Ask → Option (List ℕ) → ℕ → Result (List ℕ) ClientEnd → Option (List ℕ) → ℕ → Type 0
TakesInput ask left faults answer left' faults' =
    MatchBool (carries_source ask) (ReadsInput left faults answer left' faults') (TakesNone left faults answer left' faults')
