-- What a run of a client sends, writes and answers, over what comes on its link.
use Rattle.std.specs.Prelude.{◌≡◌, ℕ, ◌⊎◌, Bool, true, false, List, codes, Option, Some, None, Result, Ok, Err}
use Rattle.std.specs.Bool.{MatchBool}
use Rattle.mt_base.specs.Counts.{Rose}
use Rattle.mt_edge.specs.Stream.{GotMore, WritesFront}
use Rattle.mt_ask.specs.declared.ask.Words.{Words}
use Rattle.mt_ask.specs.Requests.{is_listing}
use Rattle.mt_script.specs.declared.end.ClientEnd.{ClientEnd}
use Rattle.mt_script.specs.declared.end.ClientEnd.TheVariants as end
use Rattle.mt_client.specs.Inputs.{TakesInput}
use Rattle.mt_client.specs.Requests.{Sides}
use Rattle.mt_client.specs.Once.{PlaysOnce}
use Rattle.mt_client.specs.Listings.{PlaysPages}

-- how words play whose source has these bytes
abbrev pub Plays : Words → List ℕ → Sides → ClientEnd → Sides → Type 0
Plays w input a e b = MatchBool (is_listing w.ask) (PlaysPages w a e b) (PlaysOnce w input a e b)

-- how words are written
abbrev pub usage_line : List ℕ
usage_line = codes "usage: manta --url HOST:PORT --login NAME COMMAND [ARGUMENTS]\n"

-- that line is written: what the sink got and its faults, the end, and after
abbrev pub TellsUsage : Option (List ℕ) → ℕ → ClientEnd → Option (List ℕ) → ℕ → Type 0
TellsUsage got faults end.Usage got' faults' = GotMore got usage_line got'
TellsUsage got faults end.SinkFault got' faults' = WritesFront got usage_line got' × Rose faults faults'
TellsUsage got faults e got' faults' = ⊥

-- nothing is sent where the source was not read
abbrev pub PlaysBy : Words → Result (List ℕ) ClientEnd → Sides → ClientEnd → Sides → Type 0
PlaysBy w (Ok input) a e b = Plays w input a e b
PlaysBy w (Err failed) a e b = (e ≡ failed) × (b ≡ a)

-- how a run of words ends: what was left of their source and is left, and its count of faults before and after
pub record WordsEnd (w : Words) (left : Option (List ℕ)) (faults : ℕ) (a : Sides) (e : ClientEnd) (left' : Option (List ℕ)) (faults' : ℕ) (b : Sides) : Type 0 where
  pub taken : Result (List ℕ) ClientEnd
  pub input : TakesInput w.ask left faults taken left' faults'
  pub played : PlaysBy w taken a e b

-- the source was left as it was
pub record LeavesSource (left : Option (List ℕ)) (faults : ℕ) (left' : Option (List ℕ)) (faults' : ℕ) : Type 0 where
  pub same_left : left' ≡ left
  pub same_faults : faults' ≡ faults

-- the link was left as it was
pub record LeavesLink (a b : Sides) : Type 0 where
  pub left : b.left ≡ a.left
  pub reads : b.reads ≡ a.reads
  pub sent : b.sent ≡ a.sent
  pub writes : b.writes ≡ a.writes

-- words that ask for something, or for nothing
abbrev pub EndsBy : Option Words → Option (List ℕ) → ℕ → Sides → ClientEnd → Option (List ℕ) → ℕ → Sides → Type 0
EndsBy None left faults a e left' faults' b = TellsUsage a.written a.spills e b.written b.spills × LeavesLink a b × LeavesSource left faults left' faults'
EndsBy (Some w) left faults a e left' faults' b = WordsEnd w left faults a e left' faults' b

-- HOW A RUN ENDS, by what its words ask for; or memory was lacking before anything was done
abbrev pub RunEnds : Option Words → Option (List ℕ) → ℕ → Sides → ClientEnd → Option (List ℕ) → ℕ → Sides → Type 0
RunEnds asked left faults a e left' faults' b =
    EndsBy asked left faults a e left' faults' b ⊎ ((e ≡ end.Memory) × (b ≡ a) × LeavesSource left faults left' faults')

-- the link is not touched behind such an end
abbrev pub is_early : ClientEnd → Bool
is_early end.Done = false
is_early end.Usage = true
is_early end.Refused = false
is_early end.SourceFault = true
is_early end.SinkFault = false
is_early end.LinkFault = false
is_early end.BadReply = false
is_early end.TooManyRequests = false
is_early end.Memory = false
is_early end.InputTooLarge = true
