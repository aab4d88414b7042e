-- The words of a drill behind its command, read from the front on: a number of objects, and options, each with its value behind it.
-- The first fault is the answer.
use Rattle.std.specs.Prelude.{ℕ, ◌+◌, ◌≤◌, IfSome, ◌||◌, bytes_eq, List, [], ◌∷◌, codes, Option, Some, None, Result, Ok, Err, if◌then◌else◌}
use Rattle.mt_base.specs.declared.limits.TheConstants.{LAST_MOMENT}
use Rattle.mt_settings.specs.Words.{is_some_text, number_within}
use Rattle.mt_settings.specs.declared.fault.OptionName.TheVariants as option
use Rattle.mt_settings.specs.declared.fault.UsageFault.{UsageFault}
use Rattle.mt_settings.specs.declared.fault.UsageFault.TheVariants as usage
use Rattle.mt_drill.specs.declared.words.Chosen.{Chosen}
use Rattle.mt_drill.specs.declared.words.DrillWords.{DrillWords}
use Rattle.mt_drill.specs.declared.words.WordsFault.{WordsFault}
use Rattle.mt_drill.specs.declared.words.WordsFault.TheVariants as fault

abbrev pub no_option : Chosen
no_option = record { store = None; at = None }

-- an option that came before is refused, and then a value that is none
abbrev pub store_once : Chosen → ℕ → List ℕ → Option (List ℕ) → Result Chosen UsageFault
store_once chosen place value (Some old) = Err (usage.Twice place)
store_once chosen place value None = if is_some_text value then Ok (record chosen { store = Some value }) else Err (usage.BadValue (place + 1))

abbrev pub at_once : Chosen → ℕ → Option ℕ → Option ℕ → Result Chosen UsageFault
at_once chosen place (Some old) new = Err (usage.Twice place)
at_once chosen place None None = Err (usage.BadValue (place + 1))
at_once chosen place None (Some moment) = Ok (record chosen { at = Some moment })

-- the options so far with the store's folder, or with the moment, of the option at this place
abbrev pub with_store : Chosen → ℕ → List ℕ → Result Chosen UsageFault
with_store chosen place value = store_once chosen place value chosen.store

abbrev pub with_at : Chosen → ℕ → List ℕ → Result Chosen UsageFault
with_at chosen place value = at_once chosen place chosen.at (number_within 0 LAST_MOMENT value)

-- the options so far with the one of this name
abbrev pub with_option : Chosen → ℕ → List ℕ → List ℕ → Result Chosen UsageFault
with_option chosen place name value =
    if bytes_eq name (codes "--store") then with_store chosen place value
    else (if bytes_eq name (codes "--at") then with_at chosen place value else Err (usage.UnknownOption place))

-- the last word stands alone: an option without its value, or no option
abbrev pub alone : ℕ → List ℕ → UsageFault
alone place name = if bytes_eq name (codes "--store") || bytes_eq name (codes "--at") then usage.NoValue place else usage.UnknownOption place

abbrev pub goes_on : (Chosen → Result Chosen UsageFault) → Result Chosen UsageFault → Result Chosen UsageFault
goes_on more (Ok chosen) = more chosen
goes_on more (Err e) = Err e

-- the options among words, the first of which has this place behind the number
abbrev pub options_from : Chosen → ℕ → List (List ℕ) → Result Chosen UsageFault
options_from chosen place [] = Ok chosen
options_from chosen place (name ∷ []) = Err (alone place name)
options_from chosen place (name ∷ value ∷ words) = goes_on (λ more. options_from more (place + 2) words) (with_option chosen place name value)

-- the number of an option lies within its bounds
abbrev pub AreWithin : Chosen → Type 0
AreWithin chosen = IfSome chosen.at (λ moment. moment ≤ LAST_MOMENT)

-- ---- what is asked for

abbrev pub asked_with : ℕ → Option (List ℕ) → Option ℕ → Result DrillWords WordsFault
asked_with count None at = Err (fault.Usage (usage.Missing option.Store))
asked_with count (Some store) at = Ok (record { count = count; store = store; at = at })

abbrev pub asked_by : Option ℕ → Result Chosen UsageFault → Result DrillWords WordsFault
asked_by None options = Err fault.BadCount
asked_by (Some count) (Err e) = Err (fault.Usage e)
asked_by (Some count) (Ok chosen) = asked_with count chosen.store chosen.at

-- what the words behind the command ask for
abbrev pub words_of : List (List ℕ) → Result DrillWords WordsFault
words_of [] = Err fault.NoCount
words_of (count ∷ options) = asked_by (number_within 1 10000 count) (options_from no_option 0 options)
