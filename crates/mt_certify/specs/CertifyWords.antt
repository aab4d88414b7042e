-- The words behind `certify` and `check`, read from the front on: a job, and options, each with its value behind it. The first fault is
-- the answer.
use Rattle.std.specs.Prelude.{ℕ, ◌+◌, Bool, true, false, ◌&&◌, ◌||◌, ◌==◌, IfSome, bytes_eq, List, [], ◌∷◌, codes, Option, Some, None, Result, Ok, Err, if◌then◌else◌}
use Rattle.mt_ident.specs.Identifiers.{identifier_number}
use Rattle.mt_path.specs.AccountPath.{IsLogin, is_login}
use Rattle.mt_settings.specs.Words.{is_some_text}
use Rattle.mt_settings.specs.declared.fault.OptionName.TheVariants as option
use Rattle.mt_settings.specs.declared.fault.UsageFault.{UsageFault}
use Rattle.mt_settings.specs.declared.fault.UsageFault.TheVariants as usage
use Rattle.mt_certify.specs.declared.words.CertifyWords.{CertifyWords}
use Rattle.mt_certify.specs.declared.words.Chosen.{Chosen}
use Rattle.mt_certify.specs.declared.words.WordsFault.{WordsFault}
use Rattle.mt_certify.specs.declared.words.WordsFault.TheVariants as fault

abbrev pub no_option : Chosen
no_option = record { login = None; store = None }

-- an option that came before is refused, and then a value that is none
abbrev pub login_once : Chosen → ℕ → List ℕ → Option (List ℕ) → Result Chosen UsageFault
login_once chosen place value (Some old) = Err (usage.Twice place)
login_once chosen place value None = if is_login value then Ok (record chosen { login = Some value }) else Err (usage.BadValue (place + 1))

abbrev pub store_once : Chosen → ℕ → List ℕ → Option (List ℕ) → Result Chosen UsageFault
store_once chosen place value (Some old) = Err (usage.Twice place)
store_once chosen place value None = if is_some_text value then Ok (record chosen { store = Some value }) else Err (usage.BadValue (place + 1))

-- the options so far with the login, or with the store's folder, of the option at this place
abbrev pub with_login : Chosen → ℕ → List ℕ → Result Chosen UsageFault
with_login chosen place value = login_once chosen place value chosen.login

abbrev pub with_store : Chosen → ℕ → List ℕ → Result Chosen UsageFault
with_store chosen place value = store_once chosen place value chosen.store

-- the options so far with the one of this name; the store's is one of `certify` alone
abbrev pub with_option : Bool → Chosen → ℕ → List ℕ → List ℕ → Result Chosen UsageFault
with_option stored chosen place name value =
    if bytes_eq name (codes "--login") then with_login chosen place value
    else (if stored && bytes_eq name (codes "--store") then with_store chosen place value else Err (usage.UnknownOption place))

-- the last word stands alone: an option without its value, or no option
abbrev pub alone : Bool → ℕ → List ℕ → UsageFault
alone stored place name = if bytes_eq name (codes "--login") || (stored && bytes_eq name (codes "--store")) then usage.NoValue place else usage.UnknownOption place

abbrev pub goes_on : (Chosen → Result Chosen UsageFault) → Result Chosen UsageFault → Result Chosen UsageFault
goes_on more (Ok chosen) = more chosen
goes_on more (Err e) = Err e

-- the options among words, the first of which has this place
abbrev pub options_from : Bool → Chosen → ℕ → List (List ℕ) → Result Chosen UsageFault
options_from stored chosen place [] = Ok chosen
options_from stored chosen place (name ∷ []) = Err (alone stored place name)
options_from stored chosen place (name ∷ value ∷ words) = goes_on (λ more. options_from stored more (place + 2) words) (with_option stored chosen place name value)

-- a login that is named is one
abbrev pub HasLogin : Chosen → Type 0
HasLogin chosen = IfSome chosen.login IsLogin

-- ---- what is asked for

-- the login and the store, both of which are needed
abbrev pub both_in : Option (List ℕ) → Option (List ℕ) → Result (List ℕ × List ℕ) UsageFault
both_in None store = Err (usage.Missing option.Login)
both_in (Some login) None = Err (usage.Missing option.Store)
both_in (Some login) (Some store) = Ok (login, store)

abbrev pub both_of : Result Chosen UsageFault → Result (List ℕ × List ℕ) UsageFault
both_of (Err e) = Err e
both_of (Ok chosen) = both_in chosen.login chosen.store

-- a word begins an option
abbrev pub begins_option : List ℕ → Bool
begins_option [] = false
begins_option (byte ∷ bytes) = byte == 45

abbrev pub certify_by : Option ℕ → Result (List ℕ × List ℕ) UsageFault → Result CertifyWords WordsFault
certify_by job (Err e) = Err (fault.Usage e)
certify_by job (Ok both) = Ok (record { job = job; login = both.0; store = both.1 })

-- what the words behind `certify` ask for
abbrev pub certify_words : List (List ℕ) → Result CertifyWords WordsFault
certify_words [] = Err fault.NoJob
certify_words (job ∷ options) = if begins_option job then Err fault.NoJob else certify_by (identifier_number 2 job) (both_of (options_from true no_option 0 options))

-- the login alone is needed
abbrev pub login_in : Option (List ℕ) → Result (List ℕ) UsageFault
login_in None = Err (usage.Missing option.Login)
login_in (Some login) = Ok login

abbrev pub login_of : Result Chosen UsageFault → Result (List ℕ) UsageFault
login_of (Err e) = Err e
login_of (Ok chosen) = login_in chosen.login

-- what those behind `check` ask for
abbrev pub check_words : List (List ℕ) → Result (List ℕ) UsageFault
check_words words = login_of (options_from false no_option 0 words)
