-- The words of the command line, read from the front on: a command, and options, each with its value behind it. The first fault
-- is the answer.
use Rattle.std.specs.Prelude.{ℕ, ◌+◌, ◌<◌, ◌≤◌, IfSome, Bool, true, false, ◌&&◌, ◌||◌, ◌==◌, not, nat_eq, nat_le, nat_lt, bytes_eq, List, [], ◌∷◌, ◌++◌, length, codes, Option, Some, None, Result, Ok, Err, if◌then◌else◌}
use Rattle.std.specs.List.{list_all, list_any, starts_with}
use Rattle.mt_base.specs.declared.limits.TheConstants.{LAST_MOMENT}
use Rattle.mt_bytes.specs.Decimals.{decimal_number}
use Rattle.mt_path.specs.AccountPath.{is_login}
use Rattle.mt_settings.specs.declared.fault.OptionFault.{OptionFault}
use Rattle.mt_settings.specs.declared.fault.OptionFault.TheVariants as fault
use Rattle.mt_settings.specs.declared.fault.OptionName.{OptionName}
use Rattle.mt_settings.specs.declared.fault.OptionName.TheVariants as option
use Rattle.mt_settings.specs.declared.fault.UsageFault.{UsageFault}
use Rattle.mt_settings.specs.declared.fault.UsageFault.TheVariants as usage
use Rattle.mt_settings.specs.declared.options.Given.{Given}
use Rattle.mt_settings.specs.declared.settings.Mode.{Mode}
use Rattle.mt_settings.specs.declared.settings.Mode.TheVariants as mode
use Rattle.mt_settings.specs.declared.settings.Settings.{Settings}

-- ---- values

abbrev pub is_some_text : List ℕ → Bool
is_some_text text = nat_lt 0 (length text)

-- a program by its name alone, or by its path from the root
abbrev pub is_program : List ℕ → Bool
is_program name = is_some_text name && (starts_with nat_eq name (codes "/") || not (list_any (λ b. b == 47) name))

-- a decimal between two bounds
abbrev pub within : ℕ → ℕ → Option ℕ → Option ℕ
within least most None = None
within least most (Some n) = if nat_le least n && nat_le n most then Some n else None

abbrev pub number_within : ℕ → ℕ → List ℕ → Option ℕ
number_within least most text = within least most (decimal_number text)

abbrev pub text_if : Bool → List ℕ → Option (List ℕ)
text_if fine text = if fine then Some text else None

-- ---- options

-- the options of a session, and those that a serve has too
abbrev pub option_named : Bool → List ℕ → Option OptionName
option_named serves name =
    if bytes_eq name (codes "--login") then Some option.Login
    else (if bytes_eq name (codes "--store") then Some option.Store
    else (if bytes_eq name (codes "--slots") then Some option.Slots
    else (if bytes_eq name (codes "--log-limit") then Some option.LogLimit
    else (if bytes_eq name (codes "--work") then Some option.Work
    else (if bytes_eq name (codes "--helper") then Some option.Helper
    else (if bytes_eq name (codes "--launcher") then Some option.Launcher
    else (if bytes_eq name (codes "--at") then Some option.At
    else (if serves && bytes_eq name (codes "--connections") then Some option.Connections
    else (if serves && bytes_eq name (codes "--listen") then Some option.Listen
    else None)))))))))

-- an option that came before is refused, and then a value that is none
abbrev pub once : {A : Type 0} → Option A → Option A → Result (Option A) OptionFault
once (Some old) new = Err fault.Twice
once None None = Err fault.BadValue
once None (Some new) = Ok (Some new)

-- what is left after a call that took a value, or refused it
abbrev pub taken : {A : Type 0} → Result (Unit {0}) OptionFault → A → Result A OptionFault
taken (Ok done) new = Ok new
taken (Err e) new = Err e

abbrev pub given_by : {A : Type 0} → (Option A → Given) → Result (Option A) OptionFault → Result Given OptionFault
given_by f (Ok x) = Ok (f x)
given_by f (Err e) = Err e

-- the options so far with one more
abbrev pub with_option : Given → OptionName → List ℕ → Result Given OptionFault
with_option g option.Login v = given_by (λ x. record g { login = x }) (once g.login (text_if (is_login v) v))
with_option g option.Store v = given_by (λ x. record g { store = x }) (once g.store (text_if (is_some_text v) v))
with_option g option.Slots v = given_by (λ x. record g { slots = x }) (once g.slots (number_within 1 64 v))
with_option g option.LogLimit v = given_by (λ x. record g { log_limit = x }) (once g.log_limit (number_within 9 68719476736 v))
with_option g option.Work v = given_by (λ x. record g { work = x }) (once g.work (text_if (is_some_text v) v))
with_option g option.Helper v = given_by (λ x. record g { helper = x }) (once g.helper (text_if (is_program v) v))
with_option g option.Launcher v = given_by (λ x. record g { launcher = x }) (once g.launcher (text_if (is_program v) v))
with_option g option.At v = given_by (λ x. record g { at = x }) (once g.at (number_within 0 LAST_MOMENT v))
with_option g option.Connections v = given_by (λ x. record g { connections = x }) (once g.connections (number_within 1 1000000 v))
with_option g option.Listen v = given_by (λ x. record g { listen = x }) (once g.listen (text_if (is_some_text v) v))

-- a fault of the option at this place
abbrev pub usage_at : ℕ → OptionFault → UsageFault
usage_at place fault.Twice = usage.Twice place
usage_at place fault.BadValue = usage.BadValue (place + 1)

abbrev pub placed : ℕ → Result Given OptionFault → Result Given UsageFault
placed place (Ok g) = Ok g
placed place (Err e) = Err (usage_at place e)

-- an option that is named, at this place
abbrev pub with_named : Given → Option OptionName → ℕ → List ℕ → Result Given UsageFault
with_named g None place value = Err (usage.UnknownOption place)
with_named g (Some name) place value = placed place (with_option g name value)

-- the last word stands alone: an option without its value, or no option
abbrev pub lonely : Option OptionName → ℕ → UsageFault
lonely None place = usage.UnknownOption place
lonely (Some name) place = usage.NoValue place

abbrev pub goes_on : (Given → Result Given UsageFault) → Result Given UsageFault → Result Given UsageFault
goes_on more (Ok g) = more g
goes_on more (Err e) = Err e

-- the options among words, the first of which has this place behind the command
abbrev pub options_from : Bool → Given → ℕ → List (List ℕ) → Result Given UsageFault
options_from serves g place [] = Ok g
options_from serves g place (name ∷ []) = Err (lonely (option_named serves name) place)
options_from serves g place (name ∷ value ∷ words) =
    goes_on (λ more. options_from serves more (place + 2) words) (with_named g (option_named serves name) place value)

-- ---- settings

abbrev pub no_option : Given
no_option = record { login = None; store = None; slots = None; log_limit = None; work = None; helper = None; launcher = None; at = None; connections = None; listen = None }

abbrev pub given_or : {A : Type 0} → Option A → A → A
given_or None usual = usual
given_or (Some x) usual = x

-- the numbers of options lie between their bounds
abbrev pub AreWithin : Given → Type 0
AreWithin g = IfSome g.at (λ moment. moment ≤ LAST_MOMENT) × IfSome g.slots (λ n. (0 < n) × (n ≤ 64)) × IfSome g.connections (λ n. 0 < n)

-- whether the command serves connections, or is a session
abbrev pub serves_by : List ℕ → Option Bool
serves_by name = if bytes_eq name (codes "session") then Some false else (if bytes_eq name (codes "serve") then Some true else None)

abbrev pub mode_by : Bool → Option ℕ → Option (List ℕ) → Result Mode UsageFault
mode_by false connections listen = Ok mode.Session
mode_by true connections None = Err (usage.Missing option.Listen)
mode_by true connections (Some address) = Ok (mode.Serve (given_or connections 18446744073709551615) address)

-- the folder of tasks in that of the store
abbrev pub tasks_in : List ℕ → List ℕ
tasks_in store = store ++ codes "/tasks"

abbrev pub settings_at : Option (List ℕ) → Option (List ℕ) → Result Mode UsageFault → Given → Result Settings UsageFault
settings_at None store m g = Err (usage.Missing option.Login)
settings_at (Some login) None m g = Err (usage.Missing option.Store)
settings_at (Some login) (Some store) (Err e) g = Err e
settings_at (Some login) (Some store) (Ok m) g = Ok (record {
  mode = m;
  login = login;
  store = store;
  slots = given_or g.slots 4;
  log_limit = given_or g.log_limit 1073741824;
  work = given_or g.work (tasks_in store);
  helper = given_or g.helper (codes "marlin_helper");
  launcher = g.launcher;
  at = g.at;
})

-- what options ask for, where none is missing
abbrev pub settings_by : Bool → Result Given UsageFault → Result Settings UsageFault
settings_by serves (Err e) = Err e
settings_by serves (Ok g) = settings_at g.login g.store (mode_by serves g.connections g.listen) g

abbrev pub settings_behind : Option Bool → List (List ℕ) → Result Settings UsageFault
settings_behind None words = Err usage.UnknownCommand
settings_behind (Some serves) words = settings_by serves (options_from serves no_option 0 words)

-- what the words ask for
abbrev pub settings_of : List (List ℕ) → Result Settings UsageFault
settings_of [] = Err usage.NoCommand
settings_of (command ∷ words) = settings_behind (serves_by command) words
