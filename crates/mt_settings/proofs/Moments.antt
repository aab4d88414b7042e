-- The numbers that words ask for lie between their bounds.
use Rattle.std.proofs.Common.{◌≡◌, ℕ, ◌+◌, ◌≤◌, ◌<◌, Bool, true, false, List, [], ◌∷◌, map, length, Option, Some, None, Result, Ok, Err, refl, ap, sym, ◌∙◌, subst, arith, if◌then◌else◌}
use Rattle.std.specs.Prelude.{◌&&◌, nat_le, IfSome}
use Rattle.std.proofs.lemmas.Bool.Decides.{nat_tests}
use Rattle.std.proofs.lemmas.Option.{none-some}
use Rattle.mt_base.specs.declared.limits.TheConstants.{LAST_MOMENT}
use Rattle.mt_bytes.specs.Decimals.{decimal_number}
use Rattle.mt_path.specs.AccountPath.{is_login}
use Rattle.mt_settings.specs.Words.{AreWithin, given_by, given_or, goes_on, mode_by, settings_at, is_some_text, is_program, no_option, number_within, once, option_named, options_from, placed, text_if, with_named, with_option, within}
use Rattle.mt_settings.specs.declared.fault.OptionFault.{OptionFault}
use Rattle.mt_settings.specs.declared.fault.OptionName.{OptionName}
use Rattle.mt_settings.specs.declared.fault.OptionName.TheVariants as option
use Rattle.mt_settings.specs.declared.fault.UsageFault.{UsageFault}
use Rattle.mt_settings.specs.declared.options.Given.{Given}
use Rattle.mt_settings.specs.declared.settings.Mode.{Mode}
use Rattle.mt_settings.specs.declared.settings.Mode.TheVariants as mode
use Rattle.mt_settings.specs.declared.settings.Settings.{Settings}

-- a number lies between two bounds, where there is one
abbrev IsWithin : ℕ → ℕ → Option ℕ → Type 0
IsWithin least most o = (n : ℕ) → o ≡ Some n → (least ≤ n) × (n ≤ most)

-- the numbers of options lie between their bounds
abbrev Fits : Given → Type 0
Fits g = IsWithin 0 LAST_MOMENT g.at × IsWithin 1 64 g.slots × IsWithin 1 1000000 g.connections

-- an option that is no number
other : {A : Type 0} (f : Option A → Given) (r : Result (Option A) OptionFault) (new : Given) → ((x : Option A) → Fits (f x)) → given_by f r ≡ Ok new → Fits new
other f (Ok x) new same is = let taken : f x ≡ new = cc in subst (λ (g : Given). Fits g) taken (same x)
other f (Err e) new same is = absurd (cc)

bounded : (n t least most : ℕ) (low high : Bool) → nat_le least n ≡ low → nat_le n most ≡ high → (if low && high then Some n else None) ≡ Some t → (least ≤ t) × (t ≤ most)
bounded n t least most true true low high is = let same : n ≡ t = cc in (grind (arith, nat_tests), grind (arith, nat_tests))
bounded n t least most true false low high is = absurd (none-some t is)
bounded n t least most false high low is_high is = absurd (none-some t is)

within_bounds : (least most : ℕ) (o : Option ℕ) → IsWithin least most (within least most o)
within_bounds least most None t is = absurd (none-some t is)
within_bounds least most (Some n) t is = bounded n t least most (nat_le least n) (nat_le n most) refl refl is

-- the number that an option gives
number_taken : (f : Option ℕ → Given) (old o : Option ℕ) (new : Given) → ((n : ℕ) → o ≡ Some n → Fits (f (Some n))) → given_by f (once old o) ≡ Ok new → Fits new
number_taken f (Some n) o new fine is = absurd (cc)
number_taken f None None new fine is = absurd (cc)
number_taken f None (Some n) new fine is = let taken : f (Some n) ≡ new = cc in subst (λ (g : Given). Fits g) taken (fine n refl)

one_of : (least most n : ℕ) → (least ≤ n) × (n ≤ most) → IsWithin least most (Some n)
one_of least most n fine m is = let same : n ≡ m = cc in subst (λ (m : ℕ). (least ≤ m) × (m ≤ most)) same fine

option_keeps : (g new : Given) (name : OptionName) (v : List ℕ) → with_option g name v ≡ Ok new → Fits g → Fits new
option_keeps g new option.Login v is before = other (λ x. record g { login = x }) (once g.login (text_if (is_login v) v)) new (λ x. before) is
option_keeps g new option.Store v is before = other (λ x. record g { store = x }) (once g.store (text_if (is_some_text v) v)) new (λ x. before) is
option_keeps g new option.LogLimit v is before = other (λ x. record g { log_limit = x }) (once g.log_limit (number_within 9 68719476736 v)) new (λ x. before) is
option_keeps g new option.Work v is before = other (λ x. record g { work = x }) (once g.work (text_if (is_some_text v) v)) new (λ x. before) is
option_keeps g new option.Helper v is before = other (λ x. record g { helper = x }) (once g.helper (text_if (is_program v) v)) new (λ x. before) is
option_keeps g new option.Launcher v is before = other (λ x. record g { launcher = x }) (once g.launcher (text_if (is_program v) v)) new (λ x. before) is
option_keeps g new option.Listen v is before = other (λ x. record g { listen = x }) (once g.listen (text_if (is_some_text v) v)) new (λ x. before) is
option_keeps g new option.Slots v is before =
    number_taken (λ x. record g { slots = x }) g.slots (number_within 1 64 v) new (λ n fine. (before.0, one_of 1 64 n (within_bounds 1 64 (decimal_number v) n fine), before.2)) is
option_keeps g new option.Connections v is before =
    number_taken (λ x. record g { connections = x }) g.connections (number_within 1 1000000 v) new (λ n fine. (before.0, before.1, one_of 1 1000000 n (within_bounds 1 1000000 (decimal_number v) n fine))) is
option_keeps g new option.At v is before =
    number_taken (λ x. record g { at = x }) g.at (number_within 0 LAST_MOMENT v) new (λ n fine. (one_of 0 LAST_MOMENT n (within_bounds 0 LAST_MOMENT (decimal_number v) n fine), before.1, before.2)) is

placed_ok : (place : ℕ) (r : Result Given OptionFault) (new : Given) → placed place r ≡ Ok new → r ≡ Ok new
placed_ok place (Ok g) new is = cc
placed_ok place (Err e) new is = absurd (cc)

named_keeps : (g new : Given) (name : Option OptionName) (place : ℕ) (v : List ℕ) → with_named g name place v ≡ Ok new → Fits g → Fits new
named_keeps g new None place v is before = absurd (cc)
named_keeps g new (Some name) place v is before = option_keeps g new name v (placed_ok place (with_option g name v) new is) before

goes_keep : (f : Given → Result Given UsageFault) (r : Result Given UsageFault) (new : Given) → ((more : Given) → r ≡ Ok more → f more ≡ Ok new → Fits new) → goes_on f r ≡ Ok new → Fits new
goes_keep f (Ok more) new keep is = keep more refl is
goes_keep f (Err e) new keep is = absurd (cc)

options_keep : (serves : Bool) (g new : Given) (place : ℕ) (words : List (List ℕ)) → options_from serves g place words ≡ Ok new → Fits g → Fits new
options_keep serves g new place [] is before = let same : g ≡ new = cc in subst (λ (g : Given). Fits g) same before
options_keep serves g new place (name ∷ []) is before = absurd (cc)
options_keep serves g new place (name ∷ value ∷ words) is before =
    goes_keep (λ more. options_from serves more (place + 2) words) (with_named g (option_named serves name) place value) new
    (λ more so goes. options_keep serves more new (place + 2) words goes (named_keeps g more (option_named serves name) place value so before)) is

none_fits : Fits no_option
none_fits = ((λ n is. absurd (none-some n is)), (λ n is. absurd (none-some n is)), (λ n is. absurd (none-some n is)))

within_if : (P : ℕ → Type 0) (least most : ℕ) → ((n : ℕ) → least ≤ n → n ≤ most → P n) → (o : Option ℕ) → IsWithin least most o → IfSome o P
within_if P least most fine None is = tt
within_if P least most fine (Some n) is = let both = is n refl in fine n both.0 both.1

are_within : (g : Given) → Fits g → AreWithin g
are_within g fits = (
  within_if (λ n. n ≤ LAST_MOMENT) 0 LAST_MOMENT (λ n low high. high) g.at fits.0,
  within_if (λ n. (0 < n) × (n ≤ 64)) 1 64 (λ n low high. (low, high)) g.slots fits.1,
  within_if (λ n. 0 < n) 1 1000000 (λ n low high. low) g.connections fits.2,
)

-- the numbers of options that were read to their end
pub numbers_of : {X : Type 0} (text : X → List ℕ) (serves : Bool) (given : Given) (place : ℕ) (rest words : List X) → length rest < 1
    → options_from serves given place (map text rest) ≡ options_from serves no_option 0 (map text words) → AreWithin given
numbers_of text serves given place [] words none so_far = are_within given (options_keep serves no_option given 0 (map text words) (sym so_far) none_fits)
numbers_of text serves given place (x ∷ rest) words none so_far = absurd (omega (arith, none))

-- ---- settings

pub slots_within : (slots : Option ℕ) → IfSome slots (λ n. (0 < n) × (n ≤ 64)) → (0 < given_or slots 4) × (given_or slots 4 ≤ 64)
slots_within None is = (omega arith, omega arith)
slots_within (Some n) is = is

connections_above : (connections : Option ℕ) → IfSome connections (λ n. 0 < n) → 0 < given_or connections 18446744073709551615
connections_above None is = omega arith
connections_above (Some n) is = is

mode_within : (serves : Bool) (connections : Option ℕ) (listen : Option (List ℕ)) (m : Mode) → IfSome connections (λ n. 0 < n) → mode_by serves connections listen ≡ Ok m → (n : ℕ) (address : List ℕ) → m ≡ mode.Serve n address → 0 < n
mode_within false connections listen m fine is n address serve = absurd (cc)
mode_within true connections None m fine is n address serve = absurd (cc)
mode_within true connections (Some a) m fine is n address serve =
    let same : given_or connections 18446744073709551615 ≡ n = cc in
    subst (λ (n : ℕ). 0 < n) same (connections_above connections fine)

-- the settings of options
pub settings_within : (login store : Option (List ℕ)) (serves : Bool) (g : Given) (s : Settings) → AreWithin g → settings_at login store (mode_by serves g.connections g.listen) g ≡ Ok s
    → ((0 < s.slots) × (s.slots ≤ 64)) × ((n : ℕ) (address : List ℕ) → s.mode ≡ mode.Serve n address → 0 < n)
settings_within login store serves g s fine is = by login store (mode_by serves g.connections g.listen) refl is
  where
    by : (login store : Option (List ℕ)) (m : Result Mode UsageFault) → mode_by serves g.connections g.listen ≡ m → settings_at login store m g ≡ Ok s
        → ((0 < s.slots) × (s.slots ≤ 64)) × ((n : ℕ) (address : List ℕ) → s.mode ≡ mode.Serve n address → 0 < n)
    by None store m made is = absurd (cc)
    by (Some login) None m made is = absurd (cc)
    by (Some login) (Some store) (Err e) made is = absurd (cc)
    by (Some login) (Some store) (Ok m) made is =
        let slots : given_or g.slots 4 ≡ s.slots = cc in
        let same : m ≡ s.mode = cc in
        let fits = slots_within g.slots fine.1 in
        ((subst (λ (n : ℕ). 0 < n) slots fits.0, subst (λ (n : ℕ). n ≤ 64) slots fits.1), (λ n address serve. mode_within serves g.connections g.listen m fine.2 made n address (same ∙ serve)))
