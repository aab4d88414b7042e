-- What files stand for while a first log is made.
use Rattle.std.proofs.Common.{◌≡◌, ◌≢◌, ℕ, ◌+◌, ◌-◌, ◌<◌, ◌≤◌, take, drop, get_or, Bool, true, false, List, [], ◌∷◌, length, Ok, Some, refl, sym, ◌∙◌, ap, subst, arith}
use Rattle.std.proofs.lemmas.Bool.Decides.{nat_tests}
use Rattle.std.proofs.lemmas.List.{take_min}
use Rattle.mt_disk.specs.declared.disk.FileNo.TheVariants.{Head, One, Two}
use Rattle.mt_disk.specs.declared.disk.FileNo.{FileNo}
use Rattle.mt_disk.specs.Files.{Files, contents, with_contents}
use Rattle.mt_disk.specs.CrashModel.{Torn, OnFile, Only, Follows, Elapses}
use Rattle.mt_disk.proofs.Moments.{Under, begun, steps}
use Rattle.mt_log.specs.LogImage.{empty_size, Holds, Fit, IsLogOf, SameLog, chosen_by, chosen_file, log_by, payloads_by, payloads_in}
use Rattle.mt_log.specs.Stage.{empty_log, with_empty_log, with_one_named, IsHeadless, IsMissing, IsNaming}
use Rattle.mt_log.specs.Scan.{HasLog}
use Rattle.std.specs.Result.{result_unwrap_or}
use Rattle.mt_log.proofs.Walks.{log_by-holds}
use Rattle.mt_log.proofs.Appended.{StandsFor, payloads_chosen, stands_for}

pub headless_same : (files : Files) → files.head ≡ [] → (c : Files) → c ≡ files → IsHeadless files c
headless_same files empty c is = record { head = ap (λ f. f.head) is ∙ empty; two_is = ap (λ f. f.two) is }

pub headless_step : (files : Files) (step : List ℕ → List ℕ → Type 0) (d c : Files) → IsHeadless files d → OnFile One step d c → IsHeadless files c
headless_step files step d c is on = record { head = ap (λ f. f.head) on.others ∙ is.head; two_is = ap (λ f. f.two) on.others ∙ is.two_is }

-- files at rest are their only image
pub rest_log : (files : Files) (may_leave : Files → Type 0) → Only files may_leave → Fit files → (c : Files) → may_leave c → SameLog files c
rest_log files may_leave rest fit c left = subst (λ f. SameLog files f) (sym (rest c left)) (record { same = λ any. refl; fit = fit })

-- before the first call
pub headless_begun : {D : Type 0} (moment : D → ℕ) (left_since : D → ℕ → Files → Type 0) (may_leave : D → Files → Type 0) (old : D) (files : Files)
    → ((c : Files) → left_since old (moment old) c → may_leave old c) → Only files (may_leave old) → files.head ≡ []
    → Under moment left_since may_leave old old (IsHeadless files) (IsHeadless files)
headless_begun moment left_since may_leave old files only_now rest empty =
    begun moment left_since may_leave old (IsHeadless files) (IsHeadless files) only_now (λ c left. headless_same files empty c (rest c left)) (λ c is. is)

-- without a Head the log is empty, whatever One holds
pub headless_log : (files : Files) → files.head ≡ [] → Fit files → (c : Files) → IsHeadless files c → SameLog files c
headless_log files empty fit c is = record {
  same = λ any. ap (λ (h : List ℕ). payloads_in any (chosen_by h c.two) c) is.head ∙ sym (ap (λ (h : List ℕ). payloads_in any (chosen_by h files.two) files) empty);
  fit = λ none. subst (λ (l : List ℕ). length l < empty_size) (sym is.two_is) (fit empty);
}

pub headless_laid : (files : Files) → files.head ≡ [] → (c : Files) → IsHeadless files c → c.one ≡ empty_log → c ≡ with_empty_log files
headless_laid files empty c is same = λ i. record { head = (is.head ∙ sym empty) i; one = same i; two = is.two_is i }

pub naming_same : (files c : Files) → c ≡ files → IsNaming files c
naming_same files c is = record {
  torn = subst (λ (l : List ℕ). Torn 0 1 files.head l) (sym (ap (λ f. f.head) is)) (record { before = take_min 0 files.head; after = refl; no_shorter = omega arith; no_longer = omega arith });
  others = is ∙ ap (λ f. with_contents files Head f.head) (sym is);
}

pub naming_step : (files d c : Files) → d ≡ files → OnFile Head (Torn 0 1) d c → IsNaming files c
naming_step files d c is on = record {
  torn = subst (λ f. Torn 0 1 f.head c.head) is on.stepped;
  others = on.others ∙ ap (λ f. with_contents f Head c.head) is;
}

-- after the write of Head
pub naming_runs : {D : Type 0} (moment : D → ℕ) (left_since : D → ℕ → Files → Type 0) (may_leave : D → Files → Type 0) (old new : D) (files : Files)
    → ((c : Files) → left_since old (moment old) c → may_leave old c) → Only files (may_leave old)
    → Follows (OnFile Head (Torn 0 1)) (may_leave old) (may_leave new) → Elapses (moment old) (moment new) (left_since old) (left_since new) (may_leave new)
    → Under moment left_since may_leave old new (IsNaming files) (IsNaming files)
naming_runs moment left_since may_leave old new files only_now rest follows time =
    steps moment left_since may_leave old old new (IsNaming files) (λ c. c ≡ files) (IsNaming files) (IsNaming files) (OnFile Head (Torn 0 1))
    (begun moment left_since may_leave old (IsNaming files) (λ c. c ≡ files) only_now rest (naming_same files)) follows time (naming_step files) (λ c is. is) (λ c is. is)

pub holds_none : Holds false empty_log 8 []
holds_none = record { byte = 0; tail = []; shut = omega arith; place = refl; whole = refl; each = tt }

-- an empty log in One, whatever Head names
pub naming_log : (files : Files) → files.head ≡ [] → Fit files → (c : Files) → IsNaming (with_empty_log files) c → SameLog files c
naming_log files empty fit c is =
    subst (λ f. SameLog files f) (sym is.others) (named c.head (omega (arith, is.torn.no_longer, ap (λ (l : List ℕ). length l) empty)))
  where
    one_is : (byte : ℕ) → chosen_by (byte ∷ []) files.two ≡ Some One
    one_is byte = let short = fit empty in grind (arith, nat_tests)

    before : (any : Bool) → payloads_by any files ≡ Ok []
    before any = ap (λ (h : List ℕ). payloads_in any (chosen_by h files.two) files) empty

    new_log : (any : Bool) → log_by any empty_log ≡ Ok []
    new_log true = log_by-holds true false empty_log 8 [] holds_none
    new_log false = log_by-holds false false empty_log 8 [] holds_none

    named : (head : List ℕ) → length head ≤ 1 → SameLog files (with_contents (with_empty_log files) Head head)
    named [] small = record { same = λ any. sym (before any); fit = λ none. fit empty }
    named (byte ∷ []) small = record {
      same = λ any. ap (λ o. payloads_in any o (with_contents (with_empty_log files) Head (byte ∷ []))) (one_is byte) ∙ new_log any ∙ sym (before any);
      fit = λ none. fit empty;
    }
    named (byte ∷ other ∷ more) small = absurd (omega arith)

pub named_is : (files : Files) → StandsFor (with_one_named (with_empty_log files)) One 8 false []
named_is files = stands_for (with_one_named (with_empty_log files)) (with_one_named (with_empty_log files)) One 8 false [] refl refl holds_none

-- Two is no log, and whatever Head names, the log is One
pub missing_log : (files : Files) → IsMissing files → (c : Files) → IsNaming files c → SameLog files c
missing_log files missing c is = record {
  same = λ any.
      ap (λ f. payloads_by any f) is.others
      ∙ ap (λ o. payloads_in any o (with_contents files Head c.head)) (one_is c.head (omega (arith, missing.some, is.torn.no_shorter)))
      ∙ sym (ap (λ o. payloads_in any o files) (one_is files.head missing.some));
  fit = λ empty. absurd (omega (arith, ap (λ (l : List ℕ). length l) empty, missing.some, is.torn.no_shorter));
}
  where
    one_is : (head : List ℕ) → 0 < length head → chosen_by head files.two ≡ Some One
    one_is [] some = absurd (omega arith)
    one_is (byte ∷ more) some = let short = missing.short in grind (arith, nat_tests)

-- a log in the chosen file is the files' log
pub log_chosen : (files : Files) (file : FileNo) (gate : ℕ) (old : Bool) → chosen_file files ≡ Some file → HasLog old (contents files file) gate → IsLogOf files file gate old
log_chosen files file gate old is log = record {
  is_chosen = is;
  holds = subst (λ ps. Holds old (contents files file) gate ps) (sym (ap (λ r. result_unwrap_or r []) (payloads_chosen true files file is ∙ log_by-holds true old _ gate log.payloads log.holds))) log.holds;
}

-- what the first byte of Head names
pub first_named : (files : Files) (front : List ℕ) → 0 < length files.head → front ≡ take (0 + 1 - 0) (drop 0 files.head) → get_or front 0 0 ≢ 2 → chosen_file files ≡ Some One
first_named files front some is other = by files.head some is
  where
    by : (head : List ℕ) → 0 < length head → front ≡ take 1 head → chosen_by head files.two ≡ Some One
    by [] some is = absurd (omega arith)
    by (byte ∷ more) some is = let first : get_or front 0 0 ≡ byte = ap (λ (l : List ℕ). get_or l 0 0) is in grind (arith, nat_tests, first)

pub second_named : (files : Files) (front : List ℕ) → 0 < length files.head → front ≡ take (0 + 1 - 0) (drop 0 files.head) → get_or front 0 0 ≡ 2 → 9 ≤ length files.two → chosen_file files ≡ Some Two
second_named files front some is named long = by files.head some is
  where
    by : (head : List ℕ) → 0 < length head → front ≡ take 1 head → chosen_by head files.two ≡ Some Two
    by [] some is = absurd (omega arith)
    by (byte ∷ more) some is = let first : get_or front 0 0 ≡ byte = ap (λ (l : List ℕ). get_or l 0 0) is in grind (arith, nat_tests, first)
