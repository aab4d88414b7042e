-- What the first byte of Head says of the log's file, and what a crash leaves of a write there.
use Rattle.std.proofs.Common.{◌≡◌, ◌≢◌, inl, inr, ℕ, ◌+◌, ◌-◌, ◌<◌, ◌≤◌, List, [], ◌∷◌, length, take, drop, get_or, Some, refl, sym, ap, subst, ◌∙◌, arith}
use Rattle.std.proofs.lemmas.Bool.{cases_lt}
use Rattle.std.proofs.lemmas.Bool.Decides.{nat_tests}
use Rattle.std.proofs.lemmas.List.{take_min}
use Rattle.std.proofs.lemmas.Option.{none-some, same_Some}
use Rattle.mt_disk.specs.declared.disk.FileNo.{FileNo}
use Rattle.mt_disk.specs.declared.disk.FileNo.TheVariants.{Head, One, Two}
use Rattle.mt_disk.specs.Files.{Files, with_contents}
use Rattle.mt_disk.specs.CrashModel.{Elapses, Follows, OnFile, Only, Torn}
use Rattle.mt_disk.proofs.Moments.{Under, begun, steps}
use Rattle.mt_log.specs.LogImage.{SameLog, chosen_by, chosen_file, payloads_by, payloads_in}
use Rattle.mt_log.specs.Stage.{IsMissing, IsNaming}
use Rattle.mt_draft.specs.Drafts.{IsFirm}
use Rattle.mt_draft.specs.Steps.{name_of, with_named}

pub chosen_some : (files : Files) (file : FileNo) → chosen_file files ≡ Some file → 0 < length files.head
chosen_some files file is = by files.head is
  where
    by : (head : List ℕ) → chosen_by head files.two ≡ Some file → 0 < length head
    by [] named = absurd (none-some file named)
    by (byte ∷ more) named = omega arith

-- the first byte names One, whatever the other file holds
pub firm_unless_two : (files : Files) (front : List ℕ) → 0 < length files.head → front ≡ take (0 + 1 - 0) (drop 0 files.head) → get_or front 0 0 ≢ 2 → IsFirm files One
firm_unless_two files front some is other one two = by files.head some is
  where
    by : (head : List ℕ) → 0 < length head → front ≡ take 1 head → chosen_by head two ≡ Some One
    by [] some is = absurd (omega (arith, some))
    by (byte ∷ more) some is = let first : get_or front 0 0 ≡ byte = ap (λ (l : List ℕ). get_or l 0 0) is in grind (arith, nat_tests, first)

second_named : (files : Files) (front : List ℕ) → 0 < length files.head → front ≡ take (0 + 1 - 0) (drop 0 files.head) → get_or front 0 0 ≡ 2 → 9 ≤ length files.two → chosen_file files ≡ Some Two
second_named files front some is named long = by files.head some is
  where
    by : (head : List ℕ) → 0 < length head → front ≡ take 1 head → chosen_by head files.two ≡ Some Two
    by [] some is = absurd (omega (arith, some))
    by (byte ∷ more) some is = let first : get_or front 0 0 ≡ byte = ap (λ (l : List ℕ). get_or l 0 0) is in grind (arith, nat_tests, first)

pub missing_if_two : (files : Files) (front : List ℕ) → chosen_file files ≡ Some One → 0 < length files.head → front ≡ take (0 + 1 - 0) (drop 0 files.head) → get_or front 0 0 ≡ 2 → IsMissing files
missing_if_two files front chosen some is named = record {
  some = some;
  short = elim (cases_lt (length files.two) 9) [
    | inl short ↦ short
    | inr long ↦ let both : Two ≡ One = same_Some Two One (sym (second_named files front some is named long) ∙ chosen) in absurd (cc both)
  ];
}

pub naming_same : (files c : Files) → c ≡ files → IsNaming files c
naming_same files c is = record {
  torn = subst (λ (l : List ℕ). Torn 0 1 files.head l) (sym (ap (λ f. f.head) is)) (record { before = take_min 0 files.head; after = refl; no_shorter = omega arith; no_longer = omega arith });
  others = is ∙ ap (λ f. with_contents files Head f.head) (sym is);
}

naming_step : (files d c : Files) → d ≡ files → OnFile Head (Torn 0 1) d c → IsNaming files c
naming_step files d c is on = record {
  torn = subst (λ f. Torn 0 1 f.head c.head) is on.stepped;
  others = on.others ∙ ap (λ f. with_contents f Head c.head) is;
}

-- after the write of Head
pub naming_runs : {D : Type 0} (moment : D → ℕ) (left_since : D → ℕ → Files → Type 0) (may_leave : D → Files → Type 0) (old new : D) (files : Files)
    → ((c : Files) → left_since old (moment old) c → may_leave old c) → Only files (may_leave old)
    → Follows (OnFile Head (Torn 0 1)) (may_leave old) (may_leave new) → Elapses (moment old) (moment new) (left_since old) (left_since new) (may_leave new)
    → Under moment left_since may_leave old new (IsNaming files) (IsNaming files)
naming_runs moment left_since may_leave old new files only_now rest follows time =
    steps moment left_since may_leave old old new (IsNaming files) (λ c. c ≡ files) (IsNaming files) (IsNaming files) (OnFile Head (Torn 0 1))
    (begun moment left_since may_leave old (IsNaming files) (λ c. c ≡ files) only_now rest (naming_same files)) follows time (naming_step files) (λ c is. is) (λ c is. is)

-- Two is no log, and whatever Head names, the log is One
pub missing_log : (files : Files) → IsMissing files → (c : Files) → IsNaming files c → SameLog files c
missing_log files missing c is = record {
  same = λ any.
      ap (λ f. payloads_by any f) is.others
      ∙ ap (λ o. payloads_in any o (with_contents files Head c.head)) (one_is c.head (omega (arith, missing.some, is.torn.no_shorter)))
      ∙ sym (ap (λ o. payloads_in any o files) (one_is files.head missing.some));
  fit = λ empty. absurd (omega (arith, ap (λ (l : List ℕ). length l) empty, missing.some, is.torn.no_shorter));
}
  where
    one_is : (head : List ℕ) → 0 < length head → chosen_by head files.two ≡ Some One
    one_is [] some = absurd (omega (arith, some))
    one_is (byte ∷ more) some = let short = missing.short in grind (arith, nat_tests, short)

-- a Head that begins with a file's byte names that file, and no other whatever the other one holds
pub named_chosen : (files : Files) (file : FileNo) → (file ≡ Head → ⊥) → (file ≡ Two → 9 ≤ length files.two) → chosen_file (with_named (name_of file) files) ≡ Some file
named_chosen files One is long = refl
named_chosen files Two is long = let enough = long refl in grind (arith, nat_tests, enough)
named_chosen files Head is long = absurd (is refl)

pub named_firm : (files : Files) (file : FileNo) → IsFirm (with_named (name_of file) files) file
named_firm files One is two = refl
named_firm files Two is two = absurd (cc is)
named_firm files Head is two = absurd (cc is)
