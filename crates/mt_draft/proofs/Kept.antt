-- The log stays while the other file is written.
use Rattle.std.proofs.Common.{◌≡◌, ◌⊎◌, inl, inr, ℕ, ◌<◌, Bool, true, false, List, [], ◌∷◌, length, Some, refl, sym, ap, subst, ◌∙◌, arith}
use Rattle.std.specs.Prelude.{◌==◌, if◌then◌else◌, nat_le}
use Rattle.std.specs.Result.{result_unwrap_or}
use Rattle.std.proofs.lemmas.Bool.Decides.{nat_tests}
use Rattle.std.proofs.lemmas.Option.{none-some}
use Rattle.mt_disk.specs.declared.disk.FileNo.{FileNo}
use Rattle.mt_disk.specs.declared.disk.FileNo.TheVariants.{Head, One, Two}
use Rattle.mt_disk.specs.Files.{Files, contents, with_contents}
use Rattle.mt_log.specs.LogImage.{Holds, IsLogOf, SameLog, chosen_by, chosen_file, log_by, payloads_of}
use Rattle.mt_log.specs.LogState.{LogState}
use Rattle.mt_log.proofs.Appended.{chosen_fit, payloads_chosen}
use Rattle.mt_draft.specs.Drafts.{IsFirm, KeepsLog, other_of}

-- Head holds no log
pub never_head : (head two : List ℕ) → chosen_by head two ≡ Some Head → ⊥
never_head [] two is = none-some Head is
never_head (byte ∷ more) two is = grind (arith, nat_tests)

pub log_no_head : (files : Files) (file : FileNo) → chosen_file files ≡ Some file → file ≡ Head → ⊥
log_no_head files file is head = never_head files.head files.two (subst (λ f. chosen_file files ≡ Some f) head is)

-- a write of Head leaves what the others hold
pub naming_keeps : (files c : Files) (file : FileNo) → (file ≡ Head → ⊥) → c ≡ with_contents files Head c.head → contents c file ≡ contents files file
naming_keeps files c One never is = ap (λ f. f.one) is
naming_keeps files c Two never is = ap (λ f. f.two) is
naming_keeps files c Head never is = absurd (never refl)

-- whatever a Head with a byte names, it is one of the two
pub either_chosen : (head two : List ℕ) → 0 < length head → (chosen_by head two ≡ Some One) ⊎ (chosen_by head two ≡ Some Two)
either_chosen [] two some = absurd (omega (arith, some))
either_chosen (byte ∷ more) two some = by (byte == 2) (nat_le 9 (length two))
  where
    by : (names long : Bool) → (Some (if names then if long then Two else One else One) ≡ Some One) ⊎ (Some (if names then if long then Two else One else One) ≡ Some Two)
    by true true = inr refl
    by true false = inl refl
    by false long = inl refl

pub other_twice : (files : Files) (file : FileNo) → chosen_file files ≡ Some file → other_of (other_of file) ≡ file
other_twice files One is = refl
other_twice files Two is = refl
other_twice files Head is = absurd (never_head files.head files.two is)

-- one file that holds the log in both, and the same in it
pub same_chosen : (files c : Files) (file : FileNo) → chosen_file files ≡ Some file → chosen_file c ≡ Some file → contents c file ≡ contents files file → SameLog files c
same_chosen files c file was now same = record {
  same = λ any. payloads_chosen any c file now ∙ ap (log_by any) same ∙ sym (payloads_chosen any files file was);
  fit = chosen_fit c file now;
}

pub same_on : (files now c : Files) → SameLog files now → SameLog now c → SameLog files c
same_on files now c first second = record { same = λ any. second.same any ∙ first.same any; fit = second.fit }

pub same_list : (files c : Files) → SameLog files c → payloads_of c ≡ payloads_of files
same_list files c same = ap (λ r. result_unwrap_or r []) (same.same true)

-- the log's file is chosen still, and is as it was
pub kept_chosen : (files : Files) (file : FileNo) → chosen_file files ≡ Some file → IsFirm files file → (c : Files) → KeepsLog files file c → (chosen_file c ≡ Some file) × (contents c file ≡ contents files file)
kept_chosen files One chosen firm c keeps = (ap (λ f. chosen_by f.head c.two) keeps ∙ firm refl c.two, ap (λ f. f.one) keeps)
kept_chosen files Two chosen firm c keeps = (ap (λ f. chosen_by f.head f.two) keeps ∙ chosen, ap (λ f. f.two) keeps)
kept_chosen files Head chosen firm c keeps = absurd (never_head files.head files.two chosen)

-- so the log is the same
pub kept_log : (files : Files) (file : FileNo) → chosen_file files ≡ Some file → IsFirm files file → (c : Files) → KeepsLog files file c → SameLog files c
kept_log files file chosen firm c keeps =
    let now = kept_chosen files file chosen firm c keeps in
    same_chosen files c file chosen now.0 now.1

-- a log in the same file with the same bytes
pub same_is : (files c : Files) (log : LogState) → IsLogOf files log.file log.gate log.is_old → chosen_file c ≡ Some log.file → contents c log.file ≡ contents files log.file → IsLogOf c log.file log.gate log.is_old
same_is files c log is now same =
    let list = same_list files c (same_chosen files c log.file is.is_chosen now same) in
    record {
      is_chosen = now;
      holds = subst (λ (bytes : List ℕ). Holds log.is_old bytes log.gate (payloads_of c)) (sym same) (subst (λ (ps : List (List ℕ)). Holds log.is_old (contents files log.file) log.gate ps) (sym list) is.holds);
    }

pub kept_is : (files : Files) (log : LogState) → IsLogOf files log.file log.gate log.is_old → IsFirm files log.file → (c : Files) → KeepsLog files log.file c → IsLogOf c log.file log.gate log.is_old
kept_is files log is firm c keeps =
    let now = kept_chosen files log.file is.is_chosen firm c keeps in
    same_is files c log is now.0 now.1

-- and Head names it still
pub kept_firm : (files : Files) (file : FileNo) → IsFirm files file → (c : Files) → KeepsLog files file c → IsFirm c file
kept_firm files One firm c keeps = λ is two. ap (λ f. chosen_by f.head two) keeps ∙ firm is two
kept_firm files Two firm c keeps = λ is two. ap (λ f. chosen_by f.head two) keeps ∙ firm is two
kept_firm files Head firm c keeps = λ is two. ap (λ f. chosen_by f.head two) keeps ∙ firm is two
