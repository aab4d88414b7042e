-- The log of a disk as a fact that a value may keep.
use Rattle.std.proofs.Common.{◌≡◌, ◌≢◌, ◌<◌, ℕ, ◌+◌, ◌^◌, Bool, true, false, ◌&&◌, nat_lt, List, [], ◌∷◌, ◌++◌, length, drop, get_or, Option, Some, refl, sym, ap, ◌∙◌, subst, arith}
use Rattle.std.specs.List.{flat_map, list_all}
use Rattle.std.specs.Option.{ForSome}
use Rattle.std.proofs.Math.Seq.{drop-append-add, drop-append_seam}
use Rattle.std.proofs.lemmas.Bool.{lt-ltb, ltb-true}
use Rattle.mt_disk.specs.Files.{Files, contents}
use Rattle.mt_disk.specs.declared.disk.FileNo.{FileNo}
use Rattle.mt_log.specs.LogImage.{AllFit, Holds, IsLogOf, magic_of, payloads_of, record_of}
use Rattle.mt_log.specs.LogState.{IsThere, LogState}
use Rattle.mt_tasks.specs.Reading.{IsLogThere, byte_behind}

and_both : (a b : Bool) → (a && b) ≡ true → (a ≡ true) × (b ≡ true)
and_both true b is = (refl, is)
and_both false b is = cc

both_and : (a b : Bool) → a ≡ true → b ≡ true → (a && b) ≡ true
both_and true b first second = second
both_and false b first second = cc

fit_tests : (ps : List (List ℕ)) → AllFit ps → list_all (λ p. nat_lt (length p) 4294967296) ps ≡ true
fit_tests [] fit = refl
fit_tests (p ∷ ps) fit = both_and (nat_lt (length p) 4294967296) (list_all (λ p. nat_lt (length p) 4294967296) ps) (lt-ltb (length p) 4294967296 fit.0) (fit_tests ps fit.1)

tests_fit : (ps : List (List ℕ)) → list_all (λ p. nat_lt (length p) 4294967296) ps ≡ true → AllFit ps
tests_fit [] tests = tt
tests_fit (p ∷ ps) tests =
    let both = and_both (nat_lt (length p) 4294967296) (list_all (λ p. nat_lt (length p) 4294967296) ps) tests in
    (ltb-true (length p) 4294967296 both.0, tests_fit ps both.1)

-- the byte and the rest behind a front
behind_front : (front : List ℕ) (b : ℕ) (tail : List ℕ) → byte_behind front (front ++ b ∷ tail) ≡ b
behind_front front b tail = ap (λ (l : List ℕ). get_or l 0 0) (drop-append_seam front (b ∷ tail))

rest_behind : (front : List ℕ) (b : ℕ) (tail : List ℕ) → drop (length front + 1) (front ++ b ∷ tail) ≡ tail
rest_behind front b tail = drop-append-add front (b ∷ tail) 1

log_there : (files : Files) (file : FileNo) (gate : ℕ) (old : Bool) → IsLogOf files file gate old → IsLogThere files file gate old
log_there files file gate old is =
    let front : List ℕ = magic_of old ++ flat_map record_of (payloads_of files) in
    let h = is.holds in
    let byte : byte_behind front (contents files file) ≡ h.byte = ap (byte_behind front) h.whole ∙ behind_front front h.byte h.tail in
    let rest : drop (length front + 1) (contents files file) ≡ h.tail = ap (drop (length front + 1)) h.whole ∙ rest_behind front h.byte h.tail in
    record {
      is_chosen = is.is_chosen;
      shut = λ one. h.shut (sym byte ∙ one);
      place = h.place;
      whole = h.whole ∙ (λ i. front ++ sym byte i ∷ sym rest i);
      each = fit_tests (payloads_of files) h.each;
    }

there_log : (files : Files) (file : FileNo) (gate : ℕ) (old : Bool) → IsLogThere files file gate old → IsLogOf files file gate old
there_log files file gate old is =
    let front : List ℕ = magic_of old ++ flat_map record_of (payloads_of files) in
    record {
      is_chosen = is.is_chosen;
      holds = record {
        byte = byte_behind front (contents files file);
        tail = drop (length front + 1) (contents files file);
        shut = is.shut;
        place = is.place;
        whole = is.whole;
        each = tests_fit (payloads_of files) is.each;
      };
    }

-- both ways, over a disk
pub keeps_there : (seen : Option Files) (log : LogState) → ForSome seen (λ files. IsLogOf files log.file log.gate log.is_old) → ForSome seen (λ files. IsLogThere files log.file log.gate log.is_old)
keeps_there seen log there files is = log_there files log.file log.gate log.is_old (there files is)

pub there_kept : (seen : Option Files) (log : LogState) → ForSome seen (λ files. IsLogThere files log.file log.gate log.is_old) → log.closed ≡ false → ForSome seen (λ files. IsLogOf files log.file log.gate log.is_old)
there_kept seen log there is_open files is = there_log files log.file log.gate log.is_old (there files is)
