-- The form of documents, lines, fates and archives.
use Rattle.std.proofs.Common.{◌≡◌, ℕ, ◌^◌, ◌<◌, true, List, ◌∷◌, ◌++◌, map, length, Option, Some, None, refl, ap, subst, arith}
use Rattle.std.specs.Prelude.{nat_le, IsTrue, ⊤}
use Rattle.std.specs.Int.{w16, w32}
use Rattle.std.specs.List.{flat_map, AllByRecursion}
use Rattle.std.proofs.lemmas.Bool.{and_parts, and_from, leb-true, le-leb}
use Rattle.std.proofs.lemmas.Option.{some_pair_parts}
use Rattle.mt_base.specs.Numbers.{big_endian_16, big_endian_32}
use Rattle.mt_path.specs.AccountPath.{AccountPath}
use Rattle.mt_types.specs.declared.body.Body.{Body}
use Rattle.mt_types.specs.declared.document.PhaseKind.{PhaseKind}
use Rattle.mt_types.specs.declared.document.PhaseKind.TheVariants.{Map, Reduce}
use Rattle.mt_types.specs.declared.document.InputLine.{InputLine}
use Rattle.mt_types.specs.declared.document.InputLine.TheVariants.{Named, Other}
use Rattle.mt_types.specs.declared.task.TaskRecord.{TaskRecord}
use Rattle.mt_types.specs.declared.task.TaskRecord.TheVariants.{Emit, Keep, Ref}
use Rattle.mt_types.specs.declared.task.TaskFailure.{TaskFailure}
use Rattle.mt_types.specs.declared.task.TaskFailure.TheVariants.{UserTaskError, TaskOutputTooLarge, TaskRecordError, TaskPlaceRefused, TaskObjectMissing}
use Rattle.mt_types.specs.declared.task.Fate.{Fate}
use Rattle.mt_types.specs.declared.task.Fate.TheVariants.{Good, Bad}
use Rattle.mt_types.specs.declared.limits.TheConstants.{MOST_PHASES, MOST_ASSETS, MOST_RECORDS, LONGEST_STDERR}
use Rattle.mt_types.specs.Limits.{is_count, is_line_text}
use Rattle.mt_codec.specs.Fields.{text_spelling}
use Rattle.mt_codec.specs.Spelling.{byte_spelling, kind_spelling, phase_spelling, document_spelling, line_spelling, record_spelling, failure_number, fate_spelling, archive_spelling, FitsKind, FitsPhase, FitsDocument, FitsLine, FitsRecord, FitsFate, FitsArchive}
use Rattle.mt_codec.proofs.Digests.{undigested_record, undigested_fate, undigested_archive}
use Rattle.mt_codec.specs.Reading.{◌&◌, Reader, made, tested, named, choice, nothing, byte_at, number_at, sized, counted}
use Rattle.mt_codec.specs.Readers.{is_few_assets, is_few_records, is_short_stderr, is_phases, texts, kind_at, phase_of, phase_at, document_of, document_at, line_at, emit_at, keep_at, record_at, failure_numbered, good_at, bad_at, fate_at, archive_of, archive_at, path_at}
use Rattle.mt_codec.proofs.Forms.{IsBytes, IsForm, Took, same, said, both_form, made_again, variant_takes, choice_takes, nothing_takes, made_form, named_form, byte_form, four_form, sized_form, counted_form, list_form, optional_form}
use Rattle.mt_codec.proofs.Known.{named_or, named_none, few_form, several_form, count_form, job_name_form, command_line_form, line_text_form, path_form, body_form}

-- ---- documents

kind_takes : (bytes : List ℕ) (x : PhaseKind) (rest : List ℕ) → IsBytes bytes → kind_at bytes ≡ Some (x, rest) → Took kind_spelling FitsKind same bytes x rest
unfolding kind_at kind_spelling
kind_takes =
    choice_takes (Took kind_spelling FitsKind same) 0 (λ (bytes : List ℕ). Some (Map, bytes)) (choice 1 (made (λ n. Reduce n) (tested is_count (number_at w32))) nothing)
    map_takes
    (choice_takes (Took kind_spelling FitsKind same) 1 (made (λ n. Reduce n) (tested is_count (number_at w32))) nothing
    (variant_takes count_form 1 (λ n. Reduce n) kind_spelling FitsKind same (λ n h. refl) (λ n h. h) (λ n. refl))
    (nothing_takes (Took kind_spelling FitsKind same)))
  where
    map_at : Reader PhaseKind
    map_at bytes = Some (Map, bytes)

    map_takes : (bytes : List ℕ) (x : PhaseKind) (rest : List ℕ) → IsBytes bytes → map_at bytes ≡ Some (x, rest) → Took kind_spelling FitsKind same (0 ∷ bytes) x rest
    map_takes bytes x rest fits e =
        let s = some_pair_parts Map x bytes rest e in
        subst (λ (k : PhaseKind). Took kind_spelling FitsKind same (0 ∷ bytes) k rest) s.0 (record { parts = ap (λ (t : List ℕ). 0 ∷ t) s.1; fits = tt; same = refl })

kind_again : (x : PhaseKind) (rest : List ℕ) → FitsKind x → kind_at (kind_spelling x ++ rest) ≡ Some (x, rest)
unfolding kind_at kind_spelling
kind_again Map rest fits = refl
kind_again (Reduce n) rest fits = made_again count_form (λ m. Reduce m) n rest fits

kind_form : IsForm kind_spelling FitsKind same kind_at
kind_form = record { takes = kind_takes; again = kind_again }

phase_form : IsForm phase_spelling (FitsPhase true) same phase_at
unfolding phase_spelling phase_at
phase_form =
    made_form
    (both_form (both_form (both_form kind_form command_line_form) (optional_form command_line_form)) (list_form (few_form is_few_assets (λ n h. omega (arith, leb-true n MOST_ASSETS h))) path_form))
    (λ p. phase_of p.0 p.1) (λ p. (((p.kind, p.exec), p.init), p.assets)) phase_spelling (FitsPhase true) same
    (λ p. refl) (λ p. refl)
    (λ p h. record { kind = h.0.0.0; exec = h.0.0.1; init = h.0.1; few = leb-true (length p.1) MOST_ASSETS h.1.0; assets = h.1.1 })
    (λ p h. (((h.kind, h.exec), h.init), (le-leb (length p.assets) MOST_ASSETS h.few, h.assets)))
    (λ p. refl)

pub document_form : IsForm document_spelling (FitsDocument true) same document_at
unfolding document_spelling document_at
document_form =
    made_form
    (both_form job_name_form (list_form (few_form is_phases (λ n h. omega (arith, leb-true n MOST_PHASES (and_parts (nat_le 1 n) (nat_le n MOST_PHASES) h).1))) phase_form))
    document_of (λ d. (d.name, d.phases)) document_spelling (FitsDocument true) same
    (λ d. refl) (λ p. refl)
    (λ p h.
    let sizes = and_parts (nat_le 1 (length p.1)) (nat_le (length p.1) MOST_PHASES) h.1.0 in
    record { name = h.0.0; text = h.0.1; some = leb-true 1 (length p.1) sizes.0; few = leb-true (length p.1) MOST_PHASES sizes.1; phases = h.1.1 })
    (λ d h. ((h.name, h.text), (and_from (nat_le 1 (length d.phases)) (nat_le (length d.phases) MOST_PHASES) (le-leb 1 (length d.phases) h.some) (le-leb (length d.phases) MOST_PHASES h.few), h.phases)))
    (λ p. refl)

-- ---- lines

line_takes : (bytes : List ℕ) (x : InputLine) (rest : List ℕ) → IsBytes bytes → line_at bytes ≡ Some (x, rest) → Took line_spelling (FitsLine true) same bytes x rest
unfolding line_at line_spelling
line_takes =
    choice_takes (Took line_spelling (FitsLine true) same) 0 (made (λ p. Named p) path_at) (choice 1 (made (λ t. Other t) (texts is_line_text (sized (number_at w32)))) nothing)
    (variant_takes path_form 0 (λ p. Named p) line_spelling (FitsLine true) same (λ p h. refl) (λ p h. h) (λ p. refl))
    (choice_takes (Took line_spelling (FitsLine true) same) 1 (made (λ t. Other t) (texts is_line_text (sized (number_at w32)))) nothing
    (variant_takes line_text_form 1 (λ t. Other t) line_spelling (FitsLine true) same (λ t h. refl) (λ t h. h) (λ t. refl))
    (nothing_takes (Took line_spelling (FitsLine true) same)))

line_again : (x : InputLine) (rest : List ℕ) → FitsLine true x → line_at (line_spelling x ++ rest) ≡ Some (x, rest)
unfolding line_at line_spelling
line_again (Named p) rest fits = made_again path_form (λ q. Named q) p rest fits
line_again (Other t) rest fits = made_again line_text_form (λ q. Other q) t rest fits

pub line_form : IsForm line_spelling (FitsLine true) same line_at
line_form = record { takes = line_takes; again = line_again }

-- ---- records and fates

abbrev emit_of : (Option AccountPath × Option ℕ) × Body → TaskRecord Body
emit_of p = Emit p.0.0 p.0.1 p.1

abbrev keep_of : AccountPath × Body → TaskRecord Body
keep_of p = Keep p.0 p.1

abbrev ref_of : AccountPath → TaskRecord Body
ref_of p = Ref p

abbrev RecordTook : List ℕ → TaskRecord Body → List ℕ → Type 0
RecordTook = Took record_spelling (FitsRecord true) undigested_record

record_takes : (bytes : List ℕ) (x : TaskRecord Body) (rest : List ℕ) → IsBytes bytes → record_at bytes ≡ Some (x, rest) → RecordTook bytes x rest
unfolding record_at record_spelling
record_takes =
    choice_takes RecordTook 1 emit_at (choice 2 keep_at (choice 3 (made ref_of path_at) nothing))
    (variant_takes (both_form (both_form (optional_form path_form) (optional_form four_form)) body_form) 1 emit_of record_spelling (FitsRecord true) undigested_record (λ p h. refl) (λ p h. (h.0.0, h.0.1, h.1)) (λ p. refl))
    (choice_takes RecordTook 2 keep_at (choice 3 (made ref_of path_at) nothing)
    (variant_takes (both_form path_form body_form) 2 keep_of record_spelling (FitsRecord true) undigested_record (λ p h. refl) (λ p h. (h.0, h.1)) (λ p. refl))
    (choice_takes RecordTook 3 (made ref_of path_at) nothing
    (variant_takes path_form 3 ref_of record_spelling (FitsRecord true) undigested_record (λ p h. refl) (λ p h. h) (λ p. refl))
    (nothing_takes RecordTook)))

record_again : (x : TaskRecord Body) (rest : List ℕ) → FitsRecord true x → record_at (record_spelling x ++ rest) ≡ Some (undigested_record x, rest)
unfolding record_at record_spelling
record_again (Emit place reducer body) rest fits = made_again (both_form (both_form (optional_form path_form) (optional_form four_form)) body_form) emit_of ((place, reducer), body) rest ((fits.0, fits.1), fits.2)
record_again (Keep place body) rest fits = made_again (both_form path_form body_form) keep_of (place, body) rest (fits.0, fits.1)
record_again (Ref name) rest fits = made_again path_form ref_of name rest fits

record_form : IsForm record_spelling (FitsRecord true) undigested_record record_at
record_form = record { takes = record_takes; again = record_again }

failure_named : (x : TaskFailure) → failure_numbered (failure_number x) ≡ Some x
failure_named UserTaskError = refl
failure_named TaskOutputTooLarge = refl
failure_named TaskRecordError = refl
failure_named TaskPlaceRefused = refl
failure_named TaskObjectMissing = refl

numbered_failure : (n : ℕ) (x : TaskFailure) → failure_numbered n ≡ Some x → failure_number x ≡ n
numbered_failure n x e =
    named_or n 1 UserTaskError x _ failure_number refl
    (named_or n 2 TaskOutputTooLarge x _ failure_number refl
    (named_or n 3 TaskRecordError x _ failure_number refl
    (named_or n 4 TaskPlaceRefused x _ failure_number refl
    (named_or n 5 TaskObjectMissing x None failure_number refl (named_none x _))))) e

failure_below : (x : TaskFailure) → failure_number x < 256
failure_below UserTaskError = omega arith
failure_below TaskOutputTooLarge = omega arith
failure_below TaskRecordError = omega arith
failure_below TaskPlaceRefused = omega arith
failure_below TaskObjectMissing = omega arith

failure_form : IsForm (λ x. byte_spelling (failure_number x)) (λ x. ⊤) same (named failure_numbered byte_at)
failure_form = said (named_form byte_form failure_numbered failure_number failure_named numbered_failure) (λ x h. tt) (λ x h. failure_below x) (λ x. refl)

records_form : IsForm (λ xs. big_endian_16 (length xs) ++ flat_map record_spelling xs) (λ xs. IsTrue (is_few_records (length xs)) × AllByRecursion (FitsRecord true) xs) (map undigested_record) (counted (tested is_few_records (number_at w16)) record_at)
records_form = counted_form (several_form is_few_records (λ n h. omega (arith, leb-true n MOST_RECORDS h))) record_form

stderr_form : IsForm text_spelling (λ t. IsTrue (is_short_stderr (length t))) same (sized (tested is_short_stderr (number_at w16)))
stderr_form = sized_form (several_form is_short_stderr (λ n h. omega (arith, leb-true n LONGEST_STDERR h)))

bad_form : IsForm {A = (TaskFailure × ℕ) × List ℕ} (λ p. (byte_spelling (failure_number p.0.0) ++ big_endian_32 p.0.1) ++ text_spelling p.1) (λ p. (⊤ × (p.0.1 < 2 ^ 32)) × IsTrue (is_short_stderr (length p.1))) same (named failure_numbered byte_at & number_at w32 & sized (tested is_short_stderr (number_at w16)))
bad_form = both_form (both_form failure_form four_form) stderr_form

abbrev good_of : List (TaskRecord Body) → Fate Body
good_of records = Good records

abbrev bad_of : (TaskFailure × ℕ) × List ℕ → Fate Body
bad_of p = Bad p.0.0 p.0.1 p.1

abbrev FateTook : List ℕ → Fate Body → List ℕ → Type 0
FateTook = Took fate_spelling (FitsFate true) undigested_fate

fate_takes : (bytes : List ℕ) (x : Fate Body) (rest : List ℕ) → IsBytes bytes → fate_at bytes ≡ Some (x, rest) → FateTook bytes x rest
unfolding fate_at fate_spelling
fate_takes =
    choice_takes FateTook 0 good_at (choice 1 bad_at nothing)
    (variant_takes records_form 0 good_of fate_spelling (FitsFate true) undigested_fate (λ xs h. refl) (λ xs h. (leb-true (length xs) MOST_RECORDS h.0, h.1)) (λ xs. refl))
    (choice_takes FateTook 1 bad_at nothing
    (variant_takes bad_form 1 bad_of fate_spelling (FitsFate true) undigested_fate (λ p h. refl) (λ p h. (h.0.1, leb-true (length p.1) LONGEST_STDERR h.1)) (λ p. refl))
    (nothing_takes FateTook))

fate_again : (x : Fate Body) (rest : List ℕ) → FitsFate true x → fate_at (fate_spelling x ++ rest) ≡ Some (undigested_fate x, rest)
unfolding fate_at fate_spelling
fate_again (Good records) rest fits = made_again records_form good_of records rest (le-leb (length records) MOST_RECORDS fits.0, fits.1)
fate_again (Bad failure status stderr) rest fits = made_again bad_form bad_of ((failure, status), stderr) rest ((tt, fits.0), le-leb (length stderr) LONGEST_STDERR fits.1)

pub fate_form : IsForm fate_spelling (FitsFate true) undigested_fate fate_at
fate_form = record { takes = fate_takes; again = fate_again }

pub archive_form : IsForm archive_spelling (FitsArchive true) undigested_archive archive_at
unfolding archive_spelling archive_at
archive_form =
    made_form (both_form (both_form (both_form (both_form body_form body_form) body_form) body_form) body_form)
    archive_of (λ a. ((((a.err, a.fail), a.input), a.status), a.out)) archive_spelling (FitsArchive true) undigested_archive
    (λ a. refl) (λ p. refl)
    (λ p h. record { err = h.0.0.0.0; fail = h.0.0.0.1; input = h.0.0.1; status = h.0.1; out = h.1 })
    (λ a h. ((((h.err, h.fail), h.input), h.status), h.out))
    (λ p. refl)
