-- The form of records: what is read is spelled so, and what is spelled so is read.
use Rattle.std.proofs.Common.{◌≡◌, true, ℕ, ◌^◌, ◌<◌, List, ◌∷◌, ◌++◌, Some, refl, ap, subst, arith}
use Rattle.std.specs.Prelude.{IsTrue}
use Rattle.std.specs.Int.{w64}
use Rattle.std.proofs.lemmas.Bool.{leb-true}
use Rattle.std.proofs.lemmas.Option.{some_pair_parts}
use Rattle.mt_base.specs.Numbers.{big_endian_64}
use Rattle.mt_types.specs.declared.body.Body.{Body}
use Rattle.mt_types.specs.declared.document.InputLine.{InputLine}
use Rattle.mt_types.specs.declared.job.Item.{Item}
use Rattle.mt_types.specs.declared.job.TraceEntry.{TraceEntry}
use Rattle.mt_types.specs.declared.limits.TheConstants.{MOST_COMMANDS}
use Rattle.mt_types.specs.declared.object.Row.{Row}
use Rattle.mt_types.specs.declared.upload.PartRow.{PartRow}
use Rattle.mt_codec.specs.Reading.{◌&◌, choice, made, nothing, number_at, tested}
use Rattle.mt_codec.specs.Readers.{line_at}
use Rattle.mt_codec.proofs.Forms.{IsBytes, IsForm, Took, same, said, both_form, made_again, variant_takes, choice_takes, nothing_takes, tested_form, eight_form}
use Rattle.mt_codec.proofs.JobForms.{line_form}
use Rattle.mt_snapshot.specs.declared.record.JobRecord.{JobRecord}
use Rattle.mt_snapshot.specs.declared.record.SnapshotRecord.{SnapshotRecord}
use Rattle.mt_snapshot.specs.declared.record.SnapshotRecord.TheVariants as listed
use Rattle.mt_snapshot.specs.declared.record.UploadRecord.{UploadRecord}
use Rattle.mt_snapshot.specs.Records.{is_position, snapshot_spelling, undigested_snapshot, FitsSnapshot}
use Rattle.mt_snapshot.specs.Readers.{begin_at, end_at, item_at, job_at, later_record_at, part_at, record_at, row_at, trace_at, upload_at}
use Rattle.mt_snapshot.proofs.Fields.{item_form, job_form, part_form, row_form, trace_form, upload_form}

abbrev pub RecordTook : List ℕ → SnapshotRecord Body → List ℕ → Type 0
RecordTook = Took snapshot_spelling (FitsSnapshot true) undigested_snapshot

-- ---- the fields of each record, and the record of these fields

abbrev begin_of : ((ℕ × ℕ) × ℕ) × ℕ → SnapshotRecord Body
begin_of p = listed.Begin p.0.0.0 p.0.0.1 p.0.1 p.1

abbrev row_record_of : Row Body → SnapshotRecord Body
row_record_of r = listed.Row r

abbrev job_record_of : JobRecord Body → SnapshotRecord Body
job_record_of j = listed.Job j

abbrev input_of : Item Body → SnapshotRecord Body
input_of i = listed.Input i

abbrev missing_of : InputLine → SnapshotRecord Body
missing_of l = listed.Missing l

abbrev entry_of : TraceEntry Body → SnapshotRecord Body
entry_of e = listed.Entry e

abbrev upload_record_of : UploadRecord → SnapshotRecord Body
upload_record_of u = listed.Upload u

abbrev part_record_of : PartRow Body → SnapshotRecord Body
part_record_of p = listed.Part p

position_form : IsForm big_endian_64 (λ n. IsTrue (is_position n)) same (tested is_position (number_at w64))
position_form = said (tested_form eight_form is_position (λ n. refl)) (λ n h. h.1) (λ n h. (omega (arith, leb-true n MOST_COMMANDS h), h)) (λ n. refl)

begin_form : IsForm {A = ((ℕ × ℕ) × ℕ) × ℕ} (λ p. ((big_endian_64 p.0.0.0 ++ big_endian_64 p.0.0.1) ++ big_endian_64 p.0.1) ++ big_endian_64 p.1)
    (λ p. ((IsTrue (is_position p.0.0.0) × (p.0.0.1 < 2 ^ 64)) × (p.0.1 < 2 ^ 64)) × (p.1 < 2 ^ 64)) same
    (tested is_position (number_at w64) & number_at w64 & number_at w64 & number_at w64)
begin_form = both_form (both_form (both_form position_form eight_form) eight_form) eight_form

-- ---- what is read

end_takes : (bytes : List ℕ) (r : SnapshotRecord Body) (rest : List ℕ) → IsBytes bytes → end_at bytes ≡ Some (r, rest) → RecordTook (71 ∷ bytes) r rest
unfolding snapshot_spelling
end_takes bytes r rest fits e =
    let none : SnapshotRecord Body = listed.End in
    let s = some_pair_parts none r bytes rest e in
    subst (λ (x : SnapshotRecord Body). RecordTook (71 ∷ bytes) x rest) s.0 (record { parts = ap (λ (t : List ℕ). 71 ∷ t) s.1; fits = tt; same = refl })

later_takes : (bytes : List ℕ) (r : SnapshotRecord Body) (rest : List ℕ) → IsBytes bytes → later_record_at bytes ≡ Some (r, rest) → RecordTook bytes r rest
unfolding later_record_at snapshot_spelling
later_takes =
    choice_takes RecordTook 69 (made entry_of trace_at) (choice 71 end_at (choice 72 (made upload_record_of upload_at) (choice 73 (made part_record_of part_at) nothing)))
    (variant_takes trace_form 69 entry_of snapshot_spelling (FitsSnapshot true) undigested_snapshot (λ e h. refl) (λ e h. h) (λ e. refl))
    (choice_takes RecordTook 71 end_at (choice 72 (made upload_record_of upload_at) (choice 73 (made part_record_of part_at) nothing))
    end_takes
    (choice_takes RecordTook 72 (made upload_record_of upload_at) (choice 73 (made part_record_of part_at) nothing)
    (variant_takes upload_form 72 upload_record_of snapshot_spelling (FitsSnapshot true) undigested_snapshot (λ u h. refl) (λ u h. h) (λ u. refl))
    (choice_takes RecordTook 73 (made part_record_of part_at) nothing
    (variant_takes part_form 73 part_record_of snapshot_spelling (FitsSnapshot true) undigested_snapshot (λ p h. refl) (λ p h. h) (λ p. refl))
    (nothing_takes RecordTook))))

pub record_takes : (bytes : List ℕ) (r : SnapshotRecord Body) (rest : List ℕ) → IsBytes bytes → record_at bytes ≡ Some (r, rest) → RecordTook bytes r rest
unfolding record_at begin_at snapshot_spelling
record_takes =
    choice_takes RecordTook 64 begin_at (choice 65 (made row_record_of row_at) (choice 66 (made job_record_of job_at) (choice 67 (made input_of item_at) (choice 68 (made missing_of line_at) later_record_at))))
    (variant_takes begin_form 64 begin_of snapshot_spelling (FitsSnapshot true) undigested_snapshot (λ p h. refl) (λ p h. (h.0.0.0, (h.0.0.1, h.0.1, h.1))) (λ p. refl))
    (choice_takes RecordTook 65 (made row_record_of row_at) (choice 66 (made job_record_of job_at) (choice 67 (made input_of item_at) (choice 68 (made missing_of line_at) later_record_at)))
    (variant_takes row_form 65 row_record_of snapshot_spelling (FitsSnapshot true) undigested_snapshot (λ r h. refl) (λ r h. h) (λ r. refl))
    (choice_takes RecordTook 66 (made job_record_of job_at) (choice 67 (made input_of item_at) (choice 68 (made missing_of line_at) later_record_at))
    (variant_takes job_form 66 job_record_of snapshot_spelling (FitsSnapshot true) undigested_snapshot (λ j h. refl) (λ j h. h) (λ j. refl))
    (choice_takes RecordTook 67 (made input_of item_at) (choice 68 (made missing_of line_at) later_record_at)
    (variant_takes item_form 67 input_of snapshot_spelling (FitsSnapshot true) undigested_snapshot (λ i h. refl) (λ i h. h) (λ i. refl))
    (choice_takes RecordTook 68 (made missing_of line_at) later_record_at
    (variant_takes line_form 68 missing_of snapshot_spelling (FitsSnapshot true) undigested_snapshot (λ l h. refl) (λ l h. h) (λ l. refl))
    later_takes))))

-- ---- what is spelled

pub record_again : (r : SnapshotRecord Body) (rest : List ℕ) → FitsSnapshot true r → record_at (snapshot_spelling r ++ rest) ≡ Some (undigested_snapshot r, rest)
unfolding record_at begin_at later_record_at snapshot_spelling
record_again (listed.Begin count rows jobs uploads) rest fits = made_again begin_form begin_of (((count, rows), jobs), uploads) rest (((fits.0, fits.1.0), fits.1.1), fits.1.2)
record_again (listed.Row row) rest fits = made_again row_form row_record_of row rest fits
record_again (listed.Job job) rest fits = made_again job_form job_record_of job rest fits
record_again (listed.Input item) rest fits = made_again item_form input_of item rest fits
record_again (listed.Missing line) rest fits = made_again line_form missing_of line rest fits
record_again (listed.Entry e) rest fits = made_again trace_form entry_of e rest fits
record_again (listed.Upload upload) rest fits = made_again upload_form upload_record_of upload rest fits
record_again (listed.Part part) rest fits = made_again part_form part_record_of part rest fits
record_again listed.End rest fits = refl
