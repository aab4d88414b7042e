-- The form of rows, items, committed tasks, uploads and jobs.
use Rattle.std.proofs.Common.{◌≡◌, ℕ, ◌^◌, ◌<◌, true, List, ◌++◌, map, length, Some, None, refl, arith}
use Rattle.std.specs.Prelude.{◌&&◌, nat_le, IfSome, IsTrue, ⊤}
use Rattle.std.specs.Int.{w16, w32, w64}
use Rattle.std.specs.List.{flat_map, AllByRecursion}
use Rattle.std.specs.Str.{is_utf8}
use Rattle.std.proofs.lemmas.Bool.{and_parts, and_from, eqb-true, leb-true, le-leb}
use Rattle.mt_base.specs.Numbers.{big_endian_16, big_endian_32, big_endian_64}
use Rattle.mt_path.specs.AccountPath.{is_component}
use Rattle.mt_types.specs.Limits.{is_content_type, is_moment}
use Rattle.mt_types.specs.Values.{entry_with, item_with, object_with, outcome_with, part_with, trace_entry_with}
use Rattle.mt_types.specs.declared.body.Body.{Body}
use Rattle.mt_types.specs.declared.job.Item.{Item}
use Rattle.mt_types.specs.declared.job.Outcome.{Outcome}
use Rattle.mt_types.specs.declared.job.Outcome.TheVariants as outcome
use Rattle.mt_types.specs.declared.limits.TheConstants.{LONGEST_STDERR, MOST_RECORDS}
use Rattle.mt_types.specs.declared.object.Entry.{Entry}
use Rattle.mt_types.specs.declared.object.Entry.TheVariants as entry
use Rattle.mt_types.specs.declared.object.Object.{Object}
use Rattle.mt_types.specs.declared.task.TaskFailure.{TaskFailure}
use Rattle.mt_types.specs.declared.task.TaskFailure.TheVariants.{UserTaskError, TaskOutputTooLarge, TaskRecordError, TaskPlaceRefused, TaskObjectMissing}
use Rattle.mt_types.specs.declared.upload.Stage.{Stage}
use Rattle.mt_types.specs.declared.upload.Stage.TheVariants.{Open, Committed, Aborted}
use Rattle.mt_codec.specs.Fields.{text_spelling, optional_spelling}
use Rattle.mt_codec.specs.Spelling.{byte_spelling, document_spelling, failure_number, flag_number, FitsDocument, FitsPath, FitsText, undigested_body}
use Rattle.mt_codec.specs.Reading.{◌&◌, made, tested, named, choice, nothing, byte_at, number_at, sized, counted}
use Rattle.mt_codec.specs.Readers.{is_few_records, is_short_stderr, content_type_at, failure_numbered, moment_at, path_at}
use Rattle.mt_codec.proofs.Forms.{IsBytes, IsForm, Took, same, said, both_form, made_again, variant_takes, choice_takes, nothing_takes, made_form, tested_form, named_form, byte_form, two_form, four_form, eight_form, sized_form, counted_form, optional_form}
use Rattle.mt_codec.proofs.Known.{named_or, named_none, several_form, moment_form, index_form, durability_form, content_type_form, path_form, body_form, metadata_form, flag_form}
use Rattle.mt_codec.proofs.JobForms.{document_form}
use Rattle.mt_snapshot.specs.declared.jobs.JobFront.{JobFront}
use Rattle.mt_snapshot.specs.declared.limits.TheConstants.{LONGEST_ROOT, MOST_PARTS}
use Rattle.mt_snapshot.specs.declared.record.JobRecord.{JobRecord}
use Rattle.mt_snapshot.specs.declared.record.UploadRecord.{UploadRecord}
use Rattle.mt_snapshot.specs.Records.{object_spelling, entry_spelling, row_spelling, job_spelling, item_spelling, outcome_spelling, trace_spelling, stage_number, upload_spelling, part_spelling, is_output_root, is_part_count, FitsObject, FitsEntry, FitsRow, FitsJob, FitsItem, FitsOutcome, FitsTrace, FitsUpload, FitsPart}
use Rattle.mt_snapshot.specs.Readers.{object_of, object_at, entry_at, row_of, row_at, front_of, front_at, job_of, job_at, root_at, item_of, item_at, good_at, bad_at, outcome_at, trace_of, trace_at, stage_numbered, upload_of, has_part_count, upload_at, part_of, part_at}
use Rattle.mt_snapshot.specs.Values.{job_record_with, row_with}
use Rattle.mt_snapshot.proofs.Behind.{behind_form, assets_form}

-- ---- rows

object_form : IsForm object_spelling (FitsObject true) (object_with undigested_body) object_at
unfolding object_spelling object_at
object_form =
    made_form
    (both_form (both_form (both_form (both_form (both_form eight_form moment_form) content_type_form) durability_form) metadata_form) body_form)
    object_of (λ o. (((((o.number, o.mtime), o.content_type), o.durability), o.metadata), o.body)) object_spelling (FitsObject true) (object_with undigested_body)
    (λ o. refl) (λ p. refl)
    (λ p h. record { number = h.0.0.0.0.0; mtime = h.0.0.0.0.1; content_type = h.0.0.0.1; durability = h.0.0.1; metadata = h.0.1; body = h.1 })
    (λ o h. (((((h.number, h.mtime), h.content_type), h.durability), h.metadata), h.body))
    (λ p. refl)

abbrev directory_of : ℕ → Entry Body
directory_of n = entry.Directory n

abbrev standing_of : Object Body → Entry Body
standing_of o = entry.Object o

abbrev EntryTook : List ℕ → Entry Body → List ℕ → Type 0
EntryTook = Took entry_spelling (FitsEntry true) (entry_with undigested_body)

entry_takes : (bytes : List ℕ) (x : Entry Body) (rest : List ℕ) → IsBytes bytes → entry_at bytes ≡ Some (x, rest) → EntryTook bytes x rest
unfolding entry_at entry_spelling
entry_takes =
    choice_takes EntryTook 0 (made directory_of moment_at) (choice 1 (made standing_of object_at) nothing)
    (variant_takes moment_form 0 directory_of entry_spelling (FitsEntry true) (entry_with undigested_body) (λ n h. refl) (λ n h. h) (λ n. refl))
    (choice_takes EntryTook 1 (made standing_of object_at) nothing
    (variant_takes object_form 1 standing_of entry_spelling (FitsEntry true) (entry_with undigested_body) (λ o h. refl) (λ o h. h) (λ o. refl))
    (nothing_takes EntryTook))

entry_again : (x : Entry Body) (rest : List ℕ) → FitsEntry true x → entry_at (entry_spelling x ++ rest) ≡ Some (entry_with undigested_body x, rest)
unfolding entry_at entry_spelling
entry_again (entry.Directory n) rest fits = made_again moment_form directory_of n rest fits
entry_again (entry.Object o) rest fits = made_again object_form standing_of o rest fits

entry_form : IsForm entry_spelling (FitsEntry true) (entry_with undigested_body) entry_at
entry_form = record { takes = entry_takes; again = entry_again }

pub row_form : IsForm row_spelling (FitsRow true) (row_with undigested_body) row_at
unfolding row_spelling row_at
row_form =
    made_form (both_form path_form entry_form) row_of (λ r. (r.path, r.entry)) row_spelling (FitsRow true) (row_with undigested_body)
    (λ r. refl) (λ p. refl) (λ p h. record { path = h.0; entry = h.1 }) (λ r h. (h.path, h.entry)) (λ p. refl)

-- ---- jobs

-- the fields before the bodies of assets
unfoldable front_spelling : JobFront → List ℕ
front_spelling j =
    big_endian_64 j.number ++ document_spelling j.document ++ big_endian_64 j.created ++ byte_spelling (flag_number j.ended)
    ++ byte_spelling (flag_number j.cancelled) ++ optional_spelling big_endian_64 j.done

record FitsFront (j : JobFront) : Type 0 where
  number : j.number < 2 ^ 64
  document : FitsDocument true j.document
  created : IsTrue (is_moment j.created)
  done : IfSome j.done (λ n. IsTrue (is_moment n))

front_form : IsForm front_spelling FitsFront same front_at
unfolding front_spelling front_at
front_form =
    made_form
    (both_form (both_form (both_form (both_form (both_form eight_form document_form) moment_form) flag_form) flag_form) (optional_form moment_form))
    front_of (λ j. (((((j.number, j.document), j.created), j.ended), j.cancelled), j.done)) front_spelling FitsFront same
    (λ j. refl) (λ p. refl)
    (λ p h. record { number = h.0.0.0.0.0; document = h.0.0.0.0.1; created = h.0.0.0.1; done = h.1 })
    (λ j h. (((((h.number, h.document), h.created), tt), tt), h.done))
    (λ p. refl)

abbrev front : JobRecord Body → JobFront
front j = record { number = j.number; document = j.document; created = j.created; ended = j.ended; cancelled = j.cancelled; done = j.done }

pub job_form : IsForm job_spelling (FitsJob true) (job_record_with undigested_body) job_at
unfolding job_spelling job_at front_spelling
job_form =
    made_form
    (both_form (both_form (both_form (behind_form front_form (λ j. assets_form j.document.phases)) four_form) four_form) eight_form)
    job_of (λ j. ((((front j, j.assets), j.inputs), j.missing), j.entries)) job_spelling (FitsJob true) (job_record_with undigested_body)
    (λ j. refl) (λ p. refl)
    (λ p h. record {
      number = h.0.0.0.0.number;
      document = h.0.0.0.0.document;
      created = h.0.0.0.0.created;
      done = h.0.0.0.0.done;
      shape = h.0.0.0.1.0;
      assets = h.0.0.0.1.1;
      inputs = h.0.0.1;
      missing = h.0.1;
      entries = h.1;
    })
    (λ j h. (((((record { number = h.number; document = h.document; created = h.created; done = h.done }), (h.shape, h.assets)), h.inputs), h.missing), h.entries))
    (λ p. refl)

-- ---- items and outcomes

root_form : IsForm text_spelling (λ t. IsTrue (is_output_root t) × FitsText true t) same root_at
root_form =
    said (tested_form (sized_form two_form) (λ t. is_output_root t && is_utf8 t) (λ t. refl))
    (λ t h. let p = and_parts (is_output_root t) (is_utf8 t) h.1 in (p.0, p.1))
    (λ t h.
    let short = leb-true (length t) LONGEST_ROOT (and_parts (nat_le (length t) LONGEST_ROOT) (is_component t) h.0).0 in
    let small : length t < 2 ^ 16 = omega arith in
    (small, and_from (is_output_root t) (is_utf8 t) h.0 h.1))
    (λ t. refl)

pub item_form : IsForm item_spelling (FitsItem true) (item_with undigested_body) item_at
unfolding item_spelling item_at
item_form =
    made_form
    (both_form (both_form (both_form path_form root_form) (optional_form four_form)) body_form)
    item_of (λ i. (((i.name, i.root), i.reducer), i.body)) item_spelling (FitsItem true) (item_with undigested_body)
    (λ i. refl) (λ p. refl)
    (λ p h. record { name = h.0.0.0; root = h.0.0.1.0; text = h.0.0.1.1; reducer = h.0.1; body = h.1 })
    (λ i h. (((h.name, (h.root, h.text)), h.reducer), h.body))
    (λ p. refl)

failure_named : (x : TaskFailure) → failure_numbered (failure_number x) ≡ Some x
failure_named UserTaskError = refl
failure_named TaskOutputTooLarge = refl
failure_named TaskRecordError = refl
failure_named TaskPlaceRefused = refl
failure_named TaskObjectMissing = refl

numbered_failure : (n : ℕ) (x : TaskFailure) → failure_numbered n ≡ Some x → failure_number x ≡ n
numbered_failure n x e =
    named_or n 1 UserTaskError x _ failure_number refl
    (named_or n 2 TaskOutputTooLarge x _ failure_number refl
    (named_or n 3 TaskRecordError x _ failure_number refl
    (named_or n 4 TaskPlaceRefused x _ failure_number refl
    (named_or n 5 TaskObjectMissing x None failure_number refl (named_none x _))))) e

failure_below : (x : TaskFailure) → failure_number x < 256
failure_below UserTaskError = omega arith
failure_below TaskOutputTooLarge = omega arith
failure_below TaskRecordError = omega arith
failure_below TaskPlaceRefused = omega arith
failure_below TaskObjectMissing = omega arith

failure_form : IsForm (λ x. byte_spelling (failure_number x)) (λ x. ⊤) same (named failure_numbered byte_at)
failure_form = said (named_form byte_form failure_numbered failure_number failure_named numbered_failure) (λ x h. tt) (λ x h. failure_below x) (λ x. refl)

items_form : IsForm (λ xs. big_endian_16 (length xs) ++ flat_map item_spelling xs) (λ xs. IsTrue (is_few_records (length xs)) × AllByRecursion (FitsItem true) xs) (map (item_with undigested_body)) (counted (tested is_few_records (number_at w16)) item_at)
items_form = counted_form (several_form is_few_records (λ n h. omega (arith, leb-true n MOST_RECORDS h))) item_form

stderr_form : IsForm text_spelling (λ t. IsTrue (is_short_stderr (length t))) same (sized (tested is_short_stderr (number_at w16)))
stderr_form = sized_form (several_form is_short_stderr (λ n h. omega (arith, leb-true n LONGEST_STDERR h)))

bad_form : IsForm {A = (TaskFailure × ℕ) × List ℕ} (λ p. (byte_spelling (failure_number p.0.0) ++ big_endian_32 p.0.1) ++ text_spelling p.1) (λ p. (⊤ × (p.0.1 < 2 ^ 32)) × IsTrue (is_short_stderr (length p.1))) same (named failure_numbered byte_at & number_at w32 & sized (tested is_short_stderr (number_at w16)))
bad_form = both_form (both_form failure_form four_form) stderr_form

abbrev good_of : List (Item Body) → Outcome Body
good_of items = outcome.Good items

abbrev bad_of : (TaskFailure × ℕ) × List ℕ → Outcome Body
bad_of p = outcome.Bad p.0.0 p.0.1 p.1

abbrev OutcomeTook : List ℕ → Outcome Body → List ℕ → Type 0
OutcomeTook = Took outcome_spelling (FitsOutcome true) (outcome_with undigested_body)

outcome_takes : (bytes : List ℕ) (x : Outcome Body) (rest : List ℕ) → IsBytes bytes → outcome_at bytes ≡ Some (x, rest) → OutcomeTook bytes x rest
unfolding outcome_at outcome_spelling
outcome_takes =
    choice_takes OutcomeTook 0 good_at (choice 1 bad_at nothing)
    (variant_takes items_form 0 good_of outcome_spelling (FitsOutcome true) (outcome_with undigested_body) (λ xs h. refl) (λ xs h. (leb-true (length xs) MOST_RECORDS h.0, h.1)) (λ xs. refl))
    (choice_takes OutcomeTook 1 bad_at nothing
    (variant_takes bad_form 1 bad_of outcome_spelling (FitsOutcome true) (outcome_with undigested_body) (λ p h. refl) (λ p h. (h.0.1, leb-true (length p.1) LONGEST_STDERR h.1)) (λ p. refl))
    (nothing_takes OutcomeTook))

outcome_again : (x : Outcome Body) (rest : List ℕ) → FitsOutcome true x → outcome_at (outcome_spelling x ++ rest) ≡ Some (outcome_with undigested_body x, rest)
unfolding outcome_at outcome_spelling
outcome_again (outcome.Good items) rest fits = made_again items_form good_of items rest (le-leb (length items) MOST_RECORDS fits.0, fits.1)
outcome_again (outcome.Bad failure status stderr) rest fits = made_again bad_form bad_of ((failure, status), stderr) rest ((tt, fits.0), le-leb (length stderr) LONGEST_STDERR fits.1)

outcome_form : IsForm outcome_spelling (FitsOutcome true) (outcome_with undigested_body) outcome_at
outcome_form = record { takes = outcome_takes; again = outcome_again }

pub trace_form : IsForm trace_spelling (FitsTrace true) (trace_entry_with undigested_body) trace_at
unfolding trace_spelling trace_at
trace_form =
    made_form
    (both_form (both_form (both_form four_form eight_form) eight_form) outcome_form)
    trace_of (λ e. (((e.phase, e.place), e.position), e.outcome)) trace_spelling (FitsTrace true) (trace_entry_with undigested_body)
    (λ e. refl) (λ p. refl)
    (λ p h. record { phase = h.0.0.0; place = h.0.0.1; position = h.0.1; outcome = h.1 })
    (λ e h. (((h.phase, h.place), h.position), h.outcome))
    (λ p. refl)

-- ---- uploads

stage_named : (x : Stage) → stage_numbered (stage_number x) ≡ Some x
stage_named Open = refl
stage_named Committed = refl
stage_named Aborted = refl

numbered_stage : (n : ℕ) (x : Stage) → stage_numbered n ≡ Some x → stage_number x ≡ n
numbered_stage n x e =
    named_or n 0 Open x _ stage_number refl (named_or n 1 Committed x _ stage_number refl (named_or n 2 Aborted x None stage_number refl (named_none x _))) e

stage_below : (x : Stage) → stage_number x < 256
stage_below Open = omega arith
stage_below Committed = omega arith
stage_below Aborted = omega arith

stage_form : IsForm (λ x. byte_spelling (stage_number x)) (λ x. ⊤) same (named stage_numbered byte_at)
stage_form = said (named_form byte_form stage_numbered stage_number stage_named numbered_stage) (λ x h. tt) (λ x h. stage_below x) (λ x. refl)

-- the fields of an upload, whatever its stage
record FitsFields (u : UploadRecord) : Type 0 where
  number : u.number < 2 ^ 64
  path : FitsPath true u.path
  content_type : IsTrue (is_content_type u.content_type)
  moment : IsTrue (is_moment u.moment)
  parts : u.parts < 2 ^ 16

fields_form : IsForm upload_spelling FitsFields same (made upload_of (number_at w64 & path_at & content_type_at & moment_at & named stage_numbered byte_at & number_at w16))
unfolding upload_spelling
fields_form =
    made_form
    (both_form (both_form (both_form (both_form (both_form eight_form path_form) content_type_form) moment_form) stage_form) two_form)
    upload_of (λ u. (((((u.number, u.path), u.content_type), u.moment), u.stage), u.parts)) upload_spelling FitsFields same
    (λ u. refl) (λ p. refl)
    (λ p h. record { number = h.0.0.0.0.0; path = h.0.0.0.0.1; content_type = h.0.0.0.1; moment = h.0.0.1; parts = h.1 })
    (λ u h. (((((h.number, h.path), h.content_type), h.moment), tt), h.parts))
    (λ p. refl)

part_count_below : (stage : Stage) (n : ℕ) → IsTrue (is_part_count stage n) → n < 2 ^ 16
part_count_below Open n is = omega (arith, leb-true n MOST_PARTS is)
part_count_below Committed n is = omega (arith, eqb-true n 0 is)
part_count_below Aborted n is = omega (arith, eqb-true n 0 is)

pub upload_form : IsForm upload_spelling (FitsUpload true) same upload_at
unfolding upload_at
upload_form =
    said (tested_form fields_form has_part_count (λ u. refl))
    (λ u h. record { number = h.0.number; path = h.0.path; content_type = h.0.content_type; moment = h.0.moment; parts = h.1 })
    (λ u h. (record { number = h.number; path = h.path; content_type = h.content_type; moment = h.moment; parts = part_count_below u.stage u.parts h.parts }, h.parts))
    (λ u. refl)

pub part_form : IsForm part_spelling (FitsPart true) (part_with undigested_body) part_at
unfolding part_spelling part_at
part_form =
    made_form
    (both_form (both_form index_form eight_form) body_form)
    part_of (λ p. ((p.index, p.number), p.body)) part_spelling (FitsPart true) (part_with undigested_body)
    (λ p. refl) (λ p. refl)
    (λ p h. record { index = h.0.0; number = h.0.1; body = h.1 })
    (λ p h. ((h.index, h.number), h.body))
    (λ p. refl)
