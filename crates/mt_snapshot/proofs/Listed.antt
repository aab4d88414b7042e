-- Each record of a state that is lawful, within the limits and can be listed has a spelling.
use Rattle.std.proofs.Common.{◌≡◌, ℕ, ◌≤◌, ◌<◌, Bool, true, false, cond, List, [], ◌∷◌, ◌++◌, length, map, suc, Option, Some, None, refl, sym, ap, subst, arith}
use Rattle.std.specs.Prelude.{All, IfSome, IsTrue, ◌==◌, nat_le, not}
use Rattle.std.specs.List.{filter, flat_map, AllByRecursion}
use Rattle.std.proofs.lemmas.Bool.{and_from, le-leb}
use Rattle.std.proofs.lemmas.List.Elements.{All-from_recursion, recursion_from_All}
use Rattle.std.proofs.lemmas.Map.Views.{length-le_from_below}
use Rattle.mt_path.specs.AccountPath.{AccountPath, is_component}
use Rattle.mt_path.proofs.Components.{test_from_IsComponent}
use Rattle.mt_types.specs.Limits.{is_command_line}
use Rattle.mt_types.specs.WellMade.{HasReducers, IsDocument, IsDocumentPhase}
use Rattle.mt_types.specs.declared.body.Body.{Body}
use Rattle.mt_types.specs.declared.document.InputLine.{InputLine}
use Rattle.mt_types.specs.declared.document.InputLine.TheVariants.{Named, Other}
use Rattle.mt_types.specs.declared.document.JobDocument.{JobDocument}
use Rattle.mt_types.specs.declared.document.Phase.{Phase}
use Rattle.mt_types.specs.declared.document.PhaseKind.{PhaseKind}
use Rattle.mt_types.specs.declared.document.PhaseKind.TheVariants.{Map, Reduce}
use Rattle.mt_types.specs.declared.job.Item.{Item}
use Rattle.mt_types.specs.declared.job.Job.{Job}
use Rattle.mt_types.specs.declared.job.Outcome.{Outcome}
use Rattle.mt_types.specs.declared.job.Outcome.TheVariants as outcome
use Rattle.mt_types.specs.declared.job.TraceEntry.{TraceEntry}
use Rattle.mt_types.specs.declared.limits.TheConstants.{LAST_PART, MOST_COMMANDS, MOST_RECORDS}
use Rattle.mt_types.specs.declared.object.Entry.{Entry}
use Rattle.mt_types.specs.declared.object.Entry.TheVariants as entry
use Rattle.mt_types.specs.declared.upload.PartRow.{PartRow}
use Rattle.mt_types.specs.declared.upload.Stage.{Stage}
use Rattle.mt_types.specs.declared.upload.Stage.TheVariants.{Open, Committed, Aborted}
use Rattle.mt_types.specs.declared.upload.Upload.{Upload}
use Rattle.mt_codec.specs.Spelling.{FitsBody, FitsDocument, FitsKind, FitsLine, FitsPath, FitsPhase, FitsCommandLine}
use Rattle.mt_codec.proofs.Known.{each_from}
use Rattle.mt_model.specs.Bodies.{OfEntry, OfJob, OfOutcome, OfUpload}
use Rattle.mt_model.specs.Feed.{items_of}
use Rattle.mt_model.specs.Keeping.{IsEntry, IsJob, IsLine, IsOutcome, IsSaidDocument, IsUpload, KeepsLimits}
use Rattle.mt_model.specs.Lawful.{Lawful, LawfulItem, LawfulJob, LawfulPart, LawfulUpload}
use Rattle.mt_model.specs.Rows.{is_root}
use Rattle.mt_model.specs.State.{State}
use Rattle.mt_model.specs.UploadSteps.{is_open}
use Rattle.mt_snapshot.specs.declared.limits.TheConstants.{LONGEST_ROOT, MOST_PARTS}
use Rattle.mt_snapshot.specs.declared.record.SnapshotRecord.{SnapshotRecord}
use Rattle.mt_snapshot.specs.declared.record.SnapshotRecord.TheVariants as listed
use Rattle.mt_snapshot.specs.Listing.{HasNoneOnceEnded, IsListable, IsPlaced, job_records, listed_rows, records_of, row_record, upload_records}
use Rattle.mt_snapshot.specs.Records.{FitsEntry, FitsItem, FitsOutcome, FitsPart, FitsSnapshot, is_part_count}

-- ---- lists

module _ {A : Type 0} (P : A → Type 0) where
  all_both : (xs ys : List A) → AllByRecursion P xs → AllByRecursion P ys → AllByRecursion P (xs ++ ys)
  all_both [] ys first second = second
  all_both (x ∷ xs) ys first second = (first.0, all_both xs ys first.1 second)

  all_kept : (test : A → Bool) (xs : List A) → AllByRecursion P xs → AllByRecursion P (filter test xs)
  all_kept test [] all = tt
  all_kept test (x ∷ xs) all = elim (test x) as (λ b. AllByRecursion P (cond b (x ∷ filter test xs) (filter test xs))) [
    | true ↦ (all.0, all_kept test xs all.1)
    | false ↦ all_kept test xs all.1
  ]

module _ {A B : Type 0} (P : B → Type 0) where
  all_map : (f : A → B) (xs : List A) → AllByRecursion (λ x. P (f x)) xs → AllByRecursion P (map f xs)
  all_map f [] all = tt
  all_map f (x ∷ xs) all = (all.0, all_map f xs all.1)

  all_joined : (f : A → List B) (xs : List A) → AllByRecursion (λ x. AllByRecursion P (f x)) xs → AllByRecursion P (flat_map f xs)
  all_joined f [] all = tt
  all_joined f (x ∷ xs) all = all_both P (f x) (flat_map f xs) all.0 (all_joined f xs all.1)

-- the same, of two facts
each_of_both : {A : Type 0} (P Q R : A → Type 0) → ((x : A) → P x → Q x → R x) → (xs : List A) → AllByRecursion P xs → AllByRecursion Q xs → AllByRecursion R xs
each_of_both P Q R join [] all each = tt
each_of_both P Q R join (x ∷ xs) all each = (join x all.0 each.0, each_of_both P Q R join xs all.1 each.1)

-- ---- values

body_fits : (b : Body) → IsPlaced b → FitsBody false b
body_fits b is = record { placed = is; first = tt; len = tt }

bodies_fit : (bs : List Body) → AllByRecursion IsPlaced bs → AllByRecursion (FitsBody false) bs
bodies_fit bs all = each_from IsPlaced (FitsBody false) body_fits bs all

entry_fits : (e : Entry Body) → IsEntry e → OfEntry IsPlaced e → FitsEntry false e
entry_fits (entry.Directory mtime) said is = said
entry_fits (entry.Object o) said is = record { number = tt; mtime = said.moment_is; content_type = said.content_type_is; durability = said.durability_is; metadata = said.metadata_is; body = body_fits o.body is }

kind_fits : (kind : PhaseKind) → HasReducers kind → FitsKind kind
kind_fits Map has = tt
kind_fits (Reduce n) has = has

init_fits : (init : Option (List ℕ)) → IfSome init (λ t. IsTrue (is_command_line t)) → IfSome init (FitsCommandLine false)
init_fits None is = tt
init_fits (Some t) is = (is, tt)

phase_fits : (p : Phase) → IsDocumentPhase p → FitsPhase false p
phase_fits p has = record { kind = kind_fits p.kind has.kind; exec = (has.exec, tt); init = init_fits p.init has.init; few = has.few; assets = each_from _ (FitsPath false) (λ q is. tt) p.assets has.assets }

document_fits : (d : JobDocument) → IsSaidDocument d → IsDocument d → FitsDocument false d
document_fits d said is = record { name = said.name; text = tt; some = is.some; few = is.few; phases = each_from IsDocumentPhase (FitsPhase false) phase_fits d.phases is.phases }

line_fits : (line : InputLine) → IsLine line → FitsLine false line
line_fits (Named p) is = tt
line_fits (Other t) is = (is.0, is.1, tt)

item_fits : (i : Item Body) → LawfulItem i → IsPlaced i.body → FitsItem false i
item_fits i lawful is = record {
  name = tt;
  root = and_from (nat_le (length i.root) LONGEST_ROOT) (is_component i.root) (le-leb (length i.root) LONGEST_ROOT lawful.short) (test_from_IsComponent i.root lawful.component);
  text = tt;
  reducer = tt;
  body = body_fits i.body is;
}

outcome_fits : (x : Outcome Body) → IsOutcome x → (length (items_of x) ≤ MOST_RECORDS) → AllByRecursion LawfulItem (items_of x) → OfOutcome IsPlaced x → FitsOutcome false x
outcome_fits (outcome.Good items) said few lawful is = (few, each_of_both LawfulItem (λ i. IsPlaced i.body) (FitsItem false) item_fits items lawful is)
outcome_fits (outcome.Bad failure status stderr) said few lawful is = (tt, said)

-- ---- jobs and uploads

entries_fit : (es : List (TraceEntry Body)) → AllByRecursion (λ e. length (items_of e.outcome) ≤ MOST_RECORDS) es → AllByRecursion (λ e. All LawfulItem (items_of e.outcome)) es
    → AllByRecursion (λ e. IsOutcome e.outcome) es → AllByRecursion (λ e. OfOutcome IsPlaced e.outcome) es → AllByRecursion (FitsSnapshot false) (map (λ e. listed.Entry e) es)
entries_fit [] few outputs said is = tt
entries_fit (e ∷ es) few outputs said is = (
  record { phase = tt; place = tt; position = tt; outcome = outcome_fits e.outcome said.0 few.0 (recursion_from_All LawfulItem (items_of e.outcome) outputs.0) is.0 },
  entries_fit es few.1 outputs.1 said.1 is.1,
)

job_fits : (count : ℕ) (j : Job Body) → LawfulJob count j → IsJob j → OfJob IsPlaced j → AllByRecursion (FitsSnapshot false) (job_records j)
job_fits count j lawful said is =
    let few = lawful.few in
    let inputs = each_of_both LawfulItem (λ i. IsPlaced i.body) (FitsItem false) item_fits j.inputs (recursion_from_All LawfulItem j.inputs lawful.inputs) is.inputs in
    let missing = each_from IsLine (FitsLine false) line_fits j.missing said.missing in
    let entries = entries_fit j.trace (recursion_from_All _ j.trace lawful.few_each) (recursion_from_All _ j.trace lawful.outputs) said.outcomes is.trace in
    let input_records : List (SnapshotRecord Body) = map (λ i. listed.Input i) j.inputs in
    let missing_records : List (SnapshotRecord Body) = map (λ l. listed.Missing l) j.missing in (
      record {
        number = tt;
        document = document_fits j.document said.document lawful.document;
        created = said.created;
        done = said.done;
        shape = sym lawful.assets;
        assets = each_from (AllByRecursion IsPlaced) (AllByRecursion (FitsBody false)) bodies_fit j.assets is.assets;
        inputs = omega arith;
        missing = omega arith;
        entries = tt;
      },
      all_both (FitsSnapshot false) (input_records ++ missing_records) (map (λ e. listed.Entry e) j.trace)
          (all_both (FitsSnapshot false) input_records missing_records (all_map (FitsSnapshot false) (λ i. listed.Input i) j.inputs inputs) (all_map (FitsSnapshot false) (λ l. listed.Missing l) j.missing missing))
          entries,
    )

jobs_fit : (count : ℕ) (js : List (Job Body)) → AllByRecursion (LawfulJob count) js → AllByRecursion IsJob js → AllByRecursion (OfJob IsPlaced) js → AllByRecursion (λ j. AllByRecursion (FitsSnapshot false) (job_records j)) js
jobs_fit count [] lawful said is = tt
jobs_fit count (j ∷ js) lawful said is = (job_fits count j lawful.0 said.0 is.0, jobs_fit count js lawful.1 said.1 is.1)

part_fits : (count : ℕ) (p : PartRow Body) → LawfulPart count p → IsPlaced p.body → FitsPart false p
part_fits count p lawful is = record { index = le-leb p.index LAST_PART lawful.index; number = tt; body = body_fits p.body is }

length-map : {A B : Type 0} (f : A → B) (xs : List A) → length (map f xs) ≡ length xs
length-map f [] = refl
length-map f (x ∷ xs) = ap suc (length-map f xs)

below_end : (count : ℕ) (parts : List (PartRow Body)) → AllByRecursion (LawfulPart count) parts → AllByRecursion (λ n. n < 10000) (map (λ p. p.index) parts)
below_end count [] all = tt
below_end count (p ∷ ps) all = let here = all.0.index in (omega arith, below_end count ps all.1)

few_parts : (count : ℕ) (u : Upload Body) → LawfulUpload count u → length u.parts ≤ 10000
few_parts count u lawful =
    let indexes = map (λ (p : PartRow Body). p.index) u.parts in
    let few = length-le_from_below 10000 indexes lawful.rising (All-from_recursion (λ n. n < 10000) indexes (below_end count u.parts (recursion_from_All (LawfulPart count) u.parts lawful.parts))) in
    omega (arith, few, length-map (λ (p : PartRow Body). p.index) u.parts)

part_count : (stage : Stage) (n : ℕ) → n ≤ 10000 → (is_open stage ≡ false → n ≡ 0) → IsTrue (is_part_count stage n)
part_count Open n few none = le-leb n MOST_PARTS few
part_count Committed n few none = subst (λ k. (k == 0) ≡ true) (sym (none refl)) refl
part_count Aborted n few none = subst (λ k. (k == 0) ≡ true) (sym (none refl)) refl

upload_fits : (count : ℕ) (u : Upload Body) → LawfulUpload count u → IsUpload u → OfUpload IsPlaced u → HasNoneOnceEnded u → AllByRecursion (FitsSnapshot false) (upload_records u)
upload_fits count u lawful said is ended = (
  record { number = tt; path = tt; content_type = said.content_type; moment = said.moment; parts = part_count u.stage (length u.parts) (few_parts count u lawful) (λ closed. ap length (ended closed)) },
  all_map (FitsSnapshot false) (λ p. listed.Part p) u.parts
      (each_of_both (LawfulPart count) (λ p. IsPlaced p.body) (FitsPart false) (part_fits count) u.parts (recursion_from_All (LawfulPart count) u.parts lawful.parts) is),
)

uploads_fit : (count : ℕ) (us : List (Upload Body)) → AllByRecursion (LawfulUpload count) us → AllByRecursion IsUpload us → AllByRecursion (OfUpload IsPlaced) us → AllByRecursion HasNoneOnceEnded us → AllByRecursion (λ u. AllByRecursion (FitsSnapshot false) (upload_records u)) us
uploads_fit count [] lawful said is ended = tt
uploads_fit count (u ∷ us) lawful said is ended = (upload_fits count u lawful.0 said.0 is.0 ended.0, uploads_fit count us lawful.1 said.1 is.1 ended.1)

-- ---- a state

row_fits : (r : AccountPath × Entry Body) → IsEntry r.1 → OfEntry IsPlaced r.1 → FitsSnapshot false (row_record r)
row_fits r said is = record { path = tt; entry = entry_fits r.1 said is }

pub states_listed : (s : State Body) → Lawful s → KeepsLimits s → IsListable s → AllByRecursion (FitsSnapshot false) (records_of s)
unfolding records_of
states_listed s lawful said can =
    let kept = listed_rows s.rows in
    let rows = all_map (FitsSnapshot false) row_record kept
    (all_kept (λ r. FitsSnapshot false (row_record r)) (λ r. not (is_root r.0)) s.rows
    (each_of_both (λ r. IsEntry r.1) (λ r. OfEntry IsPlaced r.1) (λ r. FitsSnapshot false (row_record r)) row_fits s.rows said.rows can.placed.rows)) in
    let jobs = all_joined (FitsSnapshot false) job_records s.jobs
    (jobs_fit s.count s.jobs (recursion_from_All (LawfulJob s.count) s.jobs lawful.jobs.each) said.jobs can.placed.jobs) in
    let uploads = all_joined (FitsSnapshot false) upload_records s.uploads
    (uploads_fit s.count s.uploads (recursion_from_All (LawfulUpload s.count) s.uploads lawful.uploads.each) said.uploads can.placed.uploads can.ended) in (
      (le-leb s.count MOST_COMMANDS can.count, tt),
      all_both (FitsSnapshot false) (map row_record kept ++ flat_map job_records s.jobs ++ flat_map upload_records s.uploads) (listed.End ∷ [])
          (all_both (FitsSnapshot false) (map row_record kept ++ flat_map job_records s.jobs) (flat_map upload_records s.uploads)
          (all_both (FitsSnapshot false) (map row_record kept) (flat_map job_records s.jobs) rows jobs) uploads)
          (tt, tt),
    )
