-- Judging by windows gives the fate of the outcome that they were seen of.
use Rattle.std.proofs.Common.{◌≡◌, ℕ, zero, suc, ◌+◌, ◌<◌, ◌≤◌, List, [], ◌∷◌, ◌++◌, map, length, take, drop, Option, Some, None, Result, Ok, Err, refl, sym, ap, ◌∙◌, arith}
use Rattle.std.specs.Prelude.{IfOk, option_map, option_and_then}
use Rattle.std.specs.List.{slice_get}
use Rattle.std.proofs.Math.Seq.{take-length}
use Rattle.std.proofs.Math.ListN.{drop_of_length-le}
use Rattle.std.proofs.lemmas.List.{append-nil, length-append, length-map, map-append, take-append-drop}
use Rattle.std.proofs.lemmas.Option.{slice_get_within}
use Rattle.mt_types.specs.Values.{fate_with}
use Rattle.mt_types.specs.declared.task.Fate.{Fate}
use Rattle.mt_types.specs.declared.task.Made.{Made}
use Rattle.mt_types.specs.declared.task.Made.TheVariants as made
use Rattle.mt_types.specs.declared.task.Raw.{Raw}
use Rattle.mt_types.specs.declared.task.RecordFile.{RecordFile}
use Rattle.mt_types.specs.declared.task.TaskFailure.{TaskFailure}
use Rattle.mt_spawn.specs.Orders.{told_of, size_of, sizes_of}
use Rattle.mt_spawn.specs.Parts.{part_bytes, file_bytes, size_among}
use Rattle.mt_spawn.specs.declared.task.FileSize.{FileSize}
use Rattle.mt_spawn.specs.declared.task.Left.{Left}
use Rattle.mt_spawn.specs.declared.task.Part.TheVariants as part
use Rattle.mt_records.specs.declared.range.Range.{Range}
use Rattle.mt_records.specs.declared.record.RawRecord.{RawRecord}
use Rattle.mt_records.specs.Fate.{all_records, asked_by, failed, fate, fate_unless, files_of, judged, records_in, told_failure}
use Rattle.mt_records.specs.Seen.{HasSeen, Judgement, after_file, begun, bytes_in, fate_of, next_among, next_file, output_range, range_in, range_record, shown, sizes_in, unless_failed, with_record}
use Rattle.mt_records.specs.Windows.{AreSeen, Window, record_in, record_with}
use Rattle.mt_records.proofs.Fates.{all_with, judged_with, raw_with, window_with}
use Rattle.mt_records.proofs.Windows.{seen_record}

-- ---- one window more

push_more : (q : Option (RawRecord Range)) (o : Option (List (RawRecord Range))) (r : Option (RawRecord Range))
    → option_and_then (λ x. option_map (λ xs. x ∷ xs) (with_record o r)) q ≡ with_record (option_and_then (λ x. option_map (λ xs. x ∷ xs) o) q) r
push_more None o r = refl
push_more (Some x) None r = refl
push_more (Some x) (Some xs) None = refl
push_more (Some x) (Some xs) (Some y) = refl

all_push : (rs : List (Option (RawRecord Range))) (r : Option (RawRecord Range)) → all_records (rs ++ r ∷ []) ≡ with_record (all_records rs) r
unfolding all_records
all_push [] None = refl
all_push [] (Some x) = refl
all_push (q ∷ rs) r =
    ap (λ (o : Option (List (RawRecord Range))). option_and_then (λ x. option_map (λ xs. x ∷ xs) o) q) (all_push rs r) ∙ push_more q (all_records rs) r

shown_push : (k : ℕ) (ws : List Window) (w : Window) → shown k (ws ++ w ∷ []) ≡ shown k ws ++ range_record (k + length ws) w ∷ []
unfolding shown
shown_push k [] w = ap (λ (n : ℕ). range_record n w ∷ []) (omega arith)
shown_push k (v ∷ ws) w =
    ap (λ (l : List (Option (RawRecord Range))). range_record k v ∷ l)
    (shown_push (k + 1) ws w ∙ ap (λ (n : ℕ). shown (k + 1) ws ++ range_record n w ∷ []) (omega arith))

pub none_seen : (login : List ℕ) (left : Left) → HasSeen (begun login left) []
unfolding all_records shown
none_seen login left = record { count = refl; records = λ told. ap unless_failed told; failed = λ f told. ap unless_failed told }

pub windows_in_turn : (j : Judgement) (ws : List Window) (size : FileSize) (w : Window) → HasSeen j ws → next_file j ≡ Some size → HasSeen (after_file j w) (ws ++ w ∷ [])
windows_in_turn j ws size w seen next = record {
  count = omega (arith, length-append ws (w ∷ []), seen.count);
  records = λ told.
      let place : 0 + length ws ≡ j.count = omega (arith, seen.count) in
      (λ i. with_record (seen.records told i) (range_record (sym place i) w))
      ∙ sym (all_push (shown 0 ws) (range_record (0 + length ws) w)) ∙ ap all_records (sym (shown_push 0 ws w));
  failed = λ f told. ap (λ (o : Option (List (RawRecord Range))). with_record o (range_record j.count w)) (seen.failed f told);
}

-- ---- windows of files

-- the records that files are
abbrev pub read_files : List RecordFile → List (Option (RawRecord (List ℕ)))
read_files files = map (λ f. record_in f.bytes) files

-- the files from a place on are these
abbrev pub StandAt : Made → ℕ → List RecordFile → Type 0
StandAt m k files = (i : ℕ) → part_bytes m (part.File (k + i)) ≡ file_bytes (slice_get files i)

pub first_file : (m : Made) (k : ℕ) (f : RecordFile) (files : List RecordFile) → StandAt m k (f ∷ files) → part_bytes m (part.File k) ≡ f.bytes
first_file m k f files stand = ap (λ (n : ℕ). part_bytes m (part.File n)) (omega arith) ∙ stand 0

pub other_files : (m : Made) (k : ℕ) (f : RecordFile) (files : List RecordFile) → StandAt m k (f ∷ files) → StandAt m (k + 1) files
other_files m k f files stand i = ap (λ (n : ℕ). part_bytes m (part.File n)) (omega arith) ∙ stand (suc i)

-- the bytes of a range of the file at a place
abbrev cut_of : List ℕ → ℕ → ℕ → List ℕ
cut_of bytes from n = take n (drop from bytes)

shown_seen : (m : Made) (k : ℕ) (ws : List Window) (files : List RecordFile) → StandAt m k files → AreSeen ws files
    → map (option_map (raw_with (bytes_in m))) (shown k ws) ≡ read_files (take (length ws) files)
unfolding shown
shown_seen m k [] files stand seen = refl
shown_seen m k (w ∷ ws) [] stand seen = absurd seen
shown_seen m k (w ∷ ws) (f ∷ files) stand seen =
    let one : option_map (raw_with (bytes_in m)) (range_record k w) ≡ record_in f.bytes =
    window_with (bytes_in m) (range_in k) w
    ∙ ap (λ (bytes : List ℕ). record_with (cut_of bytes) w) (first_file m k f files stand)
    ∙ seen_record (cut_of f.bytes) w f.bytes seen.0 in
    (λ i. one i ∷ shown_seen m (k + 1) ws files (other_files m k f files stand) seen.1 i)

pub all_stand : (m : Made) → StandAt m 0 (files_of m)
all_stand (made.Whole out files) i = ap (λ (n : ℕ). file_bytes (slice_get files n)) (omega arith)
all_stand (made.TooLarge total) i = refl

-- ---- all files, or a front with one that is no record

more_none : (q : Option (RawRecord (List ℕ))) (o p : Option (List (RawRecord (List ℕ)))) → (o ≡ None → p ≡ None)
    → option_and_then (λ x. option_map (λ xs. x ∷ xs) o) q ≡ None → option_and_then (λ x. option_map (λ xs. x ∷ xs) p) q ≡ None
more_none None o p next e = refl
more_none (Some x) None p next e = ap (option_map (λ (xs : List (RawRecord (List ℕ))). x ∷ xs)) (next refl)
more_none (Some x) (Some xs) p next e = absurd cc

front_none : (rs more : List (Option (RawRecord (List ℕ)))) → all_records rs ≡ None → all_records (rs ++ more) ≡ None
unfolding all_records
front_none [] more e = absurd cc
front_none (q ∷ rs) more e = more_none q (all_records rs) (all_records (rs ++ more)) (front_none rs more) e

parted : (n : ℕ) (files : List RecordFile) → read_files files ≡ read_files (take n files) ++ read_files (drop n files)
parted n files = ap read_files (sym (take-append-drop n files)) ∙ map-append (λ (f : RecordFile). record_in f.bytes) (take n files) (drop n files)

past_all : {X : Type 0} (xs : List X) (k : ℕ) → slice_get xs k ≡ None → length xs ≤ k
past_all [] k e = omega arith
past_all (x ∷ xs) zero e = absurd cc
past_all (x ∷ xs) (suc k) e = omega (arith, past_all xs k e)

all_of_front : (n : ℕ) (files : List RecordFile) → length files ≤ n → read_files files ≡ read_files (take n files)
all_of_front n files few = parted n files ∙ ap (λ (l : List RecordFile). read_files (take n files) ++ read_files l) (drop_of_length-le files few) ∙ append-nil (read_files (take n files))

sizes_among : (m : Made) → sizes_in (sizes_of m) ≡ map size_of (files_of m)
sizes_among (made.Whole out files) = refl
sizes_among (made.TooLarge total) = refl

output_read : (m : Made) → take (size_among (sizes_of m) part.Out) (drop 0 (part_bytes m part.Out)) ≡ part_bytes m part.Out
output_read (made.Whole out files) = take-length out
output_read (made.TooLarge total) = refl

-- where a failure is told, nothing else decides
pub told_first : {B : Type 0} (login : List ℕ) (left : Left) (e : TaskFailure) (out : B) (o : Option (List (RawRecord B))) → told_failure left ≡ Some e → judged login left out o ≡ failed left e
unfolding judged
told_first login left e out o told = ap (λ (t : Option TaskFailure). fate_unless left t (asked_by login out o)) told

-- a front of the files decides, where it is all of them or has one that is no record
by_front : (m : Made) (sizes : List FileSize) (n : ℕ) (o : Option (List (RawRecord Range))) → sizes ≡ map size_of (files_of m) → next_among o sizes n ≡ None
    → option_map (map (raw_with (bytes_in m))) o ≡ all_records (read_files (take n (files_of m))) → option_map (map (raw_with (bytes_in m))) o ≡ records_in (files_of m)
by_front m sizes n None are past front =
    sym (ap all_records (parted n (files_of m)) ∙ front_none (read_files (take n (files_of m))) (read_files (drop n (files_of m))) (sym front))
by_front m sizes n (Some rs) are past front =
    let few : length (files_of m) ≤ n = omega (arith, past_all sizes n past, ap length are, length-map (files_of m) size_of) in
    front ∙ ap all_records (sym (all_of_front n (files_of m) few))

-- the records of the windows are those of the files, or both are none
same_records : (m : Made) (sizes : List FileSize) (ws : List Window) (o : Option (List (RawRecord Range))) → sizes ≡ map size_of (files_of m)
    → o ≡ all_records (shown 0 ws) → next_among o sizes (length ws) ≡ None → AreSeen ws (files_of m) → option_map (map (raw_with (bytes_in m))) o ≡ records_in (files_of m)
same_records m sizes ws o are is none seen =
    by_front m sizes (length ws) o are none
    (ap (option_map (map (raw_with (bytes_in m)))) is ∙ all_with (bytes_in m) (shown 0 ws) ∙ ap all_records (shown_seen m 0 ws (files_of m) (all_stand m) seen))

-- by what is told
by_told : (j : Judgement) (ws : List Window) (raw : Raw) → HasSeen j ws → next_among j.records (sizes_in j.left.made) j.count ≡ None → told_of raw ≡ j.left
    → AreSeen ws (files_of raw.made) → (t : Option TaskFailure) → told_failure j.left ≡ t
    → judged j.login j.left (bytes_in raw.made (output_range j.left)) (option_map (map (raw_with (bytes_in raw.made))) j.records)
    ≡ judged j.login (told_of raw) (part_bytes raw.made part.Out) (records_in (files_of raw.made))
by_told j ws raw has none same seen (Some e) told =
    told_first j.login j.left e (bytes_in raw.made (output_range j.left)) (option_map (map (raw_with (bytes_in raw.made))) j.records) told
    ∙ sym (ap (λ (left : Left). judged j.login left (part_bytes raw.made part.Out) (records_in (files_of raw.made))) same
    ∙ told_first j.login j.left e (part_bytes raw.made part.Out) (records_in (files_of raw.made)) told)
by_told j ws raw has none same seen None told =
    let are : sizes_in j.left.made ≡ map size_of (files_of raw.made) = ap (λ (left : Left). sizes_in left.made) (sym same) ∙ sizes_among raw.made in
    let past : next_among j.records (sizes_in j.left.made) (length ws) ≡ None = ap (next_among j.records (sizes_in j.left.made)) has.count ∙ none in
    let records : option_map (map (raw_with (bytes_in raw.made))) j.records ≡ records_in (files_of raw.made) =
    same_records raw.made (sizes_in j.left.made) ws j.records are (has.records told) past seen in
    let out : bytes_in raw.made (output_range j.left) ≡ part_bytes raw.made part.Out =
    ap (λ (left : Left). bytes_in raw.made (output_range left)) (sym same) ∙ output_read raw.made in
    (λ i. judged j.login (sym same i) (out i) (records i))

pub fates_of_windows : (j : Judgement) (ws : List Window) (raw : Raw) → HasSeen j ws → next_file j ≡ None → told_of raw ≡ j.left
    → AreSeen ws (files_of raw.made) → fate_with (bytes_in raw.made) (fate_of j) ≡ fate j.login raw
unfolding fate next_file
fates_of_windows j ws raw has none same seen =
    judged_with (bytes_in raw.made) j.login j.left (output_range j.left) j.records ∙ by_told j ws raw has none same seen (told_failure j.left) refl

-- the same of an answer of the program
pub judged_so : {E : Type 0} (j : Judgement) (r : Result (Fate Range) E) → IfOk r (λ f. f ≡ fate_of j) → (ws : List Window) (raw : Raw) → HasSeen j ws → next_file j ≡ None → told_of raw ≡ j.left
    → AreSeen ws (files_of raw.made) → IfOk r (λ f. fate_with (bytes_in raw.made) f ≡ fate j.login raw)
judged_so j (Ok f) is ws raw has none same seen = ap (fate_with (bytes_in raw.made)) is ∙ fates_of_windows j ws raw has none same seen
judged_so j (Err e) is ws raw has none same seen = tt

-- the file that is wanted stands in the list
among_within : (o : Option (List (RawRecord Range))) (files : List FileSize) (k : ℕ) (size : FileSize) → next_among o files k ≡ Some size → k < length files
among_within None files k size e = absurd cc
among_within (Some rs) files k size e = slice_get_within files k size e

pub next_within : (j : Judgement) (size : FileSize) → next_file j ≡ Some size → j.count < length (sizes_in j.left.made)
unfolding next_file
next_within j size e = among_within j.records (sizes_in j.left.made) j.count size e
