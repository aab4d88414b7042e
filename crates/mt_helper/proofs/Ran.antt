-- What each tool did.
use Rattle.std.proofs.Common.{◌≡◌, ◌≢◌, ℕ, zero, suc, true, false, ◌+◌, ◌-◌, ◌<◌, ◌≤◌, List, [], ◌∷◌, ◌++◌, length, map, Option, Result, Ok, Err, refl, ap, sym, subst, arith, inl, inr}
use Rattle.std.specs.Prelude.{◌↔◌, slice_index_or}
use Rattle.std.specs.List.{range_with_len}
use Rattle.std.proofs.lemmas.List.{length-append, length-map}
use Rattle.std.proofs.lemmas.List.FromFn.{length-range_with_len}
use Rattle.mt_base.specs.Counts.{Rose}
use Rattle.mt_edge.specs.Stream.{LeftAfter}
use Rattle.mt_edge.proofs.Streams.{got_nothing, left_after, left_all}
use Rattle.mt_split.specs.Partition.{part_of}
use Rattle.mt_split.specs.Spans.{AreParts, bytes_in}
use Rattle.mt_split.specs.declared.key.KeyRule.{KeyRule}
use Rattle.mt_split.specs.declared.parts.Span.{Span}
use Rattle.mt_spawn.specs.Spools.{SpoolFile}
use Rattle.mt_records.specs.Heads.{head_bytes}
use Rattle.mt_records.specs.Records.{Record, record_bytes}
use Rattle.mt_records.specs.declared.head.RecordHead.{RecordHead}
use Rattle.mt_records.specs.declared.head.RecordHead.TheVariants as head
use Rattle.mt_helper.specs.declared.limits.TheConstants.{LARGEST_INPUT}
use Rattle.mt_helper.specs.declared.status.Refusal.{Refusal}
use Rattle.mt_helper.specs.declared.status.Status.{Status}
use Rattle.mt_helper.specs.declared.status.Status.TheVariants.{Done, Usage, BadPath, SourceFault, SinkFault, SpoolFault, NumbersTaken, InputTooLarge, OutOfMemory}
use Rattle.mt_helper.specs.declared.status.WordsError.{WordsError}
use Rattle.mt_helper.specs.declared.status.WordsError.TheVariants as word
use Rattle.mt_helper.specs.declared.tool.Tool.{Tool}
use Rattle.mt_helper.specs.declared.tool.Tool.TheVariants.{Pipe, Tee, Cat, Split}
use Rattle.mt_helper.specs.Ends.{Ends, HasCount, IsRunEnd, ends}
use Rattle.mt_helper.specs.Helping.{AddedBy, Helped, IsFit, IsMakingEnd, IsReadingEnd, Made, Ran, ReadAll, ReadFront, Shared, part_record, part_records, ref_of, status_of, tool_records, words_status}
use Rattle.mt_helper.specs.Streaming.{Streamed}
use Rattle.mt_helper.specs.Words.{asked_by}
use Rattle.mt_helper.proofs.Fits.{asked_fit}
use Rattle.mt_helper.proofs.Made.{goes_same, made_no_memory, making-runs, put_goes, put_taken}
use Rattle.mt_helper.proofs.Streams.{no_front}

-- ---- mpipe and mtee

pub piped : (place : Option (List ℕ)) (reducer : Option ℕ) (status : Status) (was now : Ends) → Streamed (head_bytes (head.Emit place reducer)) false status was now → Ran (Pipe place reducer) status was now
piped place reducer status was now s = record {
  input = s.input;
  read = s.read;
  unread = λ e. absurd (cc);
  ended = λ d e. s.ended d;
  large = s.large;
  copied = s.copied;
  copy = s.copy;
  front = s.front;
  whole = s.whole;
  added = put_goes status (record_bytes (record { head = head.Emit place reducer; body = s.input })) was.files now.files s.ends s.put;
  late = λ e. absurd (cc);
  taken = λ e. (put_taken status (record_bytes (record { head = head.Emit place reducer; body = s.input })) was.files now.files s.put e, λ w. s.early e);
  count = s.count;
  ends = s.ends;
}

pub teed : (place : List ℕ) (status : Status) (was now : Ends) → Streamed (head_bytes (head.Keep place)) true status was now → Ran (Tee place) status was now
teed place status was now s = record {
  input = s.input;
  read = s.read;
  unread = λ e. absurd (cc);
  ended = λ d e. s.ended d;
  large = s.large;
  copied = s.copied;
  copy = s.copy;
  front = s.front;
  whole = s.whole;
  added = put_goes status (record_bytes (record { head = head.Keep place; body = s.input })) was.files now.files s.ends s.put;
  late = λ e. absurd (cc);
  taken = λ e. (put_taken status (record_bytes (record { head = head.Keep place; body = s.input })) was.files now.files s.put e, λ w. s.early e);
  count = s.count;
  ends = s.ends;
}

-- ---- mcat

-- nothing was read, so that not too much was
none_large : (status : Status) → status ≢ InputTooLarge → (status ≡ InputTooLarge) ↔ (LARGEST_INPUT < length {A = ℕ} [])
none_large status small = (λ e. absurd (small e), λ h. absurd (omega (arith, h)))

making-small : (status : Status) → IsMakingEnd status → status ≢ InputTooLarge
making-small status making e = subst IsMakingEnd e making

making_count : (status : Status) (was now : Ends) → IsMakingEnd status → (status ≡ SpoolFault → Rose was.spool_faults now.spool_faults) → HasCount status was now
making_count Done was now making rose = tt
making_count SpoolFault was now making rose = rose refl
making_count NumbersTaken was now making rose = tt
making_count OutOfMemory was now making rose = tt
making_count Usage was now making rose = tt
making_count BadPath was now making rose = tt
making_count SourceFault was now making rose = absurd making
making_count SinkFault was now making rose = absurd making
making_count InputTooLarge was now making rose = tt

pub catted : (names : List (List ℕ)) (status : Status) (left got : Option (List ℕ)) (files files' : Option (List SpoolFile)) (r w f f' : ℕ) → Made (map record_bytes (map ref_of names)) status files f files' f'
    → Ran (Cat names) status (ends left got files r w f) (ends left got files' r w f')
catted names status left got files files' r w f f' made = record {
  input = [];
  read = left_all left;
  unread = λ e. refl;
  ended = λ d e. absurd (cc);
  large = none_large status (making-small status made.ends);
  copied = [];
  copy = got_nothing got;
  front = no_front [];
  whole = λ d. refl;
  added = made.added;
  late = λ e. absurd (cc);
  taken = λ e. (made.taken e, λ w. refl);
  count = making_count status (ends left got files r w f) (ends left got files' r w f') made.ends made.fault;
  ends = making-runs status made.ends;
}

-- ---- msplit

-- functions that agree give one list of a range
map_range : {X : Type 0} (f g : ℕ → X) (a n : ℕ) → ((k : ℕ) → k < a + n → f k ≡ g k) → map f (range_with_len a n) ≡ map g (range_with_len a n)
map_range f g a zero same = refl
map_range f g a (suc n) same = λ i. same a (omega arith) i ∷ map_range f g (a + 1) n (λ k below. same k (omega (arith, below))) i

-- records of the parts of a text are those that are wanted
pub parts_made : (text : List ℕ) (count : ℕ) (rule : KeyRule) (parts : List (List Span)) (status : Status) (files files' : Option (List SpoolFile)) (f f' : ℕ) → AreParts text count rule parts
    → Made (map record_bytes (map (λ r. part_record r (bytes_in text (slice_index_or parts r []))) (range_with_len 0 count))) status files f files' f'
    → Made (map record_bytes (part_records count rule text)) status files f files' f'
parts_made text count rule parts status files files' f f' are made =
    subst (λ (rs : List Record). Made (map record_bytes rs) status files f files' f')
    (map_range (λ r. part_record r (bytes_in text (slice_index_or parts r []))) (λ r. part_record r (part_of text count rule r)) 0 count (λ k below. ap (part_record k) (are.part k (omega (arith, below)))))
    made

some_parts : (count : ℕ) (rule : KeyRule) (input : List ℕ) → 0 < count → 0 < length (map record_bytes (part_records count rule input))
some_parts count rule input some =
    omega (arith, length-map (part_records count rule input) record_bytes, length-map (range_with_len 0 count) (λ r. part_record r (part_of input count rule r)), length-range_with_len 0 count, some)

pub no_parts : (count : ℕ) (rule : KeyRule) (text : List ℕ) (files : Option (List SpoolFile)) (f : ℕ) → 0 < count → Made (map record_bytes (part_records count rule text)) OutOfMemory files f files f
no_parts count rule text files f some = made_no_memory (map record_bytes (part_records count rule text)) files f (some_parts count rule text some)

-- nothing was made
unmade : (status : Status) (xs : List (List ℕ)) (fs : List SpoolFile) → IsReadingEnd status → 0 < length xs → AddedBy status xs fs fs
unmade SourceFault [] fs reading some = absurd (omega (arith, some))
unmade SourceFault (x ∷ xs) fs reading some = inl refl
unmade InputTooLarge [] fs reading some = absurd (omega (arith, some))
unmade InputTooLarge (x ∷ xs) fs reading some = inl refl
unmade OutOfMemory [] fs reading some = absurd (omega (arith, some))
unmade OutOfMemory (x ∷ xs) fs reading some = inl refl
unmade Done xs fs reading some = absurd reading
unmade Usage xs fs reading some = absurd reading
unmade BadPath xs fs reading some = absurd reading
unmade SinkFault xs fs reading some = absurd reading
unmade SpoolFault xs fs reading some = absurd reading
unmade NumbersTaken xs fs reading some = absurd reading

reading-runs : (status : Status) → IsReadingEnd status → IsRunEnd status
reading-runs SourceFault reading = tt
reading-runs InputTooLarge reading = tt
reading-runs OutOfMemory reading = tt
reading-runs Done reading = tt
reading-runs Usage reading = reading
reading-runs BadPath reading = reading
reading-runs SinkFault reading = tt
reading-runs SpoolFault reading = tt
reading-runs NumbersTaken reading = tt

reading-apart : (status other : Status) → (IsReadingEnd other → ⊥) → IsReadingEnd status → status ≢ other
reading-apart status other never reading e = never (subst IsReadingEnd e reading)

making-apart : (status other : Status) → (IsMakingEnd other → ⊥) → IsMakingEnd status → status ≢ other
making-apart status other never making e = never (subst IsMakingEnd e making)

-- reading failed
pub unshared : (count : ℕ) (rule : KeyRule) (status : Status) (left left' : Option (List ℕ)) (r r' : ℕ) (files : Option (List SpoolFile)) (f : ℕ) → 0 < count → ReadFront status left left' r r'
    → Shared count rule status left left' r r' files files f f
unshared count rule status left left' r r' files f some front = record {
  input = front.input;
  read = front.read;
  ended = λ d. absurd (reading-apart status Done (λ h. h) front.ends d);
  large = front.large;
  added = goes_same (AddedBy status (map record_bytes (part_records count rule front.input))) files files refl (λ fs. unmade status (map record_bytes (part_records count rule front.input)) fs front.ends (some_parts count rule front.input some));
  late = inr refl;
  taken = λ e. absurd (reading-apart status NumbersTaken (λ h. h) front.ends e);
  source = front.fault;
  spool = λ e. absurd (reading-apart status SpoolFault (λ h. h) front.ends e);
  sink = λ e. reading-apart status SinkFault (λ h. h) front.ends e;
  ends = reading-runs status front.ends;
}

-- all was read
pub shared : (count : ℕ) (rule : KeyRule) (status : Status) (input : List ℕ) (left left' : Option (List ℕ)) (r r' : ℕ) (files files' : Option (List SpoolFile)) (f f' : ℕ) → ReadAll input left left'
    → Made (map record_bytes (part_records count rule input)) status files f files' f' → Shared count rule status left left' r r' files files' f f'
shared count rule status input left left' r r' files files' f f' all made = record {
  input = input;
  read = all.read;
  ended = λ d. all.ended;
  large = (λ e. absurd (making-small status made.ends e), λ h. absurd (omega (arith, h, all.small)));
  added = made.added;
  late = inl all.ended;
  taken = made.taken;
  source = λ e. absurd (making-apart status SourceFault (λ h. h) made.ends e);
  spool = made.fault;
  sink = λ e. making-apart status SinkFault (λ h. h) made.ends e;
  ends = making-runs status made.ends;
}

shared_count : (status : Status) (was now : Ends) → (status ≡ SourceFault → Rose was.read_faults now.read_faults) → (status ≡ SpoolFault → Rose was.spool_faults now.spool_faults) → (status ≡ SinkFault → ⊥) → HasCount status was now
shared_count SourceFault was now source spool sink = source refl
shared_count SpoolFault was now source spool sink = spool refl
shared_count SinkFault was now source spool sink = absurd (sink refl)
shared_count Done was now source spool sink = tt
shared_count Usage was now source spool sink = tt
shared_count BadPath was now source spool sink = tt
shared_count NumbersTaken was now source spool sink = tt
shared_count InputTooLarge was now source spool sink = tt
shared_count OutOfMemory was now source spool sink = tt

pub splitted : (count : ℕ) (rule : KeyRule) (status : Status) (left left' got : Option (List ℕ)) (files files' : Option (List SpoolFile)) (r r' w f f' : ℕ) → Shared count rule status left left' r r' files files' f f'
    → Ran (Split count rule) status (ends left got files r w f) (ends left' got files' r' w f')
splitted count rule status left left' got files files' r r' w f f' s = record {
  input = s.input;
  read = s.read;
  unread = λ e. absurd (cc);
  ended = λ d e. s.ended d;
  large = s.large;
  copied = [];
  copy = got_nothing got;
  front = no_front [];
  whole = λ d. refl;
  added = s.added;
  late = λ e. s.late;
  taken = λ e. (s.taken e, λ w. absurd (cc));
  count = shared_count status (ends left got files r w f) (ends left' got files' r' w f') s.source s.spool s.sink;
  ends = s.ends;
}

-- ---- before anything is done

-- a tool makes one record at least
pub some_records : (tool : Tool) (input : List ℕ) → IsFit tool → 0 < length (map record_bytes (tool_records tool input))
some_records (Pipe place reducer) input fit = omega arith
some_records (Tee place) input fit = omega arith
some_records (Cat names) input fit = omega (arith, length-map (map ref_of names) record_bytes, length-map names ref_of, fit.0)
some_records (Split count rule) input fit = some_parts count rule input fit

-- no memory, and nothing was done
pub nothing_ran : (tool : Tool) (left got : Option (List ℕ)) (files : Option (List SpoolFile)) (r w f : ℕ) → IsFit tool → Ran tool OutOfMemory (ends left got files r w f) (ends left got files r w f)
nothing_ran tool left got files r w f fit = record {
  input = [];
  read = left_all left;
  unread = λ e. refl;
  ended = λ d e. absurd (cc);
  large = none_large OutOfMemory (λ e. absurd (cc));
  copied = [];
  copy = got_nothing got;
  front = no_front _;
  whole = λ d. absurd (cc);
  added = goes_same (AddedBy OutOfMemory (map record_bytes (tool_records tool []))) files files refl (λ fs. unmade OutOfMemory (map record_bytes (tool_records tool [])) fs tt (some_records tool [] fit));
  late = λ e. inr refl;
  taken = λ e. absurd (cc);
  count = tt;
  ends = tt;
}

-- ---- by the words

pub helped_ok : (r : Result Tool Refusal) (tool : Tool) (status : Status) (was now : Ends) → r ≡ Ok tool → Ran tool status was now → Helped r status was now
helped_ok r tool status was now is ran = subst (λ (q : Result Tool Refusal). Helped q status was now) (sym is) ran

pub helped_refused : (r : Result Tool Refusal) (e : Refusal) (was : Ends) → r ≡ Err e → Helped r (status_of e) was was
helped_refused r e was is = subst (λ (q : Result Tool Refusal). Helped q (status_of e) was was) (sym is) (inl refl, record { left = refl; got = refl; files = refl })

pub helped_memory : (words : List (List ℕ)) (left got : Option (List ℕ)) (files : Option (List SpoolFile)) (r w f : ℕ) → Helped (asked_by words) OutOfMemory (ends left got files r w f) (ends left got files r w f)
helped_memory words left got files r w f = go (asked_by words) refl
  where
    go : (q : Result Tool Refusal) → asked_by words ≡ q → Helped q OutOfMemory (ends left got files r w f) (ends left got files r w f)
    go (Err e) is = (inr refl, record { left = refl; got = refl; files = refl })
    go (Ok tool) is = nothing_ran tool left got files r w f (asked_fit words tool is)

abbrev pub words_error : WordsError → Result Tool WordsError
words_error error = Err error

pub helped_error : (words : List (List ℕ)) (error : WordsError) (left got : Option (List ℕ)) (files : Option (List SpoolFile)) (r w f : ℕ) → ((e : Refusal) → words_error error ≡ words_error (word.Refused e) → asked_by words ≡ Err e)
    → Helped (asked_by words) (words_status error) (ends left got files r w f) (ends left got files r w f)
helped_error words (word.Refused e) left got files r w f refused = helped_refused (asked_by words) e (ends left got files r w f) (refused e refl)
helped_error words word.Memory left got files r w f refused = helped_memory words left got files r w f

-- ---- reading

-- more was read than may be
pub read_large : (bytes piece : List ℕ) (n : ℕ) (left left' left'' : Option (List ℕ)) (r r' : ℕ) → length piece ≡ n → LeftAfter left bytes left' → LeftAfter left' piece left'' → LARGEST_INPUT - length bytes < n → ReadFront InputTooLarge left left'' r r'
read_large bytes piece n left left' left'' r r' size first second more = record {
  input = bytes ++ piece;
  read = left_after left bytes left' piece left'' first second;
  large = (λ e. omega (arith, length-append bytes piece, size, more), λ h. refl);
  fault = λ e. absurd (cc);
  ends = tt;
}

-- there was no room for what was read
pub read_no_memory : (bytes piece : List ℕ) (n : ℕ) (left left' left'' : Option (List ℕ)) (r r' : ℕ) → length piece ≡ n → LeftAfter left bytes left' → LeftAfter left' piece left'' → n ≤ LARGEST_INPUT - length bytes → length bytes ≤ LARGEST_INPUT
    → ReadFront OutOfMemory left left'' r r'
read_no_memory bytes piece n left left' left'' r r' size first second fits few = record {
  input = bytes ++ piece;
  read = left_after left bytes left' piece left'' first second;
  large = (λ e. absurd (cc), λ h. absurd (omega (arith, length-append bytes piece, size, fits, few, h)));
  fault = λ e. absurd (cc);
  ends = tt;
}

-- a head has some bytes
pub some_head : (h : RecordHead) → 0 < length (head_bytes h)
unfolding head_bytes
some_head (head.Emit place reducer) = omega arith
some_head (head.Keep place) = omega arith
some_head (head.Ref name) = omega arith
