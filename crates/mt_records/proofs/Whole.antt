-- An outcome whose files show these windows, and whose bodies are whatever was read.
use Rattle.std.proofs.Common.{◌≡◌, ℕ, ◌+◌, ◌-◌, ◌≤◌, List, [], ◌∷◌, ◌++◌, map, length, take, drop, Option, Some, None, refl, sym, ap, ◌∙◌, arith}
use Rattle.std.specs.Prelude.{replicate, option_map, option_and_then}
use Rattle.std.proofs.Math.Seq.{take-length}
use Rattle.std.proofs.lemmas.List.{append_assoc, length-append, length-replicate, length-take-le, take-append-le, take_at, drop_at}
use Rattle.mt_types.specs.Values.{fate_with}
use Rattle.mt_types.specs.declared.task.Made.{Made}
use Rattle.mt_types.specs.declared.task.Made.TheVariants as made
use Rattle.mt_types.specs.declared.task.Raw.{Raw}
use Rattle.mt_types.specs.declared.task.RecordFile.{RecordFile}
use Rattle.mt_types.specs.declared.task.TaskFailure.{TaskFailure}
use Rattle.mt_spawn.specs.Orders.{told_of, size_of, sizes_of}
use Rattle.mt_spawn.specs.Parts.{part_bytes, size_among}
use Rattle.mt_spawn.specs.declared.task.FileSize.{FileSize}
use Rattle.mt_spawn.specs.declared.task.Left.{Left}
use Rattle.mt_spawn.specs.declared.task.Part.TheVariants as part
use Rattle.mt_spawn.specs.declared.task.Sizes.{Sizes}
use Rattle.mt_spawn.specs.declared.task.Sizes.TheVariants as sizes
use Rattle.mt_records.specs.declared.range.Range.{Range}
use Rattle.mt_records.specs.declared.limits.TheConstants.{END_LEN, LONGEST_HEAD}
use Rattle.mt_records.specs.Fate.{all_records, fate, files_of, judged, told_failure}
use Rattle.mt_records.specs.Laws.{HasOutcome}
use Rattle.mt_records.specs.Seen.{AreWindows, HasSeen, IsWindow, Judgement, bytes_in, fate_of, next_file, output_range, range_in, range_record, shown, sizes_in}
use Rattle.mt_records.specs.Windows.{AreSeen, IsSeen, Window, body_len, body_start, head_before, headed, record_of, record_with}
use Rattle.mt_records.proofs.Ends.{some_len}
use Rattle.mt_records.proofs.Fates.{all_with, judged_with, raw_with, window_with}
use Rattle.mt_records.proofs.Seen.{StandAt, all_stand, first_file, fates_of_windows, other_files, told_first}

module _ (stored : Range → List ℕ) (fits : (r : Range) → length (stored r) ≡ r.len) where
  -- what stands before the end of a file: the head that was seen and the body that was read, where the end says how long they are
  abbrev front_bytes : ℕ → Window → Option ℕ → List ℕ
  front_bytes k w None = replicate (w.len - END_LEN) 0
  front_bytes k w (Some n) = take (body_start w n) (w.front ++ replicate (body_start w n) 0) ++ stored (range_in k (body_start w n) n)

  abbrev whole_bytes : ℕ → Window → List ℕ
  whole_bytes k w = front_bytes k w (body_len w.end w.len) ++ w.end

  head_count : (w : Window) (n : ℕ) → length (take (body_start w n) (w.front ++ replicate (body_start w n) 0)) ≡ body_start w n
  head_count w n = length-take-le (body_start w n) (w.front ++ replicate (body_start w n) 0) (omega (arith, length-append w.front (replicate (body_start w n) 0), length-replicate {A = ℕ} (body_start w n) 0))

  front_count : (k : ℕ) (w : Window) (o : Option ℕ) → body_len w.end w.len ≡ o → length (front_bytes k w o) ≡ w.len - END_LEN
  front_count k w None e = length-replicate {A = ℕ} (w.len - END_LEN) 0
  front_count k w (Some n) e =
      let says = some_len w.end w.len n e in
      omega (arith, length-append (take (body_start w n) (w.front ++ replicate (body_start w n) 0)) (stored (range_in k (body_start w n) n)), head_count w n, fits (range_in k (body_start w n) n), says.room, says.long)

  whole_count : (k : ℕ) (size : FileSize) (w : Window) → IsWindow size w → length (whole_bytes k w) ≡ w.len
  whole_count k size w is =
      omega (arith, length-append (front_bytes k w (body_len w.end w.len)) w.end, front_count k w (body_len w.end w.len) refl, is.end)

  -- the parts of a file whose end says how long they are
  said_head : (k : ℕ) (size : FileSize) (w : Window) → IsWindow size w → (n : ℕ) → body_len w.end w.len ≡ Some n → body_start w n ≤ LONGEST_HEAD → take (body_start w n) w.front ≡ take (body_start w n) (whole_bytes k w)
  said_head k size w is n e short =
      let s = body_start w n in
      let says = some_len w.end w.len n e in
      let head = take s (w.front ++ replicate s 0) in
      let body = stored (range_in k s n) in
      let few : s ≤ length w.front = omega (arith, is.front, short, says.long, says.room) in
      let front : whole_bytes k w ≡ (head ++ body) ++ w.end = ap (λ (o : Option ℕ). front_bytes k w o ++ w.end) e in
      sym (ap (take s) (front ∙ append_assoc head body w.end) ∙ take_at head (body ++ w.end) s (head_count w n) ∙ take-append-le s w.front (replicate s 0) few)

  said_body : (k : ℕ) (w : Window) (n : ℕ) → body_len w.end w.len ≡ Some n → stored (range_in k (body_start w n) n) ≡ take n (drop (body_start w n) (whole_bytes k w))
  said_body k w n e =
      let s = body_start w n in
      let head = take s (w.front ++ replicate s 0) in
      let body = stored (range_in k s n) in
      let front : whole_bytes k w ≡ (head ++ body) ++ w.end = ap (λ (o : Option ℕ). front_bytes k w o ++ w.end) e in
      sym (ap (λ (t : List ℕ). take n (drop s t)) (front ∙ append_assoc head body w.end) ∙ ap (take n) (drop_at head (body ++ w.end) s (head_count w n)) ∙ take_at body w.end n (fits (range_in k s n)))

  is_seen : (k : ℕ) (size : FileSize) (w : Window) → IsWindow size w → IsSeen w (whole_bytes k w)
  is_seen k size w is =
      let front = front_bytes k w (body_len w.end w.len) in
      let count = whole_count k size w is in
      let before : length front ≡ length (front ++ w.end) - END_LEN = omega (arith, front_count k w (body_len w.end w.len) refl, count) in
      record {
        len = sym count;
        end = sym (drop_at front w.end (length (front ++ w.end) - END_LEN) before);
        head = said_head k size w is;
      }

  -- ---- all files

  abbrev whole_files : ℕ → List FileSize → List Window → List RecordFile
  whole_files k [] ws = []
  whole_files k (s ∷ files) [] = record { number = s.number; bytes = replicate s.len 0 } ∷ whole_files (k + 1) files []
  whole_files k (s ∷ files) (w ∷ ws) = record { number = s.number; bytes = whole_bytes k w } ∷ whole_files (k + 1) files ws

  abbrev sized : (number n : ℕ) → FileSize
  sized number n = record { number = number; len = n }

  whole_sizes : (k : ℕ) (files : List FileSize) (ws : List Window) → AreWindows files ws → map size_of (whole_files k files ws) ≡ files
  whole_sizes k [] [] are = refl
  whole_sizes k [] (w ∷ ws) are = absurd are
  whole_sizes k (s ∷ files) [] are = λ i. sized s.number (length-replicate {A = ℕ} s.len 0 i) ∷ whole_sizes (k + 1) files [] tt i
  whole_sizes k (s ∷ files) (w ∷ ws) are = λ i. sized s.number ((whole_count k s w are.0 ∙ are.0.len) i) ∷ whole_sizes (k + 1) files ws are.1 i

  whole_seen : (k : ℕ) (files : List FileSize) (ws : List Window) → AreWindows files ws → AreSeen ws (whole_files k files ws)
  whole_seen k files [] are = tt
  whole_seen k [] (w ∷ ws) are = absurd are
  whole_seen k (s ∷ files) (w ∷ ws) are = (is_seen k s w are.0, whole_seen (k + 1) files ws are.1)

  abbrev whole_made : List Window → Sizes → Made
  whole_made ws (sizes.Whole out files) = made.Whole (stored (record { part = part.Out; from = 0; len = out })) (whole_files 0 files ws)
  whole_made ws (sizes.TooLarge total) = made.TooLarge total

  made_sizes : (ws : List Window) (s : Sizes) → AreWindows (sizes_in s) ws → sizes_of (whole_made ws s) ≡ s
  made_sizes ws (sizes.Whole out files) are = λ i. sizes.Whole (fits (record { part = part.Out; from = 0; len = out }) i) (whole_sizes 0 files ws are i)
  made_sizes ws (sizes.TooLarge total) are = refl

  made_seen : (ws : List Window) (s : Sizes) → AreWindows (sizes_in s) ws → AreSeen ws (files_of (whole_made ws s))
  made_seen ws (sizes.Whole out files) are = whole_seen 0 files ws are
  made_seen [] (sizes.TooLarge total) are = tt
  made_seen (w ∷ ws) (sizes.TooLarge total) are = absurd are

  -- ---- the bodies of ranges

  same_body : (k : ℕ) (w : Window) (m : Made) → part_bytes m (part.File k) ≡ whole_bytes k w → option_map (raw_with stored) (range_record k w) ≡ option_map (raw_with (bytes_in m)) (range_record k w)
  unfolding record_with
  same_body k w m stands = window_with stored (range_in k) w ∙ by_len (body_len w.end w.len) refl ∙ sym (window_with (bytes_in m) (range_in k) w)
    where
      by_len : (o : Option ℕ) → body_len w.end w.len ≡ o
          → option_and_then (record_of (λ from n. stored (range_in k from n)) w) o ≡ option_and_then (record_of (λ from n. bytes_in m (range_in k from n)) w) o
      by_len None e = refl
      by_len (Some n) e =
          ap (λ (b : List ℕ). option_map (headed b) (head_before (body_start w n) n w.front))
          (said_body k w n e ∙ ap (λ (t : List ℕ). take n (drop (body_start w n) t)) (sym stands))

  same_shown : (k : ℕ) (files : List FileSize) (ws : List Window) (m : Made) → AreWindows files ws → StandAt m k (whole_files k files ws)
      → map (option_map (raw_with stored)) (shown k ws) ≡ map (option_map (raw_with (bytes_in m))) (shown k ws)
  unfolding shown
  same_shown k files [] m are stand = refl
  same_shown k [] (w ∷ ws) m are stand = absurd are
  same_shown k (s ∷ files) (w ∷ ws) m are stand =
      let f : RecordFile = record { number = s.number; bytes = whole_bytes k w } in
      λ i. same_body k w m (first_file m k f (whole_files (k + 1) files ws) stand) i ∷ same_shown (k + 1) files ws m are.1 (other_files m k f (whole_files (k + 1) files ws) stand) i

  made_shown : (ws : List Window) (s : Sizes) → AreWindows (sizes_in s) ws
      → map (option_map (raw_with stored)) (shown 0 ws) ≡ map (option_map (raw_with (bytes_in (whole_made ws s)))) (shown 0 ws)
  made_shown ws (sizes.Whole out files) are = same_shown 0 files ws (whole_made ws (sizes.Whole out files)) are (all_stand (whole_made ws (sizes.Whole out files)))
  made_shown [] (sizes.TooLarge total) are = same_shown 0 [] [] (made.TooLarge total) tt (all_stand (made.TooLarge total))
  made_shown (w ∷ ws) (sizes.TooLarge total) are = absurd are

  abbrev whole_range : ℕ → Range
  whole_range n = record { part = part.Out; from = 0; len = n }

  cut_whole : (bytes : List ℕ) (n : ℕ) → length bytes ≡ n → bytes ≡ take n (drop 0 bytes)
  cut_whole bytes n e = sym (ap (λ (k : ℕ). take k bytes) (sym e) ∙ take-length bytes)

  no_output : (bytes : List ℕ) → length bytes ≡ 0 → bytes ≡ []
  no_output [] e = refl
  no_output (b ∷ bytes) e = absurd (omega (arith, e))

  made_output : (ws : List Window) (s : Sizes) → stored (whole_range (size_among s part.Out)) ≡ bytes_in (whole_made ws s) (whole_range (size_among s part.Out))
  made_output ws (sizes.Whole out files) = cut_whole (stored (whole_range out)) out (fits (whole_range out))
  made_output ws (sizes.TooLarge total) = no_output (stored (whole_range 0)) (fits (whole_range 0))

  -- the outcome
  abbrev whole_of : List Window → Left → Raw
  whole_of ws left = record { status = left.status; stderr = left.stderr; made = whole_made ws left.made }

  abbrev with_made : Left → Sizes → Left
  with_made left s = record { status = left.status; stderr = left.stderr; made = s }

  same_fate : (j : Judgement) (ws : List Window) → HasSeen j ws → AreWindows (sizes_in j.left.made) ws → (t : Option TaskFailure) → told_failure j.left ≡ t
      → fate_with stored (fate_of j) ≡ fate_with (bytes_in (whole_made ws j.left.made)) (fate_of j)
  same_fate j ws has are (Some e) told =
      let m = whole_made ws j.left.made in
      judged_with stored j.login j.left (output_range j.left) j.records
      ∙ told_first j.login j.left e (stored (output_range j.left)) (option_map (map (raw_with stored)) j.records) told
      ∙ sym (judged_with (bytes_in m) j.login j.left (output_range j.left) j.records
      ∙ told_first j.login j.left e (bytes_in m (output_range j.left)) (option_map (map (raw_with (bytes_in m))) j.records) told)
  same_fate j ws has are None told =
      let m = whole_made ws j.left.made in
      let read : option_map (map (raw_with stored)) j.records ≡ option_map (map (raw_with (bytes_in m))) j.records =
      ap (option_map (map (raw_with stored))) (has.records told) ∙ all_with stored (shown 0 ws) ∙ ap all_records (made_shown ws j.left.made are)
      ∙ sym (ap (option_map (map (raw_with (bytes_in m)))) (has.records told) ∙ all_with (bytes_in m) (shown 0 ws)) in
      judged_with stored j.login j.left (output_range j.left) j.records
      ∙ (λ i. judged j.login j.left (made_output ws j.left.made i) (read i))
      ∙ sym (judged_with (bytes_in m) j.login j.left (output_range j.left) j.records)

  pub fates_of_any_bytes : (j : Judgement) (ws : List Window) → HasSeen j ws → next_file j ≡ None → AreWindows (sizes_in j.left.made) ws → HasOutcome j stored
  fates_of_any_bytes j ws has none are =
      let raw : Raw = whole_of ws j.left in
      let left : told_of raw ≡ j.left = ap (with_made j.left) (made_sizes ws j.left.made are) in
      let judged_so : fate_with stored (fate_of j) ≡ fate j.login raw =
      same_fate j ws has are (told_failure j.left) refl ∙ fates_of_windows j ws raw has none left (made_seen ws j.left.made are) in
      record { raw = raw; left = left; judged = judged_so }
