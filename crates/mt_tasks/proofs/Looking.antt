-- Windows that are looked at in turn, and the fate that shows.
use Rattle.std.proofs.Common.{◌≡◌, ◌<◌, ◌≤◌, ℕ, zero, suc, ◌+◌, ◌-◌, List, [], ◌∷◌, ◌++◌, length, map, take, drop, Option, Some, None, refl, sym, ap, ◌∙◌, subst, arith, length-append}
use Rattle.std.specs.Prelude.{IfSome}
use Rattle.std.specs.List.{AllByRecursion, slice_get}
use Rattle.std.proofs.Math.Seq.{take-length}
use Rattle.std.proofs.lemmas.List.{length-drop, length-map, take-take}
use Rattle.std.proofs.lemmas.Option.{slice_get_within}
use Rattle.mt_types.specs.declared.task.Fate.{Fate}
use Rattle.mt_types.specs.declared.task.Made.{Made}
use Rattle.mt_types.specs.declared.task.Made.TheVariants as made
use Rattle.mt_types.specs.declared.task.Raw.{Raw}
use Rattle.mt_types.specs.declared.task.RecordFile.{RecordFile}
use Rattle.mt_types.specs.Values.{fate_with}
use Rattle.mt_model.specs.Bodies.{OfFate}
use Rattle.mt_model.specs.Honest.{Bytes}
use Rattle.mt_records.specs.Fate.{fate, files_of}
use Rattle.mt_records.specs.Laws.{IsWithin}
use Rattle.mt_records.specs.Records.{AreBytes}
use Rattle.mt_records.specs.Seen.{AreWindows, HasSeen, IsWindow, Judgement, after_file, begun, bytes_in, fate_of, next_among, next_file, sizes_in}
use Rattle.mt_records.specs.Windows.{AreSeen, IsSeen, Window, body_start, last_of}
use Rattle.mt_records.specs.declared.limits.TheConstants.{END_LEN, LONGEST_HEAD}
use Rattle.mt_records.specs.declared.range.Range.{Range}
use Rattle.mt_records.specs.declared.record.RawRecord.{RawRecord}
use Rattle.mt_records.proofs.Over.{fate_of_stored}
use Rattle.mt_records.proofs.Said.{ranged_is_said, ranged_is_well_made}
use Rattle.mt_records.proofs.Seen.{fates_of_windows, none_seen, windows_in_turn}
use Rattle.mt_records.proofs.Within.{ranges_are_within}
use Rattle.mt_spawn.specs.Orders.{size_of, sizes_of, told_of}
use Rattle.mt_spawn.specs.Parts.{file_bytes, file_size, part_bytes, size_among, told_part}
use Rattle.mt_spawn.specs.declared.task.FileSize.{FileSize}
use Rattle.mt_spawn.specs.declared.task.Left.{Left}
use Rattle.mt_spawn.specs.declared.task.Part.TheVariants as part
use Rattle.mt_spawn.specs.declared.task.Sizes.{Sizes}
use Rattle.mt_spawn.specs.declared.task.Sizes.TheVariants as sizes
use Rattle.mt_spawn.proofs.PartBytes.{told_size}
use Rattle.mt_tasks.specs.Fates.{HasLooked, IsFateOf, IsJudged, LooksAt}
use Rattle.mt_tasks.proofs.Came.{bytes_for, some_bytes}

-- ---- the next file

among : (rs : Option (List (RawRecord Range))) (files : List FileSize) (count : ℕ) (size : FileSize) → next_among rs files count ≡ Some size → slice_get files count ≡ Some size
among None files count size is = cc
among (Some rs) files count size is = is

-- the next file is one of those that are told
pub next_is : (j : Judgement) (size : FileSize) → next_file j ≡ Some size → slice_get (sizes_in j.left.made) j.count ≡ Some size
unfolding next_file
next_is j size is = among j.records (sizes_in j.left.made) j.count size is

pub next_within : (j : Judgement) (size : FileSize) → next_file j ≡ Some size → j.count < length (sizes_in j.left.made)
next_within j size is = slice_get_within (sizes_in j.left.made) j.count size (next_is j size is)

part_is : (s : Sizes) (k : ℕ) (size : FileSize) → slice_get (sizes_in s) k ≡ Some size → size_among s (part.File k) ≡ size.len
part_is (sizes.Whole out files) k size is = ap file_size is
part_is (sizes.TooLarge total) k size is = cc

-- its size is that of a part of what is held
pub next_size : (j : Judgement) (size : FileSize) → next_file j ≡ Some size → size_among j.left.made (part.File j.count) ≡ size.len
next_size j size is = part_is j.left.made j.count size (next_is j size is)

-- ---- a window more

module _ {X : Type 0} (P : X → Type 0) where
  push_all : (xs : List X) (x : X) → AllByRecursion P xs → P x → AllByRecursion P (xs ++ x ∷ [])
  push_all [] x all one = (one, tt)
  push_all (y ∷ xs) x all one = (all.0, push_all xs x all.1 one)

push_windows : (files : List FileSize) (ws : List Window) (size : FileSize) (w : Window) → AreWindows files ws → slice_get files (length ws) ≡ Some size → IsWindow size w → AreWindows files (ws ++ w ∷ [])
push_windows [] [] size w are is fits = cc
push_windows (f ∷ files) [] size w are is fits = let e : f ≡ size = cc in (subst (λ (x : FileSize). IsWindow x w) (sym e) fits, tt)
push_windows [] (v ∷ ws) size w are is fits = absurd are
push_windows (f ∷ files) (v ∷ ws) size w are is fits = (are.0, push_windows files ws size w are.1 is fits)

push_seen : (files : List RecordFile) (ws : List Window) (w : Window) → AreSeen ws files → length ws < length files → IfSome (slice_get files (length ws)) (λ f. IsSeen w f.bytes) → AreSeen (ws ++ w ∷ []) files
push_seen [] [] w are less seen = absurd (omega (arith, less))
push_seen (f ∷ files) [] w are less seen = (seen, tt)
push_seen [] (v ∷ ws) w are less seen = absurd are
push_seen (f ∷ files) (v ∷ ws) w are less seen = (are.0, push_seen files ws w are.1 (omega (arith, less)) seen)

-- as many files as are told
files_long : (m : Made) → length (sizes_in (sizes_of m)) ≡ length (files_of m)
files_long (made.Whole out files) = length-map files size_of
files_long (made.TooLarge total) = refl

-- windows of what is told
show_more : (told : Option Raw) (left : Left) (k : ℕ) (ws : List Window) (w : Window) → ((raw : Raw) → told ≡ Some raw → told_of raw ≡ left) → length ws ≡ k → k < length (sizes_in left.made)
    → IfSome told (λ raw. AreSeen ws (files_of raw.made)) → IfSome told (λ raw. IfSome (slice_get (files_of raw.made) k) (λ f. IsSeen w f.bytes)) → IfSome told (λ raw. AreSeen (ws ++ w ∷ []) (files_of raw.made))
show_more None left k ws w law long less show one = tt
show_more (Some raw) left k ws w law long less show one =
    let same : length (sizes_in left.made) ≡ length (files_of raw.made) = ap (λ (l : Left). length (sizes_in l.made)) (sym (law raw refl)) ∙ files_long raw.made in
    push_seen (files_of raw.made) ws w show (omega (arith, long, less, same)) (subst (λ (n : ℕ). IfSome (slice_get (files_of raw.made) n) (λ f. IsSeen w f.bytes)) (sym long) one)

-- nothing was looked at yet
pub looked_none : (login : Bytes) (left : Left) (told : Option Raw) → HasLooked login left told (begun login left)
looked_none login left told = record { windows = []; has = none_seen login left; are = no_windows (sizes_in left.made); fronts = tt; show = no_seen told; left_is = refl; login_is = refl }
  where
    no_windows : (files : List FileSize) → AreWindows files []
    no_windows [] = tt
    no_windows (f ∷ files) = tt

    no_seen : (told : Option Raw) → IfSome told (λ raw. AreSeen [] (files_of raw.made))
    no_seen None = tt
    no_seen (Some raw) = tt

-- and a file more
pub looked_more : (login : Bytes) (left : Left) (told : Option Raw) (old new : Judgement) (size : FileSize) → ((raw : Raw) → told ≡ Some raw → told_of raw ≡ left) → HasLooked login left told old → next_file old ≡ Some size
    → LooksAt told size old new → HasLooked login left told new
looked_more login left told old new size law so next looks =
    let w = looks.window in
    let at : slice_get (sizes_in left.made) (length so.windows) ≡ Some size =
    ap (slice_get (sizes_in left.made)) so.has.count ∙ ap (λ (l : Left). slice_get (sizes_in l.made) old.count) (sym so.left_is) ∙ next_is old size next in
    let less : old.count < length (sizes_in left.made) = subst (λ (l : Left). old.count < length (sizes_in l.made)) so.left_is (next_within old size next) in
    record {
      windows = so.windows ++ w ∷ [];
      has = subst (λ (j : Judgement). HasSeen j (so.windows ++ w ∷ [])) (sym looks.after) (windows_in_turn old so.windows size w so.has next);
      are = push_windows (sizes_in left.made) so.windows size w so.are at looks.fits;
      fronts = push_all (λ v. AreBytes v.front) so.windows w so.fronts looks.front;
      show = show_more told left old.count so.windows w law so.has.count less so.show looks.shows;
      left_is = ap (λ (j : Judgement). j.left) looks.after ∙ so.left_is;
      login_is = ap (λ (j : Judgement). j.login) looks.after ∙ so.login_is;
    }

-- ---- the fate

fate_told : (login : Bytes) (left : Left) (told : Option Raw) (j : Judgement) → ((raw : Raw) → told ≡ Some raw → told_of raw ≡ left) → HasLooked login left told j → next_file j ≡ None → IsFateOf login left told (fate_of j)
fate_told login left None j law so none = λ g over.
    let from = fate_of_stored j so.windows g so.has none (subst (λ (l : Left). AreWindows (sizes_in l.made) so.windows) (sym so.left_is) so.are) over in
    (from.raw, from.left ∙ so.left_is, from.judged ∙ ap (λ (l : Bytes). fate l from.raw) so.login_is)
fate_told login left (Some raw) j law so none =
    fates_of_windows j so.windows raw so.has none (law raw refl ∙ sym so.left_is) so.show ∙ ap (λ (l : Bytes). fate l raw) so.login_is

pub judged : (login : Bytes) (left : Left) (told : Option Raw) (j : Judgement) (f : Fate Range) → ((raw : Raw) → told ≡ Some raw → told_of raw ≡ left) → HasLooked login left told j → next_file j ≡ None → f ≡ fate_of j → IsJudged login left told f
judged login left told j f law so none is =
    let within : OfFate (IsWithin left.made) (fate_of j) = subst (λ (l : Left). OfFate (IsWithin l.made) (fate_of j)) so.left_is
    (ranges_are_within j so.windows so.has (subst (λ (l : Left). AreWindows (sizes_in l.made) so.windows) (sym so.left_is) so.are)) in
    subst (λ (x : Fate Range). IsJudged login left told x) (sym is)
    (record {
      came = fate_told login left told j law so none;
      made = ranged_is_well_made j;
      said = ranged_is_said j so.windows so.has so.fronts;
      bytes = fate_with (bytes_for told) (fate_of j);
      over = some_bytes left told law (fate_of j) within;
    })

-- ---- what a window shows of a file

file_seen : (f : RecordFile) (size : FileSize) (w : Window) → length f.bytes ≡ size.len → w.len ≡ size.len → w.end ≡ last_of END_LEN f.bytes → ((m : ℕ) → m ≤ LONGEST_HEAD → take m w.front ≡ take m f.bytes) → IsSeen w f.bytes
file_seen f size w long len end front = record { len = len ∙ sym long; end = end; head = λ n said short. front (body_start w n) short }

module _ (k : ℕ) (size : FileSize) where
  -- all bytes of a short file
  whole_seen : (f : RecordFile) (bytes : List ℕ) → length f.bytes ≡ size.len → length bytes ≡ size.len → bytes ≡ take (length bytes) (drop 0 f.bytes)
      → IsSeen (record { len = size.len; front = bytes; end = drop (length bytes - END_LEN) bytes }) f.bytes
  whole_seen f bytes long same is =
      let all : bytes ≡ f.bytes = is ∙ ap (λ (n : ℕ). take n f.bytes) (same ∙ sym long) ∙ take-length f.bytes in
      file_seen f size (record { len = size.len; front = bytes; end = drop (length bytes - END_LEN) bytes }) long refl (ap (last_of END_LEN) all) (λ m short. ap (take m) all)

  -- the front and the end of a long one
  ends_seen : (f : RecordFile) (front end : List ℕ) → length f.bytes ≡ size.len → 1221 < size.len → front ≡ take 1209 (drop 0 f.bytes) → end ≡ take 12 (drop (size.len - 12) f.bytes)
      → IsSeen (record { len = size.len; front = front; end = end }) f.bytes
  ends_seen f front end long more first last =
      let rest : List ℕ = drop (size.len - 12) f.bytes in
      let twelve : length rest ≡ 12 = omega (arith, length-drop (size.len - 12) f.bytes, long, more) in
      let whole : end ≡ last_of END_LEN f.bytes = last ∙ ap (λ (n : ℕ). take n rest) (sym twelve) ∙ take-length rest ∙ ap (λ (n : ℕ). drop (n - 12) f.bytes) (sym long) in
      file_seen f size (record { len = size.len; front = front; end = end }) long refl whole (λ m short. ap (take m) first ∙ take-take m 1209 f.bytes short)

  by_file : (w : Window) (made : Made) → size_among (sizes_of made) (part.File k) ≡ size.len → ((f : RecordFile) → length f.bytes ≡ size.len → part_bytes made (part.File k) ≡ f.bytes → IsSeen w f.bytes)
      → IfSome (slice_get (files_of made) k) (λ f. IsSeen w f.bytes)
  by_file w (made.TooLarge total) at each = tt
  by_file w (made.Whole out files) at each = among_files (slice_get files k) refl
    where
      among_files : (o : Option RecordFile) → slice_get files k ≡ o → IfSome o (λ f. IsSeen w f.bytes)
      among_files None is = tt
      among_files (Some f) is =
          let bytes : file_bytes (slice_get files k) ≡ f.bytes = ap file_bytes is in
          each f (ap (λ (l : List ℕ). length l) (sym bytes) ∙ sym (told_size (record { status = 0; stderr = []; made = made.Whole out files }) (part.File k)) ∙ at) bytes

  module _ (left : Left) (told : Option Raw) (law : (raw : Raw) → told ≡ Some raw → told_of raw ≡ left) (at : size_among left.made (part.File k) ≡ size.len) where
    -- all bytes of a short file, where they are told
    pub whole_shows : (bytes : List ℕ) → length bytes ≡ size.len → IfSome (told_part told (part.File k)) (λ b. bytes ≡ take (length bytes) (drop 0 b))
        → IfSome told (λ raw. IfSome (slice_get (files_of raw.made) k) (λ f. IsSeen (record { len = size.len; front = bytes; end = drop (length bytes - END_LEN) bytes }) f.bytes))
    whole_shows bytes same is = by told law is
      where
        by : (told : Option Raw) → ((raw : Raw) → told ≡ Some raw → told_of raw ≡ left) → IfSome (told_part told (part.File k)) (λ b. bytes ≡ take (length bytes) (drop 0 b))
            → IfSome told (λ raw. IfSome (slice_get (files_of raw.made) k) (λ f. IsSeen (record { len = size.len; front = bytes; end = drop (length bytes - END_LEN) bytes }) f.bytes))
        by None law is = tt
        by (Some raw) law is =
            by_file (record { len = size.len; front = bytes; end = drop (length bytes - END_LEN) bytes }) raw.made (ap (λ (l : Left). size_among l.made (part.File k)) (law raw refl) ∙ at)
            (λ f long b. whole_seen f bytes long same (subst (λ (l : List ℕ). bytes ≡ take (length bytes) (drop 0 l)) b is))

    -- the front and the end of a long one, where they are told
    pub ends_show : (front end : List ℕ) → 1221 < size.len → IfSome (told_part told (part.File k)) (λ b. front ≡ take 1209 (drop 0 b)) → IfSome (told_part told (part.File k)) (λ b. end ≡ take 12 (drop (size.len - 12) b))
        → IfSome told (λ raw. IfSome (slice_get (files_of raw.made) k) (λ f. IsSeen (record { len = size.len; front = front; end = end }) f.bytes))
    ends_show front end more first last = by told law first last
      where
        by : (told : Option Raw) → ((raw : Raw) → told ≡ Some raw → told_of raw ≡ left) → IfSome (told_part told (part.File k)) (λ b. front ≡ take 1209 (drop 0 b)) → IfSome (told_part told (part.File k)) (λ b. end ≡ take 12 (drop (size.len - 12) b))
            → IfSome told (λ raw. IfSome (slice_get (files_of raw.made) k) (λ f. IsSeen (record { len = size.len; front = front; end = end }) f.bytes))
        by None law first last = tt
        by (Some raw) law first last =
            by_file (record { len = size.len; front = front; end = end }) raw.made (ap (λ (l : Left). size_among l.made (part.File k)) (law raw refl) ∙ at)
            (λ f long b. ends_seen f front end long more (subst (λ (l : List ℕ). front ≡ take 1209 (drop 0 l)) b first) (subst (λ (l : List ℕ). end ≡ take 12 (drop (size.len - 12) l)) b last))
