-- Whole records of a log, as bytes.
use Rattle.std.proofs.Common.{◌≡◌, ℕ, ◌+◌, ◌-◌, ◌<◌, ◌≤◌, Bool, List, [], ◌∷◌, ◌++◌, length, take, drop, refl, sym, ap, subst, ◌∙◌, append_assoc, arith, length-append, length-drop, take-append-drop}
use Rattle.std.specs.List.{flat_map}
use Rattle.std.proofs.Math.Seq.{take-add}
use Rattle.std.proofs.lemmas.List.{drop-drop, drop_at, length-take-le, take_all, take_at}
use Rattle.std.proofs.lemmas.Slice.{take-put_mid}
use borrow.Rule.Slice.PartMut.{put_mid}
use Rattle.std.proofs.lemmas.List.Concat.{flat_map-append}
use Rattle.mt_log.specs.LogImage.{AllFit, Holds, head_of, magic_of, record_of}
use Rattle.mt_log.specs.LogState.{next_place}
use Rattle.mt_log.specs.Places.{end_from, from_place}
use Rattle.mt_log.proofs.Places.{Behind, behind}
use Rattle.mt_log.proofs.Records.{length-head_of}
use Rattle.mt_log.proofs.Walks.{length-magic}

records_end : (at : ℕ) (ps : List (List ℕ)) → at + length (flat_map record_of ps) ≡ end_from at ps
records_end at [] = omega arith
records_end at (p ∷ ps) = omega (arith, records_end (next_place at (length p)) ps, length-append (record_of p) (flat_map record_of ps), length-append (head_of p) p, length-head_of p)

fit_behind : (ps qs : List (List ℕ)) → AllFit (ps ++ qs) → AllFit qs
fit_behind [] qs fit = fit
fit_behind (p ∷ ps) qs fit = fit_behind ps qs fit.1

fit_before : (ps qs : List (List ℕ)) → AllFit (ps ++ qs) → AllFit ps
fit_before [] qs fit = tt
fit_before (p ∷ ps) qs fit = (fit.0, fit_before ps qs fit.1)

pub gate_within : (old : Bool) (bytes : List ℕ) (gate : ℕ) (ps : List (List ℕ)) → Holds old bytes gate ps → gate < length bytes
gate_within old bytes gate ps holds = omega (arith, holds.place, ap (λ (l : List ℕ). length l) holds.whole, length-append (magic_of old ++ flat_map record_of ps) (holds.byte ∷ holds.tail))

-- so many bytes from a place on are these records, all of them before the closed gate
pub record AreRecords (bytes : List ℕ) (gate place size : ℕ) (more : List (List ℕ)) : Type 0 where
  pub bytes_are : take size (drop place bytes) ≡ flat_map record_of more
  pub within : 0 < size → place + size ≤ gate
  pub each : AllFit more

none_taken : (k : ℕ) (l : List (List ℕ)) → l ≡ [] → take k l ≡ []
none_taken k l none = take_all k l (omega (arith, ap (λ (l : List (List ℕ)). length l) none)) ∙ none

no_record : (bytes : List ℕ) (gate place size : ℕ) → size ≡ 0 → AreRecords bytes gate place size []
no_record bytes gate place size none = record {
  bytes_are = ap (λ (n : ℕ). take n (drop place bytes)) none;
  within = λ some. absurd (omega (arith, some, none));
  each = tt;
}

module _ (old : Bool) (bytes : List ℕ) (gate : ℕ) (ps : List (List ℕ)) (holds : Holds old bytes gate ps) (place k size : ℕ) where
  -- some stand there
  some_records : (q : List ℕ) (rest : List (List ℕ)) → Behind place 8 ps (q ∷ rest) → size ≡ length (flat_map record_of (take k (q ∷ rest))) → AreRecords bytes gate place size (take k (q ∷ rest))
  some_records q rest stands size_is =
      let all = q ∷ rest in
      let earlier = flat_map record_of stands.earlier in
      let front = magic_of old ++ earlier in
      let more = flat_map record_of (take k all) in
      let last = flat_map record_of (drop k all) in
      let behind_it = last ++ holds.byte ∷ holds.tail in
      let parts : flat_map record_of all ≡ more ++ last = ap (λ l. flat_map record_of l) (sym (take-append-drop k all)) ∙ flat_map-append record_of (take k all) (drop k all) in
      let split : flat_map record_of ps ≡ earlier ++ (more ++ last) =
      ap (λ l. flat_map record_of l) stands.whole ∙ flat_map-append record_of stands.earlier all ∙ ap (λ (l : List ℕ). earlier ++ l) parts in
      let at : length front ≡ place = omega (arith, length-append (magic_of old) earlier, length-magic old, records_end 8 stands.earlier, stands.place_is) in
      let whole : bytes ≡ front ++ (more ++ behind_it) = holds.whole ∙ ap (λ (l : List ℕ). (magic_of old ++ l) ++ holds.byte ∷ holds.tail) split ∙ simp append_assoc in
      let end : gate ≡ length front + (length more + length last) =
      holds.place ∙ ap (λ (l : List ℕ). length (magic_of old ++ l)) split ∙ omega (arith, length-append (magic_of old) (earlier ++ (more ++ last)), length-append earlier (more ++ last), length-append more last, length-append (magic_of old) earlier) in
      record {
        bytes_are = ap (λ (l : List ℕ). take size (drop place l)) whole ∙ ap (λ (l : List ℕ). take size l) (drop_at front (more ++ behind_it) place at) ∙ take_at more behind_it size (sym size_is);
        within = λ some. omega (arith, end, at, size_is);
        each = fit_before (take k all) (drop k all) (subst (λ l. AllFit l) (sym (take-append-drop k all)) (fit_behind stands.earlier all (subst (λ l. AllFit l) stands.whole holds.each)));
      }

  pub are_records : size ≡ length (flat_map record_of (take k (from_place place ps))) → AreRecords bytes gate place size (take k (from_place place ps))
  are_records size_is = by (from_place place ps) refl size_is
    where
      by : (l : List (List ℕ)) → from_place place ps ≡ l → size ≡ length (flat_map record_of (take k l)) → AreRecords bytes gate place size (take k l)
      by [] is none =
          let empty = none_taken k [] refl in
          subst (λ l. AreRecords bytes gate place size l) (sym empty) (no_record bytes gate place size (none ∙ ap (λ (l : List (List ℕ)). length (flat_map record_of l)) empty))
      by (q ∷ rest) is some = some_records q rest (behind place ps q rest is) some

-- one piece more of what was copied
pub copied_more : (bytes : List ℕ) (from done count : ℕ) → take done (drop from bytes) ++ take count (drop (from + done) bytes) ≡ take (done + count) (drop from bytes)
copied_more bytes from done count = ap (λ (l : List ℕ). take done (drop from bytes) ++ take count l) (sym (drop-drop done from bytes)) ∙ sym (take-add done count (drop from bytes))

-- a part of a file read behind what is held in front
pub put_read : (bytes ys file : List ℕ) (held more at : ℕ) → held + more ≤ length bytes → at + more ≤ length file
    → ys ≡ take (at + length (take (held + more - held) (drop held bytes)) - at) (drop at file)
    → take (held + more) (put_mid held (held + more - held) bytes ys) ≡ take held bytes ++ take more (drop at file)
put_read bytes ys file held more at room fits read =
    let size : length (take (held + more - held) (drop held bytes)) ≡ more = omega (arith, length-take-le (held + more - held) (drop held bytes) (omega (arith, length-drop held bytes, room)), room) in
    let count : at + length (take (held + more - held) (drop held bytes)) - at ≡ more = omega (arith, size) in
    let is : ys ≡ take more (drop at file) = read ∙ ap (λ (n : ℕ). take n (drop at file)) count in
    let long : length ys ≡ more = ap length is ∙ length-take-le more (drop at file) (omega (arith, length-drop at file, fits)) in
    take-put_mid held (held + more - held) bytes ys (held + more) (omega (arith, long)) (omega (arith, room)) ∙ ap (λ (l : List ℕ). take held bytes ++ l) is
