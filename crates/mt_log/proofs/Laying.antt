-- Records of a run behind the closed gate.
use Rattle.std.proofs.Common.{◌≡◌, ℕ, ◌+◌, ◌<◌, ◌≤◌, ◌^◌, Bool, List, [], ◌∷◌, ◌++◌, length, drop, refl, sym, ◌∙◌, ap, arith, append_assoc, length-append, length-drop}
use Rattle.std.proofs.lemmas.List.{append-nil, drop-append-le, drop_at}
use Rattle.std.proofs.lemmas.List.Concat.{flat_map-append}
use Rattle.std.specs.List.{flat_map}
use Rattle.mt_disk.specs.declared.disk.FileNo.{FileNo}
use Rattle.mt_disk.specs.Files.{Files, contents, overwritten}
use Rattle.mt_disk.proofs.FileLemmas.{overwritten_at}
use Rattle.mt_log.specs.LogImage.{head_of, magic_of, payloads_of, record_of}
use Rattle.mt_log.specs.Stage.{KeepsFront, Laid, Laying}
use Rattle.mt_log.proofs.Added.{front_stands}
use Rattle.mt_log.proofs.Appended.{behind_gate, fit-append, gated, size_gated}
use Rattle.mt_log.proofs.Fronts.{length-holds}
use Rattle.mt_log.proofs.Records.{length-head_of}
use Rattle.mt_log.proofs.Staged.{written_behind}

-- no record has no bytes
pub no_records : (records : List (List ℕ)) → length (flat_map record_of records) ≡ 0 → records ≡ []
no_records [] none = refl
no_records (p ∷ ps) none = absurd (omega (arith, length-append (record_of p) (flat_map record_of ps), length-append (head_of p) p, length-head_of p))

record_size : (p : List ℕ) → length (record_of p) ≡ 21 + length p
record_size p = omega (arith, length-append (head_of p) p, length-head_of p)

-- the next place lies within the file
pub next_within : (files : Files) (file : FileNo) (gate next : ℕ) (old : Bool) (records : List (List ℕ)) → Laying files file gate next old records → gate < next → next ≤ length (contents files file)
next_within files file gate next old records laying order =
    let all = flat_map record_of records in
    omega (arith, ap (λ (l : List ℕ). length l) laying.laid, length-append (drop 1 all) laying.rest, length-drop 1 all, length-drop (gate + 1) (contents files file), laying.place, order, (length-holds old _ _ _ laying.log.holds).1)

module _ (files : Files) (file : FileNo) (gate next : ℕ) (old : Bool) (records : List (List ℕ)) (laying : Laying files file gate next old records) (p : List ℕ) where
  shut : List ℕ
  shut = (magic_of old ++ flat_map record_of (payloads_of files)) ++ laying.log.holds.byte ∷ []

  whole : contents files file ≡ shut ++ (drop 1 (flat_map record_of records) ++ laying.rest)
  unfolding shut
  whole = gated old _ gate _ laying.log.holds ∙ ap (λ (l : List ℕ). ((magic_of old ++ flat_map record_of (payloads_of files)) ++ laying.log.holds.byte ∷ []) ++ l) (sym (behind_gate old _ gate _ laying.log.holds) ∙ laying.laid)

  size : length shut ≡ gate + 1
  unfolding shut
  size = size_gated old _ gate _ laying.log.holds

  -- the first record of a run
  pub laid_first : (now : Files) → next ≡ gate → length p < 2 ^ 32 → KeepsFront files file gate now
      → contents now file ≡ overwritten (overwritten (contents files file) (gate + 1) (head_of p)) (gate + 1 + length (head_of p)) p → Laying now file gate (next + 21 + length p) old (records ++ p ∷ [])
  laid_first now first fits kept is =
      let none = no_records records (omega (arith, laying.place, first)) in
      let rest = drop (length p) (drop (length (head_of p)) (drop 1 (flat_map record_of records) ++ laying.rest)) in
      let bytes : contents now file ≡ (shut ++ (head_of p ++ p)) ++ rest =
      is ∙ ap (λ (l : List ℕ). overwritten (overwritten l (gate + 1) (head_of p)) (gate + 1 + length (head_of p)) p) whole
      ∙ written_behind shut _ (head_of p) p (gate + 1) (gate + 1 + length (head_of p)) size refl in
      let behind : drop (gate + 1) (contents now file) ≡ (head_of p ++ p) ++ rest = ap (λ (l : List ℕ). drop (gate + 1) l) (bytes ∙ append_assoc shut (head_of p ++ p) rest) ∙ drop_at shut _ (gate + 1) size in
      record {
        log = (front_stands files file gate old laying.log now kept).log;
        rest = rest;
        each = fit-append records (p ∷ []) laying.each (fits, tt);
        laid = behind ∙ ap (λ (l : List ℕ). l ++ rest) (sym (append-nil (head_of p ++ p))) ∙ ap (λ l. drop 1 (flat_map record_of (l ++ p ∷ [])) ++ rest) (sym none);
        place = omega (arith, laying.place, ap (λ (l : List ℕ). length l) (flat_map-append record_of records (p ∷ [])), length-append (flat_map record_of records) (record_of p ++ []), ap (λ (l : List ℕ). length l) (append-nil (record_of p)), record_size p);
      }

  -- a later one
  pub laid_next : (now : Files) → gate < next → length p < 2 ^ 32 → KeepsFront files file gate now
      → contents now file ≡ overwritten (overwritten (contents files file) next (1 ∷ head_of p)) (next + length (1 ∷ head_of p)) p → Laying now file gate (next + 21 + length p) old (records ++ p ∷ [])
  laid_next now later fits kept is =
      let all = flat_map record_of records in
      let body = drop 1 all in
      let h = 1 ∷ head_of p in
      let rest = drop (length p) (drop (length h) laying.rest) in
      let count : length (shut ++ body) ≡ next = omega (arith, size, length-append shut body, length-drop 1 all, laying.place, later) in
      let bytes : contents now file ≡ ((shut ++ body) ++ (h ++ p)) ++ rest =
      is ∙ ap (λ (l : List ℕ). overwritten (overwritten l next h) (next + length h) p) (whole ∙ sym (append_assoc shut body laying.rest))
      ∙ written_behind (shut ++ body) laying.rest h p next (next + length h) count refl in
      let behind : drop (gate + 1) (contents now file) ≡ (body ++ record_of p) ++ rest =
      ap (λ (l : List ℕ). drop (gate + 1) l) (bytes ∙ ap (λ (l : List ℕ). l ++ rest) (append_assoc shut body (h ++ p)) ∙ append_assoc shut (body ++ (h ++ p)) rest) ∙ drop_at shut _ (gate + 1) size in
      let joined : drop 1 (flat_map record_of (records ++ p ∷ [])) ≡ body ++ record_of p =
      ap (λ (l : List ℕ). drop 1 l) (flat_map-append record_of records (p ∷ []) ∙ ap (λ (l : List ℕ). all ++ l) (append-nil (record_of p))) ∙ drop-append-le 1 all (record_of p) (omega (arith, laying.place, later)) in
      record {
        log = (front_stands files file gate old laying.log now kept).log;
        rest = rest;
        each = fit-append records (p ∷ []) laying.each (fits, tt);
        laid = behind ∙ ap (λ (l : List ℕ). l ++ rest) (sym joined);
        place = omega (arith, laying.place, ap (λ (l : List ℕ). length l) (flat_map-append record_of records (p ∷ [])), length-append all (record_of p ++ []), ap (λ (l : List ℕ). length l) (append-nil (record_of p)), record_size p);
      }

-- a closed gate behind the records
pub sealed : (files : Files) (file : FileNo) (gate next : ℕ) (old : Bool) (records : List (List ℕ)) → Laying files file gate next old records → (now : Files) → gate < next → KeepsFront files file gate now
    → contents now file ≡ overwritten (contents files file) next (0 ∷ []) → Laid now file gate next old records
sealed files file gate next old records laying now later kept is =
    let all = flat_map record_of records in
    let body = drop 1 all in
    let front = shut files file gate next old records laying [] in
    let rest = drop 1 laying.rest in
    let wide = size files file gate next old records laying [] in
    let count : length (front ++ body) ≡ next = omega (arith, wide, length-append front body, length-drop 1 all, laying.place, later) in
    let bytes : contents now file ≡ front ++ (body ++ 0 ∷ rest) =
    is ∙ ap (λ (l : List ℕ). overwritten l next (0 ∷ [])) (whole files file gate next old records laying [] ∙ sym (append_assoc front body laying.rest)) ∙ overwritten_at (front ++ body) laying.rest (0 ∷ []) next count
    ∙ append_assoc (front ++ body) (0 ∷ []) rest ∙ append_assoc front body (0 ∷ rest) in
    record {
      log = (front_stands files file gate old laying.log now kept).log;
      body = body;
      rest = rest;
      opens = first records (omega (arith, laying.place, later));
      each = laying.each;
      laid = ap (λ (l : List ℕ). drop (gate + 1) l) bytes ∙ drop_at front _ (gate + 1) wide;
      place = omega (arith, laying.place, length-drop 1 all, later);
    }
  where
    first : (l : List (List ℕ)) → 0 < length (flat_map record_of l) → 1 ∷ drop 1 (flat_map record_of l) ≡ flat_map record_of l
    first [] some = absurd (omega arith)
    first (p ∷ ps) some = refl
