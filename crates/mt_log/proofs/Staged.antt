-- What stands behind the closed gate after writes there.
use Rattle.std.proofs.Common.{◌≡◌, ℕ, ◌+◌, ◌<◌, ◌^◌, Bool, List, [], ◌∷◌, ◌++◌, length, drop, refl, sym, ◌∙◌, ap, arith, append_assoc, length-append}
use Rattle.std.proofs.lemmas.List.{append-nil, drop_at}
use Rattle.std.specs.List.{flat_map}
use Rattle.mt_disk.specs.declared.disk.FileNo.{FileNo}
use Rattle.mt_disk.specs.Files.{Files, contents, with_contents, overwritten}
use Rattle.mt_disk.proofs.FileLemmas.{contents-with, overwritten_at}
use Rattle.mt_log.specs.LogImage.{Holds, IsLogOf, head_of, magic_of, record_of}
use Rattle.mt_log.specs.Stage.{KeepsFront, Laid, staged}
use Rattle.mt_log.proofs.Added.{front_stands}
use Rattle.mt_log.proofs.Appended.{gated, size_gated}
use Rattle.mt_log.proofs.Records.{length-head_of}

-- one write behind another
pub written_behind : (front tail h p : List ℕ) (a b : ℕ) → length front ≡ a → a + length h ≡ b → overwritten (overwritten (front ++ tail) a h) b p ≡ (front ++ (h ++ p)) ++ drop (length p) (drop (length h) tail)
written_behind front tail h p a b size next =
    let t = drop (length h) tail in
    ap (λ (l : List ℕ). overwritten l b p) (overwritten_at front tail h a size)
    ∙ overwritten_at (front ++ h) t p b (omega (arith, size, next, length-append front h))
    ∙ ap (λ (l : List ℕ). l ++ drop (length p) t) (append_assoc front h p)

module _ (old : Bool) (bytes : List ℕ) (gate : ℕ) (ps : List (List ℕ)) (holds : Holds old bytes gate ps) (p : List ℕ) where
  staged_rest : List ℕ
  staged_rest = drop 1 (drop (length p) (drop (length (head_of p)) holds.tail))

  staged_is : staged bytes gate p ≡ ((magic_of old ++ flat_map record_of ps) ++ holds.byte ∷ []) ++ ((head_of p ++ p) ++ 0 ∷ staged_rest)
  unfolding staged_rest
  staged_is =
      let shut = (magic_of old ++ flat_map record_of ps) ++ holds.byte ∷ [] in
      let head = head_of p in
      let size = size_gated old bytes gate ps holds in
      let t2 = drop (length p) (drop (length head) holds.tail) in
      let next : gate + 1 + length head ≡ gate + 21 = omega (arith, length-head_of p) in
      let size2 : length (shut ++ (head ++ p)) ≡ gate + 21 + length p = omega (arith, size, length-append shut (head ++ p), length-append head p, length-head_of p) in
      ap (λ (l : List ℕ). overwritten (overwritten (overwritten l (gate + 1) head) (gate + 21) p) (gate + 21 + length p) (0 ∷ [])) (gated old bytes gate ps holds)
      ∙ ap (λ (l : List ℕ). overwritten l (gate + 21 + length p) (0 ∷ [])) (written_behind shut holds.tail head p (gate + 1) (gate + 21) size next)
      ∙ overwritten_at (shut ++ (head ++ p)) t2 (0 ∷ []) (gate + 21 + length p) size2
      ∙ append_assoc (shut ++ (head ++ p)) (0 ∷ []) (drop 1 t2)
      ∙ append_assoc shut (head ++ p) (0 ∷ drop 1 t2)

  behind_staged : drop (gate + 1) (staged bytes gate p) ≡ (head_of p ++ p) ++ 0 ∷ staged_rest
  behind_staged =
      let shut = (magic_of old ++ flat_map record_of ps) ++ holds.byte ∷ [] in
      ap (λ (l : List ℕ). drop (gate + 1) l) staged_is ∙ drop_at shut ((head_of p ++ p) ++ 0 ∷ staged_rest) (gate + 1) (size_gated old bytes gate ps holds)

-- the files with a record behind the closed gate
abbrev pub staged_files : Files → FileNo → ℕ → List ℕ → Files
staged_files files file gate p = with_contents files file (staged (contents files file) gate p)

pub staged_laid : (files : Files) (file : FileNo) (gate : ℕ) (old : Bool) (p : List ℕ) (log : IsLogOf files file gate old) → length p < 2 ^ 32 → KeepsFront files file gate (staged_files files file gate p)
    → Laid (staged_files files file gate p) file gate (gate + 21 + length p) old (p ∷ [])
staged_laid files file gate old p log fits kept =
    let body = (head_of p ++ p) ++ [] in
    record {
      log = (front_stands files file gate old log (staged_files files file gate p) kept).log;
      body = body;
      rest = staged_rest old (contents files file) gate _ log.holds p;
      opens = refl;
      each = (fits, tt);
      laid =
          ap (λ (l : List ℕ). drop (gate + 1) l) (contents-with files file (staged (contents files file) gate p)) ∙ behind_staged old (contents files file) gate _ log.holds p
          ∙ ap (λ (l : List ℕ). l ++ 0 ∷ staged_rest old (contents files file) gate _ log.holds p) (sym (append-nil (head_of p ++ p)));
      place = omega (arith, ap length (append-nil (head_of p ++ p)), length-append (head_of p) p, length-head_of p);
    }
