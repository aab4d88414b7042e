-- What a crash leaves while a record is written behind the closed gate.
use Rattle.std.proofs.Common.{◌≡◌, ℕ, ◌+◌, ◌≤◌, Bool, List, ◌∷◌, ◌++◌, length, take, refl, sym, ◌∙◌, ap, subst, arith, length-append, min}
use Rattle.std.proofs.lemmas.List.{take-take}
use Rattle.std.specs.List.{flat_map}
use Rattle.mt_disk.specs.declared.disk.FileNo.{FileNo}
use Rattle.mt_disk.specs.Files.{Files, contents, with_contents, overwritten}
use Rattle.mt_disk.specs.CrashModel.{Torn, OnFile, Only}
use Rattle.mt_disk.proofs.Moments.{Under, begun}
use Rattle.mt_disk.proofs.FileLemmas.{with-with, with-contents, length-overwritten}
use Rattle.mt_log.specs.LogImage.{magic_of, record_of, Holds, IsLogOf}
use Rattle.mt_log.specs.Stage.{KeepsFront}
use Rattle.mt_log.proofs.Walks.{length-magic}

pub length-holds : (old : Bool) (bytes : List ℕ) (gate : ℕ) (ps : List (List ℕ)) → Holds old bytes gate ps → (8 ≤ gate) × (gate + 1 ≤ length bytes)
length-holds old bytes gate ps holds = (
  omega (arith, holds.place, length-append (magic_of old) (flat_map record_of ps), length-magic old),
  omega (arith, holds.place, ap length holds.whole, length-append (magic_of old ++ flat_map record_of ps) (holds.byte ∷ holds.tail)),
)

pub front_same : (files : Files) (file : FileNo) (gate : ℕ) (old : Bool) → IsLogOf files file gate old → (c : Files) → c ≡ files → KeepsFront files file gate c
front_same files file gate old is c same = subst (λ f. KeepsFront files file gate f) (sym same) (record {
  front = refl;
  others = sym (with-contents files file);
  long = (length-holds old _ _ _ is.holds).1;
})

-- before the first call
pub front_begun : {D : Type 0} (moment : D → ℕ) (left_since : D → ℕ → Files → Type 0) (may_leave : D → Files → Type 0) (disk : D) (files : Files) (file : FileNo) (gate : ℕ) (old : Bool)
    → ((c : Files) → left_since disk (moment disk) c → may_leave disk c) → Only files (may_leave disk) × IsLogOf files file gate old
    → Under moment left_since may_leave disk disk (KeepsFront files file gate) (KeepsFront files file gate)
front_begun moment left_since may_leave disk files file gate old only_now stands =
    begun moment left_since may_leave disk (KeepsFront files file gate) (KeepsFront files file gate) only_now (λ c left. front_same files file gate old stands.1 c (stands.0 c left)) (λ c kept. kept)

-- a write behind the gate keeps it and all before it
pub front_torn : (files : Files) (file : FileNo) (gate at n : ℕ) → gate + 1 ≤ at → (d c : Files) → KeepsFront files file gate d → OnFile file (Torn at n) d c → KeepsFront files file gate c
front_torn files file gate at n behind d c kept step =
    let torn = step.stepped in
    record {
      front =
          sym (take-take (gate + 1) (min at (length (contents d file))) (contents c file) (omega (arith, behind, kept.long)))
          ∙ ap (λ (l : List ℕ). take (gate + 1) l) torn.before
          ∙ take-take (gate + 1) at (contents d file) behind ∙ kept.front;
      others = step.others ∙ ap (λ e. with_contents e file (contents c file)) kept.others ∙ with-with files file (contents d file) (contents c file);
      long = omega (arith, kept.long, torn.no_shorter);
    }

-- the gate behind a record begins within the file
pub length-record : (bytes : List ℕ) (gate : ℕ) (head p : List ℕ) → gate + 1 ≤ length bytes → length head ≡ 20
    → gate + 21 + length p ≤ length (overwritten (overwritten bytes (gate + 1) head) (gate + 21) p)
length-record bytes gate head p fits size =
    let first = length-overwritten bytes (gate + 1) head fits in
    length-overwritten (overwritten bytes (gate + 1) head) (gate + 21) p (omega (arith, first, size))
