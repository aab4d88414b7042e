-- Files with other contents, and bytes that are written over.
use Rattle.std.proofs.Common.{◌≡◌, ℕ, ◌+◌, ◌≤◌, List, ◌++◌, length, drop, take, refl, sym, ◌∙◌, ap, arith, length-append}
use Rattle.std.proofs.lemmas.List.{take_at, drop_at, drop-drop, length-take-le}
use Rattle.mt_disk.specs.declared.disk.FileNo.{FileNo}
use Rattle.mt_disk.specs.declared.disk.FileNo.TheVariants.{Head, One, Two}
use Rattle.mt_disk.specs.Files.{Files, contents, with_contents, overwritten}

pub contents-with : (files : Files) (file : FileNo) (b : List ℕ) → contents (with_contents files file b) file ≡ b
contents-with files Head b = refl
contents-with files One b = refl
contents-with files Two b = refl

pub with-with : (files : Files) (file : FileNo) (a b : List ℕ) → with_contents (with_contents files file a) file b ≡ with_contents files file b
with-with files Head a b = refl
with-with files One a b = refl
with-with files Two a b = refl

pub with-contents : (files : Files) (file : FileNo) → with_contents files file (contents files file) ≡ files
with-contents files Head = refl
with-contents files One = refl
with-contents files Two = refl

-- a write behind a front of the file
pub overwritten_at : (front tail bytes : List ℕ) (at : ℕ) → length front ≡ at → overwritten (front ++ tail) at bytes ≡ (front ++ bytes) ++ drop (length bytes) tail
overwritten_at front tail bytes at size =
    ap (λ (l : List ℕ). l ++ bytes ++ drop (at + length bytes) (front ++ tail)) (take_at front tail at size)
    ∙ ap (λ (l : List ℕ). front ++ bytes ++ l) (sym (drop-drop (length bytes) at (front ++ tail)) ∙ ap (λ (l : List ℕ). drop (length bytes) l) (drop_at front tail at size))

pub length-overwritten : (old : List ℕ) (at : ℕ) (bytes : List ℕ) → at ≤ length old → at + length bytes ≤ length (overwritten old at bytes)
length-overwritten old at bytes fits = omega (arith, length-append (take at old ++ bytes) (drop (at + length bytes) old), length-append (take at old) bytes, length-take-le at old fits)
