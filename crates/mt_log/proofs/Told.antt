-- What a disk tells after a call, from what it told before.
use Rattle.std.proofs.Common.{◌≡◌, ℕ, List, is_some, true≢false, Option, Some, None, refl, sym, ◌∙◌, ap, option_map}
use Rattle.std.proofs.lemmas.Option.{none-some, same_Some}
use Rattle.mt_disk.specs.declared.disk.FileNo.{FileNo}
use Rattle.mt_disk.specs.Files.{Files, contents, with_contents}
use Rattle.mt_log.specs.LogImage.{payloads_of}
use Rattle.mt_log.specs.LogState.{told}
use Rattle.mt_log.specs.Stage.{changed}
use Rattle.mt_disk.proofs.FileLemmas.{contents-with}

-- there was something to tell
pub mapped_some : {A B : Type 0} (f : A → B) (o : Option A) (x : B) → option_map f o ≡ Some x → (y : A) × (o ≡ Some y) × (f y ≡ x)
mapped_some f None x is = absurd (none-some x is)
mapped_some f (Some y) x is = (y, refl, same_Some _ _ is)

pub mapped_twice : {A B C : Type 0} (f : B → C) (g : A → B) (h : A → C) → ((x : A) → f (g x) ≡ h x) → (o : Option A) → option_map f (option_map g o) ≡ option_map h o
mapped_twice f g h same None = refl
mapped_twice f g h same (Some x) = ap (λ y. Some y) (same x)

-- what the file held before a call, and holds after it
pub record Before (old : Option Files) (file : FileNo) (f : List ℕ → List ℕ) (new : Files) : Type 0 where
  pub files : Files
  pub was : old ≡ Some files
  pub now : contents new file ≡ f (contents files file)

pub before : (old new : Option Files) (file : FileNo) (f : List ℕ → List ℕ) (files : Files) → new ≡ changed file f old → new ≡ Some files → Before old file f files
before old new file f files change is =
    let from = mapped_some (λ x. with_contents x file (f (contents x file))) old files (sym change ∙ is) in
    record {
      files = from.0;
      was = from.1;
      now = ap (λ x. contents x file) (sym from.2) ∙ contents-with from.0 file (f (contents from.0 file));
    }

pub some_of : {A B : Type 0} (o : Option A) (p : Option B) (x : B) → is_some p ≡ is_some o → p ≡ Some x → (y : A) × (o ≡ Some y)
some_of None p x same is = absurd (true≢false (sym (ap is_some is) ∙ same))
some_of (Some y) p x same is = (y, refl)

-- the payloads are as they were where the files have the same
pub told_same : (old new : Option Files) → is_some new ≡ is_some old → ((files : Files) → old ≡ Some files → (now : Files) × (new ≡ Some now) × (payloads_of now ≡ payloads_of files)) → told new ≡ told old
told_same None None same at = refl
told_same None (Some now) same at = absurd (true≢false same)
told_same (Some files) new same at =
    let after = at files refl in
    ap told after.1 ∙ ap (λ (ps : List (List ℕ)). Some ps) after.2
