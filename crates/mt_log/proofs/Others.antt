-- The files that a call doesn't write.
use Rattle.std.proofs.Common.{◌≡◌, ℕ, List, Option, Some, None, is_some, refl, sym, ◌∙◌, ap, option_map}
use Rattle.std.proofs.lemmas.Option.{same_Some}
use Rattle.mt_disk.specs.declared.disk.FileNo.{FileNo}
use Rattle.mt_disk.specs.Files.{Files, contents, with_contents}
use Rattle.mt_disk.proofs.FileLemmas.{contents-with, with-contents, with-with}
use Rattle.mt_log.specs.LogState.{OthersStay}
use Rattle.mt_log.specs.Stage.{changed}
use Rattle.mt_log.proofs.Told.{some_of}

pub others_same : (file : FileNo) (old new : Option Files) → new ≡ old → OthersStay file old new
others_same file old new same files was now is =
    let one : now ≡ files = same_Some _ _ (sym is ∙ same ∙ was) in
    one ∙ sym (with-contents files file) ∙ ap (λ f. with_contents files file (contents f file)) (sym one)

pub others_changed : (file : FileNo) (f : List ℕ → List ℕ) (old new : Option Files) → new ≡ changed file f old → OthersStay file old new
others_changed file f old new change files was now is =
    let one : now ≡ with_contents files file (f (contents files file)) = same_Some _ _ (sym is ∙ change ∙ ap (changed file f) was) in
    one ∙ ap (with_contents files file) (sym (ap (λ x. contents x file) one ∙ contents-with files file (f (contents files file))))

pub others_on : (file : FileNo) (old mid new : Option Files) → is_some mid ≡ is_some old → OthersStay file old mid → OthersStay file mid new → OthersStay file old new
others_on file old mid new tells first second files was now is =
    let between = some_of mid old files (sym tells) was in
    let one = first files was between.0 between.1 in
    let two = second between.0 between.1 now is in
    two ∙ ap (λ x. with_contents x file (contents now file)) one ∙ with-with files file (contents between.0 file) (contents now file)

pub some_changed : (file : FileNo) (f : List ℕ → List ℕ) (old new : Option Files) → new ≡ changed file f old → is_some new ≡ is_some old
some_changed file f None new change = ap is_some change
some_changed file f (Some files) new change = ap is_some change
