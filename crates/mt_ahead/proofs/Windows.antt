-- A part of the bytes that are held, and what is known of a file while another one is changed.
use Rattle.std.proofs.Common.{◌≡◌, ◌≢◌, ◌⊎◌, ⊎_elim, ℕ, ◌+◌, ◌-◌, ◌≤◌, List, Option, Some, None, take, drop, refl, sym, ◌∙◌, ap, subst, arith, option_map}
use Rattle.std.specs.Option.{ForSome}
use Rattle.std.proofs.lemmas.List.{drop-drop, drop-take, take-take}
use Rattle.std.proofs.lemmas.Option.{none-some, same_Some}
use Rattle.mt_disk.specs.declared.disk.FileNo.{FileNo}
use Rattle.mt_disk.specs.declared.disk.FileNo.TheVariants.{Head, One, Two}
use Rattle.mt_disk.specs.Files.{Files, contents, with_contents}

-- a part of a front
part : (bytes : List ℕ) (held k n : ℕ) → k + n ≤ held → take n (drop k (take held bytes)) ≡ take n (drop k bytes)
part bytes held k n fits =
    let size : held ≡ k + (held - k) = omega arith in
    ap (λ (m : ℕ). take n (drop k (take m bytes))) size
    ∙ ap (λ (l : List ℕ). take n l) (drop-take k (held - k) bytes)
    ∙ take-take n (held - k) (drop k bytes) (omega arith)

-- what is held of a file from one place on gives its bytes from another
pub held_part : (bytes piece : List ℕ) (from held at n : ℕ) → take held piece ≡ take held (drop from bytes) → from ≤ at → at + n ≤ from + held
    → take n (drop (at - from) piece) ≡ take (at + n - at) (drop at bytes)
held_part bytes piece from held at n same le fits =
    let k = at - from in
    let few : k + n ≤ held = omega arith in
    let place : from + k ≡ at = omega arith in
    let count : n ≡ at + n - at = omega arith in
    sym (part piece held k n few)
    ∙ ap (λ (l : List ℕ). take n (drop k l)) same
    ∙ part (drop from bytes) held k n few
    ∙ ap (λ (l : List ℕ). take n l) (drop-drop k from bytes)
    ∙ (λ i. take (count i) (drop (place i) bytes))

-- another file has the bytes that it had
beside : (files : Files) (file other : FileNo) (bytes : List ℕ) → file ≢ other → contents (with_contents files file bytes) other ≡ contents files other
beside files Head Head bytes apart = absurd (apart refl)
beside files Head One bytes apart = refl
beside files Head Two bytes apart = refl
beside files One Head bytes apart = refl
beside files One One bytes apart = absurd (apart refl)
beside files One Two bytes apart = refl
beside files Two Head bytes apart = refl
beside files Two One bytes apart = refl
beside files Two Two bytes apart = absurd (apart refl)

-- what is known of its bytes holds still
known_beside : (P : List ℕ → Type 0) (change : Files → List ℕ) (file other : FileNo) (was now : Option Files) → now ≡ option_map (λ files. with_contents files file (change files)) was → file ≢ other
    → ForSome was (λ files. P (contents files other)) → ForSome now (λ files. P (contents files other))
known_beside P change file other None now changed apart known files is = absurd (none-some files (sym changed ∙ is))
known_beside P change file other (Some old) now changed apart known files is =
    let one : with_contents old file (change old) ≡ files = same_Some _ _ (sym changed ∙ is) in
    subst P (sym (beside old file other (change old) apart) ∙ ap (λ f. contents f other) one) (known old refl)

-- What is known of a file once one was changed: nothing of this one, and what was known where it was another.
pub outlives : {W : Type 0} (P : W → List ℕ → Type 0) (none old kept : W) (change : Files → List ℕ) (file own : FileNo) (was now : Option Files)
    → now ≡ option_map (λ files. with_contents files file (change files)) was → ((file ≡ own) × (kept ≡ none)) ⊎ ((file ≢ own) × (kept ≡ old))
    → ((bytes : List ℕ) → P none bytes) → ForSome was (λ files. P old (contents files own)) → ForSome now (λ files. P kept (contents files own))
outlives P none old kept change file own was now changed which nothing known files is = ⊎_elim
    (λ here. subst (λ w. P w (contents files own)) (sym here.1) (nothing (contents files own)))
    (λ there. subst (λ w. P w (contents files own)) (sym there.1) (known_beside (P old) change file own was now changed there.0 known files is))
    which
