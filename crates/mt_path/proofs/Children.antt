-- The three outcomes of a name below a path.
use Rattle.std.proofs.Common.{◌≡◌, ◌<◌, ◌≤◌, ◌+◌, ℕ, List, [], ◌∷◌, ◌++◌, true, false, nat_lt, Ok, Err, length, refl, arith}
use Rattle.std.proofs.lemmas.Bool.{lt-ltb, le-ltb}
use Rattle.mt_path.specs.AccountPath.{AccountPath, is_component, local_text}
use Rattle.mt_path.specs.Names.{child_of}
use Rattle.mt_path.specs.declared.error.PathError.TheVariants.{TooLong, BadComponent}
use Rattle.mt_path.specs.declared.limits.TheConstants.{LONGEST_PATH}
use Rattle.mt_path.proofs.Fronts.{length-local_text-push}

abbrev child : AccountPath → List ℕ → AccountPath
child p name = record p { parts = p.parts ++ name ∷ [] }

pub child_of-too_long : (p : AccountPath) (name : List ℕ) → LONGEST_PATH < length (local_text p) + length name + 1 → child_of p name ≡ Err TooLong
unfolding child_of
child_of-too_long p name long =
    let over : LONGEST_PATH < length (local_text (child p name)) = omega (arith, length-local_text-push p name) in
    rw (lt-ltb LONGEST_PATH (length (local_text (child p name))) over) refl

within : (p : AccountPath) (name : List ℕ) → length (local_text p) + length name + 1 ≤ LONGEST_PATH → nat_lt LONGEST_PATH (length (local_text (child p name))) ≡ false
within p name fits = le-ltb LONGEST_PATH (length (local_text (child p name))) (omega (arith, length-local_text-push p name))

pub child_of-bad : (p : AccountPath) (name : List ℕ) → length (local_text p) + length name + 1 ≤ LONGEST_PATH → is_component name ≡ false → child_of p name ≡ Err BadComponent
unfolding child_of
child_of-bad p name fits bad = rw (within p name fits, bad) refl

pub child_of-ok : (p : AccountPath) (name : List ℕ) → length (local_text p) + length name + 1 ≤ LONGEST_PATH → is_component name ≡ true → child_of p name ≡ Ok (child p name)
unfolding child_of
child_of-ok p name fits good = rw (within p name fits, good) refl
