-- A child is one below its parent.
use Rattle.std.proofs.Common.{◌≡◌, ℕ, ◌-◌, ◌<◌, List, [], ◌∷◌, ◌++◌, not, nat_lt, Some, Ok, length, take, refl, ap, ◌∙◌, arith, length-append}
use Rattle.std.proofs.lemmas.Bool.{lt-ltb}
use Rattle.std.proofs.lemmas.List.{take-append-le, take_all}
use Rattle.mt_path.specs.declared.error.PathError.TheVariants.{TooLong, BadComponent}
use Rattle.mt_path.specs.declared.limits.TheConstants.{LONGEST_PATH}
use Rattle.mt_path.specs.AccountPath.{AccountPath, IsUnder, is_component, local_text, parent_of}
use Rattle.mt_path.specs.Names.{child_of}
use Rattle.mt_path.proofs.Judged.{passed}

abbrev below : AccountPath → List ℕ → AccountPath
below p name = record p { parts = p.parts ++ name ∷ [] }

child_of-is : (p child : AccountPath) (name : List ℕ) → child_of p name ≡ Ok child → below p name ≡ child
unfolding child_of
child_of-is p child name e =
    let fits = passed (nat_lt LONGEST_PATH (length (local_text (below p name)))) TooLong _ child e in
    let good = passed (not (is_component name)) BadComponent (Ok (below p name)) child fits.1 in
    let same : Ok (below p name) ≡ Ok child = good.1 in
    cc

front : (xs : List (List ℕ)) (x : List ℕ) (n : ℕ) → n ≡ length xs → take n (xs ++ x ∷ []) ≡ xs
front xs x n e = take-append-le n xs (x ∷ []) (omega arith) ∙ take_all n xs (omega arith)

parent_of-below : (p : AccountPath) (name : List ℕ) → parent_of (below p name) ≡ Some p
parent_of-below p name =
    let n = length-append p.parts (name ∷ []) in
    let some : 0 < length (p.parts ++ name ∷ []) = omega arith in
    rw (lt-ltb 0 (length (p.parts ++ name ∷ [])) some) (ap (λ parts. Some (record p { parts = parts })) (front p.parts name (length (p.parts ++ name ∷ []) - 1) (omega arith)))

IsUnder-below : (p : AccountPath) (name : List ℕ) → IsUnder (below p name) p
IsUnder-below p name = record { area = refl; longer = omega (arith, length-append p.parts (name ∷ [])); begins = front p.parts name (length p.parts) refl }

pub parent_of-child : (p child : AccountPath) (name : List ℕ) → child_of p name ≡ Ok child → parent_of child ≡ Some p
parent_of-child p child name e = rw (← child_of-is p child name e) (parent_of-below p name)

pub IsUnder-child : (p child : AccountPath) (name : List ℕ) → child_of p name ≡ Ok child → IsUnder child p
IsUnder-child p child name e = rw (← child_of-is p child name e) (IsUnder-below p name)
