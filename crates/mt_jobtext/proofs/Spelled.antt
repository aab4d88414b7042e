-- One element more of what a loop puts.
use Rattle.std.proofs.Common.{◌≡◌, ℕ, suc, ◌+◌, ◌<◌, nat_lt, Bool, true, false, List, [], ◌∷◌, ◌++◌, map, length, get_or, take, refl, sym, ap, ◌∙◌, arith, append_assoc, append-nil, length-append}
use Rattle.std.specs.List.{flat_map}
use Rattle.std.proofs.lemmas.Bool.{lt-ltb}
use Rattle.std.proofs.lemmas.Grind.{flat_map-append}
use Rattle.std.proofs.lemmas.List.{length-take-le, take_more}
use Rattle.serde_json.specs.Written.{comma_if}
use Rattle.mt_jobtext.specs.Members.{listed}

-- one element more of a list that is gone through
pub flat_map_more : {X : Type 0} (f : X → List ℕ) (xs : List X) (k : ℕ) (d : X) → k < length xs → flat_map f (take k xs) ++ f (get_or xs k d) ≡ flat_map f (take (k + 1) xs)
flat_map_more f xs k d within =
    sym (ap (flat_map f) (take_more xs k d within)
    ∙ flat_map-append f (take k xs) (get_or xs k d ∷ [])
    ∙ ap (λ (l : List ℕ). flat_map f (take k xs) ++ l) (append-nil (f (get_or xs k d))))

-- and how long it is
pub length_more : {X : Type 0} (f : X → List ℕ) (xs : List X) (k : ℕ) (x : X) → k < length xs → x ≡ get_or xs k x → length (flat_map f (take k xs)) + length (f x) ≡ length (flat_map f (take (k + 1) xs))
length_more f xs k x within is =
    sym (length-append (flat_map f (take k xs)) (f x))
    ∙ ap (λ y. length (flat_map f (take k xs) ++ f y)) is
    ∙ ap length (flat_map_more f xs k x within)

map_more : {X : Type 0} (f : X → List ℕ) (xs ys : List X) → map f (xs ++ ys) ≡ map f xs ++ map f ys
map_more f [] ys = refl
map_more f (x ∷ xs) ys = ap (λ (l : List (List ℕ)). f x ∷ l) (map_more f xs ys)

length_map : {X : Type 0} (f : X → List ℕ) (xs : List X) → length (map f xs) ≡ length xs
length_map f [] = refl
length_map f (x ∷ xs) = ap suc (length_map f xs)

listed_after : (xs : List (List ℕ)) (x : List ℕ) → listed true (xs ++ x ∷ []) ≡ listed true xs ++ (comma_if true ++ x)
listed_after [] x = ap (λ (l : List ℕ). 44 ∷ l) (append-nil x)
listed_after (y ∷ ys) x =
    ap (λ (l : List ℕ). 44 ∷ (y ++ l)) (listed_after ys x) ∙ ap (λ (l : List ℕ). 44 ∷ l) (sym (append_assoc y (listed true ys) (comma_if true ++ x)))

listed_one : (xs : List (List ℕ)) (x : List ℕ) (n : ℕ) → length xs ≡ n → listed false (xs ++ x ∷ []) ≡ listed false xs ++ (comma_if (nat_lt 0 n) ++ x)
listed_one [] x n is = append-nil x ∙ ap (λ (k : ℕ). comma_if (nat_lt 0 k) ++ x) is
listed_one (y ∷ ys) x n is =
    let some : nat_lt 0 n ≡ true = lt-ltb 0 n (omega (arith, is)) in
    ap (λ (l : List ℕ). y ++ l) (listed_after ys x) ∙ sym (append_assoc y (listed true ys) (comma_if true ++ x)) ∙ ap (λ (b : Bool). (y ++ listed true ys) ++ (comma_if b ++ x)) (sym some)

-- with a comma before it, where something stands before
pub listed_more : {X : Type 0} (f : X → List ℕ) (xs : List X) (k : ℕ) (d : X) → k < length xs
    → listed false (map f (take k xs)) ++ (comma_if (nat_lt 0 k) ++ f (get_or xs k d)) ≡ listed false (map f (take (k + 1) xs))
listed_more f xs k d within =
    sym (ap (λ l. listed false (map f l)) (take_more xs k d within)
    ∙ ap (listed false) (map_more f (take k xs) (get_or xs k d ∷ []))
    ∙ listed_one (map f (take k xs)) (f (get_or xs k d)) k (length_map f (take k xs) ∙ length-take-le k xs (omega arith)))
