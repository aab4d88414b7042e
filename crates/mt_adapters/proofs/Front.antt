-- Bytes at the front of a buffer are as many bytes of what is left.
use Rattle.std.proofs.Common.{◌≡◌, ℕ, ◌≤◌, Bool, true, false, ◌==◌, List, [], ◌∷◌, ◌++◌, length, take, drop, Option, Some, None, refl, sym, ap, ◌∙◌, append_assoc, slice_set, slice_index_or, arith}
use Rattle.std.proofs.lemmas.List.{take-append-drop}
use Rattle.std.specs.Prelude.{if◌then◌else◌}
use Rattle.std.specs.Io.KnownBytes.{prepend_known, Consumes}

cut : (none : Bool) (n : ℕ) (buffer : List ℕ) (known : Option (List ℕ))
    → Consumes (if none then None else prepend_known buffer known) (if none then None else prepend_known (drop n buffer) known) (take n buffer)
cut true n buffer known = tt
cut false n buffer None = tt
cut false n buffer (Some zs) = sym (sym (append_assoc (take n buffer) (drop n buffer) zs) ∙ ap (λ xs. xs ++ zs) (take-append-drop n buffer))

pub takes_front : (capacity capacity' n : ℕ) (front buffer buffer' into : List ℕ) (known known' : Option (List ℕ))
    → front ≡ buffer → take n into ≡ take n front → capacity' ≡ capacity → known' ≡ known → buffer' ≡ drop n buffer
    → Consumes (if capacity == 0 then None else prepend_known buffer known) (if capacity' == 0 then None else prepend_known buffer' known') (take n into)
takes_front capacity capacity' n front buffer buffer' into known known' is copied same inner rest =
    rw (same, inner, rest, copied, is) (cut (capacity == 0) n buffer known)

first_set : (front into : List ℕ) → 1 ≤ length front → length into ≡ 1 → take 1 (slice_set into 0 (slice_index_or front 0 0)) ≡ take 1 front
first_set [] into some few = absurd (omega (arith, some))
first_set (x ∷ xs) [] some few = absurd (omega (arith, few))
first_set (x ∷ xs) (y ∷ []) some few = refl
first_set (x ∷ xs) (y ∷ z ∷ into) some few = absurd (omega (arith, few))

pub takes_first : (capacity capacity' : ℕ) (front buffer buffer' into : List ℕ) (known known' : Option (List ℕ))
    → front ≡ buffer → 1 ≤ length front → capacity' ≡ capacity → known' ≡ known → buffer' ≡ drop 1 buffer → length into ≡ 1
    → Consumes (if capacity == 0 then None else prepend_known buffer known) (if capacity' == 0 then None else prepend_known buffer' known') (take 1 (slice_set into 0 (slice_index_or front 0 0)))
takes_first capacity capacity' front buffer buffer' into known known' is some same inner rest few =
    takes_front capacity capacity' 1 front buffer buffer' (slice_set into 0 (slice_index_or front 0 0)) known known' is (first_set front into some few) same inner rest
