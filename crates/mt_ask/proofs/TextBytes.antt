-- The bytes of a text fit a byte.
use Rattle.std.proofs.Common.{◌≡◌, ℕ, ◌+◌, ◌/◌, ◌%◌, ◌<◌, List, [], ◌∷◌, All, IsUtf8, true, ltb, subst, ⊎_elim, arith}
use Rattle.std.specs.Char.{encode_utf8}
use Rattle.std.proofs.Math.Utf8.{encodes, scalar_cases, scalars}
use Rattle.std.proofs.lemmas.Bool.{and_parts, cond_both}
use Rattle.std.proofs.lemmas.Bool.Decides.{nat_tests}
use Rattle.std.proofs.lemmas.List.Elements.{All-nil, All-cons, All-append}
use Rattle.percent_encoding.proofs.PercentLemmas.{IsByte}

one_byte : (a : ℕ) → a < 256 → All IsByte (a ∷ [])
one_byte a small = All-cons IsByte a [] small (All-nil IsByte)

-- the bytes of a character
char_bytes : (c : ℕ) → c < 1114112 → All IsByte (encode_utf8 c)
unfolding encode_utf8
char_bytes c small =
    let last = one_byte (128 + c % 64) (omega arith) in
    let third = All-cons IsByte (128 + (c / 64) % 64) ((128 + c % 64) ∷ []) (omega arith) last in
    let second = All-cons IsByte (128 + (c / 4096) % 64) ((128 + (c / 64) % 64) ∷ (128 + c % 64) ∷ []) (omega arith) third in
    cond_both (ltb c 128) (c ∷ []) _ (All IsByte)
    (λ e. one_byte c (grind (arith, nat_tests, e)))
    (λ _. cond_both (ltb c 2048) ((192 + c / 64) ∷ (128 + c % 64) ∷ []) _ (All IsByte)
    (λ e. All-cons IsByte (192 + c / 64) ((128 + c % 64) ∷ []) (grind (arith, nat_tests, e)) last)
    (λ _. cond_both (ltb c 65536) ((224 + c / 4096) ∷ (128 + (c / 64) % 64) ∷ (128 + c % 64) ∷ []) ((240 + c / 262144) ∷ (128 + (c / 4096) % 64) ∷ (128 + (c / 64) % 64) ∷ (128 + c % 64) ∷ []) (All IsByte)
    (λ e. All-cons IsByte (224 + c / 4096) ((128 + (c / 64) % 64) ∷ (128 + c % 64) ∷ []) (grind (arith, nat_tests, e)) third)
    (λ _. All-cons IsByte (240 + c / 262144) ((128 + (c / 4096) % 64) ∷ (128 + (c / 64) % 64) ∷ (128 + c % 64) ∷ []) (omega (arith, small)) second)))

chars_bytes : (cs : List ℕ) → scalars cs ≡ true → All IsByte (encodes cs)
chars_bytes [] are = All-nil IsByte
chars_bytes (c ∷ cs) are =
    let parts = and_parts _ _ are in
    let small : c < 1114112 = ⊎_elim (λ h. omega (arith, h)) (λ h. h.1) (scalar_cases c parts.0) in
    All-append IsByte (encode_utf8 c) (encodes cs) (char_bytes c small) (chars_bytes cs parts.1)

pub text_bytes : (text : List ℕ) → IsUtf8 text → All IsByte text
text_bytes text is = subst (All IsByte) is.1.1 (chars_bytes is.0 is.1.0)
