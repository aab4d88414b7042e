-- One option more is read.
use Rattle.std.proofs.Common.{◌≡◌, ◌≤◌, ◌+◌, ◌-◌, ℕ, Bool, List, [], ◌∷◌, Ok, ap, arith, drop, length, map, slice_index_or, sym, take, ◌∙◌}
use Rattle.std.proofs.lemmas.List.{take_all}
use Rattle.mt_certify.specs.CertifyWords.{goes_on, options_from, with_option}
use Rattle.mt_certify.specs.declared.words.Chosen.{Chosen}

-- words begin with these two
two_ahead : {X : Type 0} (f : X → List ℕ) (words : List X) (name value : X) (n : ℕ) → 2 ≤ length words → n ≡ length words → name ≡ slice_index_or words 0 name → value ≡ slice_index_or words 1 value
    → f name ∷ f value ∷ map f (take (n - 2) (drop 2 words)) ≡ map f words
two_ahead f [] name value n some all first second = absurd (omega (arith, some))
two_ahead f (a ∷ []) name value n some all first second = absurd (omega (arith, some))
two_ahead f (a ∷ b ∷ more) name value n some all first second =
    ap (λ x. f x ∷ f value ∷ map f (take (n - 2) more)) first ∙ ap (λ x. f a ∷ f x ∷ map f (take (n - 2) more)) second
    ∙ ap (λ l. f a ∷ f b ∷ map f l) (take_all (n - 2) more (omega (arith, all)))

-- the options so far with one more, and the words behind it
pub next_option : {X : Type 0} (f : X → List ℕ) (stored : Bool) (chosen more : Chosen) (place : ℕ) (words : List X) (name value : X) (n : ℕ) → 2 ≤ length words → n ≡ length words
    → name ≡ slice_index_or words 0 name → value ≡ slice_index_or words 1 value → with_option stored chosen place (f name) (f value) ≡ Ok more
    → options_from stored more (place + 2) (map f (take (n - 2) (drop 2 words))) ≡ options_from stored chosen place (map f words)
next_option f stored chosen more place words name value n some all first second is =
    sym (ap (λ r. goes_on (λ later. options_from stored later (place + 2) (map f (take (n - 2) (drop 2 words)))) r) is)
    ∙ ap (λ l. options_from stored chosen place l) (two_ahead f words name value n some all first second)
