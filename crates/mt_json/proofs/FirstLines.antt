-- The first line of bytes, by the place of its line feed.
use Rattle.std.proofs.Common.{◌≡◌, ◌≢◌, ℕ, ◌<◌, zero, suc, List, [], ◌∷◌, length, take, drop, slice_index, Some, None, option_map, refl, ap, arith}
use Rattle.std.proofs.lemmas.Bool.{ne_eqb}
use Rattle.mt_json.specs.Lines.{first_line}

pub first_line-at : (bytes : List ℕ) (end : ℕ) → end < length bytes → ((k : ℕ) → k < end → slice_index bytes k ≢ 10) → slice_index bytes end ≡ 10 → Some (take end bytes, drop (suc end) bytes) ≡ first_line bytes
first_line-at [] end within none found = absurd (omega arith)
first_line-at (b ∷ bytes) zero within none found = rw found refl
first_line-at (b ∷ bytes) (suc end) within none found =
    rw (ne_eqb b 10 (none 0 (omega arith)))
    (ap (option_map (λ (p : List ℕ × List ℕ). (b ∷ p.0, p.1))) (first_line-at bytes end (omega arith) (λ k less. none (suc k) (omega arith)) found))

pub first_line-none : (bytes : List ℕ) → ((k : ℕ) → k < length bytes → slice_index bytes k ≢ 10) → None ≡ first_line bytes
first_line-none [] none = refl
first_line-none (b ∷ bytes) none =
    rw (ne_eqb b 10 (none 0 (omega arith)))
    (ap (option_map (λ (p : List ℕ × List ℕ). (b ∷ p.0, p.1))) (first_line-none bytes (λ k less. none (suc k) (omega arith))))
