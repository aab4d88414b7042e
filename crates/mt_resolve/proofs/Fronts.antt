-- A walk over the fronts of a path.
use Rattle.std.proofs.Common.{◌≡◌, ℕ, ◌+◌, ◌-◌, ◌<◌, Bool, false, ◌||◌, length, map, sym, ap, ◌∙◌, arith, suc}
use Rattle.std.specs.List.{list_any, range_with_len}
use Rattle.mt_path.specs.AccountPath.{AccountPath}
use Rattle.mt_model.proofs.LawfulPuts.{front}

module _ (t : AccountPath → Bool) (p : AccountPath) where
  abbrev left : ℕ → Bool
  left n = list_any t (map (front p) (range_with_len n (length p.parts - n)))

  front_split : (n : ℕ) → n < length p.parts → left n ≡ (t (front p n) || left (n + 1))
  front_split n less = let more : length p.parts - n ≡ suc (length p.parts - (n + 1)) = omega (arith, less) in ap (λ k. list_any t (map (front p) (range_with_len n k))) more

  pub front_on : (n : ℕ) (all : Bool) → n < length p.parts → t (front p n) ≡ false → left n ≡ all → left (n + 1) ≡ all
  front_on n all less fails so_far = sym (front_split n less ∙ ap (λ b. b || left (n + 1)) fails) ∙ so_far
