-- Pieces of one line.
use Rattle.std.proofs.Common.{◌≡◌, ◌≢◌, ℕ, ◌+◌, ◌-◌, ◌<◌, ◌≤◌, ◌==◌, zero, suc, List, [], ◌∷◌, ◌++◌, length, take, get_or, Option, refl, sym, ap, subst, ◌∙◌, arith, append_assoc, append-nil, inl, inr}
use Rattle.std.proofs.lemmas.Bool.{cases_lt, ne_eqb, or_from}
use Rattle.std.proofs.Math.Seq.{take-suc}
use Rattle.std.proofs.lemmas.List.{take_all}
use Rattle.mt_edge.specs.Stream.{LeftAfter}
use Rattle.mt_edge.proofs.Streams.{left_after}
use Rattle.mt_checker.specs.Judge.{line_feed}
use Rattle.mt_checker.specs.Sources.{IsClear, IsTooLong}
use Rattle.mt_checker.proofs.Fronts.{any_append}

-- the first bytes have no line feed, where none of them is one
pub clear_front : (bs : List ℕ) (n : ℕ) → ((k : ℕ) → k < n → get_or bs k 0 ≢ 10) → IsClear (take n bs)
clear_front [] zero none = refl
clear_front [] (suc n) none = refl
clear_front (b ∷ bs) zero none = refl
clear_front (b ∷ bs) (suc n) none =
    or_from _ _ (ne_eqb b 10 (none 0 (omega arith))) (clear_front bs n (λ k less. none (suc k) (omega (arith, less))))

-- a piece that a line feed ends
pub piece_ended : (piece : List ℕ) (b : ℕ) → 0 < length piece → ((k : ℕ) → k + 1 < length piece → get_or piece k 0 ≢ 10) → b ≡ get_or piece (length piece - 1) 0 → b ≡ 10
    → (piece ≡ take (length piece - 1) piece ++ line_feed ∷ []) × IsClear (take (length piece - 1) piece)
piece_ended piece b some line is feed =
    let most = length piece - 1 in
    let whole : suc most ≡ length piece = omega (arith, some) in (
      sym (take_all (length piece) piece (omega arith)) ∙ (ap (λ n. take n piece) (sym whole) ∙ (take-suc piece most 0 (omega (arith, some)) ∙ ap (λ x. take most piece ++ x ∷ []) (sym is ∙ feed))),
      clear_front piece most (λ k less. line k (omega (arith, less, some))),
    )

-- one that none ends
pub piece_begun : (piece : List ℕ) (b : ℕ) → 0 < length piece → ((k : ℕ) → k + 1 < length piece → get_or piece k 0 ≢ 10) → b ≡ get_or piece (length piece - 1) 0 → b ≢ 10 → IsClear piece
piece_begun piece b some line is other =
    let most = length piece - 1 in
    subst IsClear (take_all (length piece) piece (omega arith)) (clear_front piece (length piece) (λ k less at. by k less at))
  where
    by : (k : ℕ) → k < length piece → get_or piece k 0 ≡ 10 → ⊥
    by k less at = elim (cases_lt (k + 1) (length piece)) [
      | inl inside ↦ line k inside at
      | inr past ↦ (let last : k ≡ length piece - 1 = omega (arith, less, past) in other (is ∙ (ap (λ m. get_or piece m 0) (sym last) ∙ at)))
    ]

-- text without a line feed behind such text
pub clear_more : (old text : List ℕ) → IsClear old → IsClear text → IsClear (old ++ text)
clear_more old text first second = any_append (λ b. b == line_feed) old text ∙ or_from _ _ first second

-- what was read begins with a line that is too long
pub long_begun : (old piece : List ℕ) → IsClear old → IsClear piece → 16777216 ≤ length (old ++ piece) → IsTooLong (old ++ piece)
long_begun old piece first second long = record { text = old ++ piece; more = []; front = sym (append-nil (old ++ piece)); clear = clear_more old piece first second; long = long }

pub long_ended : (old piece text : List ℕ) → IsClear old → piece ≡ text ++ line_feed ∷ [] → IsClear text → 16777216 ≤ length (old ++ text) → IsTooLong (old ++ piece)
long_ended old piece text first is second long = record {
  text = old ++ text;
  more = line_feed ∷ [];
  front = ap (λ p. old ++ p) is ∙ sym (append_assoc old text (line_feed ∷ []));
  clear = clear_more old text first second;
  long = long;
}

-- a whole line
pub line_taken : (a : Option (List ℕ)) (old piece text new : List ℕ) (b c : Option (List ℕ)) → LeftAfter a old b → LeftAfter b piece c → piece ≡ text ++ line_feed ∷ [] → new ≡ old ++ text → LeftAfter a (new ++ line_feed ∷ []) c
line_taken a old piece text new b c first second is new_is =
    subst (λ bs. LeftAfter a bs c) (ap (λ p. old ++ p) is ∙ (sym (append_assoc old text (line_feed ∷ [])) ∙ ap (λ n. n ++ line_feed ∷ []) (sym new_is))) (left_after a old b piece c first second)
