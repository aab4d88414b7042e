-- Tasks that stand phase by phase.
use Rattle.std.proofs.Common.{◌≡◌, ℕ, ◌+◌, ◌<◌, ◌≤◌, ◌==◌, Bool, true, false, cond, List, [], ◌∷◌, ◌++◌, length, refl, sym, ap, subst, ◌∙◌, arith, append_assoc, append-nil, ne_eqb}
use Rattle.std.specs.Prelude.{⊤}
use Rattle.std.specs.List.{AllByRecursion, enumerate_from, filter, flat_map}
use Rattle.std.proofs.lemmas.Bool.{eqb-false, eqb-true}
use Rattle.std.proofs.lemmas.List.Concat.{flat_map-cons}
use Rattle.std.proofs.lemmas.List.Elements.{filter-append}
use Rattle.mt_types.specs.declared.document.Phase.{Phase}
use Rattle.mt_certline.specs.Certificate.{is_of_phase}
use Rattle.mt_certline.specs.declared.line.Listed.{Listed}
use Rattle.mt_checker.proofs.Fronts.{AllFrom}

-- the tasks of these phases, the first of this number, phase by phase
abbrev pub by_phases : List Listed → ℕ → List Phase → List Listed
by_phases ts m ps = flat_map (λ p. filter (is_of_phase p.0) ts) (enumerate_from m ps)

-- no task is of an earlier phase than one before it
abbrev pub Rises : List Listed → Type 0
Rises [] = ⊤
Rises (t ∷ ts) = AllFrom t.phase ts × Rises ts

pub rises_tail : (xs : List Listed) (l : Listed) (ys : List Listed) → Rises (xs ++ l ∷ ys) → AllFrom l.phase (l ∷ ys)
rises_tail [] l ys rises = (omega arith, rises.0)
rises_tail (x ∷ xs) l ys rises = rises_tail xs l ys rises.1

-- ---- one task more, of the last phase so far

filter_push : (k : ℕ) (xs : List Listed) (l : Listed) (b : Bool) → l.phase == k ≡ b → filter (is_of_phase k) (xs ++ l ∷ []) ≡ filter (is_of_phase k) xs ++ cond b (l ∷ []) []
filter_push k xs l b is = filter-append (is_of_phase k) xs (l ∷ []) ∙ ap (λ t. filter (is_of_phase k) xs ++ cond t (l ∷ []) []) is

-- none is of a later phase
abbrev pub AllUpTo : ℕ → List Listed → Type 0
AllUpTo n ts = AllByRecursion (λ t. t.phase ≤ n) ts

none_above : (n k : ℕ) (ts : List Listed) → AllUpTo n ts → n < k → filter (is_of_phase k) ts ≡ []
none_above n k [] all lt = refl
none_above n k (t ∷ ts) all lt =
    let upto : t.phase ≤ n = all.0 in
    let apart : t.phase == k ≡ false = ne_eqb t.phase k (λ e. let e : t.phase ≡ k = e in absurd (omega (arith, e, lt, upto))) in
    ap (λ b. cond b (t ∷ filter (is_of_phase k) ts) (filter (is_of_phase k) ts)) apart ∙ none_above n k ts all.1 lt

nothing_above : (n m : ℕ) (ts : List Listed) (ps : List Phase) → AllUpTo n ts → n < m → by_phases ts m ps ≡ []
nothing_above n m ts [] all lt = refl
nothing_above n m ts (p ∷ ps) all lt =
    flat_map-cons (λ p. filter (is_of_phase p.0) ts) (m, p) (enumerate_from (m + 1) ps)
    ∙ (ap (λ x. x ++ by_phases ts (m + 1) ps) (none_above n m ts all lt) ∙ nothing_above n (m + 1) ts ps all (omega (arith, lt)))

upto_push : (n : ℕ) (xs : List Listed) (l : Listed) → AllUpTo n xs → l.phase ≤ n → AllUpTo n (xs ++ l ∷ [])
upto_push n [] l all le = (le, tt)
upto_push n (x ∷ xs) l all le = (all.0, upto_push n xs l all.1 le)

past : (m n : ℕ) → m ≤ n → n == m ≡ false → m + 1 ≤ n
past m n low is = let apart : n ≡ m → ⊥ = eqb-false n m is in omega (arith, low, apart)

pub phases_push : (xs : List Listed) (l : Listed) → AllUpTo l.phase xs → (m : ℕ) (ps : List Phase) → m ≤ l.phase → l.phase < m + length ps → by_phases (xs ++ l ∷ []) m ps ≡ by_phases xs m ps ++ l ∷ []
phases_push xs l all m [] low high = absurd (omega (arith, low, high))
phases_push xs l all m (p ∷ ps) low high =
    let ts : List Listed = xs ++ l ∷ [] in
    flat_map-cons (λ p. filter (is_of_phase p.0) ts) (m, p) (enumerate_from (m + 1) ps)
    ∙ (by (l.phase == m) refl (phases_push xs l all (m + 1) ps) ∙ ap (λ x. x ++ l ∷ []) (sym (flat_map-cons (λ p. filter (is_of_phase p.0) xs) (m, p) (enumerate_from (m + 1) ps))))
  where
    by : (b : Bool) → l.phase == m ≡ b → (m + 1 ≤ l.phase → l.phase < m + 1 + length ps → by_phases (xs ++ l ∷ []) (m + 1) ps ≡ by_phases xs (m + 1) ps ++ l ∷ [])
        → filter (is_of_phase m) (xs ++ l ∷ []) ++ by_phases (xs ++ l ∷ []) (m + 1) ps ≡ (filter (is_of_phase m) xs ++ by_phases xs (m + 1) ps) ++ l ∷ []
    by true is on =
        let same : l.phase ≡ m = eqb-true l.phase m is in
        let above : l.phase < m + 1 = omega (arith, same) in
        ap (λ x. x ++ by_phases (xs ++ l ∷ []) (m + 1) ps) (filter_push m xs l true is)
        ∙ (ap (λ x. (filter (is_of_phase m) xs ++ l ∷ []) ++ x) (nothing_above l.phase (m + 1) (xs ++ l ∷ []) ps (upto_push l.phase xs l all (omega arith)) above)
        ∙ (append-nil (filter (is_of_phase m) xs ++ l ∷ [])
        ∙ ap (λ x. x ++ l ∷ []) (sym (ap (λ x. filter (is_of_phase m) xs ++ x) (nothing_above l.phase (m + 1) xs ps all above) ∙ append-nil (filter (is_of_phase m) xs)))))
    by false is on =
        let later : m + 1 ≤ l.phase = past m l.phase low is in
        ap (λ x. x ++ by_phases (xs ++ l ∷ []) (m + 1) ps) (filter_push m xs l false is ∙ append-nil (filter (is_of_phase m) xs))
        ∙ (ap (λ x. filter (is_of_phase m) xs ++ x) (on later (omega (arith, high)))
        ∙ sym (append_assoc (filter (is_of_phase m) xs) (by_phases xs (m + 1) ps) (l ∷ [])))

-- ---- tasks that are those of the phases, phase by phase

front_rises : (m : ℕ) (ts bs : List Listed) → Rises bs → AllFrom m bs → Rises (filter (is_of_phase m) ts ++ bs) × AllFrom m (filter (is_of_phase m) ts ++ bs)
front_rises m [] bs rises from = (rises, from)
front_rises m (t ∷ ts) bs rises from = by (t.phase == m) refl (front_rises m ts bs rises from)
  where
    by : (b : Bool) → t.phase == m ≡ b → Rises (filter (is_of_phase m) ts ++ bs) × AllFrom m (filter (is_of_phase m) ts ++ bs)
        → Rises (cond b (t ∷ filter (is_of_phase m) ts) (filter (is_of_phase m) ts) ++ bs) × AllFrom m (cond b (t ∷ filter (is_of_phase m) ts) (filter (is_of_phase m) ts) ++ bs)
    by true is more =
        let same : t.phase ≡ m = eqb-true t.phase m is in
        let here : m ≤ t.phase = omega (arith, same) in
        ((subst (λ n. AllFrom n (filter (is_of_phase m) ts ++ bs)) (sym same) more.1, more.0), (here, more.1))
    by false is more = more

from_less : (m : ℕ) (ts : List Listed) → AllFrom (m + 1) ts → AllFrom m ts
from_less m [] all = tt
from_less m (t ∷ ts) all = let from : m + 1 ≤ t.phase = all.0 in (omega (arith, from), from_less m ts all.1)

-- each is of one of these phases
abbrev pub AllBelow : ℕ → List Listed → Type 0
AllBelow n ts = AllByRecursion (λ t. t.phase < n) ts

front_below : (m n : ℕ) (ts bs : List Listed) → m < n → AllBelow n bs → AllBelow n (filter (is_of_phase m) ts ++ bs)
front_below m n [] bs lt below = below
front_below m n (t ∷ ts) bs lt below = by (t.phase == m) refl (front_below m n ts bs lt below)
  where
    by : (b : Bool) → t.phase == m ≡ b → AllBelow n (filter (is_of_phase m) ts ++ bs) → AllBelow n (cond b (t ∷ filter (is_of_phase m) ts) (filter (is_of_phase m) ts) ++ bs)
    by true is more = let same : t.phase ≡ m = eqb-true t.phase m is in (omega (arith, same, lt), more)
    by false is more = more

phases_rise : (ts : List Listed) (m : ℕ) (ps : List Phase) → Rises (by_phases ts m ps) × AllFrom m (by_phases ts m ps)
phases_rise ts m [] = (tt, tt)
phases_rise ts m (p ∷ ps) =
    let more = phases_rise ts (m + 1) ps in
    let P : List Listed → Type 0 = λ x. Rises x × AllFrom m x in
    subst P (sym (flat_map-cons (λ p. filter (is_of_phase p.0) ts) (m, p) (enumerate_from (m + 1) ps)))
    (front_rises m ts (by_phases ts (m + 1) ps) more.0 (from_less m (by_phases ts (m + 1) ps) more.1))

phases_below : (ts : List Listed) (m : ℕ) (ps : List Phase) → AllBelow (m + length ps) (by_phases ts m ps)
phases_below ts m [] = tt
phases_below ts m (p ∷ ps) =
    let same : m + 1 + length ps ≡ m + length (p ∷ ps) = omega arith in
    subst (AllBelow (m + length (p ∷ ps))) (sym (flat_map-cons (λ p. filter (is_of_phase p.0) ts) (m, p) (enumerate_from (m + 1) ps)))
    (front_below m (m + length (p ∷ ps)) ts (by_phases ts (m + 1) ps) (omega arith) (subst (λ n. AllBelow n (by_phases ts (m + 1) ps)) same (phases_below ts (m + 1) ps)))

pub rises_from_phases : (ts : List Listed) (ps : List Phase) → by_phases ts 0 ps ≡ ts → Rises ts
rises_from_phases ts ps whole = subst Rises whole (phases_rise ts 0 ps).0

pub below_from_phases : (ts : List Listed) (ps : List Phase) → by_phases ts 0 ps ≡ ts → AllBelow (length ps) ts
below_from_phases ts ps whole = let none : 0 + length ps ≡ length ps = omega arith in subst (AllBelow (length ps)) whole (subst (λ n. AllBelow n (by_phases ts 0 ps)) none (phases_below ts 0 ps))
