-- A range of an object has one answer.
use Rattle.std.proofs.Common.{◌≡◌, ℕ, ◌+◌, ◌-◌, ◌<◌, ◌≤◌, min, nat_le, nat_lt, not, ◌&&◌, inl, inr, refl, sym, subst, ap, if◌then◌else◌, ◌∙◌, arith, lt-ltb, le-leb, le-ltb, leb-true, ltb-true}
use Rattle.std.proofs.lemmas.Bool.{and_from, and_parts, cases_Bool, cases_lt, cond-false, cond-true, false≢true}
use Rattle.mt_cond.specs.declared.range.Range.{Range}
use Rattle.mt_cond.specs.declared.range.Range.TheVariants.{Between, From, Last}
use Rattle.mt_cond.specs.declared.range.Ranged.{Ranged}
use Rattle.mt_cond.specs.declared.range.Ranged.TheVariants.{Whole, Part, CannotMeet}
use Rattle.mt_cond.specs.Range.{IsRangeAnswer, IsIgnored, IsSelection, ranged}

-- the first and the last selected places fix a selection
Part-one : (range : Range) (length from to low high : ℕ) → IsSelection range length from to → IsSelection range length low high → Part from to ≡ Part low high
Part-one range length from to low high s t =
    let first_of_t = s.others low (t.inside low (omega arith) t.some) in
    let first_of_s = t.others from (s.inside from (omega arith) s.some) in
    let t_some : low < high = t.some in
    let s_some : from < to = s.some in
    let last_of_t = s.others (high - 1) (t.inside (high - 1) (omega arith) (omega arith)) in
    let last_of_s = t.others (to - 1) (s.inside (to - 1) (omega arith) (omega arith)) in
    let same_from : from ≡ low = omega (arith, first_of_t.0, first_of_s.0) in
    let same_to : to ≡ high = omega (arith, last_of_t.1, last_of_s.1, t_some, s_some) in
    cc (same_from, same_to)

-- what is ignored has no byte
ignored_is_empty : (range : Range) (length : ℕ) → IsIgnored range length → length ≡ 0
ignored_is_empty (Between first last) length i = absurd i
ignored_is_empty (From first) length i = absurd i
ignored_is_empty (Last count) length i = i.1

-- two answers are one
IsRangeAnswer-one : (range : Range) (length : ℕ) (a b : Ranged) → IsRangeAnswer range length a → IsRangeAnswer range length b → a ≡ b
IsRangeAnswer-one range length Whole Whole x y = refl
IsRangeAnswer-one range length Whole (Part from to) x y =
    let empty : length ≡ 0 = ignored_is_empty range length x in
    absurd (omega (arith, empty, y.some, y.within))
IsRangeAnswer-one range length Whole CannotMeet x y = absurd (y.0 x)
IsRangeAnswer-one range length (Part from to) Whole x y =
    let empty : length ≡ 0 = ignored_is_empty range length y in
    absurd (omega (arith, empty, x.some, x.within))
IsRangeAnswer-one range length (Part from to) (Part low high) x y = Part-one range length from to low high x y
IsRangeAnswer-one range length (Part from to) CannotMeet x y = absurd (y.1 from (x.inside from (omega arith) x.some))
IsRangeAnswer-one range length CannotMeet Whole x y = absurd (x.0 y)
IsRangeAnswer-one range length CannotMeet (Part from to) x y = absurd (x.1 from (y.inside from (omega arith) y.some))
IsRangeAnswer-one range length CannotMeet CannotMeet x y = refl

pub IsRangeAnswer-ranged : (range : Range) (length : ℕ) → IsRangeAnswer range length (ranged range length)
IsRangeAnswer-ranged (Between first last) length = elim (cases_Bool (nat_le first last && nat_lt first length)) [
  | inl met ↦
      let parts = and_parts (nat_le first last) (nat_lt first length) met in
      let order : first ≤ last = leb-true first last parts.0 in
      let inner : first < length = ltb-true first length parts.1 in
      subst (λ a. IsRangeAnswer (Between first last) length a)
      (sym (cond-true (nat_le first last && nat_lt first length) (Part first (min last (length - 1) + 1)) CannotMeet met))
      (record {
        some = omega arith;
        within = omega arith;
        inside = λ place low high. (low, omega arith, omega arith);
        others = λ place chosen. (chosen.0, omega (arith, chosen.0, chosen.1, chosen.2));
      })
  | inr missed ↦
      subst (λ a. IsRangeAnswer (Between first last) length a)
      (sym (cond-false (nat_le first last && nat_lt first length) (Part first (min last (length - 1) + 1)) CannotMeet missed)) (
        λ ignored. ignored,
        λ place chosen.
            let order : first ≤ last = omega (arith, chosen.0, chosen.1) in
            let inner : first < length = omega (arith, chosen.0, chosen.2) in
            false≢true (sym missed ∙ and_from (nat_le first last) (nat_lt first length) (le-leb first last order) (lt-ltb first length inner)),
      )
]
IsRangeAnswer-ranged (From first) length = elim (cases_lt first length) [
  | inl inner ↦
      subst (λ a. IsRangeAnswer (From first) length a) (sym (cond-true (nat_lt first length) (Part first length) CannotMeet (lt-ltb first length inner)))
      (record {
        some = inner;
        within = omega arith;
        inside = λ place low high. (low, high);
        others = λ place chosen. chosen;
      })
  | inr past ↦
      subst (λ a. IsRangeAnswer (From first) length a) (sym (cond-false (nat_lt first length) (Part first length) CannotMeet (le-ltb first length past)))
      (λ ignored. ignored, λ place chosen. omega (arith, past, chosen.0, chosen.1))
]
IsRangeAnswer-ranged (Last count) length =
    let part : Ranged = if nat_lt 0 length then Part (length - count) length else Whole in
    elim (cases_lt 0 count) [
      | inl some ↦
          subst (λ a. IsRangeAnswer (Last count) length a) (sym (cond-false (not (nat_lt 0 count)) CannotMeet part (ap not (lt-ltb 0 count some))))
          (elim (cases_lt 0 length) [
            | inl bytes ↦
                subst (λ a. IsRangeAnswer (Last count) length a) (sym (cond-true (nat_lt 0 length) (Part (length - count) length) Whole (lt-ltb 0 length bytes)))
                (record {
                  some = omega arith;
                  within = omega arith;
                  inside = λ place low high. (omega arith, high);
                  others = λ place chosen. (omega (arith, chosen.0), chosen.1);
                })
            | inr empty ↦
                subst (λ a. IsRangeAnswer (Last count) length a) (sym (cond-false (nat_lt 0 length) (Part (length - count) length) Whole (le-ltb 0 length empty)))
                (some, omega arith)
          ])
      | inr none ↦
          subst (λ a. IsRangeAnswer (Last count) length a) (sym (cond-true (not (nat_lt 0 count)) CannotMeet part (ap not (le-ltb 0 count none))))
          (λ ignored. omega (arith, none, ignored.0), λ place chosen. omega (arith, none, chosen.0, chosen.1))
    ]

pub ranged-one : (range : Range) (length : ℕ) (answer : Ranged) → IsRangeAnswer range length answer → answer ≡ ranged range length
ranged-one range length answer a = IsRangeAnswer-one range length answer (ranged range length) a (IsRangeAnswer-ranged range length)
