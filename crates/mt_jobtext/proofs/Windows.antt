-- Bytes that are put into a window one after another are put in as one.
use Rattle.std.proofs.Common.{◌≡◌, ℕ, zero, suc, ◌-◌, ◌≤◌, min, nat_lt, List, [], ◌∷◌, ◌++◌, map, length, take, drop, inl, inr, refl, sym, ap, ◌∙◌, subst, arith, append_assoc, append-nil, length-append, length-drop}
use Rattle.std.proofs.lemmas.Bool.{cases_Bool, ltb-false, ltb-true}
use Rattle.std.proofs.lemmas.List.{drop-map, drop_all, length-map, length-take, take-map, take_all}
use Rattle.mt_path.specs.Keys.{shown_byte}
use Rattle.mt_jobtext.specs.Windows.{Puts, Seen}

drop_joined : (n : ℕ) (xs ys : List ℕ) → drop n (xs ++ ys) ≡ drop n xs ++ drop (n - length xs) ys
drop_joined zero xs ys = let none : 0 - length xs ≡ 0 = omega arith in rw none refl
drop_joined (suc n) [] ys = let all : suc n - 0 ≡ suc n = omega arith in rw all refl
drop_joined (suc n) (x ∷ xs) ys = let less : suc n - suc (length xs) ≡ n - length xs = omega arith in rw less (drop_joined n xs ys)

take_joined : (n : ℕ) (xs ys : List ℕ) → take n (xs ++ ys) ≡ take n xs ++ take (n - length xs) ys
take_joined zero xs ys = let none : 0 - length xs ≡ 0 = omega arith in rw none refl
take_joined (suc n) [] ys = let all : suc n - 0 ≡ suc n = omega arith in rw all refl
take_joined (suc n) (x ∷ xs) ys = let less : suc n - suc (length xs) ≡ n - length xs = omega arith in rw less (ap (λ (l : List ℕ). x ∷ l) (take_joined n xs ys))

drop_none : (n : ℕ) → drop {A = ℕ} n [] ≡ []
drop_none zero = refl
drop_none (suc n) = refl

take_none : (n : ℕ) → take {A = ℕ} n [] ≡ []
take_none zero = refl
take_none (suc n) = refl

drop_less : (passed skip : ℕ) (xs : List ℕ) → passed ≡ min (length xs) skip → drop passed xs ≡ drop skip xs
drop_less passed skip xs is = elim (cases_Bool (nat_lt skip (length xs))) [
  | inl within ↦ let same : passed ≡ skip = omega (arith, is, ltb-true skip (length xs) within) in ap (λ n. drop n xs) same
  | inr past ↦ let all : length xs ≤ skip = ltb-false skip (length xs) past in drop_all passed xs (omega (arith, is, all)) ∙ sym (drop_all skip xs all)
]

pub take_less : (count room : ℕ) (xs : List ℕ) → count ≡ min (length xs) room → take count xs ≡ take room xs
take_less count room xs is = elim (cases_Bool (nat_lt room (length xs))) [
  | inl within ↦ let same : count ≡ room = omega (arith, is, ltb-true room (length xs) within) in ap (λ n. take n xs) same
  | inr past ↦ let all : length xs ≤ room = ltb-false room (length xs) past in take_all count xs (omega (arith, is, all)) ∙ sym (take_all room xs all)
]

-- no bytes
pub puts_none : (w : Seen) → Puts [] w w
puts_none w =
    let none : drop {A = ℕ} w.skip [] ≡ [] = drop_none w.skip in record {
      skip_is = omega arith;
      got_is = sym (ap (λ (l : List ℕ). w.got ++ l) (ap (take w.room) none ∙ take_none w.room) ∙ append-nil w.got);
      room_is = omega (arith, ap length none);
      size_is = refl;
    }

-- bytes that are passed over whole
pub puts_passed : (bytes : List ℕ) (n : ℕ) (w : Seen) → n ≡ length bytes → n ≤ w.skip → Puts bytes w (record w { skip = w.skip - n })
puts_passed bytes n w is within =
    let none : drop w.skip bytes ≡ [] = drop_all w.skip bytes (omega (arith, is)) in record {
      skip_is = ap (λ m. w.skip - m) is;
      got_is = sym (ap (λ (l : List ℕ). w.got ++ l) (ap (take w.room) none ∙ take_none w.room) ∙ append-nil w.got);
      room_is = omega (arith, ap length none);
      size_is = refl;
    }

-- bytes that fit
pub puts_fit : (bytes : List ℕ) (w : Seen) → w.skip ≡ 0 → length bytes ≤ w.room → Puts bytes w (record w { got = w.got ++ bytes; room = w.room - length bytes })
puts_fit bytes w skip fits =
    let all : drop w.skip bytes ≡ bytes = ap (λ n. drop n bytes) skip in record {
      skip_is = omega (arith, skip);
      got_is = ap (λ (l : List ℕ). w.got ++ l) (sym (ap (take w.room) all ∙ take_all w.room bytes fits));
      room_is = ap (λ (l : List ℕ). w.room - length l) (sym all);
      size_is = refl;
    }

-- what stands in the window of a key
pub puts_shown : (key : List ℕ) (w : Seen) (passed count : ℕ) → passed ≡ min (length key) w.skip → count ≡ min (length (take (length key - passed) (drop passed key))) w.room
    → Puts (map shown_byte key) w (record w { skip = w.skip - passed; got = w.got ++ map shown_byte (take count (take (length key - passed) (drop passed key))); room = w.room - length (take count (take (length key - passed) (drop passed key))) })
puts_shown key w passed count passed_is count_is =
    let text : List ℕ = map shown_byte key in
    let rest : List ℕ = take (length key - passed) (drop passed key) in
    let whole : rest ≡ drop passed key = take_all (length key - passed) (drop passed key) (omega (arith, length-drop passed key)) in
    let long : length text ≡ length key = length-map key shown_byte in
    let front : map shown_byte rest ≡ drop w.skip text =
    ap (map shown_byte) whole ∙ sym (drop-map shown_byte passed key) ∙ drop_less passed w.skip text (omega (arith, passed_is, long)) in
    let front_long : length rest ≡ length (drop w.skip text) = sym (length-map rest shown_byte) ∙ ap length front in
    let cut : map shown_byte (take count rest) ≡ take w.room (drop w.skip text) =
    sym (take-map shown_byte count rest) ∙ ap (take count) front ∙ take_less count w.room (drop w.skip text) (omega (arith, count_is, front_long)) in record {
      skip_is = omega (arith, passed_is, long);
      got_is = ap (λ (l : List ℕ). w.got ++ l) cut;
      room_is = omega (arith, length-take count rest, count_is, front_long);
      size_is = refl;
    }

-- and more of them
pub puts_more : {a b : List ℕ} {w0 w1 w2 : Seen} → Puts a w0 w1 → Puts b w1 w2 → Puts (a ++ b) w0 w2
puts_more {a} {b} {w0} {w1} {w2} first next =
    let xs : List ℕ = drop w0.skip a in
    let ys : List ℕ = drop (w0.skip - length a) b in
    let both : drop w0.skip (a ++ b) ≡ xs ++ ys = drop_joined w0.skip a b in
    let second : drop w1.skip b ≡ ys = ap (λ n. drop n b) first.skip_is in
    let rest : take w1.room (drop w1.skip b) ≡ take (w0.room - length xs) ys = λ k. take (first.room_is k) (second k) in
    record {
      skip_is = omega (arith, first.skip_is, next.skip_is, length-append a b);
      got_is =
          next.got_is
          ∙ (λ k. first.got_is k ++ rest k)
          ∙ append_assoc w0.got (take w0.room xs) (take (w0.room - length xs) ys)
          ∙ ap (λ (l : List ℕ). w0.got ++ l) (sym (take_joined w0.room xs ys) ∙ ap (take w0.room) (sym both));
      room_is = omega (arith, first.room_is, next.room_is, ap length second, ap length both, length-append xs ys);
      size_is = next.size_is ∙ first.size_is;
    }

-- the same bytes
pub puts_same : {a b : List ℕ} {w0 w1 : Seen} → Puts a w0 w1 → a ≡ b → Puts b w0 w1
puts_same {a} {b} {w0} {w1} puts is = let P : List ℕ → Type 0 = λ bytes. Puts bytes w0 w1 in subst P is puts
