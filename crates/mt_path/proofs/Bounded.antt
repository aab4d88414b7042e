-- The first pieces of a name decide what it names: of more, each with its slash, no path has room.
use Rattle.std.proofs.Common.{◌≡◌, ℕ, ◌+◌, ◌-◌, ◌*◌, ◌<◌, ◌≤◌, ◌||◌, List, [], ◌∷◌, ◌++◌, Bool, true, false, bytes_eq, codes, cond, nat_lt, nat_eq, Result, Ok, Err, length, take, drop, map, get_or, Bor, refl, sym, ap, ◌∙◌, arith, zero, suc, inl, inr, length-append}
use Rattle.std.specs.List.{AllByRecursion, before_first, filter, slice_split, starts_with}
use Rattle.std.specs.Char.{digit_value}
use Rattle.std.proofs.lemmas.Bool.{cases_Bool, cond-true, lt-ltb, ltb-false}
use Rattle.std.proofs.lemmas.Bool.Decides.{nat_tests}
use Rattle.std.proofs.lemmas.List.{take_all, take_more, take-map, length-take, length-map, get_or-map}
use Rattle.std.proofs.lemmas.List.Concat.{flat_map-append}
use Rattle.std.proofs.lemmas.Slice.Eq.{bytes_eq-Decides}
use Rattle.percent_encoding.specs.Percent.{percent_decode, is_escape}
use Rattle.mt_path.specs.declared.error.PathError.{PathError}
use Rattle.mt_path.specs.declared.error.PathError.TheVariants.{Empty, TooLong, BadComponent, OtherLogin, NoArea, Memory}
use Rattle.mt_path.specs.declared.limits.TheConstants.{LONGEST_PATH, MOST_PIECES}
use Rattle.mt_path.specs.AccountPath.{slash, slashed}
use Rattle.mt_path.specs.Names.{IsTooLong, IsUnlessMemory, begins_as_text, judged_names, names_of, pieces, question_mark, target_pieces, text_pieces, with_login}
use Rattle.mt_path.proofs.Fronts.{length-slashed-take}
use Rattle.mt_path.proofs.Judged.{too_long-at}

-- each name has a byte
abbrev pub HaveBytes : List (List ℕ) → Type 0
HaveBytes names = AllByRecursion (λ name. 0 < length name) names

has_byte : (name : List ℕ) → nat_lt 0 (length name) ≡ true → 0 < length name
has_byte name some = grind (arith, nat_tests, some)

kept_have : (xs : List (List ℕ)) → HaveBytes (filter (λ piece. nat_lt 0 (length piece)) xs)
kept_have [] = tt
kept_have (x ∷ xs) = elim (nat_lt 0 (length x)) as (λ b. nat_lt 0 (length x) ≡ b → HaveBytes (cond b (x ∷ filter (λ piece. nat_lt 0 (length piece)) xs) (filter (λ piece. nat_lt 0 (length piece)) xs))) [
  | true ↦ λ e. (has_byte x e, kept_have xs)
  | false ↦ λ e. kept_have xs
] refl

one_more : (escape : Bool) (x b : ℕ) (xs bs : List ℕ) → 0 < length (cond escape (x ∷ xs) (b ∷ bs))
one_more true x b xs bs = omega arith
one_more false x b xs bs = omega arith

decoded_has : (piece : List ℕ) → 0 < length piece → 0 < length (percent_decode piece)
unfolding percent_decode
decoded_has [] some = absurd (omega arith)
decoded_has (b ∷ []) some = omega arith
decoded_has (b ∷ c ∷ []) some = omega arith
decoded_has (b ∷ high ∷ low ∷ rest) some = one_more (is_escape b high low) (16 * digit_value high + digit_value low) b (percent_decode rest) (percent_decode (high ∷ low ∷ rest))

decoded_have : (names : List (List ℕ)) → HaveBytes names → HaveBytes (map percent_decode names)
decoded_have [] have = tt
decoded_have (name ∷ names) have = (decoded_has name have.0, decoded_have names have.1)

two_each : (n : ℕ) (names : List (List ℕ)) → HaveBytes names → length (take n names) + length (take n names) ≤ length (slashed (take n names))
two_each zero names have = omega arith
two_each (suc n) [] have = omega arith
two_each (suc n) (name ∷ names) have = omega (arith, have.0, two_each n names have.1, length-append (slash ∷ name) (slashed (take n names)))

-- names whose front fits into a path are no more than the front
fit : (names : List (List ℕ)) → HaveBytes names → length (slashed (take 513 names)) ≤ 1024 → length names ≤ 513
fit names have short = omega (arith, two_each 513 names have, length-take 513 names, short)

front_decides : (login first : List ℕ) (names : List (List ℕ)) → HaveBytes names → names_of login (first ∷ take 513 names) ≡ names_of login (first ∷ names)
unfolding names_of
front_decides login first names have =
    elim (cases_Bool (nat_lt LONGEST_PATH (length (slashed (take 513 names))))) [
      | inl long ↦
          let more : LONGEST_PATH < length (slashed (take 513 names)) = grind (arith, nat_tests, long) in
          cond-true (nat_lt LONGEST_PATH (length (slashed (take 513 names)))) (Err TooLong) _ long
          ∙ sym (cond-true (nat_lt LONGEST_PATH (length (slashed names))) (Err TooLong) _ (lt-ltb LONGEST_PATH (length (slashed names)) (omega (arith, more, length-slashed-take 513 names))))
      | inr short ↦ ap (λ ns. names_of login (first ∷ ns)) (take_all 513 names (fit names have (ltb-false _ _ short)))
    ]

decoded_front : (login : List ℕ) (names : List (List ℕ)) → HaveBytes names → names_of login (map percent_decode (take MOST_PIECES names)) ≡ names_of login (map percent_decode names)
decoded_front login [] have = refl
decoded_front login (first ∷ names) have =
    ap (λ ns. names_of login (percent_decode first ∷ ns)) (sym (take-map percent_decode 513 names))
    ∙ front_decides login (percent_decode first) (map percent_decode names) (decoded_have names have.1)

pub target_front : (login raw : List ℕ) (front : List (List ℕ))
    → front ≡ cond (starts_with nat_eq raw (codes "/")) (take MOST_PIECES (pieces (before_first (λ b. nat_eq b question_mark) raw))) []
    → names_of login (map percent_decode front) ≡ names_of login (target_pieces raw)
unfolding target_pieces
target_front login raw front is =
    ap (λ ps. names_of login (map percent_decode ps)) is
    ∙ chosen (starts_with nat_eq raw (codes "/"))
  where
    chosen : (b : Bool) → names_of login (map percent_decode (cond b (take MOST_PIECES (pieces (before_first (λ b. nat_eq b question_mark) raw))) []))
        ≡ names_of login (cond b (map percent_decode (pieces (before_first (λ b. nat_eq b question_mark) raw))) [])
    chosen true = decoded_front login (pieces (before_first (λ b. nat_eq b question_mark) raw)) (kept_have (slice_split (λ b. nat_eq b slash) (before_first (λ b. nat_eq b question_mark) raw)))
    chosen false = refl

plain_front : (login : List ℕ) (names : List (List ℕ)) → HaveBytes names → names_of login (with_login login (take MOST_PIECES names)) ≡ names_of login (with_login login names)
plain_front login [] have = refl
plain_front login (first ∷ names) have = front_decides login (cond (bytes_eq first (codes "~~")) login first) names have.1

pub text_front : (login text : List ℕ) (front : List (List ℕ)) → front ≡ cond (begins_as_text text) (take MOST_PIECES (pieces text)) []
    → names_of login (with_login login front) ≡ names_of login (text_pieces login text)
unfolding text_pieces
text_front login text front is =
    ap (λ ps. names_of login (with_login login ps)) is
    ∙ chosen (begins_as_text text)
  where
    chosen : (b : Bool) → names_of login (with_login login (cond b (take MOST_PIECES (pieces text)) [])) ≡ names_of login (cond b (with_login login (pieces text)) [])
    chosen true = plain_front login (pieces text) (kept_have (slice_split (λ b. nat_eq b slash) text))
    chosen false = refl

-- an answer that is the one that is due
exactly : {T : Type 0} (due r : Result T PathError) → due ≡ r → IsUnlessMemory due r
exactly due (Ok x) is = is
exactly due (Err Memory) is = tt
exactly due (Err Empty) is = is
exactly due (Err TooLong) is = is
exactly due (Err BadComponent) is = is
exactly due (Err OtherLogin) is = is
exactly due (Err NoArea) is = is

pub long_names : (login first : List ℕ) (names : List (List ℕ)) (e : PathError) → IsTooLong names e → IsUnlessMemory (names_of login (first ∷ names)) (Err e)
unfolding names_of
long_names login first names Memory long = tt
long_names login first names TooLong long = cond-true (nat_lt LONGEST_PATH (length (slashed names))) (Err TooLong) _ (lt-ltb LONGEST_PATH (length (slashed names)) long.1)
long_names login first names Empty long = let never : Empty ≡ TooLong = long.0 in cc
long_names login first names BadComponent long = let never : BadComponent ≡ TooLong = long.0 in cc
long_names login first names OtherLogin long = let never : OtherLogin ≡ TooLong = long.0 in cc
long_names login first names NoArea long = let never : NoArea ≡ TooLong = long.0 in cc

pub short_names : (login first : List ℕ) (names items : List (List ℕ)) (is_own : Bool) (r : Result (List (List ℕ)) PathError) → items ≡ names → length (slashed items) ≤ LONGEST_PATH → is_own ≡ bytes_eq first login → r ≡ judged_names is_own items
    → IsUnlessMemory (names_of login (first ∷ names)) r
unfolding names_of
short_names login first names items is_own r same short own is =
    let fits : nat_lt LONGEST_PATH (length (slashed names)) ≡ false = grind (arith, nat_tests, ap (λ ns. length (slashed ns)) same, short) in
    exactly (names_of login (first ∷ names)) r
    (ap (λ b. cond b (Err TooLong) (judged_names (bytes_eq first login) names)) fits
    ∙ ap (λ o. judged_names o names) (sym own) ∙ ap (judged_names is_own) (sym same) ∙ sym is)

-- a first piece of a text stands for the login
own_piece : (login first : List ℕ) (is_own : Bool) → is_own ≡ (bytes_eq first (codes "~~") || bytes_eq first login) → is_own ≡ bytes_eq (cond (bytes_eq first (codes "~~")) login first) login
own_piece login first is_own is = is ∙ chosen (bytes_eq first (codes "~~"))
  where
    chosen : (b : Bool) → (b || bytes_eq first login) ≡ bytes_eq (cond b login first) login
    chosen true = sym ((bytes_eq-Decides login login).1 refl)
    chosen false = refl

-- names so far are the front of what is read, and this is what they leave of the room
pub record Taken (names : List (List ℕ)) (i : ℕ) (out : List (List ℕ)) (room : ℕ) : Type 0 where
  pub found : out ≡ take i names
  pub left : room + length (slashed out) ≡ LONGEST_PATH

module _ (names : List (List ℕ)) (i : ℕ) (out : List (List ℕ)) (room : ℕ) (w : Taken names i out room) where
  pub taken-short : length (slashed out) ≤ LONGEST_PATH
  taken-short = omega (arith, w.left)

  pub taken-all : length names ≤ i → out ≡ names
  taken-all end = w.found ∙ take_all i names end

  module _ (name : List ℕ) (within : i < length names) (here : get_or names i name ≡ name) where
    -- the names so far leave no room for the next
    pub taken-long : room ≤ length name → LONGEST_PATH < length (slashed names)
    taken-long over = too_long-at names i room name within (ap (λ ns. room + length (slashed ns)) (sym w.found) ∙ w.left) (omega (arith, over, ap length here))

    pub taken-one : length name < room → (more : List (List ℕ)) → more ≡ out ++ name ∷ [] → Taken names (i + 1) more (room - (length name + 1))
    taken-one fits more grown = record {
      found = grown ∙ ap (λ ns. ns ++ name ∷ []) w.found ∙ ap (λ x. take i names ++ x ∷ []) (sym here) ∙ sym (take_more names i name within);
      left = omega (
        arith,
        w.left,
        fits,
        ap (λ ns. length (slashed ns)) grown ∙ ap length (flat_map-append (λ c. slash ∷ c) out (name ∷ [])),
        length-append (slashed out) (slashed (name ∷ [])),
        length-append name [],
      );
    }

-- the piece at a place, as names have it
pub decoded-at : (pieces : List (Bor (List ℕ))) (i : ℕ) (d : Bor (List ℕ)) → i < length pieces
    → (i < length (map percent_decode (map (λ x. x.now) pieces))) × (get_or (map percent_decode (map (λ x. x.now) pieces)) i (percent_decode (get_or pieces i d).now) ≡ percent_decode (get_or pieces i d).now)
decoded-at pieces i d within =
    let one = length-map pieces (λ x. x.now) in
    let two = length-map (map (λ x. x.now) pieces) percent_decode in (
      omega (arith, within, one, two),
      get_or-map percent_decode (map (λ x. x.now) pieces) i [] (percent_decode (get_or pieces i d).now) (omega (arith, within, one)) ∙ ap percent_decode (get_or-map (λ x. x.now) pieces i d [] within),
    )

pub plain-at : (pieces : List (Bor (List ℕ))) (i : ℕ) (d : Bor (List ℕ)) → i < length pieces → (i < length (map (λ x. x.now) pieces)) × (get_or (map (λ x. x.now) pieces) i (get_or pieces i d).now ≡ (get_or pieces i d).now)
plain-at pieces i d within =
    let one = length-map pieces (λ x. x.now) in
    (omega (arith, within, one), get_or-map (λ x. x.now) pieces i d (get_or pieces i d).now within)

pub text-judged : (login : List ℕ) (pieces : List (Bor (List ℕ))) (d : Bor (List ℕ)) (items : List (List ℕ)) (is_own : Bool) (r : Result (List (List ℕ)) PathError) → 1 ≤ length pieces → items ≡ map (λ x. x.now) (take (length pieces - 1) (drop 1 pieces)) → length (slashed items) ≤ LONGEST_PATH
    → is_own ≡ (bytes_eq (get_or pieces 0 d).now (codes "~~") || bytes_eq (get_or pieces 0 d).now login) → r ≡ judged_names is_own items → IsUnlessMemory (names_of login (with_login login (map (λ x. x.now) pieces))) r
text-judged login [] d items is_own r some is short own judged = absurd (omega (arith, some))
text-judged login (p ∷ pieces) d items is_own r some is short own judged =
    short_names login (cond (bytes_eq p.now (codes "~~")) login p.now) (map (λ x. x.now) pieces) items is_own r (is ∙ ap (map (λ x. x.now)) (take_all (length (p ∷ pieces) - 1) pieces (omega arith))) short (own_piece login p.now is_own own) judged
