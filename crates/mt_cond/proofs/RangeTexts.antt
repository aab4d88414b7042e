-- A Range's value is read exactly: as the range that it writes.
use Rattle.std.proofs.Common.{◌≡◌, ℕ, suc, ◌+◌, ◌<◌, ◌≤◌, ◌↔◌, Bool, true, not, ◌&&◌, nat_eq, nat_le, nat_lt, List, [], ◌∷◌, ◌++◌, length, take, drop, get_or, codes, Option, Some, None, inl, inr, refl, sym, subst, ap, ◌∙◌, arith, add-one, drop-cons, lt-ltb, leb-true, le-leb, eqb-true}
use Rattle.std.proofs.lemmas.Bool.{and_parts, cases_Bool, cond-true, cond-false}
use Rattle.std.proofs.lemmas.Bool.Decides.{nat_tests}
use Rattle.std.proofs.lemmas.List.{length-append, take-append-drop}
use Rattle.std.proofs.lemmas.List.Quantifiers.{position-Some}
use Rattle.std.proofs.lemmas.Option.{none-some, option_and_then_some}
use Rattle.std.proofs.lemmas.Slice.Eq.{bytes_eq-Decides}
use Rattle.std.proofs.Math.Seq.{take-append_seam, drop-append-add}
use Rattle.std.specs.Char.{is_ascii_digit}
use Rattle.std.specs.Str.Parse.{digits_value}
use Rattle.std.specs.Option.{option_and_then, option_map}
use Rattle.std.specs.List.{list_all, list_any, position, position_or_len, starts_with}
use Rattle.mt_bytes.specs.Decimals.{decimal_number, is_decimal}
use Rattle.mt_types.specs.declared.object.Field.{Field}
use Rattle.mt_cond.proofs.Found.{option_map-Some}
use Rattle.mt_cond.specs.declared.range.Range.{Range}
use Rattle.mt_cond.specs.declared.range.Range.TheVariants.{Between, From, Last}
use Rattle.mt_types.specs.Fields.{first_value, is_named}
use Rattle.mt_cond.specs.Range.{AsksFor, WritesRange, in_order, is_hyphen, range_at, range_between, range_cut_at, range_in, range_text, range_written}

-- what has a number is a decimal
is_decimal-number : (text : List ℕ) (n : ℕ) → decimal_number text ≡ Some n → is_decimal text ≡ true
unfolding decimal_number
is_decimal-number text n e = elim (cases_Bool (is_decimal text)) [
  | inl is ↦ is
  | inr other ↦ absurd (none-some n (sym (cond-false (is_decimal text) (Some (digits_value 10 text)) None other) ∙ e))
]

digits_of : (text : List ℕ) (n : ℕ) → decimal_number text ≡ Some n → list_all is_ascii_digit text ≡ true
digits_of text n e = (and_parts (nat_le 1 (length text) && nat_le (length text) 19) (list_all is_ascii_digit text) (is_decimal-number text n e)).1

nothing_is_no_number : (n : ℕ) → decimal_number [] ≡ Some n → ⊥
unfolding decimal_number
nothing_is_no_number n e = none-some n e

-- a digit is no hyphen
digit_is_no_hyphen : (b : ℕ) → is_ascii_digit b ≡ true → not (is_hyphen b) ≡ true
digit_is_no_hyphen b e = grind (arith, nat_tests)

-- digits end at the first hyphen
hyphen_behind : (before behind : List ℕ) → list_all is_ascii_digit before ≡ true → position_or_len is_hyphen (before ++ (45 ∷ behind)) ≡ length before
hyphen_behind [] behind e = refl
hyphen_behind (b ∷ before) behind e =
    let parts = and_parts (is_ascii_digit b) (list_all is_ascii_digit before) e in
    let n : ℕ = position_or_len is_hyphen (before ++ (45 ∷ behind)) in
    let more : n ≡ length before = hyphen_behind before behind parts.1 in
    cond-true (not (is_hyphen b)) (1 + n) 0 (digit_is_no_hyphen b parts.0) ∙ omega (arith, more)

position-behind : (before behind : List ℕ) → list_all is_ascii_digit before ≡ true → position is_hyphen (before ++ (45 ∷ behind)) ≡ Some (length before)
position-behind before behind e =
    let ends : List ℕ = before ++ (45 ∷ behind) in
    let n : ℕ = position_or_len is_hyphen ends in
    let at : n ≡ length before = hyphen_behind before behind e in
    let within : n < length ends = omega (arith, at, length-append before (45 ∷ behind)) in
    cond-true (nat_lt n (length ends)) (Some n) None (lt-ltb n (length ends) within) ∙ ap Some at

-- both ends are found again
range_at-text : (before behind : List ℕ) → list_all is_ascii_digit before ≡ true → range_at (before ++ (45 ∷ behind)) ≡ range_between before behind
range_at-text before behind e =
    let ends : List ℕ = before ++ (45 ∷ behind) in
    ap (range_cut_at ends) (position-behind before behind e)
    ∙ ap (λ a. range_between a (drop (length before + 1) ends)) (take-append_seam before (45 ∷ behind))
    ∙ ap (range_between before) (drop-append-add before (45 ∷ behind) 1)

range_between-both : (before behind : List ℕ) (first last : ℕ) → decimal_number before ≡ Some first → decimal_number behind ≡ Some last → first ≤ last →
    range_between before behind ≡ Some (Between first last)
range_between-both [] behind first last one other order = absurd (nothing_is_no_number first one)
range_between-both (a ∷ before) [] first last one other order = absurd (nothing_is_no_number last other)
range_between-both (a ∷ before) (b ∷ behind) first last one other order =
    ap (λ o. in_order o (decimal_number (b ∷ behind))) one ∙ ap (in_order (Some first)) other
    ∙ cond-true (nat_le first last) (Some (Between first last)) None (le-leb first last order)

range_between-first : (before : List ℕ) (first : ℕ) → decimal_number before ≡ Some first → range_between before [] ≡ Some (From first)
range_between-first [] first one = absurd (nothing_is_no_number first one)
range_between-first (a ∷ before) first one = ap (option_map From) one

-- a value that writes a range is read as it
read_from_Writes : (range : Range) (value : List ℕ) → WritesRange range value → range_written value ≡ Some range
read_from_Writes (Between first last) value w =
    ap range_written w.2 ∙ range_at-text w.0 w.1 (digits_of w.0 first w.3) ∙ range_between-both w.0 w.1 first last w.3 w.4 w.5
read_from_Writes (From first) value w =
    ap range_written w.1 ∙ range_at-text w.0 [] (digits_of w.0 first w.2) ∙ range_between-first w.0 first w.2
read_from_Writes (Last count) value w =
    ap range_written w.1 ∙ range_at-text [] w.0 refl ∙ ap (option_map Last) w.2

in_order-Some : (one other : Option ℕ) (range : Range) → in_order one other ≡ Some range →
    (first : ℕ) × (last : ℕ) × (one ≡ Some first) × (other ≡ Some last) × (first ≤ last) × (Between first last ≡ range)
in_order-Some None other range e = absurd (none-some range e)
in_order-Some (Some first) None range e = absurd (none-some range e)
in_order-Some (Some first) (Some last) range e = elim (cases_Bool (nat_le first last)) [
  | inl below ↦
      let same : Some (Between first last) ≡ Some range = sym (cond-true (nat_le first last) (Some (Between first last)) None below) ∙ e in
      (first, last, refl, refl, leb-true first last below, cc)
  | inr above ↦ absurd (none-some range (sym (cond-false (nat_le first last) (Some (Between first last)) None above) ∙ e))
]

-- what stands around a hyphen, read as a range, writes it
WritesRange-from_between : (before behind : List ℕ) (range : Range) → range_between before behind ≡ Some range → WritesRange range (range_text before behind)
WritesRange-from_between [] behind range e =
    let found = option_map-Some Last (decimal_number behind) range e in
    subst (λ r. WritesRange r (range_text [] behind)) found.2 (behind, refl, found.1)
WritesRange-from_between (a ∷ before) [] range e =
    let found = option_map-Some From (decimal_number (a ∷ before)) range e in
    subst (λ r. WritesRange r (range_text (a ∷ before) [])) found.2 (a ∷ before, refl, found.1)
WritesRange-from_between (a ∷ before) (b ∷ behind) range e =
    let found = in_order-Some (decimal_number (a ∷ before)) (decimal_number (b ∷ behind)) range e in
    subst (λ r. WritesRange r (range_text (a ∷ before) (b ∷ behind))) found.5 (a ∷ before, b ∷ behind, refl, found.2, found.3, found.4)

-- the first hyphen cuts what is read
cut_at : (ends : List ℕ) (place : Option ℕ) (range : Range) → position is_hyphen ends ≡ place → range_cut_at ends place ≡ Some range →
    (before : List ℕ) × (behind : List ℕ) × (ends ≡ before ++ (45 ∷ behind)) × (range_between before behind ≡ Some range)
cut_at ends None range at e = absurd (none-some range e)
cut_at ends (Some i) range at e =
    let found = position-Some is_hyphen ends i 0 at in
    let here : drop i ends ≡ 45 ∷ drop (i + 1) ends = rw (add-one, drop-cons ends i 0 found.0) (ap (λ b. b ∷ drop (suc i) ends) (eqb-true (get_or ends i 0) 45 found.1)) in
    (take i ends, drop (i + 1) ends, sym (take-append-drop i ends) ∙ ap (λ rest. take i ends ++ rest) here, e)

-- a value that is read as a range writes it
WritesRange-from_read : (range : Range) (value : List ℕ) → range_written value ≡ Some range → WritesRange range value
WritesRange-from_read range value e = elim (cases_Bool (starts_with nat_eq value (codes "bytes="))) [
  | inl begins ↦
      let read : range_at (drop 6 value) ≡ Some range = sym (cond-true (starts_with nat_eq value (codes "bytes=")) (range_at (drop 6 value)) None begins) ∙ e in
      let cut = cut_at (drop 6 value) (position is_hyphen (drop 6 value)) range refl read in
      let front : codes "bytes=" ≡ take 6 value = (bytes_eq-Decides (codes "bytes=") (take 6 value)).0 begins in
      let whole : range_text cut.0 cut.1 ≡ value = ap (λ rest. codes "bytes=" ++ rest) (sym cut.2) ∙ ap (λ f. f ++ drop 6 value) front ∙ take-append-drop 6 value in
      subst (λ v. WritesRange range v) whole (WritesRange-from_between cut.0 cut.1 range cut.3)
  | inr other ↦ absurd (none-some range (sym (cond-false (starts_with nat_eq value (codes "bytes=")) (range_at (drop 6 value)) None other) ∙ e))
]

-- a message's fields are read as the range that they ask for
pub range_in-exact : (fields : List Field) (range : Range) → (range_in fields ≡ Some range) ↔ AsksFor fields range
unfolding range_in
range_in-exact fields range =
    let barred : Bool = list_any (is_named (codes "if-range")) fields in
    let read : Option Range = option_and_then range_written (first_value (codes "range") fields) in (
      λ e. elim (cases_Bool barred) [
        | inl beside ↦ absurd (none-some range (sym (cond-true barred None read beside) ∙ e))
        | inr plain ↦ option_and_then_some range_written (first_value (codes "range") fields) range (sym (cond-false barred None read plain) ∙ e)
            (λ value first written. record { plain = plain; value = value; first = first; written = WritesRange-from_read range value written })
      ],
      λ asks. cond-false barred None read asks.plain ∙ ap (option_and_then range_written) asks.first ∙ read_from_Writes range asks.value asks.written,
    )
