-- A piece of a list is read exactly: as the tag that it writes.
use Rattle.std.proofs.Common.{◌≡◌, ℕ, suc, ◌+◌, ◌-◌, ◌^◌, ◌<◌, ◌↔◌, Bool, true, false, ◌&&◌, nat_eq, nat_le, List, [], ◌∷◌, ◌++◌, length, take, drop, slice_range, All, codes, Option, Some, inl, inr, refl, sym, subst, ap, ◌∙◌, arith, le-leb, bytes_eq}
use Rattle.std.proofs.lemmas.Bool.{and_parts, and_from, cases_Bool, cond-true, cond-false, false_from_ne_true, false≢true}
use Rattle.std.proofs.lemmas.Bool.Decides.{nat_tests}
use Rattle.std.proofs.lemmas.List.{length-append, take-append-drop}
use Rattle.std.proofs.lemmas.Slice.Eq.{bytes_eq-Decides}
use Rattle.std.proofs.Math.Seq.{take-append_seam, drop-append_seam}
use Rattle.std.specs.List.{ends_with, starts_with}
use Rattle.std.specs.Option.{option_map}
use Rattle.mt_ident.specs.Identifiers.{IsIdentifierByte, identifier_number, identifier_text}
use Rattle.mt_ident.proofs.IdentifierTexts.{bytes_of-identifier_text, identifier_number-read, identifier_number-written}
use Rattle.mt_cond.specs.declared.tags.Tag.{Tag}
use Rattle.mt_cond.specs.Tags.{ShowsEtag, WritesTag, mark, object_tag, quote, tag_of, unquoted}
use Rattle.mt_cond.proofs.Found.{option_map-Some}

-- whether a pair of double quotes stands around a text
abbrev is_quoted : List ℕ → Bool
is_quoted text = nat_le 2 (length text) && starts_with nat_eq text quote && ends_with nat_eq text quote

-- what stands between the quotes
abbrev inside : List ℕ → List ℕ
inside text = slice_range text 1 (length text - 1)

-- a text in quotes is the quotes and what stands between
quoted_is : (text : List ℕ) → is_quoted text ≡ true → text ≡ quote ++ (inside text ++ quote)
quoted_is [] e = cc
quoted_is (x ∷ []) e = cc
quoted_is (x ∷ y ∷ more) e =
    let text : List ℕ = x ∷ y ∷ more in
    let ends = and_parts (nat_le 2 (length text) && starts_with nat_eq text quote) (ends_with nat_eq text quote) e in
    let begins = and_parts (nat_le 2 (length text)) (starts_with nat_eq text quote) ends.0 in
    let first : quote ≡ take 1 text = (bytes_eq-Decides quote (take 1 text)).0 begins.1 in
    let last : quote ≡ drop (length text - 1) text = (bytes_eq-Decides quote (drop (length text - 1) text)).0 ends.1 in
    let count : length text - 1 ≡ suc (length more) = omega arith in
    let fewer : length text - 1 - 1 ≡ length more = omega arith in
    let between : inside text ≡ take (length more) (y ∷ more) = ap (λ n. take n (y ∷ more)) fewer in
    let head : x ≡ 34 = cc in
    sym (take-append-drop (length text - 1) text)
    ∙ ap (λ l. take (length text - 1) text ++ l) (sym last)
    ∙ ap (λ n. take n text ++ quote) count
    ∙ ap (λ b. (b ∷ take (length more) (y ∷ more)) ++ quote) head
    ∙ ap (λ l. quote ++ (l ++ quote)) (sym between)

-- a text that is an etag without its quotes shows the etag
ShowsEtag-from_unquoted : (number : ℕ) (text : List ℕ) → unquoted text ≡ identifier_text 1 number → ShowsEtag number text
ShowsEtag-from_unquoted number text e = elim (cases_Bool (is_quoted text)) [
  | inl around ↦
      let between : inside text ≡ identifier_text 1 number = sym (cond-true (is_quoted text) (inside text) text around) ∙ e in
      inr (quoted_is text around ∙ ap (λ l. quote ++ (l ++ quote)) between)
  | inr bare ↦ inl (sym (cond-false (is_quoted text) (inside text) text bare) ∙ e)
]

-- a pair of quotes is taken off
unquoted-quoted : (text : List ℕ) → unquoted (quote ++ (text ++ quote)) ≡ text
unquoted-quoted text =
    let whole : List ℕ = quote ++ (text ++ quote) in
    let count : length whole ≡ length text + 2 = omega (arith, length-append text quote) in
    let last : drop (length whole - 1) whole ≡ quote =
    ap (λ n. drop n whole) (let e : length whole - 1 ≡ suc (length text) = omega arith in e) ∙ drop-append_seam text quote in
    let long : nat_le 2 (length whole) ≡ true = le-leb 2 (length whole) (omega arith) in
    let ends : ends_with nat_eq whole quote ≡ true = (bytes_eq-Decides quote (drop (length whole - 1) whole)).1 (sym last) in
    let around : is_quoted whole ≡ true = and_from (nat_le 2 (length whole) && true) (ends_with nat_eq whole quote) (and_from (nat_le 2 (length whole)) true long refl) ends in
    let fewer : length whole - 1 - 1 ≡ length text = omega arith in
    cond-true (is_quoted whole) (inside whole) whole around ∙ ap (λ n. take n (text ++ quote)) fewer ∙ take-append_seam text quote

-- an identifier begins with neither a quote nor a `W`
identifier_byte_is : (b : ℕ) → IsIdentifierByte b → (nat_eq 34 b ≡ false) × (nat_eq 87 b ≡ false)
identifier_byte_is b is = elim is [
  | inl hyphen ↦ (grind (arith, nat_tests), grind (arith, nat_tests))
  | inr other ↦ elim other [
    | inl digit ↦ (grind (arith, nat_tests), grind (arith, nat_tests))
    | inr letter ↦ (grind (arith, nat_tests), grind (arith, nat_tests))
  ]
]

begins_with_none : (text : List ℕ) (c : ℕ) (more : List ℕ) → All IsIdentifierByte text → ((b : ℕ) → IsIdentifierByte b → nat_eq c b ≡ false) →
    starts_with nat_eq text (c ∷ more) ≡ false
begins_with_none [] c more all none = refl
begins_with_none (b ∷ text) c more all none = ap (λ t. t && bytes_eq more (take (length more) text)) (none b (all 0 b (omega arith)))

-- an etag is in no quotes
etag_is_bare : (number : ℕ) → is_quoted (identifier_text 1 number) ≡ false
etag_is_bare number =
    let etag : List ℕ = identifier_text 1 number in
    let none : starts_with nat_eq etag quote ≡ false = begins_with_none etag 34 [] (bytes_of-identifier_text 1 number) (λ b is. (identifier_byte_is b is).0) in
    false_from_ne_true (is_quoted etag) (λ e.
    let front = and_parts (nat_le 2 (length etag) && starts_with nat_eq etag quote) (ends_with nat_eq etag quote) e in
    false≢true (sym none ∙ (and_parts (nat_le 2 (length etag)) (starts_with nat_eq etag quote) front.0).1))

-- what stands for an etag is read as it
unquoted-ShowsEtag : (number : ℕ) (text : List ℕ) → ShowsEtag number text → unquoted text ≡ identifier_text 1 number
unquoted-ShowsEtag number text shown = elim shown [
  | inl bare ↦ ap unquoted bare ∙ cond-false (is_quoted (identifier_text 1 number)) (inside (identifier_text 1 number)) (identifier_text 1 number) (etag_is_bare number)
  | inr quoted ↦ ap unquoted quoted ∙ unquoted-quoted (identifier_text 1 number)
]

-- and begins with no `W/`
begins_unmarked : (number : ℕ) (text : List ℕ) → ShowsEtag number text → starts_with nat_eq text (codes "W/") ≡ false
begins_unmarked number text shown = elim shown [
  | inl bare ↦ ap (λ t. starts_with nat_eq t (codes "W/")) bare
      ∙ begins_with_none (identifier_text 1 number) 87 (47 ∷ []) (bytes_of-identifier_text 1 number) (λ b is. (identifier_byte_is b is).1)
  | inr quoted ↦ ap (λ t. starts_with nat_eq t (codes "W/")) quoted
]

object_tag-shown : (weak : Bool) (number : ℕ) (text : List ℕ) → number < 2 ^ 62 → ShowsEtag number text → object_tag weak text ≡ Some (record { number = number; weak = weak })
object_tag-shown weak number text small shown =
    let named : identifier_number 1 (unquoted text) ≡ Some number = identifier_number-written 1 number (unquoted text)
    (record { known = (omega arith, omega arith); small = small; written = unquoted-ShowsEtag number text shown }) in
    ap (option_map (λ n. record { number = n; weak = weak })) named

WritesTag-from_object : (weak : Bool) (text : List ℕ) (t : Tag) → object_tag weak text ≡ Some t → WritesTag (mark weak ++ text) t
WritesTag-from_object weak text t e =
    let tag_with = λ (n : ℕ). let made : Tag = record { number = n; weak = weak } in made in
    let found = option_map-Some tag_with (identifier_number 1 (unquoted text)) t e in
    let is = identifier_number-read 1 found.0 (unquoted text) found.1 in
    subst (λ u. WritesTag (mark weak ++ text) u) found.2
    (record { small = is.small; text = text; shown = ShowsEtag-from_unquoted found.0 text is.written; written = refl })

tag_of-written : (piece : List ℕ) (weak : Bool) (number : ℕ) (text : List ℕ) → number < 2 ^ 62 → ShowsEtag number text → piece ≡ mark weak ++ text →
    tag_of piece ≡ Some (record { number = number; weak = weak })
tag_of-written piece true number text small shown e = ap tag_of e ∙ object_tag-shown true number text small shown
tag_of-written piece false number text small shown e =
    ap tag_of e ∙ cond-false (starts_with nat_eq text (codes "W/")) (object_tag true (drop 2 text)) (object_tag false text) (begins_unmarked number text shown)
    ∙ object_tag-shown false number text small shown

WritesTag-read : (piece : List ℕ) (t : Tag) → tag_of piece ≡ Some t → WritesTag piece t
WritesTag-read piece t e =
    let marked : Option Tag = object_tag true (drop 2 piece) in
    elim (cases_Bool (starts_with nat_eq piece (codes "W/"))) [
      | inl begins ↦
          let front : codes "W/" ≡ take 2 piece = (bytes_eq-Decides (codes "W/") (take 2 piece)).0 begins in
          let whole : mark true ++ drop 2 piece ≡ piece = ap (λ f. f ++ drop 2 piece) front ∙ take-append-drop 2 piece in
          subst (λ p. WritesTag p t) whole
          (WritesTag-from_object true (drop 2 piece) t (sym (cond-true (starts_with nat_eq piece (codes "W/")) marked (object_tag false piece) begins) ∙ e))
      | inr other ↦ WritesTag-from_object false piece t (sym (cond-false (starts_with nat_eq piece (codes "W/")) marked (object_tag false piece) other) ∙ e)
    ]

pub tag_of-exact : (piece : List ℕ) (t : Tag) → (tag_of piece ≡ Some t) ↔ WritesTag piece t
tag_of-exact piece t = (WritesTag-read piece t, λ w. tag_of-written piece t.weak t.number w.text w.small w.shown w.written)
