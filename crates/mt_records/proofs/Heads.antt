-- Heads: what is read was spelled, and what is spelled is read.
use Rattle.std.proofs.Common.{◌≡◌, ℕ, ◌<◌, ◌≤◌, ◌^◌, List, [], ◌∷◌, ◌++◌, length, Option, Some, None, refl, sym, ap, subst, ◌∙◌, arith}
use Rattle.std.specs.Prelude.{◌&&◌, IfSome}
use Rattle.std.specs.Int.{w32}
use Rattle.std.specs.Str.{is_utf8}
use Rattle.std.proofs.lemmas.Bool.{and_parts, and_from, leb-true}
use Rattle.std.proofs.lemmas.List.{append-nil, length-append}
use Rattle.mt_base.specs.Numbers.{big_endian_16, big_endian_32}
use Rattle.mt_codec.specs.Fields.{text_spelling, optional_spelling}
use Rattle.mt_codec.specs.Reading.{◌>>=◌, ◌&◌, made, choice, nothing, number_at, optional}
use Rattle.mt_codec.proofs.Options.{bind_some}
use Rattle.mt_codec.proofs.Forms.{IsBytes, IsForm, Took, same, said, both_form, made_again, variant_takes, choice_takes, nothing_takes, tested_form, sized_form, two_form, four_form, optional_form}
use Rattle.mt_records.specs.declared.head.RecordHead.{RecordHead}
use Rattle.mt_records.specs.declared.head.RecordHead.TheVariants.{Emit, Keep, Ref}
use Rattle.mt_records.specs.declared.limits.TheConstants.{LONGEST_TEXT, LONGEST_HEAD}
use Rattle.mt_records.specs.Heads.{IsHead, IsText, emit_at, emit_of, head_at, head_bytes, is_short, only, text_at, whole_head}

text_form : IsForm text_spelling IsText same text_at
text_form =
    said (tested_form (sized_form two_form) (λ t. is_short t && is_utf8 t) (λ t. refl))
    (λ t h. let p = and_parts (is_short t) (is_utf8 t) h.1 in (p.0, p.1))
    (λ t h. (omega (arith, leb-true (length t) LONGEST_TEXT h.0), and_from (is_short t) (is_utf8 t) h.0 h.1)) (λ t. refl)

emit_form : IsForm {A = Option (List ℕ) × Option ℕ} (λ p. optional_spelling text_spelling p.0 ++ optional_spelling big_endian_32 p.1)
    (λ p. IfSome p.0 IsText × IfSome p.1 (λ n. n < 2 ^ 32)) same (optional text_at & optional (number_at w32))
emit_form = both_form (optional_form text_form) (optional_form four_form)

abbrev keep_of : List ℕ → RecordHead
keep_of t = Keep t

abbrev ref_of : List ℕ → RecordHead
ref_of t = Ref t

abbrev HeadTook : List ℕ → RecordHead → List ℕ → Type 0
HeadTook = Took head_bytes IsHead same

head_takes : (bytes : List ℕ) (x : RecordHead) (rest : List ℕ) → IsBytes bytes → head_at bytes ≡ Some (x, rest) → HeadTook bytes x rest
unfolding head_at head_bytes
head_takes =
    choice_takes HeadTook 1 emit_at (choice 2 (made keep_of text_at) (choice 3 (made ref_of text_at) nothing))
    (variant_takes emit_form 1 emit_of head_bytes IsHead same (λ p h. refl) (λ p h. (h.0, h.1)) (λ p. refl))
    (choice_takes HeadTook 2 (made keep_of text_at) (choice 3 (made ref_of text_at) nothing)
    (variant_takes text_form 2 keep_of head_bytes IsHead same (λ t h. refl) (λ t h. h) (λ t. refl))
    (choice_takes HeadTook 3 (made ref_of text_at) nothing
    (variant_takes text_form 3 ref_of head_bytes IsHead same (λ t h. refl) (λ t h. h) (λ t. refl))
    (nothing_takes HeadTook)))

head_again : (x : RecordHead) (rest : List ℕ) → IsHead x → head_at (head_bytes x ++ rest) ≡ Some (x, rest)
unfolding head_at head_bytes
head_again (Emit place reducer) rest fits = made_again emit_form emit_of (place, reducer) rest (fits.0, fits.1)
head_again (Keep place) rest fits = made_again text_form keep_of place rest fits
head_again (Ref name) rest fits = made_again text_form ref_of name rest fits

only_all : (x : RecordHead) (left : List ℕ) (y : RecordHead) → only (x, left) ≡ Some y → (x ≡ y) × (left ≡ [])
only_all x [] y e = (cc, refl)
only_all x (b ∷ left) y e = absurd cc

-- a head that bytes are is spelled so
pub whole_takes : (bytes : List ℕ) (x : RecordHead) → IsBytes bytes → whole_head bytes ≡ Some x → (bytes ≡ head_bytes x) × IsHead x
unfolding whole_head
whole_takes bytes x fits e =
    let a = bind_some (head_at bytes) only x e in
    let o = only_all a.0.0 a.0.1 x a.2 in
    let t = head_takes bytes a.0.0 a.0.1 fits a.1 in
    let whole : bytes ≡ head_bytes a.0.0 = t.parts ∙ ap (λ (r : List ℕ). head_bytes a.0.0 ++ r) o.1 ∙ append-nil (head_bytes a.0.0) in
    subst (λ (h : RecordHead). (bytes ≡ head_bytes h) × IsHead h) o.0 (whole, t.fits)

pub whole_again : (x : RecordHead) → IsHead x → whole_head (head_bytes x) ≡ Some x
unfolding whole_head
whole_again x fits =
    let read : head_at (head_bytes x) ≡ Some (x, []) = ap head_at (sym (append-nil (head_bytes x))) ∙ head_again x [] fits in
    ap (λ (r : Option (RecordHead × List ℕ)). r >>= only) read

-- ---- how long heads are

text_len : (t : List ℕ) → IsText t → length (text_spelling t) ≤ 1202
text_len t h =
    let two : length (big_endian_16 (length t)) ≡ 2 = refl in
    omega (arith, length-append (big_endian_16 (length t)) t, two, leb-true (length t) LONGEST_TEXT h.0)

place_len : (o : Option (List ℕ)) → IfSome o IsText → length (optional_spelling text_spelling o) ≤ 1203
place_len None h = omega arith
place_len (Some t) h = omega (arith, text_len t h)

reducer_len : (o : Option ℕ) → length (optional_spelling big_endian_32 o) ≤ 5
reducer_len None = omega arith
reducer_len (Some n) =
    let four : length (big_endian_32 n) ≡ 4 = refl in
    omega (arith, four)

-- no head has more than 1,209 bytes
pub head_len : (x : RecordHead) → IsHead x → length (head_bytes x) ≤ LONGEST_HEAD
unfolding head_bytes
head_len (Emit place reducer) h =
    omega (arith, length-append (optional_spelling text_spelling place) (optional_spelling big_endian_32 reducer), place_len place h.0, reducer_len reducer)
head_len (Keep place) h = omega (arith, text_len place h)
head_len (Ref name) h = omega (arith, text_len name h)
