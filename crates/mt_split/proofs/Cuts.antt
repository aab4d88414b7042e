-- Lines and fields, from the front.
use Rattle.std.proofs.Common.{◌≡◌, ℕ, zero, suc, ◌+◌, ◌-◌, ◌<◌, ◌≤◌, List, [], ◌∷◌, ◌++◌, length, get_or, take, drop, refl, ap, sym, ◌∙◌, arith, add-one, subst, ◌⊎◌, inl, inr}
use Rattle.std.proofs.Math.Seq.{take-length, drop-length}
use Rattle.std.proofs.lemmas.Bool.{cases_lt}
use Rattle.std.proofs.lemmas.Bool.{eq-eqb, ne_eqb}
use Rattle.mt_split.specs.Partition.{before_first, lines_of, fields_of, content}

-- no byte in front of this place is that one
pub record NoneBefore (byte : ℕ) (bytes : List ℕ) (place : ℕ) : Type 0 where
  pub none : (k : ℕ) → k < place → get_or bytes k 0 ≡ byte → ⊥

rest_none : (byte b : ℕ) (bytes : List ℕ) (place : ℕ) → NoneBefore byte (b ∷ bytes) (suc place) → NoneBefore byte bytes place
rest_none byte b bytes place h = record { none = λ k below. h.none (suc k) (omega arith) }

first_other : (byte b : ℕ) (bytes : List ℕ) (place : ℕ) → NoneBefore byte (b ∷ bytes) (suc place) → b ≡ byte → ⊥
first_other byte b bytes place h = h.none 0 (omega arith)

-- a field ends at the first delimiter
fields-suc : (d : ℕ) (bytes : List ℕ) (place : ℕ) → NoneBefore d bytes place → place < length bytes → get_or bytes place 0 ≡ d
    → fields_of d bytes ≡ take place bytes ∷ fields_of d (drop (suc place) bytes)
unfolding fields_of
fields-suc d [] place none within found = absurd (omega arith)
fields-suc d (b ∷ bytes) zero none within found = rw (eq-eqb b d found) refl
fields-suc d (b ∷ bytes) (suc place) none within found =
    rw (ne_eqb b d (first_other d b bytes place none)) (ap (before_first b) (fields-suc d bytes place (rest_none d b bytes place none) (omega arith) found))

pub fields-found : (d : ℕ) (bytes : List ℕ) (place : ℕ) → NoneBefore d bytes place → place < length bytes → get_or bytes place 0 ≡ d
    → fields_of d bytes ≡ take place bytes ∷ fields_of d (drop (place + 1) bytes)
fields-found d bytes place none within found = rw add-one (fields-suc d bytes place none within found)

-- without a delimiter there is one field
pub fields-none : (d : ℕ) (bytes : List ℕ) → NoneBefore d bytes (length bytes) → fields_of d bytes ≡ bytes ∷ []
unfolding fields_of
fields-none d [] none = refl
fields-none d (b ∷ bytes) none =
    rw (ne_eqb b d (first_other d b bytes (length bytes) none)) (ap (before_first b) (fields-none d bytes (rest_none d b bytes (length bytes) none)))

-- a line ends with the first line feed
lines-suc : (bytes : List ℕ) (place : ℕ) → NoneBefore 10 bytes place → place < length bytes → get_or bytes place 0 ≡ 10
    → lines_of bytes ≡ take (suc place) bytes ∷ lines_of (drop (suc place) bytes)
unfolding lines_of
lines-suc [] place none within found = absurd (omega arith)
lines-suc (b ∷ bytes) zero none within found = rw (eq-eqb b 10 found) refl
lines-suc (b ∷ bytes) (suc place) none within found =
    rw (ne_eqb b 10 (first_other 10 b bytes place none)) (ap (before_first b) (lines-suc bytes place (rest_none 10 b bytes place none) (omega arith) found))

pub lines-found : (bytes : List ℕ) (place : ℕ) → NoneBefore 10 bytes place → place < length bytes → get_or bytes place 0 ≡ 10
    → lines_of bytes ≡ take (place + 1) bytes ∷ lines_of (drop (place + 1) bytes)
lines-found bytes place none within found = rw add-one (lines-suc bytes place none within found)

pub lines-empty : lines_of [] ≡ []
unfolding lines_of
lines-empty = refl

-- without a line feed there is one line
lines_one : (b : ℕ) (bytes : List ℕ) → NoneBefore 10 (b ∷ bytes) (length (b ∷ bytes)) → lines_of (b ∷ bytes) ≡ (b ∷ bytes) ∷ []
unfolding lines_of
lines_one b [] none = rw (ne_eqb b 10 (first_other 10 b [] 0 none)) refl
lines_one b (a ∷ bytes) none =
    rw (ne_eqb b 10 (first_other 10 b (a ∷ bytes) (length (a ∷ bytes)) none)) (ap (before_first b) (lines_one a bytes (rest_none 10 b (a ∷ bytes) (length (a ∷ bytes)) none)))

pub lines-none : (bytes : List ℕ) → 0 < length bytes → NoneBefore 10 bytes (length bytes) → lines_of bytes ≡ bytes ∷ []
lines-none [] some none = absurd (omega arith)
lines-none (b ∷ bytes) some none = lines_one b bytes none

-- a line that ends otherwise is its own content
pub content-other : (line : List ℕ) → (get_or line (length line - 1) 0 ≡ 10 → ⊥) → content line ≡ line
unfolding content
content-other line other = rw (ne_eqb _ _ other) refl

pub content-empty : (line : List ℕ) → length line ≤ 0 → content line ≡ line
unfolding content
content-empty [] none = refl
content-empty (b ∷ bytes) none = absurd (omega arith)

-- behind a delimiter the fields are those but the first
pub next_field : (d : ℕ) (bytes : List ℕ) (place more : ℕ) → NoneBefore d bytes place → place < length bytes → get_or bytes place 0 ≡ d
    → get_or (fields_of d (drop (place + 1) bytes)) more [] ≡ get_or (fields_of d bytes) (suc more) []
next_field d bytes place more none within found = sym (ap (λ (fields : List (List ℕ)). get_or fields (suc more) []) (fields-found d bytes place none within found))

-- the first field ends at the first delimiter, or is all
pub first_field : (d : ℕ) (bytes : List ℕ) (place : ℕ) → NoneBefore d bytes place → place ≤ length bytes → (place < length bytes → get_or bytes place 0 ≡ d)
    → take place bytes ≡ get_or (fields_of d bytes) 0 []
first_field d bytes place none within found =
    elim (cases_lt place (length bytes)) [
      | inl below ↦ sym (ap (λ (fields : List (List ℕ)). get_or fields 0 []) (fields-found d bytes place none below (found below)))
      | inr above ↦
          let whole : place ≡ length bytes = omega arith in
          rw (whole, take-length) (sym (ap (λ (fields : List (List ℕ)). get_or fields 0 []) (fields-none d bytes (subst (NoneBefore d bytes) whole none))))
    ]

-- where no delimiter stands there is no second field
pub no_field : (d : ℕ) (bytes : List ℕ) (place more : ℕ) → NoneBefore d bytes place → place ≡ length bytes → [] ≡ get_or (fields_of d bytes) (suc more) []
no_field d bytes place more none whole = sym (ap (λ (fields : List (List ℕ)). get_or fields (suc more) []) (fields-none d bytes (subst (NoneBefore d bytes) whole none)))

-- the first line ends with the first line feed, or is all
pub first_line : (text : List ℕ) (place : ℕ) → NoneBefore 10 text place → place ≤ length text → 0 < length text → (place ≡ length text) → lines_of text ≡ take place text ∷ lines_of (drop place text)
first_line text place none within some whole =
    rw (whole, take-length, drop-length) (lines-none text some (subst (NoneBefore 10 text) whole none) ∙ ap (λ (lines : List (List ℕ)). text ∷ lines) (sym lines-empty))
