-- The front of a record: what it asks for. How it is spelled, and how it is read.
use Rattle.std.specs.Prelude.{◌≡◌, ℕ, ◌<◌, ◌^◌, Bool, true, false, nat_le, ⊤, IsTrue, List, [], ◌∷◌, ◌++◌, length, take, Option, Some, None, IfSome, Result, Ok, Err, if◌then◌else◌}
use Rattle.std.specs.Int.{w16, w32}
use Rattle.std.specs.Str.{is_utf8}
use Rattle.mt_base.specs.Numbers.{big_endian_32}
use Rattle.mt_codec.specs.Fields.{text_spelling, optional_spelling}
use Rattle.mt_codec.specs.Reading.{◌>>=◌, ◌&◌, Reader, made, choice, nothing, number_at, optional, sized}
use Rattle.mt_codec.specs.Readers.{texts}
use Rattle.mt_records.specs.declared.head.RecordHead.{RecordHead}
use Rattle.mt_records.specs.declared.head.RecordHead.TheVariants.{Emit, Keep, Ref}
use Rattle.mt_records.specs.declared.error.RecordError.{RecordError}
use Rattle.mt_records.specs.declared.error.RecordError.TheVariants.{Torn, Malformed, Memory}
use Rattle.mt_records.specs.declared.limits.TheConstants.{LONGEST_TEXT, LONGEST_HEAD}

-- a place or a name has at most 1,200 bytes
abbrev pub is_short : List ℕ → Bool
is_short t = nat_le (length t) LONGEST_TEXT

-- an emit is a 1, a keep a 2, a ref a 3; its fields stand behind it
unfoldable pub head_bytes : RecordHead → List ℕ
head_bytes (Emit place reducer) = 1 ∷ (optional_spelling text_spelling place ++ optional_spelling big_endian_32 reducer)
head_bytes (Keep place) = 2 ∷ text_spelling place
head_bytes (Ref name) = 3 ∷ text_spelling name

-- its texts are short enough
abbrev pub IsShort : RecordHead → Type 0
IsShort (Emit place reducer) = IfSome place (λ t. IsTrue (is_short t))
IsShort (Keep place) = IsTrue (is_short place)
IsShort (Ref name) = IsTrue (is_short name)

-- a short text of UTF-8
abbrev pub IsText : List ℕ → Type 0
IsText t = IsTrue (is_short t) × IsTrue (is_utf8 t)

-- its texts are texts, and its reducer has four bytes
abbrev pub IsHead : RecordHead → Type 0
IsHead (Emit place reducer) = IfSome place IsText × IfSome reducer (λ n. n < 2 ^ 32)
IsHead (Keep place) = IsText place
IsHead (Ref name) = IsText name

-- an object is made, so bytes stand behind it
abbrev pub has_body : RecordHead → Bool
has_body (Emit place reducer) = true
has_body (Keep place) = true
has_body (Ref name) = false

-- it makes an output
abbrev pub is_output : RecordHead → Bool
is_output (Emit place reducer) = true
is_output (Keep place) = false
is_output (Ref name) = true

-- ---- reading

abbrev pub text_at : Reader (List ℕ)
text_at = texts is_short (sized (number_at w16))

abbrev pub emit_of : Option (List ℕ) × Option ℕ → RecordHead
emit_of p = Emit p.0 p.1

abbrev pub emit_at : Reader RecordHead
emit_at = made emit_of (optional text_at & optional (number_at w32))

unfoldable pub head_at : Reader RecordHead
head_at = choice 1 emit_at (choice 2 (made (λ t. Keep t) text_at) (choice 3 (made (λ t. Ref t) text_at) nothing))

-- nothing stands behind it
abbrev pub only : RecordHead × List ℕ → Option RecordHead
only (head, []) = Some head
only (head, b ∷ bytes) = None

-- the head that bytes are, each of them
unfoldable pub whole_head : List ℕ → Option RecordHead
whole_head bytes = head_at bytes >>= only

-- the head that these first bytes are; no head has more than 1,209
abbrev pub head_in_front : ℕ → List ℕ → Option RecordHead
head_in_front n bytes = if nat_le n LONGEST_HEAD then whole_head (take n bytes) else None

-- ---- answers of the program

-- what a reader of the program answered, with what it left, is what reading gives, unless memory is wanting
abbrev pub Gives : {A : Type 0} → Result A RecordError → List ℕ → Option (A × List ℕ) → Type 0
Gives (Ok x) rest read = read ≡ Some (x, rest)
Gives (Err Malformed) rest read = read ≡ None
Gives (Err Memory) rest read = ⊤
Gives (Err Torn) rest read = ⊥

-- the same of an answer that lends its value
abbrev pub Shows : {A B : Type 0} → (A → B) → Result A RecordError → List ℕ → Option (B × List ℕ) → Type 0
Shows view (Ok x) rest read = read ≡ Some (view x, rest)
Shows view (Err Malformed) rest read = read ≡ None
Shows view (Err Memory) rest read = ⊤
Shows view (Err Torn) rest read = ⊥

-- the same of what is made of bytes that were read
abbrev pub Makes : {A : Type 0} → Result A RecordError → Option A → Type 0
Makes (Ok x) read = read ≡ Some x
Makes (Err Malformed) read = read ≡ None
Makes (Err Memory) read = ⊤
Makes (Err Torn) read = ⊥
