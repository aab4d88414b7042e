-- Reading from the front: the value that a field has and the bytes behind it, or none where no value is spelled so.
use Rattle.std.specs.Prelude.{◌≡◌, ℕ, zero, suc, Bool, List, [], ◌∷◌, length, take, drop, Option, Some, None, Result, Ok, Err, ⊤, nat_lt, ◌==◌, if◌then◌else◌}
use Rattle.std.specs.Int.{Width, byte_len, from_be_bytes}
use Rattle.mt_codec.specs.declared.error.DecodeError.{DecodeError}
use Rattle.mt_codec.specs.declared.error.DecodeError.TheVariants.{NotACommand, Memory}

abbrev pub Reader : Type 0 → Type 0
Reader A = List ℕ → Option (A × List ℕ)

infixl 10 ◌>>=◌
abbrev pub ◌>>=◌ : {A B : Type 0} → Option A → (A → Option B) → Option B
None >>= next = None
(Some x) >>= next = next x

-- what a reader of the program answered, with what it left, is what reading gives, unless memory is wanting
abbrev pub Gives : {A : Type 0} → Result A DecodeError → List ℕ → Option (A × List ℕ) → Type 0
Gives (Ok x) rest read = read ≡ Some (x, rest)
Gives (Err NotACommand) rest read = read ≡ None
Gives (Err Memory) rest read = ⊤

-- the same of what is made of bytes that were read
abbrev pub Makes : {A : Type 0} → Result A DecodeError → Option A → Type 0
Makes (Ok x) read = read ≡ Some x
Makes (Err NotACommand) read = read ≡ None
Makes (Err Memory) read = ⊤

-- the same of an answer that lends its value
abbrev pub Shows : {A B : Type 0} → (A → B) → Result A DecodeError → List ℕ → Option (B × List ℕ) → Type 0
Shows view (Ok x) rest read = read ≡ Some (view x, rest)
Shows view (Err NotACommand) rest read = read ≡ None
Shows view (Err Memory) rest read = ⊤

-- a field, and another behind it
infixl 20 ◌&◌
abbrev pub ◌&◌ : {A B : Type 0} → Reader A → Reader B → Reader (A × B)
(f & g) bytes = f bytes >>= λ x. g x.1 >>= λ y. Some ((x.0, y.0), y.1)

-- what is made of a field
abbrev pub made : {A B : Type 0} → (A → B) → Reader A → Reader B
made make f bytes = f bytes >>= λ x. Some (make x.0, x.1)

-- a field whose value passes a test
abbrev pub tested : {A : Type 0} → (A → Bool) → Reader A → Reader A
tested test f bytes = f bytes >>= λ x. if test x.0 then Some x else None

-- a field that stands for something
abbrev pub named : {A B : Type 0} → (A → Option B) → Reader A → Reader B
named name f bytes = f bytes >>= λ x. name x.0 >>= λ y. Some (y, x.1)

-- one field where the next byte is this one, else another
abbrev pub choice : {A : Type 0} → ℕ → Reader A → Reader A → Reader A
choice mark f g [] = None
choice mark f g (b ∷ bytes) = if b == mark then f bytes else g (b ∷ bytes)

-- no field
abbrev pub nothing : {A : Type 0} → Reader A
nothing bytes = None

abbrev pub byte_at : Reader ℕ
byte_at [] = None
byte_at (b ∷ bytes) = Some (b, bytes)

abbrev pub number_at : Width → Reader ℕ
number_at w bytes = if nat_lt (length bytes) (byte_len w) then None else Some (from_be_bytes w (take (byte_len w) bytes), drop (byte_len w) bytes)

-- so many bytes
abbrev pub bytes_at : ℕ → Reader (List ℕ)
bytes_at n bytes = if nat_lt (length bytes) n then None else Some (take n bytes, drop n bytes)

-- a length, and so many bytes
abbrev pub sized : Reader ℕ → Reader (List ℕ)
sized f bytes = f bytes >>= λ n. bytes_at n.0 n.1

-- so many fields
unfoldable pub times : {A : Type 0} → Reader A → ℕ → Reader (List A)
times f zero bytes = Some ([], bytes)
times f (suc n) bytes = f bytes >>= λ x. times f n x.1 >>= λ xs. Some (x.0 ∷ xs.0, xs.1)

-- a number, and so many fields
abbrev pub counted : {A : Type 0} → Reader ℕ → Reader A → Reader (List A)
counted number f bytes = number bytes >>= λ n. times f n.0 n.1

-- a flag, and the field where it is 1
abbrev pub optional : {A : Type 0} → Reader A → Reader (Option A)
optional f = choice 0 (λ bytes. Some (None, bytes)) (choice 1 (made (λ x. Some x) f) nothing)
