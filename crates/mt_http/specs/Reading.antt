-- What the steps of reading a head do: a byte, the head, its fields.
use Rattle.std.specs.Prelude.{◌≡◌, ℕ, ◌≤◌, ◌⊎◌, List, [], ◌∷◌, ◌++◌, length, Option, IfSome, IsUtf8}
use Rattle.std.specs.Str.{str_to_ascii_lowercase}
use Rattle.httparse.specs.declared.spans.HeaderSpan.{HeaderSpan}
use Rattle.httparse.specs.Ascii.{carriage_return}
use Rattle.httparse.specs.Grammar.{print_blank, LineEnd}
use Rattle.httparse.specs.Spans.{span_bytes}
use Rattle.mt_base.specs.Counts.{Rose, NeverFell}
use Rattle.mt_edge.specs.Stream.{LeftAfter}
use Rattle.mt_types.specs.declared.object.Field.{Field}
use Rattle.mt_http.specs.declared.head.Taken.{Taken}
use Rattle.mt_http.specs.declared.head.Taken.TheVariants as taken
use Rattle.mt_http.specs.declared.head.HeadRead.{HeadRead}
use Rattle.mt_http.specs.declared.head.HeadRead.TheVariants as head_read
use Rattle.mt_http.specs.Framing.{head_limit, BeginsWithEmptyLine, EndsWithEmptyLine, IsHead, End, EndsInHead, HasLongHead, PlaceAt}

-- the first bytes of a head that is not whole yet
pub record IsHeadFront (bytes : List ℕ) : Type 0 where
  pub begins : ¬ (BeginsWithEmptyLine bytes)
  pub open_yet : (front more : List ℕ) → bytes ≡ front ++ more → ¬ (EndsWithEmptyLine front)

-- one more byte of a head: it may make an empty line that stands before the head
abbrev pub TakesByte : List ℕ → ℕ → Taken → List ℕ → Type 0
TakesByte old b taken.More new = (lines : List LineEnd) × (old ++ b ∷ [] ≡ print_blank lines ++ new) × IsHeadFront new
TakesByte old b taken.Whole new = (new ≡ old ++ b ∷ []) × IsHead new
TakesByte old b taken.Memory new = Unit {0}

-- one more piece of a line of a head: it may end an empty line that stands before the head
abbrev pub TakesPiece : List ℕ → List ℕ → Taken → List ℕ → Type 0
TakesPiece old piece taken.More new = (lines : List LineEnd) × (old ++ piece ≡ print_blank lines ++ new) × IsHeadFront new
TakesPiece old piece taken.Whole new = (new ≡ old ++ piece) × IsHead new
TakesPiece old piece taken.Memory new = Unit {0}

-- nothing, or the CR that an empty line may begin with
abbrev pub IsLineFront : List ℕ → Type 0
IsLineFront bytes = (bytes ≡ []) ⊎ (bytes ≡ carriage_return ∷ [])

-- a source that ended after these bytes of a head
abbrev pub EndsAfter : List ℕ → HeadRead → Type 0
EndsAfter head head_read.End = IsLineFront head
EndsAfter head head_read.Truncated = ¬ (IsLineFront head)
EndsAfter head (head_read.Whole bytes) = ⊥
EndsAfter head head_read.TooLong = ⊥
EndsAfter head head_read.SourceFault = ⊥
EndsAfter head head_read.Memory = ⊥

-- a head and the empty lines before it, within the limit
pub record IsRead (lines : List LineEnd) (head : List ℕ) : Type 0 where
  pub whole : IsHead head
  pub small : length (print_blank lines ++ head) ≤ head_limit

-- a head, and the empty lines before it
abbrev pub ReadsHead : Option (List ℕ) → ℕ → HeadRead → Option (List ℕ) → ℕ → Type 0
ReadsHead left faults (head_read.Whole head) left' faults' = ((lines : List LineEnd) × LeftAfter left (print_blank lines ++ head.items) left' × IsRead lines head.items) × NeverFell faults faults'
ReadsHead left faults head_read.End left' faults' = IfSome left (λ bytes. PlaceAt bytes End) × NeverFell faults faults'
ReadsHead left faults head_read.Truncated left' faults' = IfSome left EndsInHead × NeverFell faults faults'
ReadsHead left faults head_read.TooLong left' faults' = IfSome left HasLongHead × NeverFell faults faults'
ReadsHead left faults head_read.SourceFault left' faults' = Rose faults faults'
ReadsHead left faults head_read.Memory left' faults' = NeverFell faults faults'

-- the span's name is text
abbrev pub IsNamed : List ℕ → HeaderSpan → Type 0
IsNamed head span = IsUtf8 (span_bytes head span.name)

-- the field that the spans cover
abbrev pub field_at : List ℕ → HeaderSpan → Field
field_at head span = record { name = str_to_ascii_lowercase (span_bytes head span.name); value = span_bytes head span.value }
