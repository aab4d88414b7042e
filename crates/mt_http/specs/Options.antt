-- What a request's head asks for: the interim reply, and that the connection closes.
use Rattle.std.specs.Prelude.{ℕ, Bool, true, false, ◌&&◌, ◌||◌, ◌==◌, nat_lt, nat_le, bytes_eq, List, [], codes, Option, Some, None, if◌then◌else◌}
use Rattle.std.specs.List.{list_any, slice_split}
use Rattle.std.specs.Str.{str_to_ascii_lowercase}
use Rattle.mt_http.specs.Framing.{limit_of}
use Rattle.mt_base.specs.Blanks.{trimmed}
use Rattle.mt_types.specs.Fields.{first_value, is_named}
use Rattle.mt_http.specs.declared.framing.Framing.{Framing}
use Rattle.mt_http.specs.declared.framing.Framing.TheVariants.{Empty, Length, Chunked}
use Rattle.mt_types.specs.declared.object.Field.{Field}
use Rattle.mt_http.specs.declared.message.Head.{Head}

-- a body comes, and its length is not known to be above the limit
abbrev pub has_body : Framing → ℕ → Bool
has_body Empty limit = false
has_body (Length n) limit = nat_lt 0 n && nat_le n limit
has_body Chunked limit = true

-- the value of an Expect field is `100-continue`, in any case
abbrev pub is_continue : Option (List ℕ) → Bool
is_continue None = false
is_continue (Some value) = bytes_eq (str_to_ascii_lowercase value) (codes "100-continue")

-- the first Expect field says so
abbrev pub asks_to_continue : List Field → Bool
asks_to_continue fields = is_continue (first_value (codes "expect") fields)

-- the interim reply is written before the body is read (RFC 9110, section 10.1.1)
abbrev pub wants_interim : Head → Bool
wants_interim head = (head.minor == 1) && asks_to_continue head.fields && has_body head.framing (limit_of head)

-- the interim reply (RFC 9110, section 15.2.1)
abbrev pub interim_line : List ℕ
interim_line = codes "HTTP/1.1 100 Continue\r\n\r\n"

-- the interim reply, if one is written
abbrev pub interim : Head → List ℕ
interim head = if wants_interim head then interim_line else []

-- `close` in any case, among blanks
abbrev pub says_close : List ℕ → Bool
says_close word = bytes_eq (str_to_ascii_lowercase (trimmed word)) (codes "close")

-- `close` is among the words between commas
abbrev pub has_close : List ℕ → Bool
has_close value = list_any says_close (slice_split (λ b. b == 44) value)

-- a Connection field with `close` among its words (RFC 9110, section 7.6.1)
abbrev pub asks_to_close : Field → Bool
asks_to_close f = is_named (codes "connection") f && has_close f.value

-- no message follows one with this minor version and these fields on its connection
abbrev pub closes : ℕ → List Field → Bool
closes minor fields = (minor == 0) || list_any asks_to_close fields
