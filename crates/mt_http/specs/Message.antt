-- What a request head says: its fields, and how the length of the body is told (RFC 9112, section 6).
use Rattle.std.specs.Prelude.{◌≡◌, ℕ, bytes_eq, codes, if◌then◌else◌, List, [], ◌∷◌, map, reverse, Option, Some, None, option_map}
use Rattle.std.specs.Str.{str_to_ascii_lowercase}
use Rattle.httparse.specs.Grammar.{AllPass, IsToken, RequestHead, field_value, is_value_byte, skip_ows}
use Rattle.httparse.specs.Grammar as grammar
use Rattle.mt_bytes.specs.Decimals.{decimal_number}
use Rattle.mt_types.specs.Fields.{values_of}
use Rattle.mt_types.specs.declared.object.Field.{Field}
use Rattle.mt_http.specs.declared.message.Head.{Head}
use Rattle.mt_http.specs.declared.message.Message.{Message}
use Rattle.mt_http.specs.declared.framing.Framing.{Framing}
use Rattle.mt_http.specs.declared.framing.Framing.TheVariants.{Empty, Length, Chunked}

-- a field line as a message has it: the name in lower case, the value without the blanks around it
abbrev pub field_of : grammar.Field → Field
field_of line = record { name = str_to_ascii_lowercase line.name; value = field_value line }

-- the fields of a head, in order
abbrev pub fields_of : RequestHead → List Field
fields_of h = map field_of h.fields

-- a field as a head has it: the name is a token in lower case; the value has no control byte but the tab, and no blank at
-- either end
pub record IsClean (f : Field) : Type 0 where
  pub name : IsToken f.name
  pub lower : str_to_ascii_lowercase f.name ≡ f.name
  pub value : AllPass is_value_byte f.value
  pub front : skip_ows f.value ≡ f.value
  pub back : skip_ows (reverse f.value) ≡ reverse f.value

-- by a Content-Length: a decimal of 1 to 19 digits
abbrev pub framing_by_length : List ℕ → Option Framing
framing_by_length text = option_map Length (decimal_number text)

-- by a Transfer-Encoding: `chunked`, in any case
abbrev pub framing_by_coding : List ℕ → Option Framing
framing_by_coding coding = if bytes_eq (str_to_ascii_lowercase coding) (codes "chunked") then Some Chunked else None

-- by the values of Transfer-Encoding and of Content-Length: at most one of both together
abbrev pub framing_by : List (List ℕ) → List (List ℕ) → Option Framing
framing_by [] [] = Some Empty
framing_by [] (text ∷ []) = framing_by_length text
framing_by [] (text ∷ other ∷ more) = None
framing_by (coding ∷ []) [] = framing_by_coding coding
framing_by (coding ∷ []) (text ∷ more) = None
framing_by (coding ∷ other ∷ more) lengths = None

-- how the length of the body is told, or none where it is refused
abbrev pub framing : List Field → Option Framing
framing fields = framing_by (values_of (codes "transfer-encoding") fields) (values_of (codes "content-length") fields)

-- the head of a request with this framing
abbrev pub head_with : RequestHead → Framing → Head
head_with h told = record { method = h.method; target = h.target; minor = h.minor; fields = fields_of h; framing = told }

-- what a request head says, or none where its framing is refused
abbrev pub head_of : RequestHead → Option Head
head_of h = option_map (head_with h) (framing (fields_of h))

-- the message of a head and a body
abbrev pub message_of : Head → List ℕ → Message
message_of head body = record { method = head.method; target = head.target; minor = head.minor; fields = head.fields; body = body }
