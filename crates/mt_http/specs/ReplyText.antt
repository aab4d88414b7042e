-- The bytes of a reply (RFC 9112, sections 2 to 6).
use Rattle.std.specs.Prelude.{ℕ, ◌-◌, Bool, ◌||◌, ◌==◌, if◌then◌else◌, List, [], ◌∷◌, ◌++◌, length, take, drop, fold, codes, decimal}
use Rattle.std.specs.List.{flat_map}
use Rattle.std.specs.Ordering.{is_lt, nat_cmp}
use Rattle.std.specs.Cmp.Lexicographic.{slice_cmp}
use Rattle.httparse.specs.Ascii.{crlf_bytes}
use Rattle.mt_types.specs.declared.object.Field.{Field}
use Rattle.mt_types.specs.declared.reply.Reply.{Reply}
use Rattle.mt_types.specs.declared.reply.ReplyBody.{ReplyBody}
use Rattle.mt_types.specs.declared.reply.ReplyBody.TheVariants.{Held, Part}

-- what a status means, in words (RFC 9110, section 15); nothing where no reply has it
abbrev pub phrase_of : ℕ → List ℕ
phrase_of status =
    if status == 200 then codes "OK"
    else if status == 201 then codes "Created"
    else if status == 202 then codes "Accepted"
    else if status == 204 then codes "No Content"
    else if status == 206 then codes "Partial Content"
    else if status == 304 then codes "Not Modified"
    else if status == 400 then codes "Bad Request"
    else if status == 403 then codes "Forbidden"
    else if status == 404 then codes "Not Found"
    else if status == 405 then codes "Method Not Allowed"
    else if status == 409 then codes "Conflict"
    else if status == 412 then codes "Precondition Failed"
    else if status == 413 then codes "Content Too Large"
    else if status == 416 then codes "Range Not Satisfiable"
    else if status == 507 then codes "Insufficient Storage"
    else []

-- the first line
abbrev pub status_line : ℕ → List ℕ
status_line status = codes "HTTP/1.1 " ++ decimal status ++ codes " " ++ phrase_of status ++ crlf_bytes

-- the line of a field
abbrev pub field_line : Field → List ℕ
field_line f = f.name ++ codes ": " ++ f.value ++ crlf_bytes

-- a name is below another in the order of their bytes
abbrev pub is_before : List ℕ → List ℕ → Bool
is_before name other = is_lt (slice_cmp nat_cmp name other)

-- before the first field whose name is above its own
abbrev pub placed : Field → List Field → List Field
placed f [] = f ∷ []
placed f (g ∷ fields) = if is_before f.name g.name then f ∷ g ∷ fields else g ∷ placed f fields

-- in the byte order of their names; fields of one name stay in their order
abbrev pub in_order : List Field → List Field
in_order fields = fold (λ sorted f. placed f sorted) [] fields

-- a status whose reply has no body, and tells no length (RFC 9110, section 8.6)
abbrev pub has_no_body : ℕ → Bool
has_no_body status = (status == 204) || (status == 304)

abbrev pub length_fields : ℕ → ℕ → List Field
length_fields status n = if has_no_body status then [] else record { name = codes "content-length"; value = decimal n } ∷ []

abbrev pub closing_fields : Bool → List Field
closing_fields closes = if closes then record { name = codes "connection"; value = codes "close" } ∷ [] else []

-- all fields of a reply whose body has so many bytes
abbrev pub fields_with : ℕ → List Field → Bool → ℕ → List Field
fields_with status fields closes n = fields ++ length_fields status n ++ closing_fields closes

-- the head of a reply whose body has so many bytes
unfoldable pub head_text : ℕ → List Field → Bool → ℕ → List ℕ
head_text status fields closes n = status_line status ++ flat_map field_line (in_order (fields_with status fields closes n)) ++ crlf_bytes

-- the body, where one is sent
abbrev pub sent_body : ℕ → List ℕ → Bool → List ℕ
sent_body status body head_only = if head_only || has_no_body status then [] else body

-- the head and the body
abbrev pub text_with : ℕ → List Field → Bool → List ℕ → Bool → List ℕ
text_with status fields closes body head_only = head_text status fields closes (length body) ++ sent_body status body head_only

-- the bytes of a body
abbrev pub body_bytes : ReplyBody (List ℕ) → List ℕ
body_bytes (Held bytes) = bytes
body_bytes (Part body from to) = take (to - from) (drop from body)

-- the bytes of a reply, or of its head alone
abbrev pub reply_text : Reply (List ℕ) → Bool → List ℕ
reply_text reply head_only = text_with reply.status reply.fields reply.closes (body_bytes reply.body) head_only

-- the bytes that a reply holds
abbrev pub held_bytes : {B : Type 0} → ReplyBody B → List ℕ
held_bytes (Held bytes) = bytes
held_bytes (Part body from to) = []

-- it holds its body
abbrev pub IsHeld : {B : Type 0} → ReplyBody B → Type 0
IsHeld (Held bytes) = Unit {0}
IsHeld (Part body from to) = ⊥
