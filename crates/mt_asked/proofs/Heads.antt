-- The head that is written is one request head of the grammar, with this method, this target and these fields, and its length is told.
use Rattle.std.proofs.Common.{◌≡◌, ℕ, ◌<◌, ◌≤◌, ◌^◌, Bool, true, false, cond, not, List, [], ◌∷◌, ◌++◌, length, map, reverse, All, IsTrue, Option, Some, None, option_map, ◌&&◌, ◌==◌, nat_le, nat_lt, codes, decimal, refl, sym, ap, ap₂, ◌∙◌, arith, append_assoc, append-nil, length-append}
use Rattle.std.specs.Char.{is_ascii_digit}
use Rattle.std.specs.List.{flat_map, list_all}
use Rattle.std.specs.Str.{str_to_ascii_lowercase}
use Rattle.std.proofs.lemmas.Bool.{and_from, and_parts, cond-false, le-leb, lt-ltb, ltb-true, ne_eqb, not_from_false, or_from, or_right}
use Rattle.std.proofs.lemmas.Bool.Decides.{nat_tests}
use Rattle.std.proofs.lemmas.Fmt.{digits_decimal}
use Rattle.std.proofs.lemmas.List.Elements.{All-nil, All-cons, All-head, All-tail, All-append, All-weaker}
use Rattle.std.proofs.lemmas.Str.{IsUtf8-from_ascii}
use Rattle.std.proofs.lemmas.Str.Ascii.{IsAscii-from_all}
use Rattle.httparse.specs.Grammar.{AllPass, IsField, IsRequestHead, IsToken, RequestHead, crlf, is_ows, is_token_byte, is_value_byte, print_field, print_request, skip_ows}
use Rattle.httparse.specs.Grammar as grammar
use Rattle.httparse.proofs.TrimLemmas.{AllPass-reverse, trim_ows_space}
use Rattle.mt_bytes.proofs.Digits.{decimal_number-decimal, numerals}
use Rattle.mt_http.specs.Message.{IsClean, field_of, framing, head_of}
use Rattle.mt_http.specs.declared.framing.Framing.{Framing}
use Rattle.mt_http.specs.declared.framing.Framing.TheVariants.{Length}
use Rattle.mt_http.specs.declared.message.Head.{Head}
use Rattle.mt_path.specs.AccountPath.{AccountPath, area_name, path_text, slashed}
use Rattle.mt_types.specs.declared.object.Field.{Field}
use Rattle.mt_ask.specs.Requests.{body_len, escaped, escaped_byte, field, field_line, fields_of, has_length, is_listing, length_fields, line_end, location_fields, marker_of, marker_query, method_of, page_query, place_of, query_text, request_head, request_line, target_of, target_text, type_fields}
use Rattle.mt_ask.specs.Words.{IsWords, is_address_byte}
use Rattle.mt_ask.specs.declared.ask.Ask.{Ask}
use Rattle.mt_ask.specs.declared.ask.Ask.TheVariants as asks
use Rattle.mt_ask.specs.declared.ask.PageAsk.{PageAsk}
use Rattle.mt_ask.specs.declared.ask.Words.{Words}
use Rattle.mt_ask.proofs.Decoding.{IsTargetByte, target_bytes}
use Rattle.mt_asked.specs.Laws.{HeadsAreRead}
use Rattle.mt_asked.specs.Understood.{framing_for, head_for}
use Rattle.mt_asked.proofs.Looks.{words}

-- ---- tests

pub passing : (test : ℕ → Bool) (xs : List ℕ) → list_all test xs ≡ true → AllPass test xs
passing test [] pass = All-nil (λ b. IsTrue (test b))
passing test (x ∷ xs) pass =
    let parts = and_parts (test x) (list_all test xs) pass in
    All-cons (λ b. IsTrue (test b)) x xs parts.0 (passing test xs parts.1)

-- ---- visible bytes

-- from 33 to 126
abbrev pub IsShown : ℕ → Type 0
IsShown b = (32 < b) × (b < 127)

abbrev is_shown : ℕ → Bool
is_shown b = nat_lt 32 b && nat_lt b 127

-- the bytes of a literal
shown_text : (xs : List ℕ) → list_all is_shown xs ≡ true → All IsShown xs
shown_text [] pass = All-nil IsShown
shown_text (x ∷ xs) pass =
    let parts = and_parts (is_shown x) (list_all is_shown xs) pass in
    let both = and_parts (nat_lt 32 x) (nat_lt x 127) parts.0 in
    All-cons IsShown x xs (ltb-true 32 x both.0, ltb-true x 127 both.1) (shown_text xs parts.1)

shown_escaped : (bytes : List ℕ) → All IsShown (escaped bytes)
shown_escaped bytes = All-weaker IsTargetByte IsShown (λ b is. (omega (arith, is.low), omega (arith, is.high))) (escaped bytes) (target_bytes bytes)

-- a byte of a host, of which the test of a target's byte is the same
shown_address : (b : ℕ) → IsShown b → is_address_byte b ≡ true
shown_address b is = and_from (nat_lt 32 b) (not (b == 127)) (lt-ltb 32 b is.0) (not_from_false (b == 127) (ne_eqb b 127 (λ e. absurd (omega (arith, e, is.1)))))

addresses : (xs : List ℕ) → All IsShown xs → AllPass is_address_byte xs
addresses xs all = All-weaker IsShown (λ b. IsTrue (is_address_byte b)) shown_address xs all

digit_shown : (b : ℕ) → is_ascii_digit b ≡ true → IsShown b
digit_shown b is = (grind (arith, nat_tests, is), grind (arith, nat_tests, is))

digits_shown : (xs : List ℕ) → list_all is_ascii_digit xs ≡ true → All IsShown xs
digits_shown xs all = All-weaker (λ b. IsTrue (is_ascii_digit b)) IsShown digit_shown xs (passing is_ascii_digit xs all)

-- ---- values without blanks and control characters

visible_value : (b : ℕ) → is_address_byte b ≡ true → is_value_byte b ≡ true
visible_value b is =
    let parts = and_parts (nat_lt 32 b) (not (b == 127)) is in
    let low : 32 < b = ltb-true 32 b parts.0 in
    or_right (b == 9) (nat_le 32 b && not (b == 127)) (and_from (nat_le 32 b) (not (b == 127)) (le-leb 32 b (omega (arith, low))) parts.1)

visible_no_blank : (b : ℕ) → is_address_byte b ≡ true → is_ows b ≡ false
visible_no_blank b is =
    let low : 32 < b = ltb-true 32 b (and_parts (nat_lt 32 b) (not (b == 127)) is).0 in
    or_from (b == 32) (b == 9) (ne_eqb b 32 (λ e. absurd (omega (arith, e, low)))) (ne_eqb b 9 (λ e. absurd (omega (arith, e, low))))

no_front : (v : List ℕ) → AllPass is_address_byte v → skip_ows v ≡ v
no_front [] all = refl
no_front (b ∷ bs) all = cond-false _ _ _ (visible_no_blank b (All-head (λ x. IsTrue (is_address_byte x)) b bs all))

-- a field whose value has no blanks
solid : (name value : List ℕ) → IsToken name → str_to_ascii_lowercase name ≡ name → AllPass is_address_byte value → IsClean (field name value)
solid name value token lower all = record {
  name = token;
  lower = lower;
  value = All-weaker (λ b. IsTrue (is_address_byte b)) (λ b. IsTrue (is_value_byte b)) visible_value value all;
  front = no_front value all;
  back = no_front (reverse value) (AllPass-reverse is_address_byte value all);
}

-- ---- the names of fields

token : (text : List ℕ) → 0 < length text → list_all is_token_byte text ≡ true → IsToken text
token text some all = (some, passing is_token_byte text all)

length_token : IsToken (codes "content-length")
unfolding is_token_byte
length_token = token (codes "content-length") (omega arith) refl

type_token : IsToken (codes "content-type")
unfolding is_token_byte
type_token = token (codes "content-type") (omega arith) refl

host_token : IsToken (codes "host")
unfolding is_token_byte
host_token = token (codes "host") (omega arith) refl

location_token : IsToken (codes "location")
unfolding is_token_byte
location_token = token (codes "location") (omega arith) refl

-- ---- the fields are clean

length_clean : (test : Bool) (n : ℕ) → n < 2 ^ 64 → All IsClean (cond test (field (codes "content-length") (decimal n) ∷ []) [])
length_clean true n small =
    All-cons IsClean (field (codes "content-length") (decimal n)) []
    (solid (codes "content-length") (decimal n) length_token refl (addresses (decimal n) (digits_shown (decimal n) (digits_decimal numerals n small))))
    (All-nil IsClean)
length_clean false n small = All-nil IsClean

-- a type, which may have a blank within
said_type : (value : List ℕ) → list_all is_value_byte value ≡ true → skip_ows value ≡ value → skip_ows (reverse value) ≡ reverse value
    → All IsClean (field (codes "content-type") value ∷ [])
said_type value all front back =
    All-cons IsClean (field (codes "content-type") value) []
    (record { name = type_token; lower = refl; value = passing is_value_byte value all; front = front; back = back })
    (All-nil IsClean)

type_clean : (ask : Ask) → All IsClean (type_fields ask)
type_clean (asks.List p) = All-nil IsClean
type_clean (asks.Find p) = All-nil IsClean
type_clean (asks.Get p) = All-nil IsClean
type_clean (asks.Put p) = said_type (codes "application/octet-stream") refl refl refl
type_clean (asks.MakeDirectory p) = said_type (codes "application/json; type=directory") refl refl refl
type_clean (asks.Remove p) = All-nil IsClean
type_clean (asks.Link source p) = said_type (codes "application/json; type=link") refl refl refl
type_clean asks.CreateJob = All-nil IsClean
type_clean (asks.AddInputs n) = All-nil IsClean
type_clean (asks.EndInput n) = All-nil IsClean
type_clean (asks.CancelJob n) = All-nil IsClean
type_clean (asks.JobStatus n) = All-nil IsClean
type_clean (asks.JobOutputs n) = All-nil IsClean

location_clean : (login : List ℕ) (ask : Ask) → All IsClean (location_fields login ask)
location_clean login (asks.List p) = All-nil IsClean
location_clean login (asks.Find p) = All-nil IsClean
location_clean login (asks.Get p) = All-nil IsClean
location_clean login (asks.Put p) = All-nil IsClean
location_clean login (asks.MakeDirectory p) = All-nil IsClean
location_clean login (asks.Remove p) = All-nil IsClean
location_clean login (asks.Link source p) =
    All-cons IsClean (field (codes "location") (target_text login source)) []
    (solid (codes "location") (target_text login source) location_token refl (addresses (target_text login source) (shown_escaped (path_text login source))))
    (All-nil IsClean)
location_clean login asks.CreateJob = All-nil IsClean
location_clean login (asks.AddInputs n) = All-nil IsClean
location_clean login (asks.EndInput n) = All-nil IsClean
location_clean login (asks.CancelJob n) = All-nil IsClean
location_clean login (asks.JobStatus n) = All-nil IsClean
location_clean login (asks.JobOutputs n) = All-nil IsClean

pub all_clean : (w : Words) (len : ℕ) → IsWords w → body_len w.ask len < 2 ^ 64 → All IsClean (fields_of w len)
all_clean w len is small =
    let address = and_parts (nat_lt 0 (length w.url)) (list_all is_address_byte w.url) is.url in
    let host = All-cons IsClean (field (codes "host") w.url) (location_fields w.login w.ask)
    (solid (codes "host") w.url host_token refl (passing is_address_byte w.url address.1))
    (location_clean w.login w.ask) in
    let front = All-append IsClean (length_fields w.ask len) (type_fields w.ask) (length_clean (has_length w.ask) (body_len w.ask len) small) (type_clean w.ask) in
    All-append IsClean (length_fields w.ask len ++ type_fields w.ask) (field (codes "host") w.url ∷ location_fields w.login w.ask) front host

-- ---- the tree

abbrev line_of : Field → grammar.Field
line_of f = record { name = f.name; raw = 32 ∷ f.value; end = crlf }

abbrev tree_of : Words → Option PageAsk → ℕ → RequestHead
tree_of w page len =
    record { blank = []; method = method_of w.ask; target = target_of w.login w.ask page; minor = 1; line_end = crlf; fields = map line_of (fields_of w len); last = crlf }

line_is : (f : Field) → field_line f ≡ print_field (line_of f)
line_is f = ap (λ (x : List ℕ). x ++ line_end) (append_assoc f.name (codes ": ") f.value)

lines_are : (fs : List Field) → flat_map field_line fs ≡ flat_map print_field (map line_of fs)
lines_are [] = refl
lines_are (f ∷ fs) = ap₂ (λ (x y : List ℕ). x ++ y) (line_is f) (lines_are fs)

head_is : (w : Words) (page : Option PageAsk) (len : ℕ) → request_head w page len ≡ print_request (tree_of w page len) ++ []
unfolding request_head print_request
head_is w page len =
    let method = method_of w.ask in
    let target = target_of w.login w.ask page in
    let fields = fields_of w len in
    append_assoc (request_line method target) (flat_map field_line fields) line_end
    ∙ ap₂ (λ (a b : List ℕ). a ++ (b ++ line_end)) (ap (λ (x : List ℕ). (x ++ codes " HTTP/1.1") ++ line_end) (append_assoc method (codes " ") target)) (lines_are fields)
    ∙ sym (append-nil _)

line_field : (f : Field) → IsClean f → IsField (line_of f)
line_field f clean = record { name = clean.name; raw = All-cons (λ b. IsTrue (is_value_byte b)) 32 f.value refl clean.value }

all_fields : (fs : List Field) → All IsClean fs → All IsField (map line_of fs)
all_fields [] all = All-nil IsField
all_fields (f ∷ fs) all = All-cons IsField (line_of f) (map line_of fs) (line_field f (All-head IsClean f fs all)) (all_fields fs (All-tail IsClean f fs all))

same_field : (f : Field) → IsClean f → field_of (line_of f) ≡ f
same_field f clean = ap₂ field clean.lower (trim_ows_space f.value clean.front clean.back)

same_fields : (fs : List Field) → All IsClean fs → map field_of (map line_of fs) ≡ fs
same_fields [] all = refl
same_fields (f ∷ fs) all = ap₂ (λ (x : Field) (y : List Field). x ∷ y) (same_field f (All-head IsClean f fs all)) (same_fields fs (All-tail IsClean f fs all))

few_of : (url login : List ℕ) (ask : Ask) (len : ℕ) → length (map line_of (fields_of (words url login ask) len)) ≤ 100
few_of url login (asks.List p) len = omega arith
few_of url login (asks.Find p) len = omega arith
few_of url login (asks.Get p) len = omega arith
few_of url login (asks.Put p) len = omega arith
few_of url login (asks.MakeDirectory p) len = omega arith
few_of url login (asks.Remove p) len = omega arith
few_of url login (asks.Link source p) len = omega arith
few_of url login asks.CreateJob len = omega arith
few_of url login (asks.AddInputs n) len = omega arith
few_of url login (asks.EndInput n) len = omega arith
few_of url login (asks.CancelJob n) len = omega arith
few_of url login (asks.JobStatus n) len = omega arith
few_of url login (asks.JobOutputs n) len = omega arith

-- ---- the length of the body

told : (url login : List ℕ) (ask : Ask) (len : ℕ) → body_len ask len < 10 ^ 19 → framing (fields_of (words url login ask) len) ≡ Some (framing_for ask len)
told url login (asks.List p) len small = refl
told url login (asks.Find p) len small = refl
told url login (asks.Get p) len small = refl
told url login (asks.Put p) len small = ap (option_map Length) (decimal_number-decimal len small)
told url login (asks.MakeDirectory p) len small = ap (option_map Length) (decimal_number-decimal 0 small)
told url login (asks.Remove p) len small = refl
told url login (asks.Link source p) len small = ap (option_map Length) (decimal_number-decimal 0 small)
told url login asks.CreateJob len small = ap (option_map Length) (decimal_number-decimal len small)
told url login (asks.AddInputs n) len small = ap (option_map Length) (decimal_number-decimal len small)
told url login (asks.EndInput n) len small = ap (option_map Length) (decimal_number-decimal 0 small)
told url login (asks.CancelJob n) len small = ap (option_map Length) (decimal_number-decimal 0 small)
told url login (asks.JobStatus n) len small = refl
told url login (asks.JobOutputs n) len small = refl

-- ---- the method and the target

get_token : IsToken (codes "GET")
unfolding is_token_byte
get_token = token (codes "GET") (omega arith) refl

put_token : IsToken (codes "PUT")
unfolding is_token_byte
put_token = token (codes "PUT") (omega arith) refl

delete_token : IsToken (codes "DELETE")
unfolding is_token_byte
delete_token = token (codes "DELETE") (omega arith) refl

post_token : IsToken (codes "POST")
unfolding is_token_byte
post_token = token (codes "POST") (omega arith) refl

method_token : (ask : Ask) → IsToken (method_of ask)
method_token (asks.List p) = get_token
method_token (asks.Find p) = get_token
method_token (asks.Get p) = get_token
method_token (asks.Put p) = put_token
method_token (asks.MakeDirectory p) = put_token
method_token (asks.Remove p) = delete_token
method_token (asks.Link source p) = put_token
method_token asks.CreateJob = post_token
method_token (asks.AddInputs n) = post_token
method_token (asks.EndInput n) = post_token
method_token (asks.CancelJob n) = post_token
method_token (asks.JobStatus n) = get_token
method_token (asks.JobOutputs n) = get_token

shown_marker : (marker : Option (List ℕ)) → All IsShown (marker_query marker)
shown_marker None = All-nil IsShown
shown_marker (Some name) = All-append IsShown (codes "&marker=") (escaped name) (shown_text (codes "&marker=") refl) (shown_escaped name)

shown_query : (test : Bool) (marker : Option (List ℕ)) → All IsShown (cond test (page_query marker) [])
shown_query true marker = All-append IsShown (codes "?limit=256") (marker_query marker) (shown_text (codes "?limit=256") refl) (shown_marker marker)
shown_query false marker = All-nil IsShown

pub shown_target : (login : List ℕ) (ask : Ask) (page : Option PageAsk) → All IsShown (target_of login ask page)
shown_target login ask page =
    All-append IsShown (target_text login (place_of ask page)) (query_text ask page)
    (shown_escaped (path_text login (place_of ask page))) (shown_query (is_listing ask) (marker_of page))

begun : (xs : List ℕ) → 0 < length (47 ∷ xs)
begun xs = omega arith

text_some : (login : List ℕ) (p : AccountPath) → 0 < length (target_text login p)
unfolding escaped path_text
text_some login p = begun (flat_map escaped_byte (login ++ slashed (area_name p.area ∷ p.parts)))

target_some : (login : List ℕ) (ask : Ask) (page : Option PageAsk) → 0 < length (target_of login ask page)
target_some login ask page =
    omega (arith, text_some login (place_of ask page), length-append (target_text login (place_of ask page)) (query_text ask page))

-- ---- the head

-- the head of these fields
abbrev with_fields : Words → Option PageAsk → List Field → Framing → Head
with_fields w page fields how = record { method = method_of w.ask; target = target_of w.login w.ask page; minor = 1; fields = fields; framing = how }

says : (w : Words) (page : Option PageAsk) (len : ℕ) → All IsClean (fields_of w len) → body_len w.ask len < 10 ^ 19 → head_of (tree_of w page len) ≡ Some (head_for w page len)
says w page len clean small =
    ap (λ (fields : List Field). option_map (with_fields w page fields) (framing fields)) (same_fields (fields_of w len) clean)
    ∙ ap (option_map (with_fields w page (fields_of w len))) (told w.url w.login w.ask len small)

pub head_read : HeadsAreRead
head_read w page len is small =
    let fits : body_len w.ask len < 2 ^ 64 = omega (arith, small) in
    let clean = all_clean w len is fits in
    let shown = shown_target w.login w.ask page in
    let target = target_of w.login w.ask page in
    let valid : IsRequestHead (tree_of w page len) = record {
      method = method_token w.ask;
      target = (target_some w.login w.ask page, addresses target shown);
      target_text = IsUtf8-from_ascii target (IsAscii-from_all target (All-weaker IsShown (λ b. b < 128) (λ b at. omega (arith, at.1)) target shown));
      minor = omega arith;
      fields = all_fields (fields_of w len) clean;
    } in
    (tree_of w page len, ((valid, head_is w page len), few_of w.url w.login w.ask len), says w page len clean small)
