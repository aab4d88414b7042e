-- What the parser's spans cover: text where it is a token, and the fields of the head
use Rattle.std.proofs.Common.{◌≡◌, ℕ, ◌<◌, ◌≤◌, true, List, [], ◌∷◌, ◌++◌, length, map, take, All, refl, ap, sym, subst, ◌∙◌, arith}
use Rattle.std.specs.Prelude.{IsUtf8}
use Rattle.std.proofs.lemmas.Bool.Decides.{nat_tests}
use Rattle.std.proofs.lemmas.List.{drop_all, length-map, length-take}
use Rattle.std.proofs.lemmas.List.Elements.{All-nil, All-cons, All-head, All-tail, All-weaker}
use Rattle.std.proofs.lemmas.Str.{IsUtf8-from_ascii}
use Rattle.std.proofs.lemmas.Str.Ascii.{IsAscii-from_all}
use Rattle.httparse.specs.declared.spans.HeaderSpan.{HeaderSpan}
use Rattle.httparse.specs.declared.spans.RequestSpans.{RequestSpans}
use Rattle.httparse.specs.Grammar.{is_token_byte, IsToken, IsField, RequestHead, print_request}
use Rattle.httparse.specs.Grammar as grammar
use Rattle.httparse.specs.Spans.{span_bytes, header_bytes, name_and_value, IsRequestAt}
use Rattle.mt_http.specs.Framing.{field_limit, IsRequestHeadOf}
use Rattle.mt_http.specs.Message.{field_of}
use Rattle.mt_http.specs.Reading.{IsNamed, field_at}

token_is_ascii : (b : ℕ) → is_token_byte b ≡ true → b < 128
unfolding is_token_byte
token_is_ascii b token = grind (arith, nat_tests)

-- a token is text
pub token_text : (bytes : List ℕ) → IsToken bytes → IsUtf8 bytes
token_text bytes token = IsUtf8-from_ascii bytes (IsAscii-from_all bytes (All-weaker (λ b. is_token_byte b ≡ true) (λ b. b < 128) token_is_ascii bytes token.1))

-- the names that the spans cover are text
all_named : (buf : List ℕ) (spans : List HeaderSpan) (lines : List grammar.Field) → map (header_bytes buf) spans ≡ map name_and_value lines → All IsField lines → All (IsNamed buf) spans
all_named buf [] lines is all = All-nil (IsNamed buf)
all_named buf (s ∷ ss) [] is all = cc
all_named buf (s ∷ ss) (f ∷ fs) is all =
    let first : header_bytes buf s ≡ name_and_value f = cc in
    let rest : map (header_bytes buf) ss ≡ map name_and_value fs = cc in
    let name : span_bytes buf s.name ≡ f.name = ap (λ (p : List ℕ × List ℕ). p.0) first in
    All-cons (IsNamed buf) s ss (subst IsUtf8 (sym name) (token_text f.name (All-head IsField f fs all).name)) (all_named buf ss fs rest (All-tail IsField f fs all))

-- the fields that the spans cover are those of the head
fields_read : (buf : List ℕ) (spans : List HeaderSpan) (lines : List grammar.Field) → map (header_bytes buf) spans ≡ map name_and_value lines → map (field_at buf) spans ≡ map field_of lines
fields_read buf [] [] is = refl
fields_read buf [] (f ∷ fs) is = cc
fields_read buf (s ∷ ss) [] is = cc
fields_read buf (s ∷ ss) (f ∷ fs) is =
    let first : header_bytes buf s ≡ name_and_value f = cc in
    let rest : map (header_bytes buf) ss ≡ map name_and_value fs = cc in
    let name : span_bytes buf s.name ≡ f.name = ap (λ (p : List ℕ × List ℕ). p.0) first in
    let value : span_bytes buf s.value ≡ grammar.field_value f = ap (λ (p : List ℕ × List ℕ). p.1) first in
    let tail = fields_read buf ss fs rest in
    cc

pub head_named : (buf : List ℕ) (spans : List HeaderSpan) (r : RequestSpans) → ((h : RequestHead) × IsRequestAt buf spans r h) → All (IsNamed buf) (take r.headers spans)
head_named buf spans r (h, at_h) = all_named buf (take r.headers spans) h.fields at_h.fields at_h.reads.0.fields

pub method_text : (buf : List ℕ) (spans : List HeaderSpan) (r : RequestSpans) → ((h : RequestHead) × IsRequestAt buf spans r h) → IsUtf8 (span_bytes buf r.method)
method_text buf spans r (h, at_h) = subst IsUtf8 (sym at_h.method) (token_text h.method at_h.reads.0.method)

pub head_fields : (buf : List ℕ) (spans : List HeaderSpan) (r : RequestSpans) (h : RequestHead) → IsRequestAt buf spans r h → map (field_at buf) (take r.headers spans) ≡ map field_of h.fields
head_fields buf spans r h at_h = fields_read buf (take r.headers spans) h.fields at_h.fields

-- a head that the parser found from the first byte to the last
pub whole_head : (buf : List ℕ) (spans : List HeaderSpan) (r : RequestSpans) (h : RequestHead) → IsRequestAt buf spans r h → r.len ≡ length buf → length spans ≤ field_limit → IsRequestHeadOf buf h
whole_head buf spans r h at_h all few = (
  (at_h.reads.0, at_h.reads.1 ∙ ap (λ l. print_request h ++ l) (drop_all r.len buf (omega arith))),
  omega (arith, ap length at_h.fields, length-map (take r.headers spans) (header_bytes buf), length-map h.fields name_and_value, length-take r.headers spans),
)
