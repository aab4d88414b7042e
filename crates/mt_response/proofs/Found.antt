-- What the parser's spans of a reply's head cover: names that are text, and the fields of the head.
use Rattle.std.proofs.Common.{◌≡◌, ℕ, ◌≤◌, List, [], ◌∷◌, ◌++◌, length, map, take, All, refl, ap, sym, subst, ◌∙◌, arith}
use Rattle.std.specs.Prelude.{IsUtf8}
use Rattle.std.proofs.lemmas.List.{drop_all, length-map, length-take}
use Rattle.std.proofs.lemmas.List.Elements.{All-nil, All-cons, All-head, All-tail}
use Rattle.httparse.specs.declared.spans.HeaderSpan.{HeaderSpan}
use Rattle.httparse.specs.declared.spans.ResponseSpans.{ResponseSpans}
use Rattle.httparse.specs.Grammar.{IsField, ResponseHead, print_response, status_code}
use Rattle.httparse.specs.Grammar as grammar
use Rattle.httparse.specs.Spans.{span_bytes, header_bytes, name_and_value, IsResponseAt}
use Rattle.mt_http.specs.Framing.{field_limit}
use Rattle.mt_http.specs.Message.{field_of}
use Rattle.mt_http.specs.Reading.{IsNamed, field_at}
use Rattle.mt_http.proofs.Requests.{token_text}
use Rattle.mt_types.specs.declared.object.Field.{Field}
use Rattle.mt_response.specs.declared.reply.ReplyHead.{ReplyHead}
use Rattle.mt_response.specs.Replies.{IsReplyHeadOf, head_of}

all_named : (buf : List ℕ) (spans : List HeaderSpan) (lines : List grammar.Field) → map (header_bytes buf) spans ≡ map name_and_value lines → All IsField lines → All (IsNamed buf) spans
all_named buf [] lines is all = All-nil (IsNamed buf)
all_named buf (s ∷ ss) [] is all = cc
all_named buf (s ∷ ss) (f ∷ fs) is all =
    let first : header_bytes buf s ≡ name_and_value f = cc in
    let rest : map (header_bytes buf) ss ≡ map name_and_value fs = cc in
    let name : span_bytes buf s.name ≡ f.name = ap (λ (p : List ℕ × List ℕ). p.0) first in
    All-cons (IsNamed buf) s ss (subst IsUtf8 (sym name) (token_text f.name (All-head IsField f fs all).name)) (all_named buf ss fs rest (All-tail IsField f fs all))

fields_read : (buf : List ℕ) (spans : List HeaderSpan) (lines : List grammar.Field) → map (header_bytes buf) spans ≡ map name_and_value lines → map (field_at buf) spans ≡ map field_of lines
fields_read buf [] [] is = refl
fields_read buf [] (f ∷ fs) is = cc
fields_read buf (s ∷ ss) [] is = cc
fields_read buf (s ∷ ss) (f ∷ fs) is =
    let first : header_bytes buf s ≡ name_and_value f = cc in
    let rest : map (header_bytes buf) ss ≡ map name_and_value fs = cc in
    let name : span_bytes buf s.name ≡ f.name = ap (λ (p : List ℕ × List ℕ). p.0) first in
    let value : span_bytes buf s.value ≡ grammar.field_value f = ap (λ (p : List ℕ × List ℕ). p.1) first in
    let tail = fields_read buf ss fs rest in
    cc

pub head_named : (buf : List ℕ) (spans : List HeaderSpan) (r : ResponseSpans) → ((h : ResponseHead) × IsResponseAt buf spans r h) → All (IsNamed buf) (take r.headers spans)
head_named buf spans r (h, at_h) = all_named buf (take r.headers spans) h.fields at_h.fields at_h.reads.0.fields

pub head_said : (buf : List ℕ) (spans : List HeaderSpan) (r : ResponseSpans) (h : ResponseHead) → IsResponseAt buf spans r h → (fields : List Field) → fields ≡ map (field_at buf) (take r.headers spans)
    → ◌≡◌ {A = ReplyHead} (record { status = r.code; fields = fields }) (head_of h)
head_said buf spans r h at_h fields are =
    let all : fields ≡ map field_of h.fields = are ∙ fields_read buf (take r.headers spans) h.fields at_h.fields in
    ◌∙◌ {A = ReplyHead} (ap (λ (n : ℕ). record { status = n; fields = fields }) at_h.code) (ap (λ (l : List Field). record { status = status_code h; fields = l }) all)

-- a head that the parser found from the first byte to the last
pub whole_head : (buf : List ℕ) (spans : List HeaderSpan) (r : ResponseSpans) (h : ResponseHead) → IsResponseAt buf spans r h → r.len ≡ length buf → length spans ≤ field_limit → IsReplyHeadOf buf h
whole_head buf spans r h at_h all few = (
  (at_h.reads.0, at_h.reads.1 ∙ ap (λ l. print_response h ++ l) (drop_all r.len buf (omega arith))),
  omega (arith, ap length at_h.fields, length-map (take r.headers spans) (header_bytes buf), length-map h.fields name_and_value, length-take r.headers spans),
)
