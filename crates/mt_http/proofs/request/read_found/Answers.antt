use Rattle.std.proofs.Common.{◌≡◌, ◌∙◌, ap, Some, None, option_map}
use Rattle.mt_http.specs.Message.{fields_of, framing, head_of, head_with}
use Rattle.mt_http.proofs.Requests.{method_text, head_named, head_fields}
use Rattle.mt_http.proofs.request.read_found.Goals as goal

pub read_fields-requires-clause-named : goal.read_fields-requires-clause-named
read_fields-requires-clause-named c = head_named c.args.head.now c.args.spans.now c.args.parts c.requires.reads

pub text_at-requires-clause-text : goal.text_at-requires-clause-text
text_at-requires-clause-text c = method_text c.args.head.now c.args.spans.now c.args.parts c.requires.reads

pub returns-in_ok-from_slice-in-Some : goal.returns-in_ok-from_slice-in-Some
returns-in_ok-from_slice-in-Some c = λ h at_h.
    let fields : c.in_ok-fields.fields ≡ fields_of h = c.in_ok-fields.ensures ∙ head_fields c.args.head.now c.args.spans.now c.args.parts h at_h in
    let told : Some c.in-Some.framing ≡ framing (fields_of h) = c.in-Some.ensures ∙ ap framing (c.as_slice.ensures ∙ fields) in
    let said : Some (head_with h c.in-Some.framing) ≡ head_of h = ap (option_map (head_with h)) told in
    let method : c.in_ok-from_str-in-Some.field-0 ≡ h.method = c.in_ok-from_str-in-Some.ensures ∙ c.text_at.ensures ∙ at_h.method in
    let target : c.in_ok-from_slice-in-Some.field-0 ≡ h.target = c.in_ok-from_slice-in-Some.ensures ∙ c.of.ensures ∙ at_h.path in
    let minor = at_h.version in
    cc

pub returns-in-None : goal.returns-in-None
returns-in-None c = λ h at_h.
    let fields : c.in_ok-fields.fields ≡ fields_of h = c.in_ok-fields.ensures ∙ head_fields c.args.head.now c.args.spans.now c.args.parts h at_h in
    let told : None ≡ framing (fields_of h) = c.in-None.ensures ∙ ap framing (c.as_slice.ensures ∙ fields) in
    ap (option_map (head_with h)) told
