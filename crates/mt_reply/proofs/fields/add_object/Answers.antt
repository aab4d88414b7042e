use Rattle.std.proofs.Common.{ℕ, codes, List, [], ◌∷◌, ◌++◌, ap, ◌∙◌}
use Rattle.mt_types.specs.declared.object.Field.{Field}
use Rattle.mt_reply.specs.ReplyFields as words
use Rattle.mt_reply.proofs.Added.{three_and_more, three_are}
use Rattle.mt_reply.proofs.fields.add_object.Goals as goal

pub returns : goal.returns
returns g c =
    let o = c.args.object.now in
    let d = words.durability_fields o.durability in
    let first = c.in_ok-push.ensures.items in
    let second = c.in_ok-push-2.ensures.items ∙ ap (λ (l : List Field). l ++ c.in_ok-etag_field.field-0 ∷ []) first in
    let third = c.in_ok-push-3.ensures.items ∙ ap (λ (l : List Field). l ++ c.in_ok-modified_field.field-0 ∷ []) second in
    let level = c.in_ok-add_durability.ensures ∙ ap (λ (l : List Field). l ++ d) third in
    c.in_ok-add_all.ensures ∙ ap (λ (l : List Field). c.add_durability.new.fields.items ++ l) c.as_slice.ensures ∙ ap (λ (l : List Field). l ++ o.metadata) level
    ∙ three_and_more c.args.fields.now.items c.in_ok-field.field-0 c.in_ok-etag_field.field-0 c.in_ok-modified_field.field-0 d o.metadata
    ∙ three_are c.args.fields.now.items (d ++ o.metadata) (c.in_ok-field.ensures ∙ ap (λ (t : List ℕ). words.field (codes "content-type") t) c.as_bytes.ensures) c.in_ok-etag_field.ensures c.in_ok-modified_field.ensures
