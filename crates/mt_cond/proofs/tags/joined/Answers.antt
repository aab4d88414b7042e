use Rattle.std.proofs.Common.{ℕ, Option, Vec, Global, ap, sym, ◌∙◌, Some}
use Rattle.std.specs.Option.{option_map}
use Rattle.mt_cond.specs.Tags.{with_piece}
use Rattle.mt_cond.proofs.Joined.{joined_behind-named, joined_behind-other}
use Rattle.mt_cond.proofs.tags.joined.Goals as goal
use Rattle.mt_cond.proofs.tags.joined.Goals.{then-is_named+in_ok-with_piece, else-is_named}

pub loop-field-preserved : goal.loop-field-preserved
loop-field-preserved c =
    let shown = λ (value : Option (Vec ℕ Global)). option_map (λ v. v.items) value in
    elim c.if-is_named.branch [
      | then-is_named+in_ok-with_piece w ↦
          joined_behind-named c.args.name.now c.args.fields.now c.loop-field.field-index c.field-item.result (shown c.loop-field.value) (shown c.if-is_named.value) _
          c.loop-field-test.true c.field-item.is (sym c.is_named.ensures ∙ w.if-is_named.true)
          (ap shown w.value-is ∙ ap Some (w.in_ok-with_piece.ensures {u = tt} ∙ ap (with_piece (shown c.loop-field.value)) w.as_slice.ensures)) c.loop-field.invariant
      | else-is_named w ↦
          joined_behind-other c.args.name.now c.args.fields.now c.loop-field.field-index c.field-item.result (shown c.loop-field.value) (shown c.if-is_named.value) _
          c.loop-field-test.true c.field-item.is (sym c.is_named.ensures ∙ w.if-is_named.false)
          (ap shown w.value-is) c.loop-field.invariant
    ]
