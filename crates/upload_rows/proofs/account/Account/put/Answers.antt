use Rattle.std.proofs.Common.{◌≡◌, ◌+◌, ◌*◌, None, sym, ap, ◌∙◌, arith}
use Rattle.mt_types.specs.declared.object.Entry.TheVariants as entry
use Rattle.mt_model.specs.CommandStep.{put_object}
use Rattle.mt_model.specs.Names.{number_at}
use Rattle.mt_model.specs.Rows.{with_row}
use Rattle.upload_rows.proofs.Stays.{not_refused, stays_put}
use Rattle.upload_rows.proofs.account.Account.put.Goals as goal

pub invariant_of-account : goal.invariant_of-account
invariant_of-account c =
    let was = c.self.inside in
    let same : was.position * 4096 ≡ number_at was.position 0 = omega arith in
    let changed = c.in_ok-put_object-in-Ok.ensures.ok ∙ ap (λ fields. with_row was.tree c.args.path (entry.Object (put_object (was.position * 4096) c.body.result c.in_ok-from_str-in-Ok.field-0 None fields (1000 + was.position)))) c.new.ensures in
    stays_put was.position was.tree was.uploads c.self.invariant c.put_object.new.self c.args.path c.in_ok-from_str-in-Ok.field-0 c.body.result (was.position * 4096) (1000 + was.position) c.key-key.ensures.path same (not_refused _ (sym c.in-Ok.ensures)) changed
