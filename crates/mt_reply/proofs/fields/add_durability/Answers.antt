use Rattle.std.proofs.Common.{refl}
use Rattle.mt_reply.proofs.fields.add_durability.Goals as goal

pub returns-in_ok-push : goal.returns-in_ok-push
returns-in_ok-push c = rw (c.in_ok-push.ensures.items, c.in-Some.is, c.in_ok-number_field.ensures) refl
