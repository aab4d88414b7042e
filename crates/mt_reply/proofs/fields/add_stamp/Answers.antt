use Rattle.std.proofs.Common.{codes}
use Rattle.mt_reply.specs.ReplyFields as words
use Rattle.mt_reply.proofs.Added.{two_added}
use Rattle.mt_reply.proofs.fields.add_stamp.Goals as goal

pub returns : goal.returns
returns c =
    rw (c.in_ok-push-2.ensures.items, c.in_ok-push.ensures.items, c.in_ok-number_field.ensures, c.in_ok-date_field.ensures)
    (two_added c.args.fields.now.items (words.date_field (codes "date") c.args.stamp.moment) (words.number_field (codes "x-marlin-position") c.args.stamp.position))
