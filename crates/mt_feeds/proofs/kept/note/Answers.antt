use Rattle.std.proofs.Common.{[], ◌∷◌, ◌++◌, sym, ap, ◌∙◌, append_assoc}
use Rattle.mt_feeds.specs.FedJob.{places_at}
use Rattle.mt_feeds.proofs.Feeds.{places_push}
use Rattle.mt_feeds.proofs.kept.note.Goals as goal

pub loop-item-preserved : goal.loop-item-preserved
loop-item-preserved c =
    c.in_ok-push.ensures.items
    ∙ ap (λ l. l ++ record { entry = c.args.entry; item = c.loop-item.item } ∷ []) c.loop-item.invariant
    ∙ append_assoc c.args.feed.now.items (places_at c.args.entry c.loop-item.item) (record { entry = c.args.entry; item = c.loop-item.item } ∷ [])
    ∙ ap (λ l. c.args.feed.now.items ++ l) (sym (places_push c.args.entry c.loop-item.item))
