use Rattle.std.proofs.Common.{[], ap, ◌∙◌}
use Rattle.std.specs.List.{slice_get}
use Rattle.mt_checker.specs.Feeds.{feed_of}
use Rattle.mt_checker.proofs.KeptLines.{begun_gathers}
use Rattle.mt_checker.proofs.following.begun.Goals as goal

pub returns : goal.returns
returns c =
    begun_gathers c.args.phases.now c.in_ok-kinds.kinds.items c.in_ok-feed.feed c.in_ok-kinds.ensures
    (c.in_ok-feed.ensures ∙ ap (λ k. feed_of k []) (c.kind_at.ensures ∙ ap (λ ks. slice_get ks 0) c.deref.ensures.value))
