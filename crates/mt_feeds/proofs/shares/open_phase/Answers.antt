use Rattle.std.proofs.Common.{map, set, ap, ◌∙◌}
use Rattle.std.proofs.lemmas.List.{map-set}
use Rattle.mt_feeds.specs.FedJob.{lists_of}
use Rattle.mt_feeds.specs.Opening.{opened_by}
use Rattle.mt_feeds.proofs.shares.open_phase.Goals as goal

pub returns-in_ok-laid-clause-shares : goal.returns-in_ok-laid-clause-shares
returns-in_ok-laid-clause-shares g c =
    let shares = c.args.kept.now.shares.items in
    let phase = c.args.phase in
    map-set lists_of shares phase c.in_ok-laid.laid
    ∙ ap (set (map lists_of shares) phase) c.in_ok-laid.ensures
    ∙ ap (λ o. opened_by o c.args.kept.now.job (map lists_of shares) phase) c.in-Some.ensures
