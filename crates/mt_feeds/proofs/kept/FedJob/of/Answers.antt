use Rattle.std.proofs.Common.{[], ap, ◌∙◌, replicate}
use Rattle.mt_feeds.proofs.Begun.{kept_of}
use Rattle.mt_feeds.proofs.kept.FedJob.of.Goals as goal

pub returns-clause-kept : goal.returns-clause-kept
returns-clause-kept g c =
    kept_of c.args.job c.in_ok-feeds.feeds c.in_ok-shares.shares c.requires.trace c.requires.input
    (c.in_ok-feeds.ensures ∙ ap (λ n. replicate n []) c.len-count.ensures) (c.in_ok-shares.ensures ∙ ap (λ n. replicate n []) c.len-count.ensures)
