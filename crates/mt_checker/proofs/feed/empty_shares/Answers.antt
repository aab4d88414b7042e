use Rattle.std.proofs.Common.{◌∙◌}
use Rattle.mt_feeds.proofs.Laid.{none_laid}
use Rattle.mt_certline.specs.declared.line.Sum.{Sum}
use Rattle.mt_checker.proofs.feed.empty_shares.Goals as goal

pub returns : goal.returns
returns c = c.in_ok-lists.ensures ∙ none_laid Sum c.args.count
