use Rattle.std.proofs.Common.{map}
use Rattle.mt_feeds.specs.FedJob.{lists_of}
use Rattle.mt_feeds.proofs.Opened.{were_ended}
use Rattle.mt_feeds.proofs.kept.FedJob.end.Goals as goal

pub returns-clause-feeds : goal.returns-clause-feeds
returns-clause-feeds g c = record { each = c.requires.kept.feeds.each; noted = c.requires.kept.feeds.noted }

pub returns-clause-shares : goal.returns-clause-shares
returns-clause-shares g c = were_ended c.args.self.now.job (map lists_of c.args.self.now.shares.items) c.requires.open c.requires.kept.shares
