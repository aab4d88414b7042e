use Rattle.std.proofs.Common.{map, sym, subst, ◌∙◌}
use Rattle.mt_model.specs.JobSteps.{done_at}
use Rattle.mt_model.proofs.Maps.{length-map}
use Rattle.mt_feeds.specs.FedJob.{AreShares, lists_of}
use Rattle.mt_feeds.proofs.Opened.{shares_cleared}
use Rattle.mt_feeds.proofs.kept.FedJob.set_done.Goals as goal

pub returns-clause-kept : goal.returns-clause-kept
returns-clause-kept g c =
    let old = c.args.self.now in
    record {
      feeds = record { each = c.requires.feeds.each; noted = c.requires.feeds.noted };
      shares = subst (AreShares (done_at c.args.moment c.args.cancelled old.job)) (sym c.clear_shares.ensures)
          (shares_cleared c.args.moment c.args.cancelled old.job (map lists_of old.shares.items) old.shares.items c.requires.shares (sym (length-map lists_of old.shares.items) ∙ c.requires.shares.each));
    }
