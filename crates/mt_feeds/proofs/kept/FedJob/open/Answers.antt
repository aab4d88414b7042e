use Rattle.std.proofs.Common.{◌+◌, map, sym, ap, subst, ◌∙◌, arith}
use Rattle.mt_feeds.specs.FedJob.{AreFeeds, AreShares, lists_of}
use Rattle.mt_feeds.specs.Opening.{opened_at}
use Rattle.mt_feeds.proofs.Opened.{OpenTo, open_all, open_on}
use Rattle.mt_feeds.proofs.kept.FedJob.open.Goals as goal

pub loop-phase-preserved : goal.loop-phase-preserved
loop-phase-preserved g c =
    let job = c.args.self.now.job in
    let laid = map lists_of c.loop-phase.self.shares.items in
    record {
      job = c.in_ok-open_phase.ensures.job ∙ c.loop-phase.invariant.job;
      feeds = c.in_ok-open_phase.ensures.feeds ∙ c.loop-phase.invariant.feeds;
      so_far = subst (OpenTo job (c.loop-phase.phase + 1))
          (sym (c.in_ok-open_phase.ensures.shares ∙ ap (λ j. opened_at c.args.queue.now j laid c.loop-phase.phase) c.loop-phase.invariant.job))
          (open_on job c.args.queue.now c.loop-phase.phase laid c.requires.runs c.requires.plan c.requires.document (omega arith) c.loop-phase.invariant.so_far);
    }

pub returns-clause-kept : goal.returns-clause-kept
returns-clause-kept g c =
    let job = c.args.self.now.job in
    let laid = map lists_of c.loop-phase.self.shares.items in
    record {
      feeds = subst (λ j. AreFeeds j c.loop-phase.self.feeds.items) (sym c.loop-phase.invariant.job) (subst (λ v. AreFeeds job v.items) (sym c.loop-phase.invariant.feeds) c.requires.feeds);
      shares = subst (λ j. AreShares j laid) (sym c.loop-phase.invariant.job) (open_all job laid c.loop-phase.phase (omega arith) c.loop-phase.invariant.so_far);
    }
