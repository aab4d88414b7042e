use Rattle.std.proofs.Common.{sym, ◌∙◌}
use Rattle.mt_jobtext.proofs.Joined.{pieces_joined, stats_ended, status_asked}
use Rattle.mt_jobtext.proofs.whole.shown.Goals as goal

pub returns-clause-shown : goal.returns-clause-shown
returns-clause-shown g c = record {
  showable = c.requires.showable;
  feeds = c.requires.feeds;
  stats = λ is. stats_ended c.args.kept.now.job c.args.ending c.args.stats (c.requires.stats (status_asked c.args.kept.now.job c.args.text (sym c.shown_text.ensures ∙ is)));
}

pub returns-clause-joined : goal.returns-clause-joined
returns-clause-joined g c = pieces_joined _ c.args.text c.shown_text.ensures
