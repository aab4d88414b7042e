-- No place is laid out, and then what the phase reads.
use Rattle.std.proofs.Common.{◌∙◌, refl}
use Rattle.mt_model.specs.Types.{Body}
use Rattle.mt_feeds.proofs.Laid.{none_laid}
use Rattle.mt_cert.proofs.shares.lay.Goals as goal

pub returns : goal.returns
returns c = (c.in_ok-add_feed.ensures (record { lists = c.in_ok-no_places.ensures ∙ none_laid Body c.args.reducers; count = refl })).lists
