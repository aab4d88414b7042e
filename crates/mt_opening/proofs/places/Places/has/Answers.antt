use Rattle.std.proofs.Common.{◌∙◌, ap}
use Rattle.mt_opening.proofs.Stretches.{fits, stored_none, stored_some}
use Rattle.mt_opening.proofs.places.Places.has.Goals as goal

pub returns-then-body-eq0 : goal.returns-then-body-eq0
returns-then-body-eq0 c ps a = stored_none ps c.args.body.now c.if-body-eq0.true

pub returns : goal.returns
returns c ps a = c.fits.ensures ∙ ap (fits c.args.body.now.len) (c.bytes_ahead.ensures ps a) ∙ stored_some ps c.args.body.now c.if-body-eq0.false
