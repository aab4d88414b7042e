use Rattle.mt_body.specs.Stored.{bytes_of, is_stored}
use Rattle.mt_opening.proofs.digest.digest.Goals as goal

pub returns-clause-digest : goal.returns-clause-digest
unfolding is_stored bytes_of
returns-clause-digest g c ps is = record { pieces = c.requires.ready.stored ps is; digest = c.in_ok-body.ensures.digest ps is }
