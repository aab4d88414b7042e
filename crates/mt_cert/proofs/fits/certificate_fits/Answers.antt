-- The lines are within the limits, and then they are accepted.
use Rattle.mt_cert.specs.Reading.{certificate_in}
use Rattle.mt_cert.proofs.Fittings.{accepted_where, fits_exactly}
use Rattle.mt_cert.proofs.fits.certificate_fits.Goals as goal

pub returns-clause-exact : goal.returns-clause-exact
returns-clause-exact c =
    fits_exactly c.args.login.now (certificate_in c.args.job.now) c.is_within.result c.in_ok-page.page.short c.in_ok-page.page.lines c.is_within.ensures c.in_ok-page.ensures.short c.in_ok-page.ensures.lines

pub returns-clause-accepted : goal.returns-clause-accepted
returns-clause-accepted c = accepted_where c.args.login.now c.args.job.now c.is_within.result c.in_ok-see.ensures (returns-clause-exact c)
