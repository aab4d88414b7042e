use Rattle.mt_resolve.proofs.Ready.{is_committing, records_ready}
use Rattle.mt_resolve.proofs.laws.commits_are_ready.Goals as goal

pub returns : goal.returns
returns c = λ count rows jobs room law lawful number job found phase place allowed moment fate made.
    (is_committing count room rows jobs law lawful number job found phase place allowed moment, records_ready count room rows jobs law lawful number job found phase place allowed moment fate made)
