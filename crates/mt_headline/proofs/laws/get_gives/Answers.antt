use Rattle.mt_headline.proofs.Gets.{get_gives, get_gives_nothing}
use Rattle.mt_headline.proofs.laws.get_gives.Goals as goal

pub returns-clause-object : goal.returns-clause-object
returns-clause-object c = get_gives

pub returns-clause-nothing : goal.returns-clause-nothing
returns-clause-nothing c = get_gives_nothing
