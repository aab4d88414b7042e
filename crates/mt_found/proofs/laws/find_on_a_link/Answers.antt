use Rattle.mt_found.proofs.OnLink.{on_a_link}
use Rattle.mt_found.proofs.laws.find_on_a_link.Goals as goal

pub returns : goal.returns
returns c = on_a_link c.find_over_the_store.ensures.lists
