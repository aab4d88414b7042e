use Rattle.mt_script.proofs.Names.{whole_names}
use Rattle.mt_script.proofs.laws.names_are_whole.Goals as goal

pub returns : goal.returns
returns c = whole_names
