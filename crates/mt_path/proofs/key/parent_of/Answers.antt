use Rattle.mt_path.proofs.Keys.{before_last, without_zero}
use Rattle.mt_path.proofs.key.parent_of.Goals as goal

pub returns-in-Some : goal.returns-in-Some
returns-in-Some c = before_last c.args.key.now c.in-Some.end c.requires c.in-Some.ensures

pub returns-in-None : goal.returns-in-None
returns-in-None c = without_zero c.args.key.now c.requires c.in-None.ensures
