use Rattle.mt_checker.proofs.Cuts.{exact}
use Rattle.mt_checker.proofs.laws.checker_exact.Goals as goal

pub returns : goal.returns
returns c = exact
