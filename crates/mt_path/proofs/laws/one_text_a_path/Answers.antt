use Rattle.mt_path.proofs.Printed.{path_of_text-printed, path_text-injective}
use Rattle.mt_path.proofs.laws.one_text_a_path.Goals as goal

pub returns-clause-read : goal.returns-clause-read
returns-clause-read c = path_of_text-printed

pub returns-clause-alike : goal.returns-clause-alike
returns-clause-alike c = path_text-injective
