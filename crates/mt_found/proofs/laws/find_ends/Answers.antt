use Rattle.std.proofs.Common.{ℕ, List}
use Rattle.mt_types.specs.declared.body.Body.{Body}
use Rattle.mt_found.proofs.Ends.{finds_end}
use Rattle.mt_found.proofs.laws.find_ends.Goals as goal

pub returns-clause-references : goal.returns-clause-references
returns-clause-references c = finds_end Body

pub returns-clause-bytes : goal.returns-clause-bytes
returns-clause-bytes c = finds_end (List ℕ)
