use Rattle.std.proofs.Common.{ℕ, List}
use Rattle.mt_types.specs.declared.body.Body.{Body}
use Rattle.mt_found.proofs.LawfulRows.{below_under, worked}
use Rattle.mt_found.proofs.Plays.{lists_all}
use Rattle.mt_found.proofs.laws.find_lists_all.Goals as goal

pub returns-clause-references : goal.returns-clause-references
returns-clause-references c = lists_all Body

pub returns-clause-bytes : goal.returns-clause-bytes
returns-clause-bytes c = lists_all (List ℕ)

pub returns-clause-below : goal.returns-clause-below
returns-clause-below c = below_under

pub returns-clause-worked : goal.returns-clause-worked
returns-clause-worked c = worked
