use Rattle.std.proofs.Common.{ℕ, List}
use Rattle.mt_types.specs.declared.body.Body.{Body}
use Rattle.mt_found.proofs.Plays.{lists_front}
use Rattle.mt_found.proofs.laws.find_lists_a_front.Goals as goal

pub returns-clause-references : goal.returns-clause-references
returns-clause-references c = lists_front Body

pub returns-clause-bytes : goal.returns-clause-bytes
returns-clause-bytes c = lists_front (List ℕ)
