use Rattle.mt_headline.proofs.Chains.{answers_old_state, lists_uncommitted, loses_command, loses_own}
use Rattle.mt_headline.proofs.worked.wrong_chains.Goals as goal

pub returns-clause-lost : goal.returns-clause-lost
returns-clause-lost g c = λ children. loses_command (g.P.Spawner.gives children)

pub returns-clause-own : goal.returns-clause-own
returns-clause-own g c = λ children. loses_own (g.P.Spawner.gives children)

pub returns-clause-state : goal.returns-clause-state
returns-clause-state g c = λ children. answers_old_state (g.P.Spawner.gives children)

pub returns-clause-output : goal.returns-clause-output
returns-clause-output g c = λ children. lists_uncommitted (g.P.Spawner.gives children)
