use Rattle.mt_connection.specs.Transcript.{setting}
use Rattle.mt_connection.proofs.Accepted.{requests_are_steps, requests_keep_children}
use Rattle.mt_connection.proofs.laws.requests_are_steps.Goals as goal

pub returns-clause-steps : goal.returns-clause-steps
returns-clause-steps g c = λ children clock hears knows login slots limit base. requests_are_steps (setting hears knows (g.C.Clock.gives clock) (g.P.Spawner.gives children) login slots limit base)

pub returns-clause-children : goal.returns-clause-children
returns-clause-children g c = λ children clock hears knows login slots limit base. requests_keep_children (setting hears knows (g.C.Clock.gives clock) (g.P.Spawner.gives children) login slots limit base)
