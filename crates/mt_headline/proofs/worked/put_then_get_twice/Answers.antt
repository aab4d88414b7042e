use Rattle.mt_headline.proofs.Chains.{worked_chain, worked_replies}
use Rattle.mt_headline.proofs.worked.put_then_get_twice.Goals as goal

pub returns-clause-replies : goal.returns-clause-replies
returns-clause-replies g c = worked_replies

pub returns-clause-chain : goal.returns-clause-chain
returns-clause-chain g c = λ children. worked_chain (g.P.Spawner.gives children)
