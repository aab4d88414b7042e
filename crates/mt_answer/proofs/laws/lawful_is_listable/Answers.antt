use Rattle.mt_answer.proofs.Listable.{lawful_listable}
use Rattle.mt_answer.proofs.laws.lawful_is_listable.Goals as goal

pub returns : goal.returns
returns c = lawful_listable
