use Rattle.mt_jobtext.proofs.Showable.{jobs_showable}
use Rattle.mt_jobtext.proofs.laws.lawful_is_showable.Goals as goal

pub returns : goal.returns
returns c = jobs_showable
