use Rattle.mt_jobtext.proofs.Archived.{archives_front, archives_grow, archives_rest}
use Rattle.mt_jobtext.proofs.laws.archives_are_texts.Goals as goal

pub returns : goal.returns
returns c = record { grows = archives_grow; fronts = archives_front; rests = archives_rest }
