use Rattle.mt_jobtext.proofs.Bodies.{archives_same, texts_same}
use Rattle.mt_jobtext.proofs.laws.texts_look_at_no_bodies.Goals as goal

pub returns : goal.returns
returns c = record { texts = texts_same; archives = archives_same }
