use Rattle.mt_headline.proofs.Headline.{chains_meet_headline}
use Rattle.mt_headline.proofs.laws.headline.Goals as goal

pub returns : goal.returns
returns g c = λ children login. chains_meet_headline login (g.P.Spawner.gives children)
