use Rattle.mt_model.proofs.Stood as stood
use Rattle.mt_model.proofs.laws.honest_wider.Goals as goal

pub returns : goal.returns
returns g c = λ login fate_of wider. stood.honest_wider login (g.P.Children.gives c.args.few.now) (g.Q.Children.gives c.args.more.now) fate_of wider
