use Rattle.mt_lives.proofs.Valid.{lives_valid, step_valid, told_stays}
use Rattle.mt_lives.proofs.laws.lives_stay_valid.Goals as goal

pub returns-clause-step : goal.returns-clause-step
returns-clause-step g c = λ login fate_of. step_valid login (g.P.Children.gives c.args.children.now) fate_of

pub returns-clause-lives : goal.returns-clause-lives
returns-clause-lives g c = λ login fate_of. lives_valid login (g.P.Children.gives c.args.children.now) fate_of

pub returns-clause-told : goal.returns-clause-told
returns-clause-told g c = λ login fate_of. told_stays login (g.P.Children.gives c.args.children.now) fate_of
