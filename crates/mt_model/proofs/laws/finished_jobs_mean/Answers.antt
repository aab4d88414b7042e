use Rattle.mt_model.proofs.Finished.{finished_jobs_mean}
use Rattle.mt_model.proofs.laws.finished_jobs_mean.Goals as goal

pub returns : goal.returns
returns g c = λ login fate_of. finished_jobs_mean login (g.P.Children.gives c.args.children.now) fate_of
