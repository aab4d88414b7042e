use Rattle.mt_model.proofs.LawfulHistories.{lawful_honest, taken_honest}
use Rattle.mt_model.proofs.Stood.{front_honest, honest_on, short_honest}
use Rattle.mt_model.proofs.laws.honest_histories.Goals as goal

pub returns : goal.returns
returns g c = record {
  lawful = λ login fate_of. lawful_honest login (g.P.Children.gives c.args.children.now) fate_of;
  grows = λ login fate_of. honest_on login (g.P.Children.gives c.args.children.now) fate_of;
  fronts = λ login fate_of. short_honest login (g.P.Children.gives c.args.children.now) fate_of;
  taken = λ login fate_of. taken_honest login (g.P.Children.gives c.args.children.now) fate_of;
  rests = λ login fate_of. front_honest login (g.P.Children.gives c.args.children.now) fate_of;
}
