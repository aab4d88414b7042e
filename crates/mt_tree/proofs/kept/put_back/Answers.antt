use Rattle.std.proofs.Common.{ap}
use Rattle.mt_tree.proofs.Boxed.{replaced-opened, untouched-opened}
use Rattle.mt_tree.proofs.kept.put_back.Goals as goal

pub returns-in-Some-clause-back : goal.returns-in-Some-clause-back
returns-in-Some-clause-back g c = (replaced-opened c.args.key.now c.requires.key c.args.rows.now.entries c.requires.keys c.in-Some.place.now c.args.row c.in-Some.ensures.value _ (c.get_mut.follows.holds _).0).0

pub returns-in-Some-clause-keys : goal.returns-in-Some-clause-keys
returns-in-Some-clause-keys g c = (replaced-opened c.args.key.now c.requires.key c.args.rows.now.entries c.requires.keys c.in-Some.place.now c.args.row c.in-Some.ensures.value _ (c.get_mut.follows.holds _).0).1

pub returns-in_default-clause-back : goal.returns-in_default-clause-back
returns-in_default-clause-back g c = untouched-opened c.args.key.now c.requires.key c.args.rows.now.entries c.requires.keys _ c.in_default.ensures.value _ (ap (λ m. m.entries) c.get_mut.follows.holds-at-none)
