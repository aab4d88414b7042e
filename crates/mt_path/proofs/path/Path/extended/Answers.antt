use Rattle.mt_path.proofs.Held.{child-held, child-is}
use Rattle.mt_path.proofs.path.Path.extended.Goals as goal

pub invariant_of-result : goal.invariant_of-result
invariant_of-result c = child-held c.args.self c.self.inside.area c.self.inside.key.items c.put_part.new.key.items c.args.name.now c.self.view_is c.self.invariant c.in_ok-may_have.ensures.named c.in_ok-may_have.ensures.fits c.in_ok-put_part.ensures

pub returns : goal.returns
returns c = child-is c.args.self c.self.inside.area c.self.inside.key.items c.put_part.new.key.items c.args.name.now c.self.view_is c.self.invariant c.in_ok-may_have.ensures.named c.in_ok-may_have.ensures.fits c.in_ok-put_part.ensures
