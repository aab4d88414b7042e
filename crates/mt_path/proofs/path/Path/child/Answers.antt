use Rattle.std.proofs.Common.{◌≡◌, ◌∷◌, ◌++◌, arith}
use Rattle.std.proofs.lemmas.Grind.{common_steps}
use Rattle.mt_path.proofs.Held.{child-held, child-is}
use Rattle.mt_path.proofs.path.Path.child.Goals as goal

key : (c : goal.After-result-1) → c.put_part.new.key.items ≡ c.self.inside.key.items ++ 0 ∷ c.args.name.now
key c = grind (arith, common_steps)

pub invariant_of-result : goal.invariant_of-result
invariant_of-result c = child-held c.args.self.now c.self.inside.area c.self.inside.key.items c.put_part.new.key.items c.args.name.now c.self.view_is c.self.invariant c.in_ok-may_have.ensures.named c.in_ok-may_have.ensures.fits (key c)

pub returns : goal.returns
returns c = child-is c.args.self.now c.self.inside.area c.self.inside.key.items c.put_part.new.key.items c.args.name.now c.self.view_is c.self.invariant c.in_ok-may_have.ensures.named c.in_ok-may_have.ensures.fits (key c)
