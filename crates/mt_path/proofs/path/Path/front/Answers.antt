use Rattle.std.proofs.Common.{◌≡◌, take, ap, ◌∙◌}
use Rattle.mt_path.specs.Keys.{key_bytes, parts_of}
use Rattle.mt_path.proofs.Held.{front-held, front-is}
use Rattle.mt_path.proofs.path.Path.front.Goals as goal

taken : (c : goal.After-result-1) → c.in_ok-key.key.items ≡ key_bytes (take c.args.count (parts_of c.self.inside.key.items))
taken c = c.in_ok-key.ensures.items ∙ c.before-2.ensures ∙ ap (λ key. key_bytes (take c.args.count (parts_of key))) c.deref.ensures.value

pub invariant_of-result : goal.invariant_of-result
invariant_of-result c = front-held c.self.inside.area c.self.inside.key.items c.in_ok-key.key.items c.args.count c.self.invariant (taken c)

pub returns : goal.returns
returns c = front-is c.args.self.now c.self.inside.area c.self.inside.key.items c.in_ok-key.key.items c.args.count c.self.view_is c.self.invariant (taken c)
