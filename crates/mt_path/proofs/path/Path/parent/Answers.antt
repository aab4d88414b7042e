use Rattle.std.proofs.Common.{◌≡◌, ◌-◌, ◌<◌, Some, take, length, ap, sym, ◌∙◌, arith}
use Rattle.std.proofs.lemmas.Grind.{common_steps}
use Rattle.mt_path.specs.Keys.{key_bytes, parts_of}
use Rattle.mt_path.proofs.Held.{front-held, front-is, parent_of-some}
use Rattle.mt_path.proofs.Keys.{some_parts}
use Rattle.mt_path.proofs.path.Path.parent.Goals as goal

taken : (c : goal.After-result-1) → c.in_ok-key.key.items ≡ key_bytes (take (length (parts_of c.self.inside.key.items) - 1) (parts_of c.self.inside.key.items))
taken c = c.in_ok-key.ensures.items ∙ c.parent_of.ensures ∙ ap (λ key. key_bytes (take (length (parts_of key) - 1) (parts_of key))) c.deref.ensures.value

pub invariant_of-result : goal.invariant_of-result
invariant_of-result c = front-held c.self.inside.area c.self.inside.key.items c.in_ok-key.key.items (length (parts_of c.self.inside.key.items) - 1) c.self.invariant (taken c)

pub returns : goal.returns
returns c =
    let n = length (parts_of c.self.inside.key.items) - 1 in
    let same : length (parts_of c.self.inside.key.items) ≡ length c.args.self.now.parts = ap (λ p. length p.parts) c.self.view_is in
    let key : 0 < length c.self.inside.key.items = grind (arith, common_steps) in
    let some : 0 < length c.args.self.now.parts = omega (arith, same, some_parts c.self.inside.key.items c.self.invariant.whole key) in
    ap Some (front-is c.args.self.now c.self.inside.area c.self.inside.key.items c.in_ok-key.key.items n c.self.view_is c.self.invariant (taken c))
    ∙ ap (λ m. Some (record { area = c.args.self.now.area; parts = take (m - 1) c.args.self.now.parts })) same
    ∙ sym (parent_of-some c.args.self.now some)
