use Rattle.std.proofs.Common.{◌≡◌, ◌<◌, ◌-◌, length, take, rules, ap, subst, ◌∙◌, arith}
use Rattle.std.proofs.lemmas.Grind.{common_steps}
use Rattle.mt_path.specs.AccountPath.{IsPath}
use Rattle.mt_path.specs.Keys.{key_bytes, parts_of}
use Rattle.mt_path.proofs.Held.{parent-keys}
use Rattle.mt_path.proofs.Keys.{some_parts}
use Rattle.mt_path.proofs.path.Path.same_parent.Goals as goal

pub returns-then-same_area : goal.returns-then-same_area
returns-then-same_area c =
    let p = c.args.self.now in
    let q = c.args.other.now in
    let area : p.area ≡ q.area = search rules in
    let key_p : 0 < length c.self.inside.key.items = grind (arith, common_steps) in
    let key_q : 0 < length c.other.inside.key.items = grind (arith, common_steps) in
    let some_p : 0 < length p.parts = omega (arith, ap (λ r. length r.parts) c.self.view_is, some_parts c.self.inside.key.items c.self.invariant.whole key_p) in
    let some_q : 0 < length q.parts = omega (arith, ap (λ r. length r.parts) c.other.view_is, some_parts c.other.inside.key.items c.other.invariant.whole key_q) in
    let above_p : c.parent_of.result.now ≡ key_bytes (take (length p.parts - 1) p.parts) =
    c.parent_of.ensures ∙ ap (λ key. key_bytes (take (length (parts_of key) - 1) (parts_of key))) c.deref.ensures.value ∙ ap (λ r. key_bytes (take (length r.parts - 1) r.parts)) c.self.view_is in
    let above_q : c.parent_of-then-same_area.result.now ≡ key_bytes (take (length q.parts - 1) q.parts) =
    c.parent_of-then-same_area.ensures ∙ ap (λ key. key_bytes (take (length (parts_of key) - 1) (parts_of key))) c.deref-then-same_area.ensures.value ∙ ap (λ r. key_bytes (take (length r.parts - 1) r.parts)) c.other.view_is in
    let is = parent-keys p q _ _ (subst IsPath c.self.view_is c.self.invariant.path) (subst IsPath c.other.view_is c.other.invariant.path) area some_p some_q above_p above_q in
    (λ t. is.0 (c.same_bytes.ensures.0 t), λ u. c.same_bytes.ensures.1 (is.1 u))
