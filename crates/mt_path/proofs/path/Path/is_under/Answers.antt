use Rattle.std.proofs.Common.{◌≡◌, ◌<◌, length, take, rules, ap, subst, ◌∙◌}
use Rattle.mt_path.specs.AccountPath.{IsPath}
use Rattle.mt_path.specs.Keys.{key_bytes, parts_of}
use Rattle.mt_path.proofs.Held.{under-keys}
use Rattle.mt_path.proofs.path.Path.is_under.Goals as goal

pub returns-then-n-len : goal.returns-then-n-len
returns-then-n-len c =
    let p = c.args.self.now in
    let q = c.args.other.now in
    let area : p.area ≡ q.area = search rules in
    let longer : length q.parts < length p.parts = search rules in
    let front : c.before-then-n-len.result.now ≡ key_bytes (take (length q.parts) p.parts) =
    c.before-then-n-len.ensures ∙ ap (λ key. key_bytes (take c.len-n.result (parts_of key))) c.deref.ensures.value ∙ ap (λ r. key_bytes (take c.len-n.result r.parts)) c.self.view_is ∙ ap (λ n. key_bytes (take n p.parts)) c.len-n.ensures in
    let whole : c.deref-then-n-len.result.now ≡ key_bytes q.parts =
    c.deref-then-n-len.ensures.value ∙ c.other.invariant.whole.whole ∙ ap (λ r. key_bytes r.parts) c.other.view_is in
    let is = under-keys p q c.before-then-n-len.result.now c.deref-then-n-len.result.now (subst IsPath c.self.view_is c.self.invariant.path) (subst IsPath c.other.view_is c.other.invariant.path) area longer front whole in
    (λ t. is.0 (c.same_bytes.ensures.0 t), λ u. c.same_bytes.ensures.1 (is.1 u))
