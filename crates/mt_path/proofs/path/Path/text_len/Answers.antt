use Rattle.std.proofs.Common.{◌≡◌, ◌+◌, length, rules, ap, subst, ◌∙◌, arith}
use Rattle.mt_path.specs.AccountPath.{IsPath, area_name, local_text}
use Rattle.mt_path.specs.Keys.{key_bytes}
use Rattle.mt_path.proofs.Held.{length-local_text}
use Rattle.mt_path.proofs.path.Path.text_len.Goals as goal

long : (c : goal.After-len) → length c.name.result.now + 1 + c.len.result ≡ length (local_text c.args.self.now)
long c =
    let key : c.self.inside.key.items ≡ key_bytes c.args.self.now.parts = c.self.invariant.whole.whole ∙ ap (λ p. key_bytes p.parts) c.self.view_is in
    let area : c.name.result.now ≡ area_name c.args.self.now.area = search rules in
    let len : c.len.result ≡ length c.self.inside.key.items = search rules in
    omega (arith, length-local_text c.args.self.now c.self.inside.key.items key, ap length area, len)

pub returns-clause-value : goal.returns-clause-value
returns-clause-value c = long c

pub returns-clause-short : goal.returns-clause-short
returns-clause-short c = omega (arith, long c, (subst IsPath c.self.view_is c.self.invariant.path).short)
