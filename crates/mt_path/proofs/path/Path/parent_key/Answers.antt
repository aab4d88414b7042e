use Rattle.std.proofs.Common.{◌≡◌, ◌-◌, length, take, ap, subst, ◌∙◌}
use Rattle.mt_path.specs.AccountPath.{IsPath}
use Rattle.mt_path.specs.Keys.{key_bytes, parts_of}
use Rattle.mt_path.proofs.Keys.{IsKey-from_key, clear-take, clear_path, parts-from_key}
use Rattle.mt_path.proofs.path.Path.parent_key.Goals as goal

taken : (c : goal.After-parent_of) → c.parent_of.result.now ≡ key_bytes (take (length c.args.self.now.parts - 1) c.args.self.now.parts)
taken c = c.parent_of.ensures ∙ ap (λ key. key_bytes (take (length (parts_of key) - 1) (parts_of key))) c.deref.ensures.value ∙ ap (λ p. key_bytes (take (length p.parts - 1) p.parts)) c.self.view_is

pub returns-clause-parts : goal.returns-clause-parts
returns-clause-parts c =
    parts-from_key c.parent_of.result.now (take (length c.args.self.now.parts - 1) c.args.self.now.parts) (clear-take (length c.args.self.now.parts - 1) c.args.self.now.parts (clear_path c.args.self.now (subst IsPath c.self.view_is c.self.invariant.path))) (taken c)

pub returns-clause-key : goal.returns-clause-key
returns-clause-key c =
    IsKey-from_key c.parent_of.result.now (take (length c.args.self.now.parts - 1) c.args.self.now.parts) (clear-take (length c.args.self.now.parts - 1) c.args.self.now.parts (clear_path c.args.self.now (subst IsPath c.self.view_is c.self.invariant.path))) (taken c)
