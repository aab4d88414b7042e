use Rattle.std.proofs.Common.{rules, IsTrue, ◌↔◌}
use Rattle.mt_path.specs.AccountPath.{IsComponent}
use Rattle.mt_path.proofs.Components.{is_component-from_exact}
use Rattle.mt_path.proofs.component.is_component.Goals as goal

pub returns-clause-value : goal.returns-clause-value
returns-clause-value c =
    let exact : IsTrue c.is_ok.result ↔ IsComponent c.args.name.now = search rules in
    is_component-from_exact c.args.name.now c.is_ok.result exact
