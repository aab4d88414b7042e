-- The bytes that are read are the text of the path.
use Rattle.std.proofs.Common.{rules, ◌≡◌, Ok, ap, ◌∙◌}
use Rattle.mt_path.specs.AccountPath.{path_text}
use Rattle.mt_path.specs.Names.{path_of_text}
use Rattle.mt_path.proofs.Outcomes.{ok_is, err_is_memory}
use Rattle.mt_path.proofs.Printed.{path_of_text-printed}
use Rattle.mt_path.proofs.laws.printed_again.Goals as goal

due : (c : goal.After-drop-text-inside) → path_of_text c.args.login.now c.as_bytes.result.now ≡ Ok c.args.path.now
due c =
    let text : c.as_bytes.result.now ≡ path_text c.args.login.now c.args.path.now = search rules in
    ap (path_of_text c.args.login.now) text ∙ path_of_text-printed c.args.login.now c.args.path.now c.requires c.in_ok-text.ensures.path

pub returns-clause-same : goal.returns-clause-same
returns-clause-same c = ok_is c.args.path.now _ c.plain.result (due c) c.plain.ensures

pub returns-clause-memory : goal.returns-clause-memory
returns-clause-memory c = err_is_memory c.args.path.now _ c.plain.result (due c) c.plain.ensures
