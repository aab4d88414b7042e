use Rattle.std.proofs.Common.{◌≡◌, false, rules, arith}
use Rattle.mt_path.specs.AccountPath.{is_component}
use Rattle.mt_path.proofs.Children.{child_of-bad, child_of-too_long}
use Rattle.mt_path.proofs.path.Path.may_have.Goals as goal

pub returns-then-name-text_len-clause-err : goal.returns-then-name-text_len-clause-err
returns-then-name-text_len-clause-err c = child_of-too_long c.args.self.now c.args.name.now (omega (arith, c.text_len.ensures.value))

pub returns-then-not-is_component-clause-err : goal.returns-then-not-is_component-clause-err
returns-then-not-is_component-clause-err c =
    let bad : is_component c.args.name.now ≡ false = search rules in
    child_of-bad c.args.self.now c.args.name.now (omega (arith, c.text_len.ensures.value)) bad
