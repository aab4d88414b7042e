use Rattle.std.proofs.Common.{rules, ◌≡◌, ◌+◌, ◌<◌, length, ap, ◌∙◌, arith}
use Rattle.mt_path.specs.AccountPath.{area_name}
use Rattle.mt_jobtext.proofs.PathTexts.{below_short, line_long}
use Rattle.mt_jobtext.proofs.names.line_len.Goals as goal

pub overflow_add-result : goal.overflow_add-result
overflow_add-result c =
    let area : c.name.result.now ≡ area_name c.args.path.now.area = c.name.ensures ∙ ap area_name c.area.ensures in
    let below : length c.name.result.now + length c.key.result.now < 1024 = omega (arith, below_short c.args.path.now c.key.ensures.path, ap length area, ap length c.key.ensures.value) in
    search rules

pub returns : goal.returns
returns c =
    let area : c.name.result.now ≡ area_name c.args.path.now.area = c.name.ensures ∙ ap area_name c.area.ensures in
    omega (arith, line_long c.args.login.now c.args.path.now, ap length area, ap length c.key.ensures.value)
