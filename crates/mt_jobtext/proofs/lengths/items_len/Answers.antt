use Rattle.std.proofs.Common.{ap, ◌∙◌, length, arith}
use Rattle.std.specs.List.{flat_map}
use Rattle.std.proofs.lemmas.List.{take_all}
use Rattle.mt_path.specs.AccountPath.{path_text}
use Rattle.mt_jobtext.specs.JobTexts.{line}
use Rattle.mt_jobtext.proofs.Spelled.{length_more}
use Rattle.mt_jobtext.proofs.lengths.items_len.Goals as goal

pub loop-item-preserved : goal.loop-item-preserved
loop-item-preserved g c =
    let items = c.args.items.now in
    let more = length_more (λ i. line (path_text c.args.login.now i.name)) items c.loop-item.item-index c.item-item.result c.loop-item-test.true c.item-item.is in
    omega (arith, more)

pub returns : goal.returns
returns g c = c.loop-item.invariant ∙ ap (λ l. length (flat_map (λ i. line (path_text c.args.login.now i.name)) l)) (take_all c.loop-item.item-index c.args.items.now c.loop-item-test.false)
