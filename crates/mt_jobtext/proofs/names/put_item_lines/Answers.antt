use Rattle.std.proofs.Common.{◌++◌, ap, ◌∙◌, take}
use Rattle.std.specs.List.{flat_map}
use Rattle.std.proofs.lemmas.List.{take_all}
use Rattle.mt_path.specs.AccountPath.{path_text}
use Rattle.mt_jobtext.specs.JobTexts.{line}
use Rattle.mt_jobtext.proofs.Spelled.{flat_map_more}
use Rattle.mt_jobtext.proofs.Windows.{puts_more, puts_none, puts_same}
use Rattle.mt_jobtext.proofs.names.put_item_lines.Goals as goal

pub loop-item-init : goal.loop-item-init
loop-item-init g c = puts_none c.args.window.now

pub loop-item-preserved : goal.loop-item-preserved
loop-item-preserved g c =
    let items = c.args.items.now in
    let k = c.loop-item.item-index in
    puts_same (puts_more c.loop-item.invariant c.put_path_line.ensures)
    (ap (λ i. flat_map (λ j. line (path_text c.args.login.now j.name)) (take k items) ++ line (path_text c.args.login.now i.name)) c.item-item.is
    ∙ flat_map_more (λ i. line (path_text c.args.login.now i.name)) items k c.item-item.result c.loop-item-test.true)

pub returns : goal.returns
returns g c =
    puts_same c.loop-item.invariant (ap (flat_map (λ i. line (path_text c.args.login.now i.name))) (take_all c.loop-item.item-index c.args.items.now c.loop-item-test.false))
