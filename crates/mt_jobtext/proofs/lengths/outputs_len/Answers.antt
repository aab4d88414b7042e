use Rattle.std.proofs.Common.{ap, ◌∙◌, length, arith}
use Rattle.std.specs.List.{flat_map}
use Rattle.std.proofs.lemmas.List.{take_all}
use Rattle.mt_jobtext.specs.Pieces.{output_lines}
use Rattle.mt_jobtext.proofs.Spelled.{length_more}
use Rattle.mt_jobtext.proofs.lengths.outputs_len.Goals as goal

pub loop-entry-preserved : goal.loop-entry-preserved
loop-entry-preserved g c =
    let more = length_more (output_lines c.args.login.now c.args.phases) c.args.trace.now c.loop-entry.entry-index c.entry-item.result c.loop-entry-test.true c.entry-item.is in
    omega (arith, more)

pub returns : goal.returns
returns g c = c.loop-entry.invariant ∙ ap (λ l. length (flat_map (output_lines c.args.login.now c.args.phases) l)) (take_all c.loop-entry.entry-index c.args.trace.now c.loop-entry-test.false)
