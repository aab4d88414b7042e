use Rattle.std.proofs.Common.{ap}
use Rattle.serde_json.specs.Written.{compact_text}
use Rattle.mt_jobdoc.specs.Printed.{phase_data}
use Rattle.mt_types.specs.declared.document.Phase.{Phase}
use Rattle.mt_jobtext.proofs.Spelled.{listed_more}
use Rattle.mt_jobtext.proofs.Windows.{puts_more, puts_same}
use Rattle.mt_jobtext.proofs.phases.put_each_phase.Goals as goal

pub loop-k-preserved : goal.loop-k-preserved
loop-k-preserved c =
    puts_same
    (puts_more c.loop-k.invariant
    (puts_more c.put_comma.ensures (puts_same c.put_phase.ensures (ap (λ (p : Phase). compact_text (phase_data c.args.login.now p)) c.index-phases-k.is))))
    (listed_more (λ (p : Phase). compact_text (phase_data c.args.login.now p)) c.args.phases.now c.loop-k.k c.index-phases-k.result c.loop-k-test.true)
