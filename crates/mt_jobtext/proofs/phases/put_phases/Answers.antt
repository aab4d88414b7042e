use Rattle.std.proofs.Common.{List, false, map, ap}
use Rattle.serde_json.specs.Written.{compact_text}
use Rattle.mt_jobdoc.specs.Printed.{phase_data}
use Rattle.mt_types.specs.declared.document.Phase.{Phase}
use Rattle.mt_jobtext.specs.Members.{listed}
use Rattle.mt_jobtext.proofs.Texts.{phases_written}
use Rattle.mt_jobtext.proofs.Windows.{puts_more, puts_same}
use Rattle.mt_jobtext.proofs.phases.put_phases.Goals as goal

pub returns : goal.returns
returns c =
    puts_same
    (puts_more c.put.ensures
    (puts_more (puts_same c.put_each_phase.ensures (ap (λ (phases : List Phase). listed false (map (λ p. compact_text (phase_data c.args.login.now p)) phases)) c.as_slice.ensures))
    c.put-2.ensures))
    (phases_written c.args.login.now c.args.document.now)
