use Rattle.std.proofs.Common.{ap, ◌∙◌, List, map}
use Rattle.serde_json.specs.Data.{Data, array}
use Rattle.serde_json.specs.View.{items_of}
use Rattle.serde_json.proofs.Views.{view-Array}
use Rattle.mt_types.specs.declared.document.Phase.{Phase}
use Rattle.mt_jobdoc.specs.Printed.{phases_data, phase_data}
use Rattle.mt_jobdoc.proofs.printing.phases_value.Goals as goal

pub returns : goal.returns
unfolding phases_data
returns c =
    view-Array c.in_ok-values.field-0 ∙ ap (λ (ds : List Data). array (items_of ds)) (c.in_ok-values.ensures ∙ ap (λ (ps : List Phase). map (phase_data c.args.login.now) ps) c.as_slice.ensures)
