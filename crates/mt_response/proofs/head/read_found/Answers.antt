use Rattle.mt_response.proofs.Found.{head_named, head_said}
use Rattle.mt_response.proofs.head.read_found.Goals as goal

pub read_fields-requires-clause-named : goal.read_fields-requires-clause-named
read_fields-requires-clause-named c = head_named c.args.head.now c.args.spans.now c.args.parts c.requires.reads

pub returns : goal.returns
returns c = λ h at_h. head_said c.args.head.now c.args.spans.now c.args.parts h at_h c.in_ok-fields.fields c.in_ok-fields.ensures
