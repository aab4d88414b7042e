use Rattle.serde_json.proofs.Nesting.{depth-read}
use Rattle.mt_certline.proofs.begin.begin.Goals as goal

pub printed_phases-requires : goal.printed_phases-requires
printed_phases-requires c = depth-read c.args.text.now _ c.requires.read
