use Rattle.std.proofs.Common.{ap}
use Rattle.std.proofs.lemmas.List.{take_all}
use Rattle.json.specs.Print.{escape, escape_byte}
use Rattle.mt_jobtext.proofs.Spelled.{flat_map_more}
use Rattle.mt_jobtext.proofs.Windows.{puts_more, puts_none, puts_same}
use Rattle.mt_jobtext.proofs.quotes.put_bytes.Goals as goal

pub loop-byte-init : goal.loop-byte-init
loop-byte-init c = puts_none c.args.window.now

pub loop-byte-preserved : goal.loop-byte-preserved
loop-byte-preserved c =
    puts_same (puts_more c.loop-byte.invariant c.put_byte.ensures) (flat_map_more escape_byte c.args.text.now c.loop-byte.byte-index 0 c.loop-byte-test.true)

pub returns : goal.returns
returns c = puts_same c.loop-byte.invariant (ap escape (take_all c.loop-byte.byte-index c.args.text.now c.loop-byte-test.false))
