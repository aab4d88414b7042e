use Rattle.std.proofs.Common.{take}
use Rattle.json.specs.Print.{escape}
use Rattle.mt_jobtext.specs.Windows.{Puts}
use Rattle.mt_jobtext.proofs.quotes.put_bytes.Given as goal

abbrev pub invariant-loop-byte : goal.invariant-loop-byte
invariant-loop-byte l = Puts (escape (take l.byte-index l.text)) l.initial.window l.window
