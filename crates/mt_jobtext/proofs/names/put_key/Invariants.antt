use Rattle.std.proofs.Common.{map, take}
use Rattle.json.specs.Print.{escape}
use Rattle.mt_path.specs.Keys.{shown_byte}
use Rattle.mt_jobtext.specs.Windows.{Puts}
use Rattle.mt_jobtext.proofs.names.put_key.Given as goal

abbrev pub invariant-loop-byte : goal.invariant-loop-byte
invariant-loop-byte l = Puts (escape (map shown_byte (take l.byte-index l.key))) l.initial.window l.window
