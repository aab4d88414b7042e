use Rattle.std.proofs.Common.{◌≡◌, ◌≤◌, ◌*◌, length, take}
use Rattle.json.specs.Print.{escape}
use Rattle.mt_jobtext.proofs.quotes.escaped_len.Given as goal

abbrev pub invariant-loop-byte : goal.invariant-loop-byte
invariant-loop-byte l = (l.len ≡ length (escape (take l.byte-index l.block))) × (l.len ≤ 6 * l.byte-index)
