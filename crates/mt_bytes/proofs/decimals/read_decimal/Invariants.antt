use Rattle.mt_bytes.proofs.Digits.{IsRead}
use Rattle.mt_bytes.proofs.decimals.read_decimal.Given as goal

abbrev pub invariant-loop-byte : goal.invariant-loop-byte
invariant-loop-byte l = IsRead l.text l.byte-index l.value
