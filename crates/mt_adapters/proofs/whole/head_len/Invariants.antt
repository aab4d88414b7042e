-- What was seen so far.
use Rattle.mt_adapters.specs.Heads.{Sees}
use Rattle.mt_adapters.proofs.whole.head_len.Given as goal

abbrev pub invariant-loop-at : goal.invariant-loop-at
invariant-loop-at l = Sees l.seen l.bytes l.at
