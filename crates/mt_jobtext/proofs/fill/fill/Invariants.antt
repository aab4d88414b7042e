use Rattle.mt_jobtext.specs.Pieces.{pieces_of}
use Rattle.mt_jobtext.proofs.Filled.{Goes}
use Rattle.mt_jobtext.proofs.fill.fill.Given as goal

abbrev pub invariant-loop-next : goal.invariant-loop-next
invariant-loop-next g l = Goes (pieces_of l.shown) l.fn.place l.initial.window l.window l.next
