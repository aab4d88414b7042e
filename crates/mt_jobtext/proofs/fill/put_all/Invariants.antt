use Rattle.std.proofs.Common.{take}
use Rattle.std.specs.List.{flat_map}
use Rattle.mt_jobtext.specs.Pieces.{pieces_of}
use Rattle.mt_jobtext.specs.Windows.{Puts}
use Rattle.mt_jobtext.proofs.fill.put_all.Given as goal

abbrev pub invariant-loop-next : goal.invariant-loop-next
invariant-loop-next g l = Puts (flat_map (λ piece. piece) (take l.next (pieces_of l.shown))) l.initial.window l.window
