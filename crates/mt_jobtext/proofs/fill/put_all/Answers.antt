use Rattle.std.proofs.Common.{[], ap, arith}
use Rattle.std.specs.List.{flat_map}
use Rattle.std.proofs.lemmas.List.{take_all}
use Rattle.mt_jobtext.specs.Pieces.{pieces_of}
use Rattle.mt_jobtext.proofs.Spelled.{flat_map_more}
use Rattle.mt_jobtext.proofs.Windows.{puts_more, puts_none, puts_same}
use Rattle.mt_jobtext.proofs.fill.put_all.Goals as goal

pub loop-next-init : goal.loop-next-init
loop-next-init g c = puts_none c.args.window.now

pub loop-next-preserved : goal.loop-next-preserved
loop-next-preserved g c =
    puts_same (puts_more c.loop-next.invariant c.put_piece.ensures)
    (flat_map_more (λ piece. piece) (pieces_of c.args.shown.now) c.loop-next.next [] (omega (arith, c.requires.count)))

pub returns : goal.returns
returns g c =
    puts_same c.loop-next.invariant (ap (flat_map (λ piece. piece)) (take_all c.loop-next.next (pieces_of c.args.shown.now) (omega (arith, c.requires.count))))
