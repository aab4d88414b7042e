use Rattle.std.proofs.Common.{◌-◌, ◌<◌, length, ap, arith, rules}
use Rattle.mt_jobtext.proofs.Numbered.{piece_first, piece_given, pieces_count}
use Rattle.mt_jobtext.proofs.Windows.{puts_same}
use Rattle.mt_jobtext.proofs.pieces.put_piece.Goals as goal

pub bounds-tasks-next : goal.bounds-tasks-next
bounds-tasks-next g c = omega (arith, pieces_count c.args.shown.now, ap length c.tasks-tasks.ensures)

pub offset_bounds-tasks-next : goal.offset_bounds-tasks-next
offset_bounds-tasks-next g c =
    let within : c.args.next - c.first_count-first.result < length c.tasks-tasks.result.now = omega (arith, pieces_count c.args.shown.now, ap length c.tasks-tasks.ensures) in
    search rules

pub returns-then-next-first : goal.returns-then-next-first
returns-then-next-first g c = puts_same c.put_first.ensures (piece_first c.args.shown.now c.args.next (omega arith))

pub returns-else-next-first : goal.returns-else-next-first
returns-else-next-first g c =
    puts_same c.put_task.ensures
    (piece_given c.args.shown.now c.args.next c.first_count-first.result c.tasks-tasks.result.now c.index-tasks-next.result c.first_count-first.ensures c.tasks-tasks.ensures c.if-next-first.false
    c.requires.there c.index-tasks-next.is)
