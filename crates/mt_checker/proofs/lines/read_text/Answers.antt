use Rattle.std.proofs.Common.{◌++◌, take}
use Rattle.mt_edge.proofs.Streams.{left_after}
use Rattle.mt_checker.proofs.LinePieces.{long_begun, long_ended}
use Rattle.mt_checker.proofs.lines.read_text.Goals as goal

pub returns-in-TooLong-clause-cuts : goal.returns-in-TooLong-clause-cuts
returns-in-TooLong-clause-cuts g c =
    let i = c.pieces.invariant in
    let old = c.pieces.line.items in
    let piece = take c.in-Took.count c.read_line.new.into in
    let ended = c.in-Some.ensures.ended in
    (old ++ piece, left_after _ old _ piece _ i.took c.in-Took.ensures.reads.2, long_ended old piece c.in-Some.text.now i.clear ended.0 ended.1 c.in-TooLong.ensures)

pub returns-in-Memory-clause-cuts : goal.returns-in-Memory-clause-cuts
returns-in-Memory-clause-cuts g c =
    let old = c.pieces.line.items in
    let piece = take c.in-Took.count c.read_line.new.into in
    (old ++ piece, left_after _ old _ piece _ c.pieces.invariant.took c.in-Took.ensures.reads.2)

pub returns-in-TooLong-add_text-clause-cuts : goal.returns-in-TooLong-add_text-clause-cuts
returns-in-TooLong-add_text-clause-cuts g c =
    let i = c.pieces.invariant in
    let old = c.pieces.line.items in
    let piece = take c.in-Took.count c.read_line.new.into in
    (old ++ piece, left_after _ old _ piece _ i.took c.in-Took.ensures.reads.2, long_begun old piece i.clear c.in-None.ensures.begun c.in-TooLong-add_text.ensures)

pub returns-in-Memory-add_text-clause-cuts : goal.returns-in-Memory-add_text-clause-cuts
returns-in-Memory-add_text-clause-cuts g c =
    let old = c.pieces.line.items in
    let piece = take c.in-Took.count c.read_line.new.into in
    (old ++ piece, left_after _ old _ piece _ c.pieces.invariant.took c.in-Took.ensures.reads.2)
