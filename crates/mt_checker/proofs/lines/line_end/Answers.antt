use Rattle.mt_checker.proofs.LinePieces.{piece_begun, piece_ended}
use Rattle.std.proofs.Common.{refl}
use Rattle.mt_checker.proofs.lines.line_end.Goals as goal

pub returns-then-piece-last-eq10-clause-ended : goal.returns-then-piece-last-eq10-clause-ended
returns-then-piece-last-eq10-clause-ended c = piece_ended c.args.piece.now _ c.requires.some c.requires.line refl c.if-piece-last-eq10.true

pub returns-else-piece-last-eq10-clause-begun : goal.returns-else-piece-last-eq10-clause-begun
returns-else-piece-last-eq10-clause-begun c = piece_begun c.args.piece.now _ c.requires.some c.requires.line refl c.if-piece-last-eq10.false
