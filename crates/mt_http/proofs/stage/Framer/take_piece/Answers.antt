use Rattle.std.proofs.Common.{refl}
use Rattle.mt_http.proofs.BodyPieces.{takes}
use Rattle.mt_http.proofs.stage.Framer.take_piece.Goals as goal

pub loop-byte-init : goal.loop-byte-init
loop-byte-init c =
    (takes c.args.self.now c.args.piece.now (record { other = c.requires.other; open_yet = c.requires.open_yet; few = c.requires.few }) c.requires.line, refl)
