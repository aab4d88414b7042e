-- Each byte that is left comes where none of the body's does, and they lead to the same state.
use Rattle.std.proofs.Common.{◌≡◌, drop}
use Rattle.mt_http.specs.Body.{after_bytes}
use Rattle.mt_http.proofs.BodyPieces.{Takes}
use Rattle.mt_http.proofs.stage.Framer.take_piece.Given as goal

abbrev pub invariant-loop-byte : goal.invariant-loop-byte
invariant-loop-byte l =
    Takes l.self (drop l.byte-index l.piece) × (after_bytes l.self (drop l.byte-index l.piece) ≡ after_bytes l.fn.self l.piece)
