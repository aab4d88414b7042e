use Rattle.mt_http.proofs.ReplyLines.{IsPassed}
use Rattle.mt_request.proofs.metadata.place_of.Given as goal

-- the field stands behind those so far
abbrev pub invariant-loop-at : goal.invariant-loop-at
invariant-loop-at l = IsPassed l.field l.sorted l.at
