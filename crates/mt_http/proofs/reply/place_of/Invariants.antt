use Rattle.mt_http.specs.ReplyWriting.{field_of_line, fields_of_lines}
use Rattle.mt_http.proofs.ReplyLines.{IsPassed}
use Rattle.mt_http.proofs.reply.place_of.Given as goal

-- the line stands behind those so far
abbrev pub invariant-loop-at : goal.invariant-loop-at
invariant-loop-at l = IsPassed (field_of_line l.line) (fields_of_lines l.lines) l.at
