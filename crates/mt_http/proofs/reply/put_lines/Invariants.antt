-- The lines so far, and those of the fields that are left.
use Rattle.std.proofs.Common.{◌≡◌, ◌++◌, drop}
use Rattle.std.specs.List.{flat_map}
use Rattle.mt_http.specs.ReplyText.{field_line}
use Rattle.mt_http.specs.ReplyWriting.{fields_of_lines}
use Rattle.mt_http.proofs.reply.put_lines.Given as goal

abbrev pub invariant-loop-line : goal.invariant-loop-line
invariant-loop-line l = l.out.items ++ flat_map field_line (fields_of_lines (drop l.line-index l.lines)) ≡ l.fn.out.items ++ flat_map field_line (fields_of_lines l.lines)
