use Rattle.std.proofs.Common.{◌≡◌, drop}
use Rattle.std.specs.Prelude.{fold}
use Rattle.mt_http.specs.ReplyText.{placed}
use Rattle.mt_http.specs.ReplyWriting.{fields_of_lines}
use Rattle.mt_http.proofs.reply.place_fields.Given as goal

-- the fields that are left are placed among the lines so far
abbrev pub invariant-loop-field : goal.invariant-loop-field
invariant-loop-field l = fold (λ sorted f. placed f sorted) (fields_of_lines l.lines.items) (drop l.field-index l.fields) ≡ fold (λ sorted f. placed f sorted) (fields_of_lines l.initial.lines.items) l.fields
