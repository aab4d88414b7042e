use Rattle.std.proofs.Common.{◌≡◌, ◌∙◌, ap, sym, insert, List}
use Rattle.mt_http.specs.declared.reply.Line.{Line}
use Rattle.mt_http.specs.ReplyText.{placed}
use Rattle.mt_http.specs.ReplyWriting.{field_of_line, fields_of_lines}
use Rattle.mt_http.proofs.ReplyLines.{insert_line}
use Rattle.mt_http.proofs.reply.place.Goals as goal

pub returns-in-Ok : goal.returns-in-Ok
returns-in-Ok c =
    let lines = c.args.lines.now.items in
    let at = c.place_of-at.result in
    let items : c.insert.new.self.items ≡ insert lines at c.args.line = c.in-Ok.ensures.items in
    ap fields_of_lines items ∙ insert_line lines at c.args.line ∙ ap (λ (l : List Line). insert (fields_of_lines l) at (field_of_line c.args.line)) (sym c.as_slice.ensures.value) ∙ sym c.place_of-at.ensures.place ∙ ap (λ (l : List Line). placed (field_of_line c.args.line) (fields_of_lines l)) c.as_slice.ensures.value
