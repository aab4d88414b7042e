use Rattle.std.proofs.Common.{◌≡◌, ap, ◌∙◌}
use Rattle.mt_path.specs.AccountPath.{area_name}
use Rattle.mt_jobtext.proofs.PathTexts.{line_shown}
use Rattle.mt_jobtext.proofs.Windows.{puts_more, puts_same}
use Rattle.mt_jobtext.proofs.names.put_shown_line.Goals as goal

pub returns : goal.returns
returns c =
    let area : c.as_bytes-2.result.now ≡ area_name c.args.path.now.area = c.as_bytes-2.ensures.value ∙ c.name.ensures ∙ ap area_name c.area.ensures in
    puts_same
    (puts_more c.put.ensures (puts_more (puts_same c.put-2.ensures c.as_bytes.ensures.value) (puts_more c.put-3.ensures (puts_more c.put-4.ensures (puts_more c.put_shown.ensures c.put-5.ensures)))))
    (line_shown c.args.login.now c.as_bytes-2.result.now c.key.result.now c.args.path.now area c.key.ensures.value c.key.ensures.path)
