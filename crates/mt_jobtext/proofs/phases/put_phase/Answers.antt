use Rattle.std.proofs.Common.{List, ap, ◌∙◌}
use Rattle.json.specs.Print.{quoted}
use Rattle.serde_json.specs.Written.{compact_text}
use Rattle.mt_jobdoc.specs.Printed.{assets_data}
use Rattle.mt_path.specs.AccountPath.{AccountPath}
use Rattle.mt_jobtext.proofs.Texts.{phase_written}
use Rattle.mt_jobtext.proofs.Windows.{puts_more, puts_same}
use Rattle.mt_jobtext.proofs.phases.put_phase.Goals as goal

pub returns : goal.returns
returns c =
    let p = c.args.phase.now in
    puts_same
    (puts_more c.put.ensures
    (puts_more (puts_same c.put_assets.ensures (ap (λ (names : List AccountPath). compact_text (assets_data c.args.login.now names)) c.as_slice.ensures))
    (puts_more c.put_count.ensures (puts_more c.put-2.ensures (puts_more (puts_same c.put_quoted.ensures (ap quoted c.as_bytes.ensures))
    (puts_more c.put_init.ensures (puts_more c.put-3.ensures
    (puts_more (puts_same c.put_quoted-2.ensures (ap quoted (c.as_bytes-2.ensures.value ∙ c.type_name.ensures))) c.put-4.ensures))))))))
    (phase_written c.args.login.now p.kind p.exec p.init p.assets)
