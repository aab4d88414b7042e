use Rattle.std.proofs.Common.{ℕ, List, ap, ◌∙◌}
use Rattle.std.specs.Prelude.{option_copied, option_map}
use Rattle.std.specs.Str.Lossy.{utf8_lossy}
use Rattle.json.specs.Print.{quoted}
use Rattle.mt_path.specs.AccountPath.{path_text}
use Rattle.mt_jobtext.proofs.Texts.{failed_text}
use Rattle.mt_jobtext.proofs.Windows.{puts_more, puts_same}
use Rattle.mt_jobtext.proofs.errors.put_failed_line.Goals as goal

pub returns : goal.returns
returns c =
    let f = c.args.failed.now in
    puts_same
    (puts_more c.put.ensures (puts_more (puts_same c.put_quoted.ensures (ap quoted (c.as_bytes.ensures.value ∙ c.code.ensures)))
    (puts_more c.put_input.ensures (puts_more c.put-2.ensures
    (puts_more (puts_same c.put_quoted-2.ensures (ap quoted (c.as_bytes-2.ensures.value ∙ c.message.ensures)))
    (puts_more c.put-3.ensures (puts_more c.put_number.ensures (puts_more c.put_reducer.ensures (puts_more c.put-4.ensures (puts_more c.put_number-2.ensures
    (puts_more c.put-5.ensures (puts_more (puts_same c.put_lossy.ensures (ap (λ (bytes : List ℕ). quoted (utf8_lossy bytes)) c.as_slice.ensures)) c.put-6.ensures))))))))))))
    (failed_text (option_map (path_text c.args.login.now) (option_copied f.input)) f.reducer f.phase f.failure f.status f.stderr.now)
