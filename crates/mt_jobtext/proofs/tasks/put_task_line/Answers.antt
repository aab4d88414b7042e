use Rattle.std.proofs.Common.{ap, ◌∙◌, length}
use Rattle.std.specs.Prelude.{decimal}
use Rattle.json.specs.Print.{quoted}
use Rattle.mt_jobtext.proofs.Texts.{task_text}
use Rattle.mt_jobtext.proofs.Windows.{puts_more, puts_same}
use Rattle.mt_jobtext.proofs.tasks.put_task_line.Goals as goal

pub returns : goal.returns
returns g c =
    puts_same
    (puts_more c.put.ensures (puts_more (puts_same c.put_number.ensures (ap decimal (ap length c.items_of.ensures))) (puts_more c.put-2.ensures
    (puts_more c.put_number-2.ensures (puts_more c.put-3.ensures (puts_more c.put_number-3.ensures (puts_more c.put-4.ensures
    (puts_more c.put_number-4.ensures (puts_more c.put-5.ensures
    (puts_more (puts_same c.put_quoted.ensures (ap quoted (c.as_bytes.ensures.value ∙ c.word.ensures))) c.put-6.ensures))))))))))
    (task_text c.args.entry.now)
