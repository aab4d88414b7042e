use Rattle.std.proofs.Common.{ap, ◌∙◌}
use Rattle.json.specs.Print.{quoted}
use Rattle.mt_jobtext.specs.Ended.{ended_as}
use Rattle.mt_jobtext.proofs.Texts.{stats_written}
use Rattle.mt_jobtext.specs.StatusPieces.{status_rest}
use Rattle.mt_jobtext.proofs.Windows.{puts_more, puts_same}
use Rattle.mt_jobtext.proofs.status.put_rest.Goals as goal

pub returns : goal.returns
unfolding status_rest
returns g c =
    puts_more c.put.ensures (puts_more c.put_phases.ensures
    (puts_more c.put-2.ensures (puts_more (puts_same c.put_quoted.ensures (ap quoted (c.as_bytes.ensures.value ∙ c.state.ensures))) (puts_more c.put-3.ensures
    (puts_more (puts_same c.put_stats.ensures (stats_written c.args.login.now (ended_as c.args.job.now c.args.ending) c.args.stats.now c.requires.stats))
    (puts_more c.put-4.ensures (puts_more c.put_time.ensures (puts_more c.put-5.ensures (puts_more c.put_time-2.ensures c.put-6.ensures)))))))))
