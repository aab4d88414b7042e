use Rattle.std.proofs.Common.{◌≡◌, ◌≤◌, length, take, ap, ◌∙◌, arith}
use Rattle.std.specs.Prelude.{count_by}
use Rattle.std.proofs.lemmas.List.{take_all}
use Rattle.mt_jobtext.specs.Pieces.{is_bad}
use Rattle.mt_jobtext.proofs.Lists.{errors_total}
use Rattle.mt_jobtext.proofs.stats.error_count.Goals as goal

pub returns : goal.returns
returns g c = λ login.
    let ended : length c.as_slice-trace.result.now ≤ c.loop-entry.entry-index = omega arith in
    let all : count_by is_bad (take c.loop-entry.entry-index c.as_slice-trace.result.now) ≡ count_by is_bad c.args.job.now.trace =
    ap (count_by is_bad) (take_all c.loop-entry.entry-index c.as_slice-trace.result.now ended ∙ c.as_slice-trace.ensures) in
    omega (arith, errors_total login c.args.job.now, all, c.in_ok-count.ensures, c.len.ensures, c.loop-entry.invariant.0)
