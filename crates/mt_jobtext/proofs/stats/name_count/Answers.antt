use Rattle.std.proofs.Common.{◌≡◌, ◌≤◌, length, take, ap, ◌∙◌, arith}
use Rattle.std.specs.Prelude.{count_by, is_some}
use Rattle.std.proofs.lemmas.List.{take_all}
use Rattle.mt_jobtext.specs.Pieces.{failed_path}
use Rattle.mt_jobtext.proofs.Lists.{names_total}
use Rattle.mt_jobtext.proofs.stats.name_count.Goals as goal

pub returns : goal.returns
returns g c = λ login.
    let ended : length c.as_slice-trace.result.now ≤ c.loop-entry.entry-index = omega arith in
    let all : count_by (λ e. is_some (failed_path c.args.kept.now.job e)) (take c.loop-entry.entry-index c.as_slice-trace.result.now) ≡ count_by (λ e. is_some (failed_path c.args.kept.now.job e)) c.args.kept.now.job.trace =
    ap (count_by (λ e. is_some (failed_path c.args.kept.now.job e))) (take_all c.loop-entry.entry-index c.as_slice-trace.result.now ended ∙ c.as_slice-trace.ensures) in
    omega (arith, names_total login c.args.kept.now.job, all, c.in_ok-count.ensures, c.len.ensures, c.loop-entry.invariant.0)
