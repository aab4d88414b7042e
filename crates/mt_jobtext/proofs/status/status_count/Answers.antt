use Rattle.std.proofs.Common.{◌+◌, sym, ap, ◌∙◌}
use Rattle.json.specs.Print.{escape}
use Rattle.mt_jobtext.specs.Ended.{ended_as}
use Rattle.mt_jobtext.specs.StatusPieces.{part_count, part_of, status_front, status_rest}
use Rattle.mt_jobtext.proofs.Cut.{cut_count}
use Rattle.mt_jobtext.proofs.status.status_count.Goals as goal

pub returns : goal.returns
returns g c = λ login ending.
    let job = c.args.job.now in
    ap (λ n. n + 2) c.part_count.ensures.count
    ∙ sym (cut_count (status_front (ended_as job ending)) (status_rest login (ended_as job ending)) (λ k. escape (part_of job.document.name k)) (part_count job.document.name))
