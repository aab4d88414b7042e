use Rattle.std.proofs.Common.{ℕ, List, ◌-◌, ap, ◌∙◌, arith}
use Rattle.json.specs.Print.{escape}
use Rattle.mt_jobtext.specs.Ended.{ended_as}
use Rattle.mt_jobtext.specs.StatusPieces.{part_count, part_of, status_front, status_rest}
use Rattle.mt_jobtext.proofs.Cut.{cut_part, cut_rest}
use Rattle.mt_jobtext.proofs.Windows.{puts_same}
use Rattle.mt_jobtext.proofs.status.put_status.Goals as goal

pub returns-then-next-part_count : goal.returns-then-next-part_count
returns-then-next-part_count g c =
    let ended = ended_as c.args.job.now c.args.ending in
    let name = c.args.job.now.document.name in
    let next = c.args.next in
    puts_same c.put_escaped.ensures
    (ap escape (c.part_of.ensures ∙ ap (λ (text : List ℕ). part_of text (next - 1)) c.as_bytes.ensures)
    ∙ cut_part (status_front ended) (status_rest c.args.login.now ended) (λ k. escape (part_of name k)) (part_count name) next (omega arith) (omega (arith, c.part_count.ensures.count)))

pub returns-else-next-part_count : goal.returns-else-next-part_count
returns-else-next-part_count g c =
    let ended = ended_as c.args.job.now c.args.ending in
    let name = c.args.job.now.document.name in
    puts_same c.put_rest.ensures
    (cut_rest (status_front ended) (status_rest c.args.login.now ended) (λ k. escape (part_of name k)) (part_count name) c.args.next (omega (arith, c.part_count.ensures.count)) c.requires.there)
