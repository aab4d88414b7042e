-- The file that is wanted stands among those that are told of, whose number fits.
use Rattle.std.proofs.Common.{◌≡◌, ◌∙◌, ap, arith}
use Rattle.mt_records.specs.Seen.{Judgement, next_file}
use Rattle.mt_records.proofs.Seen.{next_within}
use Rattle.mt_records.proofs.judging.Judging.file.Goals as goal

pub overflow_add-self : goal.overflow_add-self
overflow_add-self c =
    let j : Judgement = record { login = c.self.inside.login; left = c.self.inside.left; count = c.self.inside.count; records = c.self.inside.records } in
    let same : j ≡ c.args.self.now = c.self.view_is in
    omega (arith, next_within j c.args.size (ap next_file same ∙ c.requires.next), c.file_count-files.ensures)
