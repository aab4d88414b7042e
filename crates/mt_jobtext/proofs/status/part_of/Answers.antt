use Rattle.std.proofs.Common.{◌*◌}
use Rattle.mt_jobtext.proofs.Cut.{part_taken}
use Rattle.mt_jobtext.proofs.status.part_of.Goals as goal

pub returns : goal.returns
returns c = part_taken c.args.name.now (c.args.k * 4096) c.min-count.result c.min-count.ensures
