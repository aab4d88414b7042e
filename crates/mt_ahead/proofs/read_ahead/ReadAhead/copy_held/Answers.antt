use Rattle.std.proofs.Common.{◌∙◌}
use Rattle.mt_disk.specs.Files.{contents}
use Rattle.mt_ahead.proofs.Windows.{held_part}
use Rattle.mt_ahead.proofs.read_ahead.ReadAhead.copy_held.Goals as goal

pub returns : goal.returns
returns g c files is =
    let r = c.args.self.now in
    c.copy_part.ensures ∙ held_part (contents files r.file) r.piece.now r.window.at r.window.held c.args.at _ (r.same files is) c.requires.from c.requires.within
