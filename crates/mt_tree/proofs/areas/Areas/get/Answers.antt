use Rattle.std.proofs.Common.{sym, ap, ◌∙◌}
use Rattle.std.specs.Map.{lookup}
use Rattle.mt_path.specs.Keys.{parts_of}
use Rattle.mt_tree.specs.AreaRows.{is_key}
use Rattle.mt_tree.proofs.Joined.{lookup-joined}
use Rattle.mt_tree.proofs.Pages.{map-is}
use Rattle.mt_tree.proofs.areas.Areas.get.Goals as goal

pub returns : goal.returns
returns g c =
    c.get.ensures ∙ ap (lookup (is_key (parts_of c.args.key.now))) (c.kept.ensures ∙ map-is c.args.self.now c.args.area)
    ∙ sym (lookup-joined c.args.self.now.stor c.args.self.now.public c.args.self.now.jobs c.args.area (parts_of c.args.key.now))
