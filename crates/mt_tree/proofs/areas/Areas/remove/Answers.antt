-- In each area: the row at the key of the path is removed.
use Rattle.std.proofs.Common.{sym, ap, ◌∙◌}
use Rattle.mt_path.specs.Keys.{parts_of}
use Rattle.mt_path.specs.declared.area.Area.TheVariants.{Stor, Public, Jobs}
use Rattle.mt_tree.specs.AreaRows.{parts_above}
use Rattle.mt_tree.proofs.Placed.{counted-positive, removed-rows, removed-kept, path_is}
use Rattle.mt_tree.proofs.areas.Areas.remove.Goals as goal

pub remove-requires-clause-parent : goal.remove-requires-clause-parent
remove-requires-clause-parent g c = c.parent_key-above.ensures.parts ∙ sym (ap parts_above c.key-key.ensures.parts)

pub remove-requires-clause-counted : goal.remove-requires-clause-counted
remove-requires-clause-counted g c =
    counted-positive c.args.self.now.stor c.args.self.now.public c.args.self.now.jobs Stor c.args.path.now (parts_of c.key-key.result.now) (path_is c.args.path.now Stor (parts_of c.key-key.result.now) c.in-Stor.ensures c.key-key.ensures.parts) c.requires.kept c.requires.allowed
    (parts_of c.parent_key-above.result.now) (c.parent_key-above.ensures.parts ∙ sym (ap parts_above c.key-key.ensures.parts))

pub returns-in-Stor-clause-removed : goal.returns-in-Stor-clause-removed
returns-in-Stor-clause-removed g c =
    removed-rows c.args.self.now.stor c.args.self.now.public c.args.self.now.jobs Stor c.args.path.now (parts_of c.key-key.result.now) (path_is c.args.path.now Stor (parts_of c.key-key.result.now) c.in-Stor.ensures c.key-key.ensures.parts) c.requires.kept c.requires.allowed
    c.remove.new.self c.remove.ensures

pub returns-in-Stor-clause-kept : goal.returns-in-Stor-clause-kept
returns-in-Stor-clause-kept g c =
    removed-kept c.args.self.now.stor c.args.self.now.public c.args.self.now.jobs Stor c.args.path.now (parts_of c.key-key.result.now) (path_is c.args.path.now Stor (parts_of c.key-key.result.now) c.in-Stor.ensures c.key-key.ensures.parts) c.requires.kept c.requires.allowed
    c.remove.new.self c.remove.ensures

pub remove-requires-in-Public-clause-parent : goal.remove-requires-in-Public-clause-parent
remove-requires-in-Public-clause-parent g c = c.parent_key-above.ensures.parts ∙ sym (ap parts_above c.key-key.ensures.parts)

pub remove-requires-in-Public-clause-counted : goal.remove-requires-in-Public-clause-counted
remove-requires-in-Public-clause-counted g c =
    counted-positive c.args.self.now.stor c.args.self.now.public c.args.self.now.jobs Public c.args.path.now (parts_of c.key-key.result.now) (path_is c.args.path.now Public (parts_of c.key-key.result.now) c.in-Public.ensures c.key-key.ensures.parts) c.requires.kept c.requires.allowed
    (parts_of c.parent_key-above.result.now) (c.parent_key-above.ensures.parts ∙ sym (ap parts_above c.key-key.ensures.parts))

pub returns-in-Public-clause-removed : goal.returns-in-Public-clause-removed
returns-in-Public-clause-removed g c =
    removed-rows c.args.self.now.stor c.args.self.now.public c.args.self.now.jobs Public c.args.path.now (parts_of c.key-key.result.now) (path_is c.args.path.now Public (parts_of c.key-key.result.now) c.in-Public.ensures c.key-key.ensures.parts) c.requires.kept c.requires.allowed
    c.remove-in-Public.new.self c.remove-in-Public.ensures

pub returns-in-Public-clause-kept : goal.returns-in-Public-clause-kept
returns-in-Public-clause-kept g c =
    removed-kept c.args.self.now.stor c.args.self.now.public c.args.self.now.jobs Public c.args.path.now (parts_of c.key-key.result.now) (path_is c.args.path.now Public (parts_of c.key-key.result.now) c.in-Public.ensures c.key-key.ensures.parts) c.requires.kept c.requires.allowed
    c.remove-in-Public.new.self c.remove-in-Public.ensures

pub remove-requires-in-Jobs-clause-parent : goal.remove-requires-in-Jobs-clause-parent
remove-requires-in-Jobs-clause-parent g c = c.parent_key-above.ensures.parts ∙ sym (ap parts_above c.key-key.ensures.parts)

pub remove-requires-in-Jobs-clause-counted : goal.remove-requires-in-Jobs-clause-counted
remove-requires-in-Jobs-clause-counted g c =
    counted-positive c.args.self.now.stor c.args.self.now.public c.args.self.now.jobs Jobs c.args.path.now (parts_of c.key-key.result.now) (path_is c.args.path.now Jobs (parts_of c.key-key.result.now) c.in-Jobs.ensures c.key-key.ensures.parts) c.requires.kept c.requires.allowed
    (parts_of c.parent_key-above.result.now) (c.parent_key-above.ensures.parts ∙ sym (ap parts_above c.key-key.ensures.parts))

pub returns-in-Jobs-clause-removed : goal.returns-in-Jobs-clause-removed
returns-in-Jobs-clause-removed g c =
    removed-rows c.args.self.now.stor c.args.self.now.public c.args.self.now.jobs Jobs c.args.path.now (parts_of c.key-key.result.now) (path_is c.args.path.now Jobs (parts_of c.key-key.result.now) c.in-Jobs.ensures c.key-key.ensures.parts) c.requires.kept c.requires.allowed
    c.remove-in-Jobs.new.self c.remove-in-Jobs.ensures

pub returns-in-Jobs-clause-kept : goal.returns-in-Jobs-clause-kept
returns-in-Jobs-clause-kept g c =
    removed-kept c.args.self.now.stor c.args.self.now.public c.args.self.now.jobs Jobs c.args.path.now (parts_of c.key-key.result.now) (path_is c.args.path.now Jobs (parts_of c.key-key.result.now) c.in-Jobs.ensures c.key-key.ensures.parts) c.requires.kept c.requires.allowed
    c.remove-in-Jobs.new.self c.remove-in-Jobs.ensures
