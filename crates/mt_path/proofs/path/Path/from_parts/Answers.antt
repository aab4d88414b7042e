use Rattle.mt_path.proofs.Held.{IsPathKey-from_parts, path_at-is}
use Rattle.mt_path.proofs.path.Path.from_parts.Goals as goal

pub invariant_of-result : goal.invariant_of-result
invariant_of-result c = IsPathKey-from_parts c.args.area c.args.parts.now c.in_ok-key.key.items c.requires c.in_ok-key.ensures

pub returns : goal.returns
returns c = path_at-is c.args.area c.args.parts.now c.in_ok-key.key.items c.requires c.in_ok-key.ensures
