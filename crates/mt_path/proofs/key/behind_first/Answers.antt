use Rattle.std.proofs.Common.{drop}
use Rattle.mt_path.specs.Keys.{parts_of}
use Rattle.mt_path.proofs.Keys.{IsKey-from_key, behind-is, clear-drop, parts-from_key}
use Rattle.mt_path.proofs.key.behind_first.Goals as goal

pub returns-in-len1-up-clause-parts : goal.returns-in-len1-up-clause-parts
returns-in-len1-up-clause-parts c =
    parts-from_key _ (drop 1 (parts_of c.args.key.now)) (clear-drop 1 (parts_of c.args.key.now) c.requires.clear)
    (behind-is c.args.key.now c.part_len.result c.requires c.in-len1-up.len_at_least c.part_len.ensures.value)

pub returns-in-len1-up-clause-key : goal.returns-in-len1-up-clause-key
returns-in-len1-up-clause-key c =
    IsKey-from_key _ (drop 1 (parts_of c.args.key.now)) (clear-drop 1 (parts_of c.args.key.now) c.requires.clear)
    (behind-is c.args.key.now c.part_len.result c.requires c.in-len1-up.len_at_least c.part_len.ensures.value)
