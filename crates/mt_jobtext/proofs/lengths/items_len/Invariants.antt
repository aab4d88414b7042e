use Rattle.std.proofs.Common.{◌≡◌, length, take}
use Rattle.std.specs.List.{flat_map}
use Rattle.mt_path.specs.AccountPath.{path_text}
use Rattle.mt_jobtext.specs.JobTexts.{line}
use Rattle.mt_jobtext.proofs.lengths.items_len.Given as goal

abbrev pub invariant-loop-item : goal.invariant-loop-item
invariant-loop-item g l = l.len ≡ length (flat_map (λ i. line (path_text l.login i.name)) (take l.item-index l.items))
