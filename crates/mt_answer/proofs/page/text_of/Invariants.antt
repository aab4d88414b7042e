use Rattle.std.proofs.Common.{◌≡◌, map, take}
use Rattle.std.specs.List.{flat_map}
use Rattle.mt_tree.specs.Lent.{lent}
use Rattle.mt_answer.specs.Lines.{line_of}
use Rattle.mt_answer.proofs.page.text_of.Given as goal

abbrev pub invariant-loop-child : goal.invariant-loop-child
invariant-loop-child l = l.out.items ≡ flat_map line_of (map lent (take l.child-index l.children))
