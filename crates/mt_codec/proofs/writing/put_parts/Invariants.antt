use Rattle.std.proofs.Common.{◌≡◌, ◌++◌, length}
use Rattle.std.specs.List.{AllByRecursion, flat_map}
use Rattle.mt_path.specs.AccountPath.{IsComponent}
use Rattle.mt_path.specs.Keys.{IsKey, parts_of}
use Rattle.mt_codec.specs.Fields.{text_spelling}
use Rattle.mt_codec.proofs.writing.put_parts.Given as goal

-- what is written, and what is still to be written, is all
abbrev pub invariant-loop-left : goal.invariant-loop-left
invariant-loop-left l = record {
  key : IsKey l.left;
  parts : AllByRecursion IsComponent (parts_of l.left);
  all : l.out.items ++ flat_map text_spelling (parts_of l.left) ≡ l.fn.out.items ++ flat_map text_spelling (parts_of l.key);
}

abbrev pub decreases-loop-left : goal.decreases-loop-left
decreases-loop-left l = length l.left
