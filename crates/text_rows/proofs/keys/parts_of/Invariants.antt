use Rattle.std.proofs.Common.{◌≡◌, take}
use Rattle.text_rows.proofs.keys.parts_of.Given as goal

-- the parts so far
abbrev pub invariant-loop-k : goal.invariant-loop-k
invariant-loop-k l = l.parts.items ≡ take l.k l.path.parts
