-- the bytes of the spans so far
use Rattle.std.proofs.Common.{◌≡◌, ◌++◌, take}
use Rattle.mt_split.specs.Spans.{bytes_in}
use Rattle.mt_gen.proofs.work.put_spans.Given as goal

abbrev pub invariant-loop-span : goal.invariant-loop-span
invariant-loop-span l = l.out.items ≡ l.fn.out.items ++ bytes_in l.text (take l.span-index l.spans)
