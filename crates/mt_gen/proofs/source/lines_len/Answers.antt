use Rattle.std.proofs.Common.{◌≡◌, ◌∙◌, ap, arith, length}
use Rattle.std.proofs.lemmas.List.{length-append}
use Rattle.mt_gen.proofs.Pieces.{lines_more}
use Rattle.mt_gen.specs.Messages.{input_line, input_lines}
use Rattle.mt_gen.proofs.source.lines_len.Goals as goal

pub overflow_add-total : goal.overflow_add-total
overflow_add-total c = omega (arith, c.loop-number.invariant.bound, c.loop-number-test.true, c.requires.small, c.len.ensures, c.put_line.ensures.short, c.clear.ensures.len)

pub loop-number-preserved : goal.loop-number-preserved
loop-number-preserved c =
    let line : c.put_line.new.out.items ≡ input_line c.loop-number.number = rw c.clear.ensures.items at c.put_line.ensures.bytes in
    let more = ap length (lines_more c.loop-number.number) ∙ length-append (input_lines 0 c.loop-number.number) (input_line c.loop-number.number) in
    record {
      len = omega (arith, c.loop-number.invariant.len, more, ap length line, c.len.ensures);
      bound = omega (arith, c.loop-number.invariant.bound, c.len.ensures, c.put_line.ensures.short, c.clear.ensures.len);
      room = omega (arith, c.loop-number.invariant.room, c.clear.ensures.capacity, c.put_line.ensures.room);
    }
