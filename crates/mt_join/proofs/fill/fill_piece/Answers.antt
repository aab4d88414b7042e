use Rattle.std.proofs.Common.{◌≡◌, ◌<◌, ◌≤◌, ◌+◌, ◌-◌, ◌∙◌, length, take, drop, get_or, ap, sym, arith}
use borrow.Rule.Slice.PartMut.{mid_len, same_len_mid}
use Rattle.mt_body.specs.Stored.{bytes_of}
use Rattle.mt_disk.proofs.Readings.{reads_on}
use Rattle.mt_join.proofs.Fillings.{at_part, fills_more, no_row, passed_bytes, passed_len, passed_less, passed_within, rest_past, split_at}
use Rattle.mt_join.specs.Filling.{rest}
use Rattle.mt_log.specs.LogState.{told}
use Rattle.mt_join.proofs.fill.fill_piece.Goals as goal

pub overflow_sub-left : goal.overflow_sub-left
overflow_sub-left g c = omega (arith, c.size.ensures, at_part c.args.parts.now c.loop-done.cursor no_row c.if-cursor-parts.true c.loop-done.invariant.within)

pub read_body-requires-clause-there : goal.read_body-requires-clause-there
read_body-requires-clause-there g c is_open files is = c.requires.there is_open files (sym c.loop-done.invariant.read.seen_same ∙ is)

pub read_body-requires-clause-stored : goal.read_body-requires-clause-stored
read_body-requires-clause-stored g c ps is = c.requires.stored ps (ap told (sym c.loop-done.invariant.read.seen_same) ∙ is) c.loop-done.cursor.next no_row c.if-cursor-parts.true

pub read_body-requires-clause-within : goal.read_body-requires-clause-within
read_body-requires-clause-within g c =
    let i = c.loop-done.invariant in
    let part = mid_len c.loop-done.done (c.loop-done.done + c.min-count.result) c.loop-done.into (omega (arith, c.min-count.ensures, i.few)) in
    omega (arith, part, c.min-count.ensures, c.size.ensures, at_part c.args.parts.now c.loop-done.cursor no_row c.if-cursor-parts.true i.within)

pub behind-cursor-requires-clause-within : goal.behind-cursor-requires-clause-within
behind-cursor-requires-clause-within g c = omega (arith, c.min-count.ensures, c.size.ensures, c.size-in-loop-done.ensures, at_part c.args.parts.now c.loop-done.cursor no_row c.if-cursor-parts.true c.loop-done.invariant.within)

pub loop-done-smaller : goal.loop-done-smaller
loop-done-smaller g c =
    let i = c.loop-done.invariant in
    let here = c.loop-done.cursor in
    let count = c.min-count.result in
    let row = get_or c.args.parts.now here.next no_row in
    let within = at_part c.args.parts.now here no_row c.if-cursor-parts.true i.within in
    let size = same_len_mid c.loop-done.done (c.loop-done.done + count - c.loop-done.done) c.loop-done.into c.read_body.new.into c.read_body.auto.into in
    let less = passed_less c.args.parts.now here c.behind-cursor.result row count (split_at c.args.parts.now here no_row c.if-cursor-parts.true) (omega (arith, c.min-count.ensures, c.size.ensures, within))
    (λ inner. c.behind-cursor.ensures.inner (omega (arith, inner, c.size-in-loop-done.ensures))) (λ last. c.behind-cursor.ensures.last (omega (arith, last, c.size-in-loop-done.ensures)))
    c.loop-done.done (length c.loop-done.into) (omega (arith, c.min-count.ensures, c.size.ensures)) c.loop-done-test.true c.if-cursor-parts.true in
    omega (arith, size, less)

pub loop-done-preserved : goal.loop-done-preserved
loop-done-preserved g c =
    let d = g.D.Disk in
    let i = c.loop-done.invariant in
    let parts = c.args.parts.now in
    let here = c.loop-done.cursor in
    let after = c.behind-cursor.result in
    let done = c.loop-done.done in
    let count = c.min-count.result in
    let into = c.loop-done.into in
    let piece = c.read_body.new.into in
    let row = get_or parts here.next no_row in
    let within = at_part parts here no_row c.if-cursor-parts.true i.within in
    let split = split_at parts here no_row c.if-cursor-parts.true in
    let fits : here.at + count ≤ row.body.len = omega (arith, c.min-count.ensures, c.size.ensures, within) in
    let inner : here.at + count < row.body.len → after ≡ record { next = here.next; at = here.at + count } = λ less. c.behind-cursor.ensures.inner (omega (arith, less, c.size-in-loop-done.ensures)) in
    let last : here.at + count ≡ row.body.len → after ≡ record { next = here.next + 1; at = 0 } = λ end. c.behind-cursor.ensures.last (omega (arith, end, c.size-in-loop-done.ensures)) in
    let size = same_len_mid done (done + count - done) into piece c.read_body.auto.into in
    let part = mid_len done (done + count) into (omega (arith, c.min-count.ensures, i.few)) in
    let read : length piece ≡ count = omega (arith, part, c.read_body.auto.into) in
    record {
      size = size ∙ i.size;
      few = omega (arith, size, c.min-count.ensures, i.few);
      within = passed_within parts here after row count split fits inner last;
      len = omega (arith, i.len, passed_len parts here after row count split fits inner last);
      are = λ ps is. fills_more into piece (drop here.at (bytes_of ps row.body)) (rest ps parts c.args.from) (rest ps parts here) (rest ps parts after) done (done + count - done) count i.few read (i.are ps is)
          (passed_bytes parts here after row count split fits inner last ps)
          (c.in_ok-read_body.ensures.bytes ps (ap told i.read.seen_same ∙ is) ∙ ap (λ n. take n (drop here.at (bytes_of ps row.body))) (sym c.read_body.auto.into ∙ read));
      read = reads_on d.seen d.may_leave d.moment d.left_since _ _ _ i.read c.read_body.ensures.read;
      faults = omega (arith, i.faults, c.read_body.ensures.cause.later);
    }

pub returns-else-cursor-parts-clause-filled : goal.returns-else-cursor-parts-clause-filled
returns-else-cursor-parts-clause-filled g c =
    let i = c.loop-done.invariant in
    record { few = i.few; within = i.within; len = i.len; are = i.are; all = λ less. rest_past c.args.parts.now c.loop-done.cursor (omega (arith, c.if-cursor-parts.false)) }

pub returns-after-loop-done-clause-filled : goal.returns-after-loop-done-clause-filled
returns-after-loop-done-clause-filled g c =
    let i = c.loop-done.invariant in
    record { few = i.few; within = i.within; len = i.len; are = i.are; all = λ less. absurd (omega (arith, less, c.loop-done-test.false)) }
