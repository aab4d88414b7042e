use Rattle.std.proofs.Common.{◌≡◌, ◌-◌, ◌∙◌, ◌++◌, length, take, slice_set, subst, arith}
use Rattle.std.proofs.lemmas.List.{length-take-le}
use borrow.Rule.Slice.PartMut.{mid_len, put_mid}
use Rattle.md5.specs.Md5.{Holds}
use Rattle.mt_body.specs.Filling.{EndsSo}
use Rattle.mt_body.proofs.Buffers.{behind_mark, length-marked, marked}
use Rattle.mt_body.proofs.fill.next_piece.Goals as goal

pub returns-clause-piece : goal.returns-clause-piece
returns-clause-piece g c =
    let n = c.fill_piece-filled.result.count in
    let into = c.fill_piece-filled.new.into in
    let front = slice_set c.args.buffer.now 0 0 in
    let f = c.fill_piece-filled.ensures.filled in
    let long : length front ≡ 65537 = length-marked c.args.buffer.now ∙ c.requires in
    let room : length into ≡ 65536 = omega (arith, c.fill_piece-filled.auto.into ∙ mid_len 1 (length front) front (omega (arith, long)), long) in
    let is = marked c.args.buffer.now into n (length front - 1) (omega (arith, c.requires)) f.few in
    record {
      bytes = take n into;
      is = is;
      size = length-take-le n into f.few;
      few = omega (arith, f.few, room);
      took = f.took;
      digested = λ m holds. subst (λ l. Holds c.update.new.self (m ++ l)) (behind_mark (put_mid 1 (length front - 1) front into) (take n into) n is) (c.update.ensures m holds);
      ends = subst (λ k. EndsSo c.fill_piece-filled.result.end n k (g.S.Source.left c.fill_piece-filled.new.source) (g.S.Source.read_faults c.args.source.now) (g.S.Source.read_faults c.fill_piece-filled.new.source)) room f.ends;
    }
