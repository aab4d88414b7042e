use Rattle.std.proofs.Common.{◌≡◌, ◌-◌, ◌∙◌, ◌++◌, length, take, slice_set, subst, arith}
use Rattle.std.proofs.lemmas.List.{length-take-le}
use borrow.Rule.Slice.PartMut.{mid_len, put_mid}
use Rattle.md5.specs.Md5.{Holds}
use Rattle.mt_join.proofs.Fillings.{behind_mark, length-marked, marked}
use Rattle.mt_join.proofs.fill.next_piece.Goals as goal

pub returns-clause-piece : goal.returns-clause-piece
returns-clause-piece g c =
    let f = c.in_ok-filled.ensures.filled in
    let n = c.in_ok-filled.filled.count in
    let into = c.fill_piece.new.into in
    let front = slice_set c.args.buffer.now 0 0 in
    let long : length front ≡ 65537 = length-marked c.args.buffer.now ∙ c.requires.buffer in
    let room : length into ≡ 65536 = omega (arith, c.fill_piece.auto.into ∙ mid_len 1 (length front) front (omega (arith, long)), long) in
    let is = marked c.args.buffer.now into n (length front - 1) (omega (arith, c.requires.buffer)) f.few in
    record {
      bytes = take n into;
      is = is;
      size = length-take-le n into f.few;
      few = omega (arith, f.few, room);
      within = f.within;
      len = f.len;
      are = f.are;
      all = λ less. f.all (omega (arith, less, room));
      digested = λ m holds. subst (λ l. Holds c.update.new.self (m ++ l)) (behind_mark (put_mid 1 (length front - 1) front into) (take n into) n is) (c.update.ensures m holds);
    }
