use Rattle.std.proofs.lemmas.Result.{err_from_is_err_and}
use Rattle.mt_snapshot.proofs.Whole.{no_mark}
use Rattle.mt_snapshot.proofs.reading.whole.Goals as goal

pub returns-in_err-mark : goal.returns-in_err-mark
returns-in_err-mark c =
    let p = err_from_is_err_and c.from_residual.result c.from_residual.ensures.1 in
    rw (p.1, p.2) (no_mark c.in_err-mark.field-0.0 c.byte.new.cursor c.new-cursor.result c.args.bytes.now c.new-cursor.ensures c.in_err-mark.ensures)
