use Rattle.std.proofs.Common.{◌-◌, length, ◌∙◌, arith}
use borrow.Rule.Slice.PartMut.{same_len_mid, mid_len}
use Rattle.mt_http.proofs.ReadBody.{read_part}
use Rattle.mt_http.proofs.body.read_behind.Goals as goal

pub returns-clause-read : goal.returns-clause-read
returns-clause-read g c =
    let body = c.args.body.now in
    let into = c.read_framed.new.into in
    let kept = same_len_mid c.args.done (length body - c.args.done) body into c.read_framed.auto.into in
    let part = c.read_framed.auto.into ∙ mid_len c.args.done (length body) body (omega arith) in
    read_part c.read_framed.result c.args.done (length body - c.args.done) body into _ _ _ _ _ _ (omega arith) part kept c.read_framed.ensures.streams
