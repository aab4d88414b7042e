-- What is written is one of the forms that are read.
use Rattle.mt_ident.proofs.Moments.{IsHttpDate-written}
use Rattle.mt_ident.proofs.laws.http_date_again.Goals as goal

pub returns : goal.returns
returns c =
    let moment = c.args.moment in
    (c.read_http_date.ensures.exact moment).1 (rw c.http_date.ensures.text (IsHttpDate-written moment c.requires))
