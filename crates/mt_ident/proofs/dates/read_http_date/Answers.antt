-- A text shows a moment exactly where it is a text of the date of that moment.
use Rattle.std.proofs.Common.{◌≡◌, ap, ◌∙◌, Some}
use Rattle.httpdate.specs.Date.{unix_secs, IsDateText}
use Rattle.mt_ident.proofs.Moments.{IsHttpDate-from_text, read_none, read_some}
use Rattle.mt_ident.proofs.dates.read_http_date.Goals as goal

pub returns-in-Ok-clause-exact : goal.returns-in-Ok-clause-exact
returns-in-Ok-clause-exact c = λ moment.
    let shown : IsDateText c.args.text.now c.in-Ok.date = c.in-Ok.ensures.shown in (
      λ same.
          let second : unix_secs c.in-Ok.date ≡ moment = cc in
          rw (← second) (IsHttpDate-from_text c.args.text.now c.in-Ok.date shown),
      λ is. ap Some (c.unix_secs.ensures.value ∙ read_some c.args.text.now moment c.in-Ok.date shown is),
    )

pub returns-in-Err-clause-exact : goal.returns-in-Err-clause-exact
returns-in-Err-clause-exact c = λ moment.
    (λ same. cc, λ is. absurd (read_none c.args.text.now moment c.in-Err.ensures.shown is))
