-- The text is that of the date with these seconds, which is the date of the moment.
use Rattle.std.proofs.Common.{◌≡◌, ap, ◌∙◌, rules}
use Rattle.httpdate.specs.Date.{unix_secs}
use Rattle.mt_ident.specs.Dates.{http_date_text}
use Rattle.mt_ident.proofs.DateTexts.{IsAscii-http_date_text}
use Rattle.mt_ident.proofs.Moments.{date_text-http_date_text}
use Rattle.mt_ident.proofs.dates.http_date.Goals as goal

pub returns-clause-text : goal.returns-clause-text
returns-clause-text c =
    let second : unix_secs c.unwrap.result ≡ c.args.moment = search rules in
    c.to_bytes.ensures ∙ date_text-http_date_text c.unwrap.result ∙ ap http_date_text second

pub returns-clause-ascii : goal.returns-clause-ascii
returns-clause-ascii c = rw (returns-clause-text c) (IsAscii-http_date_text c.args.moment c.requires)
