-- Why the engine was not opened gives the status.
use Rattle.std.proofs.Common.{◌≡◌, Err, ap}
use Rattle.mt_server.specs.declared.status.Status.TheVariants as status
use Rattle.mt_server.proofs.Unopened.{told_why, unopened_by}
use Rattle.mt_server.proofs.opening.open_store.Goals as goal

pub returns-in-Err-clause-unopened : goal.returns-in-Err-clause-unopened
returns-in-Err-clause-unopened g c = unopened_by c.in-Err.end c.not_opened.result _ _ _ _ _ _ c.not_opened.ensures.tells (λ is. c.in-Err.ensures.disk (ap (λ e. Err e) is))

pub returns-in-Err-clause-refused : goal.returns-in-Err-clause-refused
returns-in-Err-clause-refused g c why is =
    let same : c.not_opened.result ≡ status.UnreadableLog why = cc in
    c.in-Err.ensures.refused why (ap (λ e. Err e) (told_why c.in-Err.end c.not_opened.result _ _ _ _ why c.not_opened.ensures.tells same))
