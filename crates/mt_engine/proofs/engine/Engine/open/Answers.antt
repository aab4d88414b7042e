use Rattle.std.proofs.Common.{◌≡◌, Err, ap}
use Rattle.mt_opening.specs.declared.opening.OpenEnd.TheVariants as OpenEnd
use Rattle.mt_engine.proofs.engine.Engine.open.Goals as goal

pub returns-in-Err-clause-refused : goal.returns-in-Err-clause-refused
returns-in-Err-clause-refused g c why is =
    let same : c.in-Err.end ≡ OpenEnd.Unreadable why = cc in
    c.in-Err.ensures.refused why (ap (λ e. Err e) same)
