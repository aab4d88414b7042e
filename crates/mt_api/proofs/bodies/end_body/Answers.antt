use Rattle.std.proofs.Common.{◌≡◌, None, sym, ◌∙◌}
use Rattle.mt_api.proofs.Lefts.{fault_none, read_as}
use Rattle.mt_api.proofs.bodies.end_body.Goals as goal

pub returns-clause-body : goal.returns-clause-body
returns-clause-body g c =
    let s = g.S.Source in
    let r = c.finish-ending.result in
    read_as s.left s.read_faults s.source_stays c.args.body.now c.finish-ending.new.self (r ≡ None) _ (λ is. fault_none r (sym c.end_of.ensures ∙ is)) c.finish-ending.ensures.body
