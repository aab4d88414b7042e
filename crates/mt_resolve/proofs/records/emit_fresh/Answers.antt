use Rattle.std.proofs.Common.{sym, subst}
use Rattle.std.proofs.lemmas.Result.{on_ok_weaker}
use Rattle.mt_resolve.specs.Undo.{LeadsBack}
use Rattle.mt_resolve.proofs.records.emit_fresh.Goals as goal

pub returns-clause-back : goal.returns-clause-back
returns-clause-back g c =
    on_ok_weaker c.give.result
    (λ given start leads. subst (λ v. LeadsBack v.items c.put_next.new.tree start) (sym c.give.ensures.changes) (c.in_ok-put_next.ensures.back start leads))
    c.give.ensures.items
