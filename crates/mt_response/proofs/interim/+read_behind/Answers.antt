use Rattle.std.proofs.Common.{sym, ◌∙◌, arith}
use Rattle.mt_response.proofs.Leads.{behind_interim, ended, ended_final, last_interim}
use Rattle.mt_response.proofs.interim.+read_behind.Goals as goal

pub returns-else-is_interim-clause-read : goal.returns-else-is_interim-clause-read
returns-else-is_interim-clause-read g t c = ended_final _ _ c.in-Ok.head _ _ c.in-Ok.ensures.read c.args.most (sym c.is_interim.ensures ∙ c.if-is_interim.false)

pub returns-then-most-eq0-clause-read : goal.returns-then-most-eq0-clause-read
returns-then-most-eq0-clause-read g t c = last_interim _ _ c.in-Ok.head _ _ c.in-Ok.ensures.read c.args.most c.if-most-eq0.true (sym c.is_interim.ensures ∙ c.if-is_interim.true)

pub returns-then-is_interim-clause-read : goal.returns-then-is_interim-clause-read
returns-then-is_interim-clause-read g t c =
    behind_interim _ _ c.in-Ok.head _ _ c.in-Ok.ensures.read c.args.most _ _ _ _ (omega (arith, c.if-most-eq0.false)) (sym c.is_interim.ensures ∙ c.if-is_interim.true) c.read_behind.ensures.read

pub returns-in-Err-clause-read : goal.returns-in-Err-clause-read
returns-in-Err-clause-read g t c = ended c.args.most _ _ c.in-Err.end _ _ c.in-Err.ensures.read
