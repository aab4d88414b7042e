use Rattle.std.proofs.Common.{◌+◌, ap, sym, ◌∙◌}
use Rattle.std.proofs.lemmas.Result.{IfOk-weaker}
use Rattle.mt_checker.proofs.Opened.{settled_on}
use Rattle.mt_checker.proofs.opening.settle.Goals as goal

-- a phase that is listed whole leads on
pub returns : goal.returns
returns c =
    IfOk-weaker c.open.result _ _ (λ t opens g p same is.
    opens g same (settled_on g p c.args.sheet is (sym c.is_whole.ensures ∙ c.if-not-is_whole.false) (c.into_next-phase.result.0 + 1) (ap (λ n. n + 1) c.into_next-phase.ensures.phase)
    c.into_next-phase.result.1 c.into_next-phase.ensures.next)) c.open.ensures
