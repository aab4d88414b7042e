use Rattle.std.proofs.Common.{sym, ◌∙◌}
use Rattle.mt_jobdoc.proofs.Faults.{no_type, no_exec, no_init, no_assets, no_kind, a_phase, unless}
use Rattle.mt_jobdoc.proofs.phases.phase.Goals as goal

pub returns-in_default : goal.returns-in_default
returns-in_default c = no_type _ _ _ (sym c.reduces.ensures ∙ c.in_default.is)

pub returns-in_default-2 : goal.returns-in_default-2
returns-in_default-2 c = no_exec _ _ _ c.in-Some.reduces (sym c.reduces.ensures ∙ c.in-Some.is) (sym c.in_ok-exec.ensures ∙ c.in_default-2.is)

pub returns-in_default-3 : goal.returns-in_default-3
returns-in_default-3 c = no_init _ _ _ c.in-Some.reduces c.in-Some-2.exec (sym c.reduces.ensures ∙ c.in-Some.is) (sym c.in_ok-exec.ensures ∙ c.in-Some-2.is) (sym c.in_ok-init.ensures ∙ c.in_default-3.is)

pub returns-in_default-4 : goal.returns-in_default-4
returns-in_default-4 c = no_assets _ _ _ c.in-Some.reduces c.in-Some-2.exec c.in-Some-3.init (sym c.reduces.ensures ∙ c.in-Some.is) (sym c.in_ok-exec.ensures ∙ c.in-Some-2.is) (sym c.in_ok-init.ensures ∙ c.in-Some-3.is) (sym c.in_ok-assets.ensures ∙ c.in_default-4.is)

pub returns-in-Err : goal.returns-in-Err
returns-in-Err c =
    unless _ c.in-Err.e (no_kind _ _ _ c.in-Some.reduces c.in-Some-2.exec c.in-Some-3.init c.in-Some-4.assets (sym c.reduces.ensures ∙ c.in-Some.is) (sym c.in_ok-exec.ensures ∙ c.in-Some-2.is)
    (sym c.in_ok-init.ensures ∙ c.in-Some-3.is) (sym c.in_ok-assets.ensures ∙ c.in-Some-4.is) c.in-Err.e (sym c.kind.ensures ∙ c.in-Err.is))

pub returns-in-Ok : goal.returns-in-Ok
returns-in-Ok c =
    a_phase _ _ _ c.in-Some.reduces c.in-Some-2.exec c.in-Some-3.init c.in-Some-4.assets (sym c.reduces.ensures ∙ c.in-Some.is) (sym c.in_ok-exec.ensures ∙ c.in-Some-2.is)
    (sym c.in_ok-init.ensures ∙ c.in-Some-3.is) (sym c.in_ok-assets.ensures ∙ c.in-Some-4.is) c.in-Ok.kind (sym c.kind.ensures ∙ c.in-Ok.is)
