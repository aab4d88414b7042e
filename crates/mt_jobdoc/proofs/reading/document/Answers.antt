use Rattle.mt_jobdoc.proofs.Faults.{passed_on, unless, a_document, faulty_phases, no_phases}
use Rattle.mt_jobdoc.proofs.reading.document.Goals as goal

pub returns-in_ok-name-in-Ok-phases : goal.returns-in_ok-name-in-Ok-phases
returns-in_ok-name-in-Ok-phases c = a_document _ _ _ _ _ c.in-Ok.ensures.ok c.in-Ok-phases.ensures c.in_ok-name-in-Ok-phases.ensures

pub returns-in-Err-phases : goal.returns-in-Err-phases
returns-in-Err-phases c = passed_on _ _ c.in-Err-phases.e c.in-Err-phases.ensures (λ fault. faulty_phases _ _ _ _ c.in-Ok.ensures.ok fault)

pub returns-in-Err : goal.returns-in-Err
returns-in-Err c = unless _ c.in-Err.e (no_phases _ _ _ c.in-Err.ensures.refused)
