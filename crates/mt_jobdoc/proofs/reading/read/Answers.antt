use Rattle.mt_jobdoc.proofs.Faults.{of_object, no_object}
use Rattle.mt_jobdoc.proofs.reading.read.Goals as goal

pub returns-in-Ok : goal.returns-in-Ok
returns-in-Ok c = record { exact = of_object _ _ _ _ c.in-Ok.ensures.ok c.document.ensures }

pub returns-in-Err : goal.returns-in-Err
returns-in-Err c = record { exact = no_object _ _ c.in-Err.e c.in-Err.ensures.refused }
