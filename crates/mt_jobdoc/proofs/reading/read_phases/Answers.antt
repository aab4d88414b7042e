-- What the list of an object says, its phases say.
use Rattle.std.proofs.Common.{ap, sym, subst}
use Rattle.mt_jobdoc.specs.Document.{IsUnlessMemory, and_then, phases_of}
use Rattle.mt_jobdoc.proofs.Faults.{unless}
use Rattle.mt_jobdoc.proofs.reading.read_phases.Goals as goal

pub returns-in-Ok : goal.returns-in-Ok
returns-in-Ok c = subst (λ r. IsUnlessMemory (and_then r (phases_of c.args.login.now 0)) c.phases.result) (sym c.in-Ok.ensures.ok) c.phases.ensures

pub returns-in-Err : goal.returns-in-Err
returns-in-Err c = unless _ c.in-Err.e (ap (λ r. and_then r (phases_of c.args.login.now 0)) c.in-Err.ensures.refused)
