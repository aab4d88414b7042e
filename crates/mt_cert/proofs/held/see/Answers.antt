-- Each part of the job was looked at.
use Rattle.std.proofs.Common.{◌<◌, ◌^◌, arith, length}
use Rattle.mt_certline.specs.Laws.{IsOfTexts}
use Rattle.std.specs.List.{AllByRecursion}
use Rattle.mt_cert.specs.Seen.{AreSums, IsSeenTrace}
use Rattle.mt_cert.proofs.Holdings.{held_by}
use Rattle.mt_cert.proofs.held.see.Goals as goal

pub returns : goal.returns
returns c =
    let job = c.args.job.now in
    let texts : AllByRecursion IsOfTexts job.document.phases = rw c.as_slice.ensures at c.see_phases.ensures in
    let inputs : AreSums job.inputs = rw c.as_slice-2.ensures at c.see_items.ensures in
    let seen : IsSeenTrace job.trace c.in_ok-see_trace.field-0 = rw c.as_slice-3.ensures at c.in_ok-see_trace.ensures in
    let few : length job.inputs < 2 ^ 64 = omega (arith, c.len-inputs.ensures, c.len-inputs.type_inv) in
    held_by job c.in_ok-see_trace.field-0 texts inputs few seen
