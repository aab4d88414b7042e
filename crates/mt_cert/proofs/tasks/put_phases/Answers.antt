-- The lines of a phase more are put, or stop.
use Rattle.std.proofs.Common.{◌+◌, ◌<◌, ◌≤◌, ◌≡◌, ap, arith, drop, get_or, length, map, subst}
use Rattle.std.proofs.lemmas.List.{drop_all}
use Rattle.std.proofs.lemmas.Result.{err_from_is_err_and}
use Rattle.mt_types.specs.Values.{job_with}
use Rattle.mt_certline.specs.Certificate.{listed_in}
use Rattle.mt_certline.specs.declared.line.Line.TheVariants.{Task}
use Rattle.mt_certline.specs.declared.line.Listed.{Listed}
use Rattle.mt_cert.specs.Certifying.{sum_of_body}
use Rattle.mt_cert.specs.Putting.{out_at}
use Rattle.mt_cert.proofs.Parts.{next_of, phase_next, tasks_from}
use Rattle.mt_cert.proofs.Puttings.{goes_end, goes_off, goes_on}
use Rattle.mt_cert.proofs.tasks.put_phases.Goals as goal

pub loop-index-preserved : goal.loop-index-preserved
loop-index-preserved g c =
    let job = c.args.job.now in
    let phases = job.document.phases in
    let k = c.loop-index.index in
    let p = c.index-phases-index.result in
    let less : k < length phases = omega (arith, ap length c.as_slice-phases.ensures) in
    let is : p ≡ get_or phases k p = subst (λ ps. p ≡ get_or ps k p) c.as_slice-phases.ensures c.index-phases-index.is in
    let next = phase_next job k p (next_of phases k p less is) in
    let here = map (λ (l : Listed). Task l) (listed_in (job_with sum_of_body job) (k, p)) in
    record {
      on = goes_on c.args.login.now (tasks_from job 0 phases) (tasks_from job k (drop k phases)) here (tasks_from job (k + 1) (drop (k + 1) phases)) (out_at c.args.page.now (g.K.Sink.got c.args.sink.now) (g.K.Sink.write_faults c.args.sink.now)) (out_at c.loop-index.page (g.K.Sink.got c.loop-index.sink) (g.K.Sink.write_faults c.loop-index.sink)) (out_at c.put_phase.new.page (g.K.Sink.got c.put_phase.new.sink) (g.K.Sink.write_faults c.put_phase.new.sink))
          next c.loop-index.invariant.on c.in_ok-put_phase.ensures.puts;
      stays = g.met.K.Sink.sink_joined _ _ _ c.loop-index.invariant.stays c.in_ok-put_phase.ensures.stays;
    }

pub returns-in_err-put_phase-clause-puts : goal.returns-in_err-put_phase-clause-puts
returns-in_err-put_phase-clause-puts g c =
    let job = c.args.job.now in
    let phases = job.document.phases in
    let k = c.loop-index.index in
    let p = c.index-phases-index.result in
    let less : k < length phases = omega (arith, ap length c.as_slice-phases.ensures) in
    let is : p ≡ get_or phases k p = subst (λ ps. p ≡ get_or ps k p) c.as_slice-phases.ensures c.index-phases-index.is in
    let next = phase_next job k p (next_of phases k p less is) in
    let here = map (λ (l : Listed). Task l) (listed_in (job_with sum_of_body job) (k, p)) in
    let q = err_from_is_err_and c.from_residual.result c.from_residual.ensures.1 in
    rw (q.1, q.2)
    (goes_off c.args.login.now (tasks_from job 0 phases) (tasks_from job k (drop k phases)) here (tasks_from job (k + 1) (drop (k + 1) phases)) c.in_err-put_phase.field-0.0 (out_at c.args.page.now (g.K.Sink.got c.args.sink.now) (g.K.Sink.write_faults c.args.sink.now)) (out_at c.loop-index.page (g.K.Sink.got c.loop-index.sink) (g.K.Sink.write_faults c.loop-index.sink)) (out_at c.put_phase.new.page (g.K.Sink.got c.put_phase.new.sink) (g.K.Sink.write_faults c.put_phase.new.sink))
    next c.loop-index.invariant.on c.in_err-put_phase.ensures.puts)

pub returns-clause-puts : goal.returns-clause-puts
returns-clause-puts g c =
    let job = c.args.job.now in
    let phases = job.document.phases in
    let k = c.loop-index.index in
    let past : length phases ≤ k = omega (arith, ap length c.as_slice-phases.ensures) in
    goes_end c.args.login.now (tasks_from job 0 phases) (tasks_from job k (drop k phases)) (out_at c.args.page.now (g.K.Sink.got c.args.sink.now) (g.K.Sink.write_faults c.args.sink.now)) (out_at c.loop-index.page (g.K.Sink.got c.loop-index.sink) (g.K.Sink.write_faults c.loop-index.sink)) (ap (tasks_from job k) (drop_all k phases past)) c.loop-index.invariant.on
