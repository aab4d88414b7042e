-- The lines of a task more are put, or stop.
use Rattle.std.proofs.Common.{◌+◌, ◌<◌, ◌≤◌, ◌≡◌, ◌==◌, [], Err, subst, true, false, ap, arith, drop, length, eq-eqb, ne_eqb}
use Rattle.std.proofs.lemmas.List.{drop_all}
use Rattle.std.proofs.lemmas.Result.{err_from_is_err_and}
use Rattle.mt_model.specs.Feed.{items_of}
use Rattle.mt_cert.specs.Putting.{PutsTo, out_at}
use Rattle.mt_cert.specs.Reading.{given_lines, output_lines}
use Rattle.mt_cert.proofs.Parts.{given_next, given_other, next_of}
use Rattle.mt_cert.proofs.Puttings.{goes_end, goes_off, goes_on, puts_nothing}
use Rattle.mt_cert.proofs.names.put_given.Goals as goal
use Rattle.mt_cert.proofs.names.put_given.Goals.{then-entry-phase+in_ok-put_names, else-entry-phase}

pub loop-entry-preserved : goal.loop-entry-preserved
loop-entry-preserved g c =
    let trace = c.args.trace.now in
    let k = c.loop-entry.entry-index in
    let e = c.entry-item.result in
    let less : k < length trace = omega arith in
    let next = next_of trace k e less c.entry-item.is in
    let i = c.loop-entry.invariant in
    elim c.if-entry-phase.branch [
      | then-entry-phase+in_ok-put_names w ↦
          let is : e.phase == c.args.phase ≡ true = eq-eqb e.phase c.args.phase w.if-entry-phase.true in
          rw (w.page-is, w.sink-is) (record {
            on = goes_on c.args.login.now (given_lines c.args.phase trace) (given_lines c.args.phase (drop k trace)) (output_lines (items_of e.outcome)) (given_lines c.args.phase (drop (k + 1) trace)) (out_at c.args.page.now (g.K.Sink.got c.args.sink.now) (g.K.Sink.write_faults c.args.sink.now)) (out_at c.loop-entry.page (g.K.Sink.got c.loop-entry.sink) (g.K.Sink.write_faults c.loop-entry.sink)) (out_at w.put_names.new.page (g.K.Sink.got w.put_names.new.sink) (g.K.Sink.write_faults w.put_names.new.sink))
                (given_next trace k e next c.args.phase is) i.on (rw w.items_of.ensures at w.in_ok-put_names.ensures.puts);
            stays = g.met.K.Sink.sink_joined _ _ _ i.stays w.in_ok-put_names.ensures.stays;
          })
      | else-entry-phase w ↦
          let is : e.phase == c.args.phase ≡ false = ne_eqb e.phase c.args.phase w.if-entry-phase.false in
          rw (w.page-is, w.sink-is) (record {
            on = goes_on c.args.login.now (given_lines c.args.phase trace) (given_lines c.args.phase (drop k trace)) [] (given_lines c.args.phase (drop (k + 1) trace)) (out_at c.args.page.now (g.K.Sink.got c.args.sink.now) (g.K.Sink.write_faults c.args.sink.now)) (out_at c.loop-entry.page (g.K.Sink.got c.loop-entry.sink) (g.K.Sink.write_faults c.loop-entry.sink)) (out_at c.loop-entry.page (g.K.Sink.got c.loop-entry.sink) (g.K.Sink.write_faults c.loop-entry.sink))
                (given_other trace k e next c.args.phase is) i.on (puts_nothing c.args.login.now (out_at c.loop-entry.page (g.K.Sink.got c.loop-entry.sink) (g.K.Sink.write_faults c.loop-entry.sink)));
            stays = i.stays;
          })
    ]

pub returns-in_err-put_names-clause-puts : goal.returns-in_err-put_names-clause-puts
returns-in_err-put_names-clause-puts g c =
    let trace = c.args.trace.now in
    let k = c.loop-entry.entry-index in
    let e = c.entry-item.result in
    let less : k < length trace = omega arith in
    let next = next_of trace k e less c.entry-item.is in
    let is : e.phase == c.args.phase ≡ true = eq-eqb e.phase c.args.phase c.if-entry-phase.true in
    let p = err_from_is_err_and c.from_residual.result c.from_residual.ensures.1 in
    rw (p.1, p.2)
    (goes_off c.args.login.now (given_lines c.args.phase trace) (given_lines c.args.phase (drop k trace)) (output_lines (items_of e.outcome)) (given_lines c.args.phase (drop (k + 1) trace)) c.in_err-put_names.field-0.0 (out_at c.args.page.now (g.K.Sink.got c.args.sink.now) (g.K.Sink.write_faults c.args.sink.now)) (out_at c.loop-entry.page (g.K.Sink.got c.loop-entry.sink) (g.K.Sink.write_faults c.loop-entry.sink)) (out_at c.put_names.new.page (g.K.Sink.got c.put_names.new.sink) (g.K.Sink.write_faults c.put_names.new.sink))
    (given_next trace k e next c.args.phase is) c.loop-entry.invariant.on (subst (λ is. PutsTo c.args.login.now (output_lines is) (Err c.in_err-put_names.field-0.0) (out_at c.loop-entry.page (g.K.Sink.got c.loop-entry.sink) (g.K.Sink.write_faults c.loop-entry.sink)) (out_at c.put_names.new.page (g.K.Sink.got c.put_names.new.sink) (g.K.Sink.write_faults c.put_names.new.sink))) c.items_of.ensures c.in_err-put_names.ensures.puts))

pub returns-clause-puts : goal.returns-clause-puts
returns-clause-puts g c =
    let trace = c.args.trace.now in
    let k = c.loop-entry.entry-index in
    let past : length trace ≤ k = omega arith in
    goes_end c.args.login.now (given_lines c.args.phase trace) (given_lines c.args.phase (drop k trace)) (out_at c.args.page.now (g.K.Sink.got c.args.sink.now) (g.K.Sink.write_faults c.args.sink.now)) (out_at c.loop-entry.page (g.K.Sink.got c.loop-entry.sink) (g.K.Sink.write_faults c.loop-entry.sink)) (ap (given_lines c.args.phase) (drop_all k trace past)) c.loop-entry.invariant.on
