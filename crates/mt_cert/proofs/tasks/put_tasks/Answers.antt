-- The lines of a task more are put, or stop.
use Rattle.std.proofs.Common.{◌+◌, ◌<◌, ◌≤◌, ◌≡◌, ◌==◌, [], ◌∷◌, true, false, ap, arith, drop, length, eq-eqb, ne_eqb}
use Rattle.std.proofs.lemmas.List.{drop_all}
use Rattle.std.proofs.lemmas.Result.{err_from_is_err_and}
use Rattle.mt_certline.specs.declared.line.Line.TheVariants.{Task}
use Rattle.mt_feeds.specs.FedJob.{lists_of}
use Rattle.mt_cert.specs.Putting.{out_at}
use Rattle.mt_cert.specs.Reading.{listed_by, task_lines}
use Rattle.mt_cert.proofs.Parts.{task_next, task_other, next_of}
use Rattle.mt_cert.proofs.Puttings.{goes_end, goes_off, goes_on, puts_nothing}
use Rattle.mt_cert.proofs.tasks.put_tasks.Goals as goal
use Rattle.mt_cert.proofs.tasks.put_tasks.Goals.{then-entry-opened+in_ok-put_task, else-entry-opened}

pub loop-entry-preserved : goal.loop-entry-preserved
loop-entry-preserved g c =
    let trace = c.args.trace.now in
    let k = c.loop-entry.entry-index in
    let e = c.entry-item.result in
    let less : k < length trace = omega arith in
    let next = next_of trace k e less c.entry-item.is in
    let i = c.loop-entry.invariant in
    elim c.if-entry-opened.branch [
      | then-entry-opened+in_ok-put_task w ↦
          let is : e.phase == c.args.opened.now.phase ≡ true = eq-eqb e.phase c.args.opened.now.phase w.if-entry-opened.true in
          rw (w.page-is, w.sink-is) (record {
            on = goes_on c.args.login.now (task_lines c.args.opened.now trace) (task_lines c.args.opened.now (drop k trace)) (Task (listed_by c.args.opened.now.kind (lists_of c.args.opened.now.shares) e) ∷ []) (task_lines c.args.opened.now (drop (k + 1) trace)) (out_at c.args.page.now (g.K.Sink.got c.args.sink.now) (g.K.Sink.write_faults c.args.sink.now)) (out_at c.loop-entry.page (g.K.Sink.got c.loop-entry.sink) (g.K.Sink.write_faults c.loop-entry.sink)) (out_at w.put_task.new.page (g.K.Sink.got w.put_task.new.sink) (g.K.Sink.write_faults w.put_task.new.sink))
                (task_next trace k e next c.args.opened.now is) i.on w.in_ok-put_task.ensures.puts;
            stays = g.met.K.Sink.sink_joined _ _ _ i.stays w.in_ok-put_task.ensures.stays;
          })
      | else-entry-opened w ↦
          let is : e.phase == c.args.opened.now.phase ≡ false = ne_eqb e.phase c.args.opened.now.phase w.if-entry-opened.false in
          rw (w.page-is, w.sink-is) (record {
            on = goes_on c.args.login.now (task_lines c.args.opened.now trace) (task_lines c.args.opened.now (drop k trace)) [] (task_lines c.args.opened.now (drop (k + 1) trace)) (out_at c.args.page.now (g.K.Sink.got c.args.sink.now) (g.K.Sink.write_faults c.args.sink.now)) (out_at c.loop-entry.page (g.K.Sink.got c.loop-entry.sink) (g.K.Sink.write_faults c.loop-entry.sink)) (out_at c.loop-entry.page (g.K.Sink.got c.loop-entry.sink) (g.K.Sink.write_faults c.loop-entry.sink))
                (task_other trace k e next c.args.opened.now is) i.on (puts_nothing c.args.login.now (out_at c.loop-entry.page (g.K.Sink.got c.loop-entry.sink) (g.K.Sink.write_faults c.loop-entry.sink)));
            stays = i.stays;
          })
    ]

pub returns-in_err-put_task-clause-puts : goal.returns-in_err-put_task-clause-puts
returns-in_err-put_task-clause-puts g c =
    let trace = c.args.trace.now in
    let k = c.loop-entry.entry-index in
    let e = c.entry-item.result in
    let less : k < length trace = omega arith in
    let next = next_of trace k e less c.entry-item.is in
    let is : e.phase == c.args.opened.now.phase ≡ true = eq-eqb e.phase c.args.opened.now.phase c.if-entry-opened.true in
    let p = err_from_is_err_and c.from_residual.result c.from_residual.ensures.1 in
    rw (p.1, p.2)
    (goes_off c.args.login.now (task_lines c.args.opened.now trace) (task_lines c.args.opened.now (drop k trace)) (Task (listed_by c.args.opened.now.kind (lists_of c.args.opened.now.shares) e) ∷ []) (task_lines c.args.opened.now (drop (k + 1) trace)) c.in_err-put_task.field-0.0 (out_at c.args.page.now (g.K.Sink.got c.args.sink.now) (g.K.Sink.write_faults c.args.sink.now)) (out_at c.loop-entry.page (g.K.Sink.got c.loop-entry.sink) (g.K.Sink.write_faults c.loop-entry.sink)) (out_at c.put_task.new.page (g.K.Sink.got c.put_task.new.sink) (g.K.Sink.write_faults c.put_task.new.sink))
    (task_next trace k e next c.args.opened.now is) c.loop-entry.invariant.on c.in_err-put_task.ensures.puts)

pub returns-clause-puts : goal.returns-clause-puts
returns-clause-puts g c =
    let trace = c.args.trace.now in
    let k = c.loop-entry.entry-index in
    let past : length trace ≤ k = omega arith in
    goes_end c.args.login.now (task_lines c.args.opened.now trace) (task_lines c.args.opened.now (drop k trace)) (out_at c.args.page.now (g.K.Sink.got c.args.sink.now) (g.K.Sink.write_faults c.args.sink.now)) (out_at c.loop-entry.page (g.K.Sink.got c.loop-entry.sink) (g.K.Sink.write_faults c.loop-entry.sink)) (ap (task_lines c.args.opened.now) (drop_all k trace past)) c.loop-entry.invariant.on
