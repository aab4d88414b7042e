-- A line more is put, or stops.
use Rattle.std.proofs.Common.{◌+◌, ◌<◌, ◌≤◌, [], ◌∷◌, ap, arith, drop, length}
use Rattle.std.proofs.lemmas.List.{drop_all}
use Rattle.std.proofs.lemmas.Result.{err_from_is_err_and}
use Rattle.mt_certline.specs.declared.line.Line.TheVariants.{Output}
use Rattle.mt_cert.specs.Putting.{out_at}
use Rattle.mt_cert.specs.Reading.{output_lines}
use Rattle.mt_cert.proofs.Parts.{next_of}
use Rattle.mt_cert.proofs.Puttings.{goes_end, goes_off, goes_on}
use Rattle.mt_cert.proofs.names.put_names.Goals as goal

pub loop-item-preserved : goal.loop-item-preserved
loop-item-preserved g c =
    let items = c.args.items.now in
    let k = c.loop-item.item-index in
    let item = c.item-item.result in
    let less : k < length items = omega arith in
    let next = next_of items k item less c.item-item.is in
    record {
      on = goes_on c.args.login.now (output_lines items) (output_lines (drop k items)) (Output item.name ∷ []) (output_lines (drop (k + 1) items)) (out_at c.args.page.now (g.K.Sink.got c.args.sink.now) (g.K.Sink.write_faults c.args.sink.now)) (out_at c.loop-item.page (g.K.Sink.got c.loop-item.sink) (g.K.Sink.write_faults c.loop-item.sink)) (out_at c.put_name.new.page (g.K.Sink.got c.put_name.new.sink) (g.K.Sink.write_faults c.put_name.new.sink))
          (ap output_lines next) c.loop-item.invariant.on c.in_ok-put_name.ensures.puts;
      stays = g.met.K.Sink.sink_joined _ _ _ c.loop-item.invariant.stays c.in_ok-put_name.ensures.stays;
    }

pub returns-in_err-put_name-clause-puts : goal.returns-in_err-put_name-clause-puts
returns-in_err-put_name-clause-puts g c =
    let items = c.args.items.now in
    let k = c.loop-item.item-index in
    let item = c.item-item.result in
    let less : k < length items = omega arith in
    let next = next_of items k item less c.item-item.is in
    let p = err_from_is_err_and c.from_residual.result c.from_residual.ensures.1 in
    rw (p.1, p.2)
    (goes_off c.args.login.now (output_lines items) (output_lines (drop k items)) (Output item.name ∷ []) (output_lines (drop (k + 1) items)) c.in_err-put_name.field-0.0 (out_at c.args.page.now (g.K.Sink.got c.args.sink.now) (g.K.Sink.write_faults c.args.sink.now)) (out_at c.loop-item.page (g.K.Sink.got c.loop-item.sink) (g.K.Sink.write_faults c.loop-item.sink)) (out_at c.put_name.new.page (g.K.Sink.got c.put_name.new.sink) (g.K.Sink.write_faults c.put_name.new.sink))
    (ap output_lines next) c.loop-item.invariant.on c.in_err-put_name.ensures.puts)

pub returns-clause-puts : goal.returns-clause-puts
returns-clause-puts g c =
    let items = c.args.items.now in
    let k = c.loop-item.item-index in
    let past : length items ≤ k = omega arith in
    goes_end c.args.login.now (output_lines items) (output_lines (drop k items)) (out_at c.args.page.now (g.K.Sink.got c.args.sink.now) (g.K.Sink.write_faults c.args.sink.now)) (out_at c.loop-item.page (g.K.Sink.got c.loop-item.sink) (g.K.Sink.write_faults c.loop-item.sink)) (ap output_lines (drop_all k items past)) c.loop-item.invariant.on
