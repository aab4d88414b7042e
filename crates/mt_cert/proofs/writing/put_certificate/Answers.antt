-- Part after part is put, or stops.
use Rattle.std.proofs.Common.{◌++◌, Err, refl, subst}
use Rattle.std.proofs.lemmas.Result.{err_from_is_err_and}
use Rattle.mt_certline.specs.Certificate.{lines_of}
use Rattle.mt_cert.specs.Putting.{Puts, PutsTo, out_at}
use Rattle.mt_cert.specs.Reading.{certificate_in, input_lines}
use Rattle.mt_cert.proofs.Puttings.{goes_off, goes_on}
use Rattle.mt_cert.proofs.Wholes.{begin_part, end_part, outputs_part, rest1, rest2, rest3, start, tasks_part}
use Rattle.mt_cert.proofs.writing.put_certificate.Goals as goal

pub returns-in_err-put_begin-clause-puts : goal.returns-in_err-put_begin-clause-puts
returns-in_err-put_begin-clause-puts g c =
    let job = c.args.job.now in
    let login = c.args.login.now in
    let whole = lines_of (certificate_in job) in
    let on0 = start login job (out_at c.args.page.now (g.K.Sink.got c.args.sink.now) (g.K.Sink.write_faults c.args.sink.now)) in
    let p = err_from_is_err_and c.from_residual.result c.from_residual.ensures.1 in
    rw (p.1, p.2) (goes_off login whole (begin_part job ++ rest1 job) (begin_part job) (rest1 job) c.in_err-put_begin.field-0.0 (out_at c.args.page.now (g.K.Sink.got c.args.sink.now) (g.K.Sink.write_faults c.args.sink.now)) (out_at c.args.page.now (g.K.Sink.got c.args.sink.now) (g.K.Sink.write_faults c.args.sink.now)) (out_at c.put_begin.new.page (g.K.Sink.got c.put_begin.new.sink) (g.K.Sink.write_faults c.put_begin.new.sink)) refl on0 c.in_err-put_begin.ensures.puts)

pub returns-in_err-put_inputs-clause-puts : goal.returns-in_err-put_inputs-clause-puts
returns-in_err-put_inputs-clause-puts g c =
    let job = c.args.job.now in
    let login = c.args.login.now in
    let whole = lines_of (certificate_in job) in
    let on0 = start login job (out_at c.args.page.now (g.K.Sink.got c.args.sink.now) (g.K.Sink.write_faults c.args.sink.now)) in
    let on1 = goes_on login whole (begin_part job ++ rest1 job) (begin_part job) (rest1 job) (out_at c.args.page.now (g.K.Sink.got c.args.sink.now) (g.K.Sink.write_faults c.args.sink.now)) (out_at c.args.page.now (g.K.Sink.got c.args.sink.now) (g.K.Sink.write_faults c.args.sink.now)) (out_at c.put_begin.new.page (g.K.Sink.got c.put_begin.new.sink) (g.K.Sink.write_faults c.put_begin.new.sink)) refl on0 c.in_ok-put_begin.ensures.puts in
    let p = err_from_is_err_and c.from_residual-in_err-put_inputs.result c.from_residual-in_err-put_inputs.ensures.1 in
    rw (p.1, p.2) (goes_off login whole (rest1 job) (input_lines job.inputs) (rest2 job) c.in_err-put_inputs.field-0.0 (out_at c.args.page.now (g.K.Sink.got c.args.sink.now) (g.K.Sink.write_faults c.args.sink.now)) (out_at c.put_begin.new.page (g.K.Sink.got c.put_begin.new.sink) (g.K.Sink.write_faults c.put_begin.new.sink)) (out_at c.put_inputs.new.page (g.K.Sink.got c.put_inputs.new.sink) (g.K.Sink.write_faults c.put_inputs.new.sink)) refl on1 (subst (λ is. PutsTo login (input_lines is) (Err c.in_err-put_inputs.field-0.0) (out_at c.put_begin.new.page (g.K.Sink.got c.put_begin.new.sink) (g.K.Sink.write_faults c.put_begin.new.sink)) (out_at c.put_inputs.new.page (g.K.Sink.got c.put_inputs.new.sink) (g.K.Sink.write_faults c.put_inputs.new.sink))) c.as_slice.ensures c.in_err-put_inputs.ensures.puts))

pub returns-in_err-put_phases-clause-puts : goal.returns-in_err-put_phases-clause-puts
returns-in_err-put_phases-clause-puts g c =
    let job = c.args.job.now in
    let login = c.args.login.now in
    let whole = lines_of (certificate_in job) in
    let on0 = start login job (out_at c.args.page.now (g.K.Sink.got c.args.sink.now) (g.K.Sink.write_faults c.args.sink.now)) in
    let on1 = goes_on login whole (begin_part job ++ rest1 job) (begin_part job) (rest1 job) (out_at c.args.page.now (g.K.Sink.got c.args.sink.now) (g.K.Sink.write_faults c.args.sink.now)) (out_at c.args.page.now (g.K.Sink.got c.args.sink.now) (g.K.Sink.write_faults c.args.sink.now)) (out_at c.put_begin.new.page (g.K.Sink.got c.put_begin.new.sink) (g.K.Sink.write_faults c.put_begin.new.sink)) refl on0 c.in_ok-put_begin.ensures.puts in
    let on2 = goes_on login whole (rest1 job) (input_lines job.inputs) (rest2 job) (out_at c.args.page.now (g.K.Sink.got c.args.sink.now) (g.K.Sink.write_faults c.args.sink.now)) (out_at c.put_begin.new.page (g.K.Sink.got c.put_begin.new.sink) (g.K.Sink.write_faults c.put_begin.new.sink)) (out_at c.put_inputs.new.page (g.K.Sink.got c.put_inputs.new.sink) (g.K.Sink.write_faults c.put_inputs.new.sink)) refl on1 (subst (λ is. Puts login (input_lines is) (out_at c.put_begin.new.page (g.K.Sink.got c.put_begin.new.sink) (g.K.Sink.write_faults c.put_begin.new.sink)) (out_at c.put_inputs.new.page (g.K.Sink.got c.put_inputs.new.sink) (g.K.Sink.write_faults c.put_inputs.new.sink))) c.as_slice.ensures c.in_ok-put_inputs.ensures.puts) in
    let p = err_from_is_err_and c.from_residual-in_err-put_phases.result c.from_residual-in_err-put_phases.ensures.1 in
    rw (p.1, p.2) (goes_off login whole (rest2 job) (tasks_part job) (rest3 job) c.in_err-put_phases.field-0.0 (out_at c.args.page.now (g.K.Sink.got c.args.sink.now) (g.K.Sink.write_faults c.args.sink.now)) (out_at c.put_inputs.new.page (g.K.Sink.got c.put_inputs.new.sink) (g.K.Sink.write_faults c.put_inputs.new.sink)) (out_at c.put_phases.new.page (g.K.Sink.got c.put_phases.new.sink) (g.K.Sink.write_faults c.put_phases.new.sink)) refl on2 c.in_err-put_phases.ensures.puts)

pub returns-in_err-put_outputs-clause-puts : goal.returns-in_err-put_outputs-clause-puts
returns-in_err-put_outputs-clause-puts g c =
    let job = c.args.job.now in
    let login = c.args.login.now in
    let whole = lines_of (certificate_in job) in
    let on0 = start login job (out_at c.args.page.now (g.K.Sink.got c.args.sink.now) (g.K.Sink.write_faults c.args.sink.now)) in
    let on1 = goes_on login whole (begin_part job ++ rest1 job) (begin_part job) (rest1 job) (out_at c.args.page.now (g.K.Sink.got c.args.sink.now) (g.K.Sink.write_faults c.args.sink.now)) (out_at c.args.page.now (g.K.Sink.got c.args.sink.now) (g.K.Sink.write_faults c.args.sink.now)) (out_at c.put_begin.new.page (g.K.Sink.got c.put_begin.new.sink) (g.K.Sink.write_faults c.put_begin.new.sink)) refl on0 c.in_ok-put_begin.ensures.puts in
    let on2 = goes_on login whole (rest1 job) (input_lines job.inputs) (rest2 job) (out_at c.args.page.now (g.K.Sink.got c.args.sink.now) (g.K.Sink.write_faults c.args.sink.now)) (out_at c.put_begin.new.page (g.K.Sink.got c.put_begin.new.sink) (g.K.Sink.write_faults c.put_begin.new.sink)) (out_at c.put_inputs.new.page (g.K.Sink.got c.put_inputs.new.sink) (g.K.Sink.write_faults c.put_inputs.new.sink)) refl on1 (subst (λ is. Puts login (input_lines is) (out_at c.put_begin.new.page (g.K.Sink.got c.put_begin.new.sink) (g.K.Sink.write_faults c.put_begin.new.sink)) (out_at c.put_inputs.new.page (g.K.Sink.got c.put_inputs.new.sink) (g.K.Sink.write_faults c.put_inputs.new.sink))) c.as_slice.ensures c.in_ok-put_inputs.ensures.puts) in
    let on3 = goes_on login whole (rest2 job) (tasks_part job) (rest3 job) (out_at c.args.page.now (g.K.Sink.got c.args.sink.now) (g.K.Sink.write_faults c.args.sink.now)) (out_at c.put_inputs.new.page (g.K.Sink.got c.put_inputs.new.sink) (g.K.Sink.write_faults c.put_inputs.new.sink)) (out_at c.put_phases.new.page (g.K.Sink.got c.put_phases.new.sink) (g.K.Sink.write_faults c.put_phases.new.sink)) refl on2 c.in_ok-put_phases.ensures.puts in
    let p = err_from_is_err_and c.from_residual-in_err-put_outputs.result c.from_residual-in_err-put_outputs.ensures.1 in
    rw (p.1, p.2) (goes_off login whole (rest3 job) (outputs_part job) (end_part) c.in_err-put_outputs.field-0.0 (out_at c.args.page.now (g.K.Sink.got c.args.sink.now) (g.K.Sink.write_faults c.args.sink.now)) (out_at c.put_phases.new.page (g.K.Sink.got c.put_phases.new.sink) (g.K.Sink.write_faults c.put_phases.new.sink)) (out_at c.put_outputs.new.page (g.K.Sink.got c.put_outputs.new.sink) (g.K.Sink.write_faults c.put_outputs.new.sink)) refl on3 c.in_err-put_outputs.ensures.puts)

pub returns-clause-puts : goal.returns-clause-puts
returns-clause-puts g c =
    let job = c.args.job.now in
    let login = c.args.login.now in
    let whole = lines_of (certificate_in job) in
    let on0 = start login job (out_at c.args.page.now (g.K.Sink.got c.args.sink.now) (g.K.Sink.write_faults c.args.sink.now)) in
    let on1 = goes_on login whole (begin_part job ++ rest1 job) (begin_part job) (rest1 job) (out_at c.args.page.now (g.K.Sink.got c.args.sink.now) (g.K.Sink.write_faults c.args.sink.now)) (out_at c.args.page.now (g.K.Sink.got c.args.sink.now) (g.K.Sink.write_faults c.args.sink.now)) (out_at c.put_begin.new.page (g.K.Sink.got c.put_begin.new.sink) (g.K.Sink.write_faults c.put_begin.new.sink)) refl on0 c.in_ok-put_begin.ensures.puts in
    let on2 = goes_on login whole (rest1 job) (input_lines job.inputs) (rest2 job) (out_at c.args.page.now (g.K.Sink.got c.args.sink.now) (g.K.Sink.write_faults c.args.sink.now)) (out_at c.put_begin.new.page (g.K.Sink.got c.put_begin.new.sink) (g.K.Sink.write_faults c.put_begin.new.sink)) (out_at c.put_inputs.new.page (g.K.Sink.got c.put_inputs.new.sink) (g.K.Sink.write_faults c.put_inputs.new.sink)) refl on1 (subst (λ is. Puts login (input_lines is) (out_at c.put_begin.new.page (g.K.Sink.got c.put_begin.new.sink) (g.K.Sink.write_faults c.put_begin.new.sink)) (out_at c.put_inputs.new.page (g.K.Sink.got c.put_inputs.new.sink) (g.K.Sink.write_faults c.put_inputs.new.sink))) c.as_slice.ensures c.in_ok-put_inputs.ensures.puts) in
    let on3 = goes_on login whole (rest2 job) (tasks_part job) (rest3 job) (out_at c.args.page.now (g.K.Sink.got c.args.sink.now) (g.K.Sink.write_faults c.args.sink.now)) (out_at c.put_inputs.new.page (g.K.Sink.got c.put_inputs.new.sink) (g.K.Sink.write_faults c.put_inputs.new.sink)) (out_at c.put_phases.new.page (g.K.Sink.got c.put_phases.new.sink) (g.K.Sink.write_faults c.put_phases.new.sink)) refl on2 c.in_ok-put_phases.ensures.puts in
    let on4 = goes_on login whole (rest3 job) (outputs_part job) (end_part) (out_at c.args.page.now (g.K.Sink.got c.args.sink.now) (g.K.Sink.write_faults c.args.sink.now)) (out_at c.put_phases.new.page (g.K.Sink.got c.put_phases.new.sink) (g.K.Sink.write_faults c.put_phases.new.sink)) (out_at c.put_outputs.new.page (g.K.Sink.got c.put_outputs.new.sink) (g.K.Sink.write_faults c.put_outputs.new.sink)) refl on3 c.in_ok-put_outputs.ensures.puts in
    on4 c.put_line.result (out_at c.put_line.new.page (g.K.Sink.got c.put_line.new.sink) (g.K.Sink.write_faults c.put_line.new.sink)) c.put_line.ensures.puts
