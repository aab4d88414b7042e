-- What the top call promises of the session.
use Rattle.std.proofs.Common.{◌≡◌, [], refl, ap, sym, ◌∙◌, arith}
use Rattle.std.specs.Prelude.{is_some}
use Rattle.mt_edge.specs.Memory.{Calls}
use Rattle.mt_model.specs.State.{first_state}
use Rattle.mt_server.specs.Statuses.{code_of}
use Rattle.mt_drill.specs.Drilled.{session_settings}
use Rattle.mt_drill.proofs.Served.{has_fronts, has_history, has_drilled, same_link, still_told, wants}
use Rattle.mt_drill.proofs.session.session_over.Goals as goal

pub returns-clause-served : goal.returns-clause-served
returns-clause-served g c knows zero =
    let d = g.D.Disk in
    let k = g.C.Clock in
    let x = c.mantad.ensures.run session_settings (wants _ c.requires.words) first_state [] c.requires.empty in
    let ended : code_of x.0 ≡ 0 = sym x.1 ∙ zero in
    let same = same_link _ c.args.sink.now.got c.args.sink.now.calls.faults c.args.count c.requires.source c.requires.sink.0 (ap (λ (calls : Calls). calls.faults) c.requires.sink.1) in (
      x.2,
      has_drilled d.seen d.may_leave d.left_since d.faults d.moment (k.gives (k.rule c.args.clock.now)) (k.asked c.args.clock.now) c.args.count c.args.disk.now c.mantad.new.disk (is_some (d.seen c.args.disk.now)) _ _ _ _ x.0 x.2 x.3 _ c.mantad.new.sink.got knows same refl ended x.4,
      has_history d.seen d.may_leave d.left_since d.faults d.moment (k.gives (k.rule c.args.clock.now)) (k.asked c.args.clock.now) c.args.count c.args.disk.now c.mantad.new.disk (is_some (d.seen c.args.disk.now)) _ _ _ _ x.0 x.2 x.3 _ knows ended x.4,
    )

pub returns-clause-any_moment : goal.returns-clause-any_moment
returns-clause-any_moment g c knows =
    let d = g.D.Disk in
    let k = g.C.Clock in
    let x = c.mantad.ensures.run session_settings (wants _ c.requires.words) first_state [] c.requires.empty in
    has_fronts d.seen d.may_leave d.left_since d.faults d.moment (k.gives (k.rule c.args.clock.now)) (k.asked c.args.clock.now) c.args.count c.args.disk.now c.mantad.new.disk (is_some (d.seen c.args.disk.now)) _ _ _ _ x.0 x.2 x.3 _ knows x.4

pub returns-clause-tells : goal.returns-clause-tells
returns-clause-tells g c zero some =
    let d = g.D.Disk in
    let k = g.C.Clock in
    let x = c.mantad.ensures.run session_settings (wants _ c.requires.words) first_state [] c.requires.empty in
    still_told d.seen d.may_leave d.left_since d.faults d.moment (k.gives (k.rule c.args.clock.now)) (k.asked c.args.clock.now) c.args.count c.args.disk.now c.mantad.new.disk (is_some (d.seen c.args.disk.now)) _ _ _ _ x.0 x.2 x.3 _ some (sym x.1 ∙ zero) x.4 some

pub returns-clause-rest : goal.returns-clause-rest
returns-clause-rest g c zero = c.mantad.ensures.rest (λ e. omega (arith, zero, e)) (λ e. omega (arith, zero, e)) (λ e. absurd (omega (arith, zero, e)))

pub returns-clause-faults : goal.returns-clause-faults
returns-clause-faults g c = (c.mantad.ensures.run session_settings (wants _ c.requires.words) first_state [] c.requires.empty).4.holds.counts.disk
