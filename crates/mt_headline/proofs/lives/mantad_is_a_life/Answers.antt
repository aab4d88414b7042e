use Rattle.std.proofs.Common.{ap, refl, arith}
use Rattle.std.specs.Prelude.{is_some}
use Rattle.mt_headline.proofs.Runs.{is_serve, is_session, told_within, whole_history}
use Rattle.mt_headline.proofs.lives.mantad_is_a_life.Goals as goal

pub returns-clause-session : goal.returns-clause-session
returns-clause-session g c = λ settings wants files seen before whole.
    let r = c.mantad.ensures.run settings wants _ whole.rest (whole_history _ files before seen whole) in (
      r.0,
      r.1,
      r.2,
      r.3,
      is_session _ whole.earlier whole.rest before (ap is_some seen) refl whole.all _ r.0 _ refl
          (λ t image late left. let within = told_within (is_some (g.D.Disk.seen c.args.disk.now)) (g.D.Disk.moment c.mantad.new.disk) in g.met.D.Disk.counts_now c.mantad.new.disk t image (omega (arith, late, within)) left) r.4,
    )

pub returns-clause-serve : goal.returns-clause-serve
returns-clause-serve g c = λ settings connections wants files seen before whole.
    let r = c.mantad.ensures.served settings connections wants _ whole.rest (whole_history _ files before seen whole) in (
      r.0,
      r.1,
      r.2,
      r.3,
      is_serve _ _ _ whole.earlier whole.rest before (ap is_some seen) refl whole.all connections _ r.0 _ refl
          (λ t image late left. let within = told_within (is_some (g.D.Disk.seen c.args.disk.now)) (g.D.Disk.moment c.mantad.new.disk) in g.met.D.Disk.counts_now c.mantad.new.disk t image (omega (arith, late, within)) left) r.4,
    )
