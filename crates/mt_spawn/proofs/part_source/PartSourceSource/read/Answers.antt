use Rattle.std.proofs.Common.{ap, arith, length-append, length-take}
use Rattle.mt_spawn.specs.Parts.{told_between}
use Rattle.mt_spawn.proofs.PartBytes.{told_end, told_took}
use Rattle.mt_spawn.proofs.part_source.PartSourceSource.read.Goals as goal

pub returns-in-Took-clause-reads : goal.returns-in-Took-clause-reads
returns-in-Took-clause-reads g c =
    let r = c.in-Took.ensures.read in (
      r.0,
      simp length-append (omega (arith, r.1)),
      told_took _ _ c.args.self.now.part c.args.self.now.at c.in-Took.count c.args.self.now.end c.read.new.into _ c.in-Took.ensures.told r.1 (omega (arith, r.1, c.read.auto.into, length-take c.min-most.result c.args.into.now)) r.3,
      r.4,
    )

pub returns-in-End-clause-reads : goal.returns-in-End-clause-reads
returns-in-End-clause-reads g c =
    let s = c.args.self.now in (
      told_end _ _ s.part s.at s.end (λ raw is. g.met.P.Spawner.told_is_held s.spawner.now raw is) c.in-End.ensures.read.0,
      ap (λ t. told_between t s.part s.at s.end) c.in-End.ensures.told,
      c.in-End.ensures.read.1,
    )
