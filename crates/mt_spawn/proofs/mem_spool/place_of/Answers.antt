use Rattle.std.proofs.Common.{arith}
use Rattle.mt_spawn.proofs.SpoolBytes.{none_has}
use Rattle.mt_spawn.proofs.mem_spool.place_of.Goals as goal

pub returns-clause-absent : goal.returns-clause-absent
returns-clause-absent c = λ _. none_has c.args.number c.args.files.now (λ j d l. c.loop-place.invariant j d (omega (arith, l)))
