use Rattle.std.proofs.Common.{rules, ap, arith, Some}
use Rattle.mt_spawn.specs.SpoolMemory.{files_of}
use Rattle.mt_spawn.proofs.SpoolBytes.{some_has}
use Rattle.mt_spawn.proofs.mem_spool.MemSpoolSpool.create_new.Goals as goal

pub returns-in-Some : goal.returns-in-Some
returns-in-Some c = (some_has c.args.number c.args.self.now.files.items c.in-Some._place (search rules), ap (λ fs. Some (files_of fs)) c.begin.ensures.files, omega (arith, c.begin.ensures.faults))
