use Rattle.std.proofs.Common.{sym, ap, ◌∙◌}
use Rattle.mt_spawn.specs.Spools.{has_file}
use Rattle.mt_spawn.specs.SpoolMemory.{files_of}
use Rattle.mt_spawn.proofs.SpoolBytes.{some_has}
use Rattle.mt_spawn.proofs.mem_spool.MemSpool.has.Goals as goal

pub returns-in-Some : goal.returns-in-Some
returns-in-Some c = sym (ap (λ fs. has_file c.args.number (files_of fs)) (sym c.as_slice.ensures.value) ∙ some_has c.args.number c.as_slice.result.now c.in-Some._place c.in-Some.ensures.there)
