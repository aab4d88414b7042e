use Rattle.std.proofs.Common.{refl}
use Rattle.mt_jobdoc.proofs.Objects.{list_of-items_of}
use Rattle.mt_uploaddoc.proofs.fields.part_values.Goals as goal

pub returns-in-Some : goal.returns-in-Some
returns-in-Some c = rw (c.as_slice.ensures.value, ← c.in_ok-get.ensures, ← c.in-Some.ensures, list_of-items_of) refl
