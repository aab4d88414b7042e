use Rattle.std.proofs.Common.{sym, ◌∙◌}
use Rattle.std.proofs.lemmas.Bool.{iff_false}
use Rattle.mt_jobdoc.proofs.Objects.{is_object, is_no_object, is_no_json}
use Rattle.mt_jobdoc.proofs.reading.object.Goals as goal

pub returns-then-is_object-clause-ok : goal.returns-then-is_object-clause-ok
returns-then-is_object-clause-ok c = is_object _ _ c.in-Ok.ensures.ok.0 c.in-Ok.ensures.ok.1 (sym c.is_object.ensures ∙ c.if-is_object.true)

pub returns-else-is_object-clause-refused : goal.returns-else-is_object-clause-refused
returns-else-is_object-clause-refused c = λ _. is_no_object _ _ c.in-Ok.ensures.ok.0 c.in-Ok.ensures.ok.1 (sym c.is_object.ensures ∙ c.if-is_object.false)

pub returns-else-is_memory-clause-refused : goal.returns-else-is_memory-clause-refused
returns-else-is_memory-clause-refused c = λ _. is_no_json _ (c.in-Err.ensures.err (iff_false c.is_memory.ensures c.if-is_memory.false))
