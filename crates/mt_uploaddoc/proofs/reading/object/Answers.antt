use Rattle.std.proofs.Common.{ap, sym, ◌∙◌}
use Rattle.std.proofs.lemmas.Bool.{iff_false}
use Rattle.std.specs.Result.{result_ok}
use Rattle.mt_jobdoc.proofs.Objects.{is_object, is_no_object, is_no_json}
use Rattle.mt_uploaddoc.proofs.reading.object.Goals as goal

pub returns-then-is_object : goal.returns-then-is_object
returns-then-is_object c = sym (ap result_ok (is_object _ _ c.in-Ok.ensures.ok.0 c.in-Ok.ensures.ok.1 (sym c.is_object.ensures ∙ c.if-is_object.true)))

pub returns-else-is_object : goal.returns-else-is_object
returns-else-is_object c = sym (ap result_ok (is_no_object _ _ c.in-Ok.ensures.ok.0 c.in-Ok.ensures.ok.1 (sym c.is_object.ensures ∙ c.if-is_object.false)))

pub returns-else-is_memory : goal.returns-else-is_memory
returns-else-is_memory c = sym (ap result_ok (is_no_json _ (c.in-Err.ensures.err (iff_false c.is_memory.ensures c.if-is_memory.false))))
