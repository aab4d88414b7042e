use Rattle.std.proofs.Common.{◌≡◌, IfOk, IfSome, subst}
use Rattle.std.specs.Prelude.{Option}
use Rattle.std.proofs.lemmas.Bool.{iff_false}
use Rattle.std.proofs.lemmas.Result.{IfOk-weaker}
use Rattle.mt_certline.specs.Read.{line_of}
use Rattle.mt_certline.specs.Written.{IsShowable}
use Rattle.mt_certline.specs.declared.line.Line.{Line}
use Rattle.mt_certline.proofs.LineTexts.{line_is, no_line}
use Rattle.mt_certline.proofs.Showable.{answer_showable}
use Rattle.mt_certline.proofs.reading.read_line.Goals as goal

pub returns-in-Ok-clause-exact : goal.returns-in-Ok-clause-exact
returns-in-Ok-clause-exact c =
    subst (λ (answer : Option Line). IfOk c.line.result (λ l. l ≡ answer)) (line_is c.args.login.now c.args.text.now _ c.in-Ok.ensures.ok.0 c.in-Ok.ensures.ok.1) c.line.ensures

pub returns-in-Ok-clause-showable : goal.returns-in-Ok-clause-showable
returns-in-Ok-clause-showable c =
    IfOk-weaker c.line.result (λ (o : Option Line). o ≡ line_of c.args.login.now c.args.text.now) (λ (o : Option Line). IfSome o IsShowable)
    (λ o is. answer_showable c.args.login.now c.args.text.now o is) (returns-in-Ok-clause-exact c)

pub returns-else-is_memory-clause-exact : goal.returns-else-is_memory-clause-exact
returns-else-is_memory-clause-exact c = no_line c.args.login.now c.args.text.now (c.in-Err.ensures.err (iff_false c.is_memory.ensures c.if-is_memory.false))
