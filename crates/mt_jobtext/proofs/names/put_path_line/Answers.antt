use Rattle.std.proofs.Common.{subst, sym, ◌∙◌}
use Rattle.std.proofs.lemmas.Bool.{leb-true}
use Rattle.mt_path.specs.AccountPath.{path_text}
use Rattle.mt_jobtext.specs.JobTexts.{line}
use Rattle.mt_jobtext.specs.Windows.{Puts, Seen}
use Rattle.mt_jobtext.proofs.Windows.{puts_passed}
use Rattle.mt_jobtext.proofs.names.put_path_line.Goals as goal

pub returns-then-passes : goal.returns-then-passes
returns-then-passes c =
    let text = line (path_text c.args.login.now c.args.path.now) in
    let P : Seen → Type 0 = λ w. Puts text c.args.window.now w in
    subst P (sym c.pass.ensures) (puts_passed text c.line_len-len.result c.args.window.now c.line_len-len.ensures
    (leb-true c.line_len-len.result c.args.window.now.skip (sym c.passes.ensures ∙ c.if-passes.true)))
