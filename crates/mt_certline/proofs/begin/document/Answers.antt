use Rattle.std.proofs.Common.{sym, ap, ◌∙◌}
use Rattle.std.specs.Result.{result_ok}
use Rattle.mt_certline.proofs.Shown.{document_is, no_document}
use Rattle.mt_certline.proofs.begin.document.Goals as goal

pub returns-in-Ok : goal.returns-in-Ok
returns-in-Ok c = sym (ap result_ok (sym (document_is c.args.login.now c.args.text.now _ c.requires.text c.requires.read c.requires.object) ∙ c.in-Ok.ensures.exact))

pub returns-in_default : goal.returns-in_default
returns-in_default c =
    no_document _ c.in-Err.e c.in-Err.ensures.exact c.in_default.not-Memory ∙ ap result_ok (document_is c.args.login.now c.args.text.now _ c.requires.text c.requires.read c.requires.object)
