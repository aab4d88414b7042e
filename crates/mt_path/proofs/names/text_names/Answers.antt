use Rattle.std.proofs.Common.{map, subst, ap, ◌∙◌}
use Rattle.mt_path.specs.Names.{IsUnlessMemory}
use Rattle.mt_path.proofs.Bounded.{text_front}
use Rattle.mt_path.proofs.names.text_names.Goals as goal

pub returns : goal.returns
returns c =
    subst (λ due. IsUnlessMemory due c.judged_text.result)
    (text_front c.args.login.now c.args.text.now (map (λ x. x.now) c.deref.result.now) (ap (map (λ x. x.now)) c.deref.ensures.value ∙ c.in_ok-pieces.ensures))
    c.judged_text.ensures
