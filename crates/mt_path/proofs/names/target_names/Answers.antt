use Rattle.std.proofs.Common.{map, subst, ap, ◌∙◌}
use Rattle.percent_encoding.specs.Percent.{percent_decode}
use Rattle.mt_path.specs.Names.{IsUnlessMemory, names_of}
use Rattle.mt_path.proofs.Bounded.{target_front}
use Rattle.mt_path.proofs.names.target_names.Goals as goal

pub returns : goal.returns
returns c =
    subst (λ due. IsUnlessMemory due c.judged_target.result)
    (target_front c.args.login.now c.args.raw.now (map (λ x. x.now) c.deref.result.now) (ap (map (λ x. x.now)) c.deref.ensures.value ∙ c.in_ok-pieces.ensures))
    (subst (λ login. IsUnlessMemory (names_of login (map percent_decode (map (λ x. x.now) c.deref.result.now))) c.judged_target.result) c.as_bytes.ensures.value c.judged_target.ensures)
