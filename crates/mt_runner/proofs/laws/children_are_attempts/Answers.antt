use Rattle.std.proofs.Common.{List, sym, subst}
use Rattle.std.specs.List.{AllByRecursion}
use Rattle.mt_records.specs.Fate.{fate}
use Rattle.mt_runner.specs.Attempts.{attempts}
use Rattle.mt_runner.specs.declared.runner.Started.{Started}
use Rattle.mt_runner.proofs.Lived.{children_of, paired_kept}
use Rattle.mt_runner.proofs.Worlds.{IsChild, are_attempts}
use Rattle.mt_runner.proofs.laws.children_are_attempts.Goals as goal

pub returns : goal.returns
returns g c rule login s kept live paired right =
    let p = g.P.Spawner in
    are_attempts login (p.gives rule) (fate login) s kept
    (subst (λ (ks : List Started). AllByRecursion (IsChild login (p.gives rule) (fate login) s) ks) (sym (paired_kept kept live paired)) (children_of login (p.gives rule) (p.may rule) s (attempts kept live) right))
