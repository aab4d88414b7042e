use Rattle.std.proofs.Common.{false, map, take}
use Rattle.json.specs.Print.{quoted}
use Rattle.mt_path.specs.AccountPath.{path_text}
use Rattle.mt_jobtext.specs.Members.{listed}
use Rattle.mt_jobtext.specs.Windows.{Puts}
use Rattle.mt_jobtext.proofs.phases.put_each_asset.Given as goal

abbrev pub invariant-loop-k : goal.invariant-loop-k
invariant-loop-k l = Puts (listed false (map (λ p. quoted (path_text l.login p)) (take l.k l.assets))) l.initial.window l.window
