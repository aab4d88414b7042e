use Rattle.std.proofs.Common.{◌≡◌, map, take}
use Rattle.serde_json.specs.Data.{string}
use Rattle.serde_json.specs.View.{view}
use Rattle.mt_path.specs.AccountPath.{path_text}
use Rattle.mt_jobdoc.proofs.printing.names.Given as goal

abbrev pub invariant-loop-asset : goal.invariant-loop-asset
invariant-loop-asset l = map view l.out.items ≡ map (λ p. string (path_text l.login p)) (take l.asset-index l.assets)
