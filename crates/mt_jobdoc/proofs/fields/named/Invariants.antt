use Rattle.std.proofs.Common.{◌≡◌, ◌++◌, map, drop, option_map}
use Rattle.serde_json.specs.View.{view}
use Rattle.mt_jobdoc.specs.Document.{assets_of}
use Rattle.mt_jobdoc.proofs.fields.named.Given as goal

-- the names so far, and those of the rest
abbrev pub invariant-loop-value : goal.invariant-loop-value
invariant-loop-value l = option_map (λ ps. l.paths.items ++ ps) (assets_of l.login (map view (drop l.value-index l.values))) ≡ assets_of l.login (map view l.values)
