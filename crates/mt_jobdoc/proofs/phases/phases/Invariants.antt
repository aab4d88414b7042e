use Rattle.std.proofs.Common.{◌≡◌, map, drop}
use Rattle.serde_json.specs.View.{view}
use Rattle.mt_jobdoc.specs.Document.{phases_of}
use Rattle.mt_jobdoc.proofs.PhaseLists.{behind}
use Rattle.mt_jobdoc.proofs.phases.phases.Given as goal

-- the phases so far, and those of the rest
abbrev pub invariant-loop-k : goal.invariant-loop-k
invariant-loop-k l = behind l.phases.items (phases_of l.login l.k (map view (drop l.k l.values))) ≡ phases_of l.login 0 (map view l.values)
