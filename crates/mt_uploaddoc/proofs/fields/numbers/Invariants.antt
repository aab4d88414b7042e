use Rattle.std.proofs.Common.{◌≡◌, ◌++◌, map, drop, option_map}
use Rattle.serde_json.specs.View.{view}
use Rattle.mt_uploaddoc.specs.Documents.{numbers_in}
use Rattle.mt_uploaddoc.proofs.fields.numbers.Given as goal

-- the numbers so far, and those of the rest
abbrev pub invariant-loop-value : goal.invariant-loop-value
invariant-loop-value l = option_map (λ ns. l.numbers.items ++ ns) (numbers_in (map view (drop l.value-index l.values))) ≡ numbers_in (map view l.values)
