-- Those so far stand.
use Rattle.std.proofs.Common.{◌≡◌, ℕ, List, true, take}
use Rattle.std.specs.List.{AllByRecursion}
use Rattle.mt_body.specs.Stored.{is_stored}
use Rattle.mt_model.specs.Bodies.{OfRecord}
use Rattle.mt_opening.specs.Places.{ArePlaces}
use Rattle.mt_opening.proofs.load.records_stand.Given as goal

abbrev pub invariant-loop-record : goal.invariant-loop-record
invariant-loop-record l = (ps : List (List ℕ)) → ArePlaces ps l.places.earlier.items l.places.last → AllByRecursion (OfRecord (λ b. is_stored ps b ≡ true)) (take l.record-index l.records)
