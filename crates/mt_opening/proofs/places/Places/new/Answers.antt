use Rattle.std.proofs.Common.{[], sym, subst}
use Rattle.mt_opening.specs.Places.{ArePlaces}
use Rattle.mt_opening.proofs.Stretches.{no_places}
use Rattle.mt_opening.proofs.places.Places.new.Goals as goal

pub returns : goal.returns
returns c = subst (λ l. ArePlaces [] l (record { first = 0; len = 0 })) (sym c.new.ensures.items) no_places
