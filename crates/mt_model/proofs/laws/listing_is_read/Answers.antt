use Rattle.mt_model.proofs.RowsWith.{listing-with, result_set_size-with}
use Rattle.mt_model.proofs.laws.listing_is_read.Goals as goal

pub returns : goal.returns
returns c = record { listing = listing-with; size = result_set_size-with }
