use Rattle.jobs_rows.proofs.listing.Listing.take.Goals as goal

pub take-requires : goal.take-requires
take-requires c = record { room = c.self.invariant.0; head = c.requires; lawful = c.self.invariant.1 }

pub invariant_of-listing : goal.invariant_of-listing
invariant_of-listing c = (c.self.invariant.0, c.in_ok-taken.ensures.lawful)
