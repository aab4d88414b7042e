use Rattle.jobs_rows.proofs.listing.Listing.enter.Goals as goal

pub take_entry-requires : goal.take_entry-requires
take_entry-requires c = record { runs = c.runs.ensures c.if-not-runs.false; entry = c.requires; lawful = c.self.invariant.1 }

pub invariant_of-listing : goal.invariant_of-listing
invariant_of-listing c = (c.self.invariant.0, c.in_ok-taken.ensures.lawful)
