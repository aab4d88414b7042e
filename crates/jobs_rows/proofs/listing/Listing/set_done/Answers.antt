use Rattle.jobs_rows.proofs.listing.Listing.set_done.Goals as goal

pub take_done-requires : goal.take_done-requires
take_done-requires c = record { runs = c.runs.ensures c.if-not-runs.false }

pub invariant_of-listing : goal.invariant_of-listing
invariant_of-listing c = (c.self.invariant.0, c.in_ok-taken.ensures.lawful c.self.inside.count c.self.invariant.1)
