use Rattle.jobs_rows.proofs.Listed.{documents}
use Rattle.jobs_rows.proofs.listing.Listing.end.Goals as goal

pub take_end-requires : goal.take_end-requires
take_end-requires c = record { «open» = c.is_open.ensures c.if-not-is_open.false; documents = documents c.self.inside.count c.self.inside.jobs c.self.invariant.1 }

pub invariant_of-listing : goal.invariant_of-listing
invariant_of-listing c = (c.self.invariant.0, c.in_ok-take_end.ensures.lawful c.self.inside.count c.self.invariant.1)
