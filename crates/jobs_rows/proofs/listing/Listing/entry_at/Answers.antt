use Rattle.std.proofs.Common.{◌≡◌, Some, sym, ap, subst, ◌∙◌}
use Rattle.std.specs.Prelude.{slice_get}
use Rattle.std.proofs.lemmas.Option.{slice_get-get_or}
use Rattle.mt_jobs.specs.Listed.{IsWellMadeEntry}
use Rattle.jobs_rows.proofs.Listed.{made_entry}
use Rattle.jobs_rows.proofs.listing.Listing.entry_at.Goals as goal

pub returns-in_ok-entry-in-Some : goal.returns-in_ok-entry-in-Some
returns-in_ok-entry-in-Some c =
    let job = c.args.job.now in
    let trace = c.as_slice.result.now in
    let entry = c.in-Some.entry.now in
    let found = c.in-Some.ensures.lookup in
    let at : slice_get trace c.args.place ≡ Some entry = slice_get-get_or trace c.args.place entry found.3.0 ∙ ap (λ e. Some e) (sym found.1) in
    subst IsWellMadeEntry (sym c.in_ok-entry-in-Some.ensures) (made_entry c.requires.0 job c.args.place entry c.requires.1 (ap (λ t. slice_get t c.args.place) (sym c.as_slice.ensures) ∙ at))
