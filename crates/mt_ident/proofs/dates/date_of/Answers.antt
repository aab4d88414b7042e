-- jiff's date has the one date's parts, and they fit their types.
use Rattle.std.proofs.Common.{◌≡◌, ap, ◌∙◌, arith, unsigned_abs, FitsSigned, w8, w16}
use Rattle.std.proofs.lemmas.Int.{to_z-of_z}
use Rattle.jiff.proofs.SpanFacts.{signed_arith}
use Rattle.jiff_core.proofs.CalendarLemmas.{days_in_month_bounds}
use Rattle.mt_ident.proofs.Calendar.{IsCivilDate-from_day}
use Rattle.mt_ident.proofs.JiffDates.{date_of_day-jiff}
use Rattle.mt_ident.proofs.dates.date_of.Goals as goal

pub returns : goal.returns
returns c =
    let date = c.jiff_date-date.result in
    let same = date_of_day-jiff c.args.days date (omega (arith, c.requires)) c.jiff_date-date.ensures in
    let is = IsCivilDate-from_day c.args.days (omega (arith, c.requires)) in
    let fy : FitsSigned w16 c.year.result = omega (arith, signed_arith, c.year.ensures, date.year_in) in
    let fm : FitsSigned w8 c.month.result = omega (arith, signed_arith, c.month.ensures, date.month_in) in
    let fd : FitsSigned w8 c.day.result = omega (arith, signed_arith, c.day.ensures, date.day_in, days_in_month_bounds date.year date.month) in
    let y : c.unsigned_abs.result ≡ unsigned_abs date.year = rw (to_z-of_z w16 c.year.result fy) at (c.unsigned_abs.ensures.value) ∙ ap unsigned_abs c.year.ensures in
    let m : c.unsigned_abs-2.result ≡ date.month = rw (to_z-of_z w8 c.month.result fm) at (c.unsigned_abs-2.ensures.value) ∙ ap unsigned_abs c.month.ensures in
    let d : c.unsigned_abs-3.result ≡ date.day = rw (to_z-of_z w8 c.day.result fd) at (c.unsigned_abs-3.ensures.value) ∙ ap unsigned_abs c.day.ensures in
    record {
      date = λ i. record { year = (y ∙ ap unsigned_abs same.0) i; month = (m ∙ same.1) i; day = (d ∙ same.2) i };
      year = rw (y, same.0) (omega (arith, is.0));
      month = rw m (omega (arith, date.month_in));
      day = rw d (omega (arith, date.day_in, days_in_month_bounds date.year date.month));
    }
