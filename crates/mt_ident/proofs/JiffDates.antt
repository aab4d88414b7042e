-- jiff's calendar, which counts from the year -10000 in signed years, has the same date for a day.
use Rattle.std.proofs.Common.{◌≡◌, ℕ, zero, suc, ◌+◌, ◌-◌, ◌<◌, refl, sym, ap, ◌∙◌, arith, pos, ◌+ℤ◌, unsigned_abs}
use Rattle.jiff_core.specs.declared.civil.date.Date.{Date}
use Rattle.jiff_core.specs.Date.{epoch_day}
use Rattle.jiff_core.specs.Calendar as jiff
use Rattle.jiff_core.proofs.SignedLemmas.{signed_arith}
use Rattle.jiff_core.proofs.MarchLemmas.{leap_day, leap_day-shift, days_of_years-suc}
use Rattle.jiff_core.proofs.CalendarLemmas.{day_count-epoch, day_count-day_of_year, days_from_civil-day_count}
use Rattle.jiff_core.proofs.DateLemmas.{epoch_day_injective}
use Rattle.httpdate.specs.Calendar.{days_in_year, days_in_month, days_of_years, days_of_months, days_from_civil, IsCivilDate}
use Rattle.mt_ident.specs.declared.dates.CivilDate.{CivilDate}
use Rattle.mt_ident.specs.Dates.{date_of_day}
use Rattle.mt_ident.proofs.Calendar.{IsCivilDate-from_day, date_of_day-is}

days_of_months-same : (y n : ℕ) → jiff.days_of_months (pos y) n ≡ days_of_months y n
unfolding jiff.days_of_months days_of_months
days_of_months-same y zero = refl
days_of_months-same y (suc n) = ap (λ days. days + days_in_month y (suc n)) (days_of_months-same y n)

-- a year has its days in both, also where it is counted from -10000
days_in_year-same : (k : ℕ) → 365 + leap_day (pos (11970 + k)) ≡ days_in_year (1970 + k)
days_in_year-same k =
    let shifted : leap_day (pos (1970 + k)) ≡ leap_day (pos (11970 + k)) = leap_day-shift (pos (1970 + k)) (11970 + k) (omega (arith, signed_arith)) in
    rw (← shifted) (grind arith)

day_count-first : (y n : ℕ) → y + 10000 ≡ n → jiff.day_count (pos y) 1 1 ≡ jiff.days_of_years n
unfolding jiff.day_count jiff.days_of_months
day_count-first y n e =
    let shifted : unsigned_abs (pos y +ℤ pos 10000) ≡ n = e in
    rw shifted (omega arith)

days_of_years-same : (k : ℕ) → jiff.days_of_years (11970 + k) ≡ 4371953 + days_of_years k
unfolding days_of_years
days_of_years-same zero =
    let first = day_count-first 1970 11970 refl in
    sym first ∙ day_count-epoch
days_of_years-same (suc k) =
    let next : 11970 + suc k ≡ suc (11970 + k) = omega arith in
    rw next (omega (arith, days_of_years-suc (11970 + k), days_of_years-same k, days_in_year-same k))

epoch_day-same : (y m d : ℕ) → IsCivilDate y m d → jiff.days_from_civil (pos y) m d ≡ pos (days_from_civil y m d)
epoch_day-same y m d is =
    let year : y + 10000 ≡ 11970 + (y - 1970) = omega arith in
    let count = days_from_civil-day_count (pos y) m d in
    let place = day_count-day_of_year (pos y) m d is.2.0 in
    let first = day_count-first y (11970 + (y - 1970)) year in
    omega (arith, signed_arith, count, place, first, days_of_years-same (y - 1970), days_of_months-same y (m - 1))

-- the date of a day, as jiff has it
abbrev date_of : (n : ℕ) → n < 2932897 → Date
date_of n small =
    let is = IsCivilDate-from_day n small in
    let date : CivilDate = date_of_day n in
    record { year = pos date.year; month = date.month; day = date.day; year_in = omega (arith, signed_arith, is.0); month_in = is.1; day_in = is.2 }

pub date_of_day-jiff : (n : ℕ) (d : Date) → n < 2932897 → epoch_day d ≡ pos n → let date : CivilDate = date_of_day n in (d.year ≡ pos date.year) × (d.month ≡ date.month) × (d.day ≡ date.day)
date_of_day-jiff n d small same =
    let is = IsCivilDate-from_day n small in
    let date : CivilDate = date_of_day n in
    let day : epoch_day (date_of n small) ≡ pos n = epoch_day-same date.year date.month date.day is ∙ ap pos (date_of_day-is n).counted in
    epoch_day_injective d (date_of n small) (same ∙ sym day)
