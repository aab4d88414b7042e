-- The dates of moments and their texts. A moment counts the seconds since the first of 1 January 1970, with no leap seconds.
use Rattle.std.specs.Prelude.{ℕ, zero, suc, ◌+◌, ◌/◌, ◌%◌, ◌≤◌, List, ◌++◌, codes, nat_lt, if◌then◌else◌}
use Rattle.httpdate.specs.Calendar.{days_in_month, weekday}
use Rattle.httpdate.specs.Date.{IsPartsText}
use Rattle.httpdate.specs.Text.{two_digits, four_digits, imf_fixdate, time_of_day}
use Rattle.httpdate.specs.declared.parts.Parts.{Parts}
use Rattle.mt_ident.specs.declared.dates.CivilDate.{CivilDate}
use Rattle.mt_base.specs.declared.limits.TheConstants.{LAST_MOMENT}

-- the next day of the calendar
abbrev pub next_date : CivilDate → CivilDate
next_date d =
    if nat_lt d.day (days_in_month d.year d.month) then record d { day = d.day + 1 }
    else (if nat_lt d.month 12 then record { year = d.year; month = d.month + 1; day = 1 }
    else record { year = d.year + 1; month = 1; day = 1 })

-- the date so many days after 1 January 1970
unfoldable pub date_of_day : ℕ → CivilDate
date_of_day zero = record { year = 1970; month = 1; day = 1 }
date_of_day (suc days) = next_date (date_of_day days)

-- the numbers that the texts of a moment show: its date, its time of day, and the day of the week from Monday, 1
unfoldable pub parts_of : ℕ → Parts
parts_of moment =
    let date : CivilDate = date_of_day (moment / 86400) in
    record {
      year = date.year;
      mon = date.month;
      day = date.day;
      hour = moment % 86400 / 3600;
      min = moment % 3600 / 60;
      sec = moment % 60;
      wday = weekday (moment / 86400);
    }

-- `Sun, 06 Nov 1994 08:49:37 GMT`, as fields of HTTP are written (RFC 9110, section 5.6.7)
unfoldable pub http_date_text : ℕ → List ℕ
http_date_text moment = imf_fixdate (parts_of moment)

-- The text shows the moment in one of the three forms that fields of HTTP are read in: the one above,
-- `Sunday, 06-Nov-94 08:49:37 GMT` for years from 1970 to 2069, and `Sun Nov  6 08:49:37 1994`.
pub record IsHttpDate (moment : ℕ) (text : List ℕ) : Type 0 where
  pub early : moment ≤ LAST_MOMENT
  pub shown : IsPartsText text (parts_of moment)

-- `1994-11-06T08:49:37.000Z`, the time in ISO 8601's form to the millisecond
unfoldable pub iso_time_text : ℕ → List ℕ
iso_time_text moment =
    let p : Parts = parts_of moment in
    four_digits p.year ++ codes "-" ++ two_digits p.mon ++ codes "-" ++ two_digits p.day ++ codes "T"
    ++ time_of_day p ++ codes ".000Z"
