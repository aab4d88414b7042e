-- The date of a day is the one date that lies so many days after 1 January 1970.
use Rattle.std.proofs.Common.{◌≡◌, ℕ, zero, suc, ◌+◌, ◌-◌, ◌<◌, ◌≤◌, ◌⊎◌, inl, inr, refl, arith}
use Rattle.std.proofs.lemmas.Bool.{cases_lt, cases_order, lt-ltb, le-ltb}
use Rattle.std.specs.Int.{IsInRange}
use Rattle.httpdate.specs.Calendar.{days_in_year, days_in_month, days_of_years, days_of_months, days_from_civil, IsCivilDate}
use Rattle.httpdate.proofs.CalendarLemmas.{days_of_years_closed, days_of_months_more, days_of_months_all, days_from_civil_year, days_from_civil_month, days_from_civil_bound}
use Rattle.mt_ident.specs.declared.dates.CivilDate.{CivilDate}
use Rattle.mt_ident.specs.Dates.{next_date, date_of_day}

-- how many days lie between 1 January 1970 and the date
abbrev pub day_number : CivilDate → ℕ
day_number d = days_from_civil d.year d.month d.day

-- the calendar has the date, and it isn't before 1970
pub record IsDate (d : CivilDate) : Type 0 where
  pub late : 1970 ≤ d.year
  pub month : IsInRange 1 12 d.month
  pub day : IsInRange 1 (days_in_month d.year d.month) d.day

-- what is known of the date after n days
pub record IsDateOf (n : ℕ) (d : CivilDate) : Type 0 where
  pub date : IsDate d
  pub counted : day_number d ≡ n

days_of_months-none : (y : ℕ) → days_of_months y 0 ≡ 0
unfolding days_of_months
days_of_months-none y = refl

days_of_years-none : days_of_years 0 ≡ 0
unfolding days_of_years
days_of_years-none = refl

days_of_years-more : (y : ℕ) → 1970 ≤ y → days_of_years (y + 1 - 1970) ≡ days_of_years (y - 1970) + days_in_year y
unfolding days_of_years
days_of_years-more y late =
    let next : y + 1 - 1970 ≡ suc (y - 1970) = omega arith in
    let year : 1970 + (y - 1970) ≡ y = omega arith in
    rw (next, year)

pub days_in_month-few : (y m : ℕ) → days_in_month y m ≤ 31
days_in_month-few y m = grind arith

days_in_month-some : (y m : ℕ) → 1 ≤ days_in_month y m
days_in_month-some y m = grind arith

-- the three ways on to the next day
next-day : (n : ℕ) (d : CivilDate) → IsDateOf n d → d.day < days_in_month d.year d.month → IsDateOf (suc n) (next_date d)
next-day n d is lt =
    let first : next_date d ≡ record d { day = d.day + 1 } = rw (lt-ltb _ _ lt) refl in
    rw first (record { date = record { late = is.date.late; month = is.date.month; day = (omega arith, omega arith) }; counted = omega arith })

next-month : (n : ℕ) (d : CivilDate) → IsDateOf n d → days_in_month d.year d.month ≤ d.day → d.month < 12 → IsDateOf (suc n) (next_date d)
next-month n d is le lt =
    let first : next_date d ≡ record { year = d.year; month = d.month + 1; day = 1 } = rw (le-ltb _ _ le, lt-ltb _ _ lt) refl in
    let back : d.month + 1 - 1 ≡ d.month = omega arith in
    rw first (record {
      date = record { late = is.date.late; month = (omega arith, omega arith); day = (omega arith, days_in_month-some d.year (d.month + 1)) };
      counted = rw back (omega (arith, days_of_months_more d.year d.month is.date.month.0));
    })

next-year : (n : ℕ) (d : CivilDate) → IsDateOf n d → days_in_month d.year d.month ≤ d.day → 12 ≤ d.month → IsDateOf (suc n) (next_date d)
next-year n d is le last =
    let first : next_date d ≡ record { year = d.year + 1; month = 1; day = 1 } = rw (le-ltb _ _ le, le-ltb _ _ last) refl in
    let december : d.month ≡ 12 = omega arith in
    rw first (record {
      date = record { late = omega arith; month = (omega arith, omega arith); day = (omega arith, days_in_month-some (d.year + 1) 1) };
      counted = omega (arith, days_of_years-more d.year is.date.late, days_of_months_all d.year, rw december at (days_of_months_more d.year d.month is.date.month.0), rw december at is.counted, rw december at is.date.day.1, rw december at le, days_of_months-none (d.year + 1));
    })

date_of_day-next : (n : ℕ) (d : CivilDate) → IsDateOf n d → IsDateOf (suc n) (next_date d)
date_of_day-next n d is =
    elim (cases_lt d.day (days_in_month d.year d.month)) [
      | inl lt ↦ next-day n d is lt
      | inr le ↦ elim (cases_lt d.month 12) [
        | inl lt ↦ next-month n d is le lt
        | inr last ↦ next-year n d is le last
      ]
    ]

pub date_of_day-is : (n : ℕ) → IsDateOf n (date_of_day n)
unfolding date_of_day
date_of_day-is zero = record {
  date = record { late = omega arith; month = (omega arith, omega arith); day = (omega arith, days_in_month-some 1970 1) };
  counted = omega (arith, days_of_years-none, days_of_months-none 1970);
}
date_of_day-is (suc n) = date_of_day-next n (date_of_day n) (date_of_day-is n)

-- the last day that dates of four digits reach is 9999-12-31
pub day_number-late : (d : CivilDate) → IsDate d → 10000 ≤ d.year → 2932897 ≤ day_number d
day_number-late d is late = omega (arith, days_of_years_closed (d.year - 1970))

pub IsCivilDate-from_day : (n : ℕ) → n < 2932897 → let d : CivilDate = date_of_day n in IsCivilDate d.year d.month d.day
IsCivilDate-from_day n small =
    let is = date_of_day-is n in
    let early : (date_of_day n).year ≤ 9999 = elim (cases_lt (date_of_day n).year 10000) [
      | inl lt ↦ omega arith
      | inr late ↦ absurd (omega (arith, day_number-late (date_of_day n) is.date late))
    ] in
    ((is.date.late, early), is.date.month, is.date.day)

-- the first comes before the second in the order of year, month and day
abbrev IsEarlier : CivilDate → CivilDate → Type 0
IsEarlier a b = (a.year < b.year) ⊎ ((a.year ≡ b.year) × ((a.month < b.month) ⊎ ((a.month ≡ b.month) × (a.day < b.day))))

day_number-lt : (a b : CivilDate) → IsCivilDate a.year a.month a.day → IsEarlier a b → day_number a < day_number b
day_number-lt a b is (inl year) = days_from_civil_year _ _ _ _ b.month b.day is year
day_number-lt a b is (inr (year, inl month)) = rw (← year) (days_from_civil_month _ _ _ _ b.day is month)
day_number-lt a b is (inr (year, inr day)) = rw (← year, ← day.0) (omega (arith, is.2.0, day.1))

-- two dates with one day number are one date
pub day_number_injective : (a b : CivilDate) → IsCivilDate a.year a.month a.day → IsCivilDate b.year b.month b.day → day_number a ≡ day_number b → a ≡ b
day_number_injective a b in_a in_b same =
    let never : IsEarlier a b → ⊥ = λ lt. omega (arith, day_number-lt a b in_a lt) in
    let nor : IsEarlier b a → ⊥ = λ lt. omega (arith, day_number-lt b a in_b lt) in
    let parts : (a.year ≡ b.year) × (a.month ≡ b.month) × (a.day ≡ b.day) = grind (arith, cases_order a.year b.year, cases_order a.month b.month, cases_order a.day b.day) in
    λ i. record { year = parts.0 i; month = parts.1 i; day = parts.2 i }

pub date_of_day-unique : (d : CivilDate) → IsCivilDate d.year d.month d.day → date_of_day (day_number d) ≡ d
date_of_day-unique d is =
    let n : ℕ = day_number d in
    let small = days_from_civil_bound d.year d.month d.day is in
    day_number_injective (date_of_day n) d (IsCivilDate-from_day n small) is (date_of_day-is n).counted
