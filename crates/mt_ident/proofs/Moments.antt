-- The numbers that the texts of a moment show are those of the one date with its seconds.
use Rattle.std.proofs.Common.{◌≡◌, ℕ, ◌/◌, ◌<◌, ◌≤◌, refl, sym, ap, ◌∙◌, arith, subst, List, inl}
use Rattle.httpdate.specs.declared.parts.Parts.{Parts}
use Rattle.httpdate.specs.declared.date.HttpDate.{HttpDate}
use Rattle.httpdate.specs.Calendar.{weekday}
use Rattle.httpdate.specs.Text.{imf_fixdate}
use Rattle.httpdate.specs.Valid.{IsValid, parts_secs}
use Rattle.httpdate.specs.Date.{unix_secs, IsPartsText, IsDateText, date_text}
use Rattle.httpdate.proofs.CalendarLemmas.{days_from_civil_bound}
use Rattle.httpdate.proofs.Theorems.{unix_secs_injective, IsDateText_unique}
use Rattle.mt_ident.specs.Dates.{parts_of, http_date_text, IsHttpDate}
use Rattle.mt_base.specs.declared.limits.TheConstants.{LAST_MOMENT}
use Rattle.mt_ident.proofs.Calendar.{IsCivilDate-from_day, date_of_day-is}

pub IsValid-parts_of : (moment : ℕ) → moment ≤ LAST_MOMENT → IsValid (parts_of moment)
unfolding parts_of
IsValid-parts_of moment early =
    let days : ℕ = moment / 86400 in
    let small : days < 2932897 = omega arith in (
      IsCivilDate-from_day days small,
      (omega arith, omega arith, omega arith),
      ap weekday (sym (date_of_day-is days).counted),
    )

pub parts_secs-parts_of : (moment : ℕ) → parts_secs (parts_of moment) ≡ moment
unfolding parts_of
parts_secs-parts_of moment = omega (arith, (date_of_day-is (moment / 86400)).counted)

-- the date of a moment, as httpdate has it
abbrev date_at : (moment : ℕ) → moment ≤ LAST_MOMENT → HttpDate
date_at moment early =
    let valid = IsValid-parts_of moment early in
    record { parts = parts_of moment; civil = valid.0; time = valid.1; right_day = valid.2 }

pub unix_secs-early : (d : HttpDate) → unix_secs d ≤ LAST_MOMENT
unix_secs-early d = omega (arith, days_from_civil_bound d.parts.year d.parts.mon d.parts.day d.civil, d.time)

-- a date has the numbers of its second
pub parts-unix_secs : (d : HttpDate) → d.parts ≡ parts_of (unix_secs d)
parts-unix_secs d =
    unix_secs_injective d (date_at (unix_secs d) (unix_secs-early d)) (sym (parts_secs-parts_of (unix_secs d)))

pub date_text-http_date_text : (d : HttpDate) → date_text d ≡ http_date_text (unix_secs d)
unfolding http_date_text
date_text-http_date_text d = ap imf_fixdate (parts-unix_secs d)

-- a text shows the second of a date exactly where it is a text of the date
pub IsHttpDate-from_text : (text : List ℕ) (d : HttpDate) → IsDateText text d → IsHttpDate (unix_secs d) text
IsHttpDate-from_text text d shown = record {
  early = unix_secs-early d;
  shown = let P : Parts → Type 0 = λ p. IsPartsText text p in subst P (parts-unix_secs d) shown;
}

pub read_none : (text : List ℕ) (moment : ℕ) → ((d : HttpDate) → ¬ (IsDateText text d)) → IsHttpDate moment text → ⊥
read_none text moment none is = none (date_at moment is.early) is.shown

pub read_some : (text : List ℕ) (moment : ℕ) (d : HttpDate) → IsDateText text d → IsHttpDate moment text → unix_secs d ≡ moment
read_some text moment d shown is =
    ap parts_secs (IsDateText_unique text d (date_at moment is.early) shown is.shown) ∙ parts_secs-parts_of moment

-- what is written is of the first of the three forms
pub IsHttpDate-written : (moment : ℕ) → moment ≤ LAST_MOMENT → IsHttpDate moment (http_date_text moment)
unfolding http_date_text
IsHttpDate-written moment early = record { early = early; shown = inl refl }
