-- The texts of moments are ASCII.
use Rattle.std.proofs.Common.{◌≡◌, ℕ, zero, suc, ◌+◌, ◌-◌, ◌/◌, ◌%◌, ◌<◌, ◌≤◌, List, [], ◌∷◌, ◌++◌, true, refl, arith, codes, get_or, IsAscii}
use Rattle.std.specs.List.{list_all}
use Rattle.std.specs.Char.{is_ascii}
use Rattle.std.proofs.lemmas.Bool.{and_parts, ltb-true}
use Rattle.std.proofs.lemmas.Str.{IsAscii-append}
use Rattle.std.proofs.lemmas.Str.Ascii.{IsAscii-nil, IsAscii-cons}
use Rattle.httpdate.specs.declared.parts.Parts.{Parts}
use Rattle.httpdate.specs.Valid.{IsValid}
use Rattle.httpdate.specs.Text.{two_digits, four_digits, day_name, month_name, time_of_day, imf_fixdate}
use Rattle.mt_ident.specs.Dates.{parts_of, http_date_text, iso_time_text}
use Rattle.mt_base.specs.declared.limits.TheConstants.{LAST_MOMENT}
use Rattle.mt_ident.proofs.Calendar.{days_in_month-few}
use Rattle.mt_ident.proofs.Moments.{IsValid-parts_of}

-- `IsAscii` as a record, so that its text is found from it
record Ascii (text : List ℕ) : Type 0 where
  bytes : IsAscii text

literal : (xs : List ℕ) → list_all is_ascii xs ≡ true → Ascii xs
literal [] e = record { bytes = IsAscii-nil }
literal (x ∷ xs) e =
    let parts = and_parts (is_ascii x) (list_all is_ascii xs) e in
    record { bytes = IsAscii-cons x xs (ltb-true x 128 parts.0) (literal xs parts.1).bytes }

-- each name of a table, and what stands past its end
name_of : (names : List (List ℕ)) (k : ℕ) → list_all (list_all is_ascii) names ≡ true → Ascii (get_or names k [])
name_of [] k e = record { bytes = IsAscii-nil }
name_of (x ∷ xs) zero e = literal x (and_parts (list_all is_ascii x) (list_all (list_all is_ascii) xs) e).0
name_of (x ∷ xs) (suc k) e =
    name_of xs k (and_parts (list_all is_ascii x) (list_all (list_all is_ascii) xs) e).1

-- one text after another
joined : {xs ys : List ℕ} → Ascii xs → Ascii ys → Ascii (xs ++ ys)
joined {xs} {ys} a b = record { bytes = IsAscii-append xs ys a.bytes b.bytes }

pair : (n : ℕ) → n < 100 → Ascii (two_digits n)
pair n small =
    let low : 48 + n % 10 < 128 = omega arith in
    let high : 48 + n / 10 < 128 = omega arith in
    record { bytes = IsAscii-cons (48 + n / 10) ((48 + n % 10) ∷ []) high (IsAscii-cons (48 + n % 10) [] low IsAscii-nil) }

four : (n : ℕ) → n < 10000 → Ascii (four_digits n)
four n small = joined (pair (n / 100) (omega arith)) (pair (n % 100) (omega arith))

day_of_week : (day : ℕ) → Ascii (day_name day)
day_of_week day =
    name_of (codes "Mon" ∷ codes "Tue" ∷ codes "Wed" ∷ codes "Thu" ∷ codes "Fri" ∷ codes "Sat" ∷ codes "Sun" ∷ []) (day - 1) refl

month_of_year : (month : ℕ) → Ascii (month_name month)
month_of_year month =
    name_of (codes "Jan" ∷ codes "Feb" ∷ codes "Mar" ∷ codes "Apr" ∷ codes "May" ∷ codes "Jun" ∷ codes "Jul" ∷ codes "Aug" ∷ codes "Sep" ∷ codes "Oct" ∷ codes "Nov" ∷ codes "Dec" ∷ []) (month - 1) refl

clock : (p : Parts) → IsValid p → Ascii (time_of_day p)
clock p valid =
    let colon = literal (codes ":") refl in
    joined (joined (joined (joined (pair p.hour (omega arith)) colon) (pair p.min (omega arith))) colon) (pair p.sec (omega arith))

fixdate : (p : Parts) → IsValid p → Ascii (imf_fixdate p)
fixdate p valid =
    let space = literal (codes " ") refl in
    let day = joined (joined (day_of_week p.wday) (literal (codes ", ") refl)) (pair p.day (omega (arith, days_in_month-few p.year p.mon))) in
    let date = joined (joined (joined (joined day space) (month_of_year p.mon)) space) (four p.year (omega arith)) in
    joined (joined (joined date space) (clock p valid)) (literal (codes " GMT") refl)

timestamp : (p : Parts) → IsValid p → Ascii (four_digits p.year ++ codes "-" ++ two_digits p.mon ++ codes "-" ++ two_digits p.day ++ codes "T" ++ time_of_day p ++ codes ".000Z")
timestamp p valid =
    let hyphen = literal (codes "-") refl in
    let month = joined (joined (four p.year (omega arith)) hyphen) (pair p.mon (omega arith)) in
    let date = joined (joined month hyphen) (pair p.day (omega (arith, days_in_month-few p.year p.mon))) in
    joined (joined (joined date (literal (codes "T") refl)) (clock p valid)) (literal (codes ".000Z") refl)

pub IsAscii-http_date_text : (moment : ℕ) → moment ≤ LAST_MOMENT → IsAscii (http_date_text moment)
unfolding http_date_text
IsAscii-http_date_text moment early = (fixdate (parts_of moment) (IsValid-parts_of moment early)).bytes

pub IsAscii-iso_time_text : (moment : ℕ) → moment ≤ LAST_MOMENT → IsAscii (iso_time_text moment)
unfolding iso_time_text
IsAscii-iso_time_text moment early = (timestamp (parts_of moment) (IsValid-parts_of moment early)).bytes
