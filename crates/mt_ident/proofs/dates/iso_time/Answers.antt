-- The text shows the date of the moment's day, and its time of day.
use Rattle.std.proofs.Common.{ℕ, List, sym, subst, refl, IsAscii}
use Rattle.mt_ident.specs.Dates.{parts_of, iso_time_text}
use Rattle.mt_ident.proofs.DateTexts.{IsAscii-iso_time_text}
use Rattle.mt_ident.proofs.dates.iso_time.Goals as goal

pub returns-clause-text : goal.returns-clause-text
unfolding iso_time_text parts_of
returns-clause-text c =
    rw (c.four_digits.ensures, c.two_digits.ensures, c.two_digits-2.ensures, c.two_digits-3.ensures, c.two_digits-4.ensures, c.two_digits-5.ensures, c.date_of-year.ensures.date) refl

pub returns-clause-ascii : goal.returns-clause-ascii
returns-clause-ascii c =
    subst (λ (text : List ℕ). IsAscii text) (sym (returns-clause-text c)) (IsAscii-iso_time_text c.args.moment c.requires)
