use Rattle.mt_ident.proofs.Calendar.{date_of_day-is, IsCivilDate-from_day, date_of_day-unique}
use Rattle.mt_ident.proofs.laws.one_date_a_day.Goals as goal

pub returns-clause-counted : goal.returns-clause-counted
returns-clause-counted c = λ days. (date_of_day-is days).counted

pub returns-clause-civil : goal.returns-clause-civil
returns-clause-civil c = IsCivilDate-from_day

pub returns-clause-unique : goal.returns-clause-unique
returns-clause-unique c = date_of_day-unique
