use Rattle.mt_records.proofs.Seen.{fates_of_windows}
use Rattle.mt_records.proofs.laws.fates_of_windows.Goals as goal

pub returns : goal.returns
returns c = fates_of_windows
