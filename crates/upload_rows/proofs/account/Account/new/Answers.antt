use Rattle.upload_rows.proofs.Stays.{first}
use Rattle.upload_rows.proofs.account.Account.new.Goals as goal

pub invariant_of-result : goal.invariant_of-result
invariant_of-result c = first c.in_ok-new.field-0 c.new-2.result c.in_ok-new.ensures c.new-2.ensures
