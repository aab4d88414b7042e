use Rattle.mt_account.proofs.Commands.{keeps_first}
use Rattle.mt_account.proofs.account.Account.new.Goals as goal

pub invariant_of-result : goal.invariant_of-result
invariant_of-result c = keeps_first c.in_ok-new.field-0 c.new-2.result c.in_ok-new-2.field-0 c.in_ok-new.ensures c.new-2.ensures c.in_ok-new-2.ensures
