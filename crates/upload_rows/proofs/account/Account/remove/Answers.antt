use Rattle.std.proofs.Common.{sym}
use Rattle.upload_rows.proofs.Stays.{not_refused, stays_removed}
use Rattle.upload_rows.proofs.account.Account.remove.Goals as goal

pub invariant_of-account : goal.invariant_of-account
invariant_of-account c =
    let was = c.self.inside in
    stays_removed was.position was.tree was.uploads c.self.invariant c.remove.new.self c.args.path.now (not_refused _ (sym c.in-Ok.ensures)) c.remove.ensures
