use Rattle.upload_rows.proofs.Stays.{stays_aborted}
use Rattle.upload_rows.proofs.account.Account.abort.Goals as goal

pub invariant_of-account : goal.invariant_of-account
invariant_of-account c =
    let was = c.self.inside in
    stays_aborted was.position was.tree was.uploads c.self.invariant was.tree c.abort.new.self c.args.upload 0 (c.abort.ensures was.position 0 was.tree)
