use Rattle.std.proofs.Common.{◌+◌, sym}
use Rattle.upload_rows.proofs.Stays.{not_refused, stays_directory}
use Rattle.upload_rows.proofs.account.Account.make_directory.Goals as goal

pub invariant_of-account : goal.invariant_of-account
invariant_of-account c =
    let was = c.self.inside in
    stays_directory was.position was.tree was.uploads c.self.invariant c.make_directory.new.self c.args.path (1000 + was.position) c.key-key.ensures.path (not_refused _ (sym c.in-Ok.ensures)) c.in_ok-make_directory-in-Ok.ensures.ok
