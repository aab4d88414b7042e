use Rattle.std.proofs.Common.{◌+◌, sym}
use Rattle.upload_rows.proofs.Stays.{not_refused, stays_begun}
use Rattle.upload_rows.proofs.account.Account.begin.Goals as goal

pub begin-requires-clause-lawful : goal.begin-requires-clause-lawful
begin-requires-clause-lawful c = c.self.invariant.uploads

pub invariant_of-account : goal.invariant_of-account
invariant_of-account c =
    let was = c.self.inside in
    stays_begun was.position was.tree was.uploads c.self.invariant was.tree c.begin.new.self c.args.path c.args.content_type (1000 + was.position) c.key-key.ensures.path (not_refused _ (sym c.in-Ok.ensures)) (c.in_ok-begin-in-Ok.ensures.ok was.tree)
