use Rattle.upload_rows.proofs.Stays.{stays_with_part}
use Rattle.upload_rows.proofs.account.Account.put_part.Goals as goal

pub invariant_of-account : goal.invariant_of-account
invariant_of-account c =
    let was = c.self.inside in
    stays_with_part was.position was.tree was.uploads c.self.invariant was.tree c.put_part.new.self c.args.upload c.args.index c.body.result 0 c.requires.index (c.in_ok-put_part-in-Ok.ensures.ok was.tree 0)
