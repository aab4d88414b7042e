use Rattle.std.proofs.Common.{◌+◌, sym}
use Rattle.mt_model.specs.State.{upload_at}
use Rattle.upload_rows.proofs.Stays.{may_be_put, not_refused, stays_committed}
use Rattle.upload_rows.proofs.account.Account.commit.Goals as goal

pub commit-requires-clause-allowed : goal.commit-requires-clause-allowed
commit-requires-clause-allowed c =
    let was = c.self.inside in
    may_be_put was.tree c.args.numbers.now (upload_at was.uploads c.args.upload) (not_refused _ (sym c.in-Ok.ensures))

pub invariant_of-account : goal.invariant_of-account
invariant_of-account c =
    let was = c.self.inside in
    stays_committed was.position was.tree was.uploads c.self.invariant c.commit.new.tree c.commit.new.self c.args.upload c.args.numbers.now c.body.result (1000 + was.position) (not_refused _ (sym c.in-Ok.ensures)) (c.in_ok-commit-in-Ok.ensures.ok c.args.numbers.now)
