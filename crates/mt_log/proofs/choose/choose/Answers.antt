-- Looking only reads, and a repair keeps the log.
use Rattle.std.proofs.Common.{sym, subst, ◌∙◌}
use Rattle.mt_log.specs.Choice.{IsChoice}
use Rattle.mt_log.specs.declared.choose.Choice.{Choice}
use Rattle.mt_log.proofs.Settling.{read_before, rest_read, settled_now}
use Rattle.mt_log.proofs.choose.choose.Goals as goal

pub returns-in_err-look-clause-any_moment : goal.returns-in_err-look-clause-any_moment
returns-in_err-look-clause-any_moment g c files is =
    let d = g.D.Disk in
    rest_read d.seen d.may_leave d.moment d.left_since _ _ files c.look.ensures.read (g.met.D.Disk.only_now c.args.disk.now) (c.requires.rest files is) (c.requires.head files is)

pub repair-requires-clause-missing : goal.repair-requires-clause-missing
repair-requires-clause-missing g c files is =
    subst (λ (choice : Choice). IsChoice choice files) c.in-Missing.is (c.in_ok-look.ensures.choice files (sym c.look.ensures.read.seen_same ∙ is))

pub returns-in_err-repair-in-Missing-clause-any_moment : goal.returns-in_err-repair-in-Missing-clause-any_moment
returns-in_err-repair-in-Missing-clause-any_moment g c files is =
    let d = g.D.Disk in
    read_before d.seen d.may_leave d.moment d.left_since _ _ _ files c.look.ensures.read (g.met.D.Disk.only_now c.args.disk.now) (c.requires.rest files is) (c.requires.head files is) (c.repair.ensures.any_moment files (c.look.ensures.read.seen_same ∙ is))

pub returns-in-First-clause-chosen : goal.returns-in-First-clause-chosen
returns-in-First-clause-chosen g c files is =
    subst (λ (choice : Choice). IsChoice choice files) c.in-First.is (c.in_ok-look.ensures.choice files (sym c.look.ensures.read.seen_same ∙ is))

pub returns-in-First-clause-settled : goal.returns-in-First-clause-settled
returns-in-First-clause-settled g c files is =
    let d = g.D.Disk in
    settled_now d.seen d.may_leave d.moment d.left_since _ _ files c.look.ensures.read is (c.requires.rest files is) (c.requires.head files is)

pub returns-in-First-clause-any_moment : goal.returns-in-First-clause-any_moment
returns-in-First-clause-any_moment g c files is =
    let d = g.D.Disk in
    rest_read d.seen d.may_leave d.moment d.left_since _ _ files c.look.ensures.read (g.met.D.Disk.only_now c.args.disk.now) (c.requires.rest files is) (c.requires.head files is)

pub returns-in-Second-clause-chosen : goal.returns-in-Second-clause-chosen
returns-in-Second-clause-chosen g c files is =
    subst (λ (choice : Choice). IsChoice choice files) c.in-Second.is (c.in_ok-look.ensures.choice files (sym c.look.ensures.read.seen_same ∙ is))

pub returns-in-Second-clause-settled : goal.returns-in-Second-clause-settled
returns-in-Second-clause-settled g c files is =
    let d = g.D.Disk in
    settled_now d.seen d.may_leave d.moment d.left_since _ _ files c.look.ensures.read is (c.requires.rest files is) (c.requires.head files is)

pub returns-in-Second-clause-any_moment : goal.returns-in-Second-clause-any_moment
returns-in-Second-clause-any_moment g c files is =
    let d = g.D.Disk in
    rest_read d.seen d.may_leave d.moment d.left_since _ _ files c.look.ensures.read (g.met.D.Disk.only_now c.args.disk.now) (c.requires.rest files is) (c.requires.head files is)

pub returns-in_ok-repair-in-Missing-clause-any_moment : goal.returns-in_ok-repair-in-Missing-clause-any_moment
returns-in_ok-repair-in-Missing-clause-any_moment g c files is =
    let d = g.D.Disk in
    read_before d.seen d.may_leave d.moment d.left_since _ _ _ files c.look.ensures.read (g.met.D.Disk.only_now c.args.disk.now) (c.requires.rest files is) (c.requires.head files is) (c.repair.ensures.any_moment files (c.look.ensures.read.seen_same ∙ is))
