-- Head is read, and written only where it names a log that isn't there.
use Rattle.std.proofs.Common.{sym, ◌∙◌}
use Rattle.mt_disk.specs.declared.disk.FileNo.TheVariants.{One}
use Rattle.mt_draft.proofs.Mended.{mended_none, mended_one, naming_leaves, rest_leaves, rest_read}
use Rattle.mt_draft.proofs.head.mend.Goals as goal

pub returns-in_err-wrong-clause-any_moment : goal.returns-in_err-wrong-clause-any_moment
returns-in_err-wrong-clause-any_moment g c files is =
    let d = g.D.Disk in
    rest_leaves d.seen d.may_leave d.moment d.left_since _ _ files One c.names_two.ensures.read (g.met.D.Disk.only_now c.args.disk.now) (c.requires.rest files is) (c.requires.chosen files is)

pub returns-then-not-wrong-clause-mended : goal.returns-then-not-wrong-clause-mended
returns-then-not-wrong-clause-mended g c files is =
    let d = g.D.Disk in
    let read = c.names_two.ensures.read in
    mended_none d.seen d.may_leave d.moment d.left_since _ files One (read.seen_same ∙ is) (rest_read d.seen d.may_leave d.moment d.left_since _ _ files read (c.requires.rest files is)) (c.requires.chosen files is)
    (c.in_ok-wrong.ensures.firm files is c.if-not-wrong.true)

pub returns-then-not-wrong-clause-any_moment : goal.returns-then-not-wrong-clause-any_moment
returns-then-not-wrong-clause-any_moment g c files is =
    let d = g.D.Disk in
    rest_leaves d.seen d.may_leave d.moment d.left_since _ _ files One c.names_two.ensures.read (g.met.D.Disk.only_now c.args.disk.now) (c.requires.rest files is) (c.requires.chosen files is)

pub name-requires : goal.name-requires
name-requires g c files is =
    let d = g.D.Disk in
    let read = c.names_two.ensures.read in
    rest_read d.seen d.may_leave d.moment d.left_since _ _ files read (c.requires.rest files (sym read.seen_same ∙ is))

pub returns-in_err-name-clause-any_moment : goal.returns-in_err-name-clause-any_moment
returns-in_err-name-clause-any_moment g c files is =
    let d = g.D.Disk in
    let read = c.names_two.ensures.read in
    naming_leaves d.seen d.may_leave d.moment d.left_since _ _ _ files One read (g.met.D.Disk.only_now c.args.disk.now) (c.requires.rest files is) (c.requires.chosen files is)
    (c.in_ok-wrong.ensures.missing files is c.if-not-wrong.false) (c.name.ensures.any_moment files (read.seen_same ∙ is))

pub returns-clause-any_moment : goal.returns-clause-any_moment
returns-clause-any_moment g c files is =
    let d = g.D.Disk in
    let read = c.names_two.ensures.read in
    naming_leaves d.seen d.may_leave d.moment d.left_since _ _ _ files One read (g.met.D.Disk.only_now c.args.disk.now) (c.requires.rest files is) (c.requires.chosen files is)
    (c.in_ok-wrong.ensures.missing files is c.if-not-wrong.false) (c.name.ensures.any_moment files (read.seen_same ∙ is))

pub returns-clause-mended : goal.returns-clause-mended
returns-clause-mended g c files is =
    let d = g.D.Disk in
    mended_one d.seen d.may_leave d.moment d.left_since _ _ files (c.names_two.ensures.read.seen_same ∙ is) c.in_ok-name.ensures.named c.in_ok-name.ensures.rest
