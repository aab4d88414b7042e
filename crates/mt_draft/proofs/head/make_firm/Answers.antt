-- Two alone may be named where it holds no log.
use Rattle.std.proofs.Common.{◌≡◌, sym, ◌∙◌}
use Rattle.mt_disk.specs.declared.disk.FileNo.TheVariants.{Head, One, Two}
use Rattle.mt_draft.proofs.Mended.{mended_none, rest_started}
use Rattle.mt_draft.proofs.head.make_firm.Goals as goal

pub returns-in-Two-clause-mended : goal.returns-in-Two-clause-mended
returns-in-Two-clause-mended g c files is =
    let d = g.D.Disk in
    mended_none d.seen d.may_leave d.moment d.left_since _ files c.args.file is (c.requires.rest files is) (c.requires.chosen files is) (λ one. let both : Two ≡ One = sym c.in-Two.is ∙ one in absurd (cc both))

pub returns-in-Two-clause-any_moment : goal.returns-in-Two-clause-any_moment
returns-in-Two-clause-any_moment g c files is =
    let d = g.D.Disk in
    rest_started d.seen d.may_leave d.moment d.left_since _ files c.args.file (g.met.D.Disk.only_now c.args.disk.now) (c.requires.rest files is) (c.requires.chosen files is)

pub returns-in-Head-clause-mended : goal.returns-in-Head-clause-mended
returns-in-Head-clause-mended g c files is =
    let d = g.D.Disk in
    mended_none d.seen d.may_leave d.moment d.left_since _ files c.args.file is (c.requires.rest files is) (c.requires.chosen files is) (λ one. let both : Head ≡ One = sym c.in-Head.is ∙ one in absurd (cc both))

pub returns-in-Head-clause-any_moment : goal.returns-in-Head-clause-any_moment
returns-in-Head-clause-any_moment g c files is =
    let d = g.D.Disk in
    rest_started d.seen d.may_leave d.moment d.left_since _ files c.args.file (g.met.D.Disk.only_now c.args.disk.now) (c.requires.rest files is) (c.requires.chosen files is)
