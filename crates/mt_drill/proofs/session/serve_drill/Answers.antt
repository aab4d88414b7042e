-- Where memory was wanted before the session, nothing was done to the disk.
use Rattle.mt_drill.proofs.Made.{fronts_here}
use Rattle.mt_drill.proofs.session.serve_drill.Goals as goal

pub returns-in_err-words-clause-any_moment : goal.returns-in_err-words-clause-any_moment
returns-in_err-words-clause-any_moment g c = let d = g.D.Disk in fronts_here d.seen d.may_leave d.moment d.left_since c.args.disk.now c.requires.rest c.requires.empty (g.met.D.Disk.only_now c.args.disk.now)

pub returns-in_err-source-clause-any_moment : goal.returns-in_err-source-clause-any_moment
returns-in_err-source-clause-any_moment g c = let d = g.D.Disk in fronts_here d.seen d.may_leave d.moment d.left_since c.args.disk.now c.requires.rest c.requires.empty (g.met.D.Disk.only_now c.args.disk.now)

pub returns-in_err-sink-clause-any_moment : goal.returns-in_err-sink-clause-any_moment
returns-in_err-sink-clause-any_moment g c = let d = g.D.Disk in fronts_here d.seen d.may_leave d.moment d.left_since c.args.disk.now c.requires.rest c.requires.empty (g.met.D.Disk.only_now c.args.disk.now)
