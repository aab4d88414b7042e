-- Four figures, one behind the other, by reads alone.
use Rattle.std.proofs.Common.{ap, ◌∙◌}
use Rattle.mt_body.specs.Stored.{IsStored, bytes_of}
use Rattle.mt_log.specs.LogState.{told}
use Rattle.mt_model.specs.Bodies.{OfJob}
use Rattle.mt_drill.proofs.Lines.{four_figures}
use Rattle.mt_drill.proofs.Behind.{log_still, told_still}
use Rattle.mt_drill.proofs.figures.put_figures.Goals as goal

pub put_given-requires-2-clause-there : goal.put_given-requires-2-clause-there
put_given-requires-2-clause-there g c = log_still g.D.Disk.seen c.args.disk.now c.put_given.new.disk c.args.engine.now.log c.put_given.ensures.reads.read.seen_same c.requires.there

pub put_given-requires-2-clause-stored : goal.put_given-requires-2-clause-stored
put_given-requires-2-clause-stored g c = told_still g.D.Disk.seen c.args.disk.now c.put_given.new.disk (λ ps. OfJob (IsStored ps) c.args.job.now) c.put_given.ensures.reads.read.seen_same c.requires.stored

pub put_given-requires-3-clause-there : goal.put_given-requires-3-clause-there
put_given-requires-3-clause-there g c = log_still g.D.Disk.seen c.args.disk.now c.put_given-2.new.disk c.args.engine.now.log (c.put_given-2.ensures.reads.read.seen_same ∙ c.put_given.ensures.reads.read.seen_same) c.requires.there

pub put_given-requires-3-clause-stored : goal.put_given-requires-3-clause-stored
put_given-requires-3-clause-stored g c = told_still g.D.Disk.seen c.args.disk.now c.put_given-2.new.disk (λ ps. OfJob (IsStored ps) c.args.job.now) (c.put_given-2.ensures.reads.read.seen_same ∙ c.put_given.ensures.reads.read.seen_same) c.requires.stored

pub put_given-requires-4-clause-there : goal.put_given-requires-4-clause-there
put_given-requires-4-clause-there g c =
    log_still g.D.Disk.seen c.args.disk.now c.put_given-3.new.disk c.args.engine.now.log (c.put_given-3.ensures.reads.read.seen_same ∙ (c.put_given-2.ensures.reads.read.seen_same ∙ c.put_given.ensures.reads.read.seen_same)) c.requires.there

pub put_given-requires-4-clause-stored : goal.put_given-requires-4-clause-stored
put_given-requires-4-clause-stored g c =
    told_still g.D.Disk.seen c.args.disk.now c.put_given-3.new.disk (λ ps. OfJob (IsStored ps) c.args.job.now) (c.put_given-3.ensures.reads.read.seen_same ∙ (c.put_given-2.ensures.reads.read.seen_same ∙ c.put_given.ensures.reads.read.seen_same)) c.requires.stored

pub returns-clause-figures : goal.returns-clause-figures
returns-clause-figures g c ps is =
    let one = c.put_given.ensures.reads.read.seen_same in
    let two = c.put_given-2.ensures.reads.read.seen_same ∙ one in
    let three = c.put_given-3.ensures.reads.read.seen_same ∙ two in
    four_figures (bytes_of ps) c.args.job.now c.args.out.now.items c.put_given.new.out.items c.put_given-2.new.out.items c.put_given-3.new.out.items c.put_given-4.new.out.items (c.in_ok-put_given.ensures.figure ps is)
    (c.in_ok-put_given-2.ensures.figure ps (ap told one ∙ is)) (c.in_ok-put_given-3.ensures.figure ps (ap told two ∙ is)) (c.in_ok-put_given-4.ensures.figure ps (ap told three ∙ is))
