-- The line is that of the engine's history.
use Rattle.std.proofs.Common.{rules}
use Rattle.mt_engine.proofs.Objects.{served_jobs}
use Rattle.mt_drill.proofs.Lines.{counts_put, tells_line}
use Rattle.mt_drill.proofs.line.line_by.Goals as goal

pub put_figures-requires-clause-there : goal.put_figures-requires-clause-there
put_figures-requires-clause-there g c = record { there = λ is_open files is. (c.requires.ready.stands is_open files is).1; is_open = c.requires.ready.is_open }

pub put_figures-requires-clause-stored : goal.put_figures-requires-clause-stored
put_figures-requires-clause-stored g c = served_jobs _ c.args.engine.now _ _ c.requires.ready.serves c.requires.ready.is_open c.in-Some.ensures.0

pub returns-clause-tells : goal.returns-clause-tells
returns-clause-tells g c k i =
    let front = counts_put c.new-out.result.items c.put_counts.new.out.items c.args.count c.args.replies c.position.result c.args.engine.now.state.count c.len-tasks.result _ (search rules) c.position.ensures.count c.len-tasks.ensures c.in_ok-put_counts.ensures in
    tells_line (g.D.Disk.seen c.args.disk.now) c.args.engine.now k i c.args.count c.args.replies _ _ _ _ c.in-Some.ensures.0 c.in-Some.ensures.1 front c.in_ok-put_figures.ensures.figures c.in_ok-put_words.ensures
