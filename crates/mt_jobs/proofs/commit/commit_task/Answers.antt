use Rattle.std.proofs.Common.{ap, ◌∙◌}
use Rattle.mt_types.specs.declared.job.TraceEntry.{TraceEntry}
use Rattle.mt_model.specs.Tasks.{is_ready}
use Rattle.mt_jobs.proofs.Committed.{has_committed}
use Rattle.mt_jobs.proofs.commit.commit_task.Goals as goal

pub enter-requires-clause-ready : goal.enter-requires-clause-ready
enter-requires-clause-ready g c =
    ap (λ (e : TraceEntry g.row.B.Denot). is_ready c.args.kept.now.job e.phase e.place) c.in_ok-entry.ensures.0 ∙ c.requires.ready

pub returns : goal.returns
returns g c =
    let t = c.args.task.now in
    has_committed c.enter.result c.args.kept.now c.args.tree.now c.args.sched.now t.phase t.place c.args.fate.now c.args.position c.args.moment c.enter.new.kept c.entry_of.new.tree c.enter.new.sched c.in_ok-entry.entry
    c.in_ok-entry.ensures.0 c.in_ok-entry.ensures.1 c.enter.ensures.job c.enter.ensures.kept c.enter.ensures.plans
