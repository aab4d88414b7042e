use Rattle.std.proofs.Common.{List, ℕ, sym, ap, subst, ◌∙◌}
use Rattle.mt_types.specs.declared.job.TraceEntry.{TraceEntry}
use Rattle.mt_model.specs.Resolve.{Resolved, resolve}
use Rattle.mt_resolve.specs.Committing.{IsCommitting}
use Rattle.mt_resolve.specs.Taking.{HasReady}
use Rattle.mt_jobs.proofs.commit.entry_of.Goals as goal

pub invariant_of-c : goal.invariant_of-c
invariant_of-c g c =
    let t = c.args.task.now in
    subst (λ root. IsCommitting (record { job = c.args.kept.now.job.number; phase = t.phase; root = root; position = c.args.position; moment = c.args.moment })) (sym c.in_ok-task_root.ensures) c.requires.committing.0

pub resolve-requires : goal.resolve-requires
resolve-requires g c =
    let t = c.args.task.now in
    subst (λ root. HasReady (record { job = c.args.kept.now.job.number; phase = t.phase; root = root; position = c.args.position; moment = c.args.moment }) c.args.tree.now c.args.fate.now) (sym c.in_ok-task_root.ensures) c.requires.committing.1

pub returns : goal.returns
returns g c =
    let t = c.args.task.now in
    let same =
    c.in_ok-outcome.ensures
    ∙ ap (λ (root : List ℕ). resolve (record { job = c.args.kept.now.job.number; phase = t.phase; root = root; position = c.args.position; moment = c.args.moment }) c.args.tree.now c.args.fate.now) c.in_ok-task_root.ensures in
    (ap {B = TraceEntry g.row.B.Denot} (λ (r : Resolved g.row.B.Denot). record { phase = t.phase; place = t.place; position = c.args.position; outcome = r.outcome }) same, ap (λ (r : Resolved g.row.B.Denot). r.rows) same)
