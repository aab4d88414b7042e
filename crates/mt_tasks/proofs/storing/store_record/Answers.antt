use Rattle.std.proofs.Common.{◌≡◌, ℕ, List, Option, refl, sym, ap, ◌∙◌, subst}
use Rattle.mt_engine.proofs.Accepts.{idle_leaves}
use Rattle.mt_records.specs.declared.range.Range.{Range}
use Rattle.mt_types.specs.declared.body.Body.{Body}
use Rattle.mt_types.specs.declared.task.TaskRecord.{TaskRecord}
use Rattle.mt_types.specs.declared.task.TaskRecord.TheVariants.{Emit, Keep}
use Rattle.mt_tasks.specs.Storing.{RangeIn, RecordIn, Stores}
use Rattle.mt_tasks.specs.declared.stored.Stored.{Stored}
use Rattle.mt_tasks.proofs.Mapped.{emit_in, keep_in, stores_map}
use Rattle.mt_tasks.proofs.storing.store_record.Goals as goal

pub returns-in-Emit-clause-stores : goal.returns-in-Emit-clause-stores
returns-in-Emit-clause-stores g c = λ base h qs w.
    let told = g.P.Spawner.told c.args.spawner.now in
    let s = c.store_range-stored in
    let seen' = g.D.Disk.seen s.new.disk in
    let engine' = s.new.engine in
    let run' = s.new.run in
    subst (λ (x : Stored (TaskRecord Body)). Stores (RecordIn told seen' engine' run' base h qs c.args.given) x seen' engine' run' base h qs) (sym c.emitted.ensures)
    (stores_map (λ (b : Body). Emit c.in-Emit.place c.in-Emit.reducer b) (RangeIn told seen' engine' run' base h qs c.in-Emit.body) (RecordIn told seen' engine' run' base h qs c.args.given) seen' engine' run' base h qs
    (λ b is. subst (λ (r : TaskRecord Range). RecordIn told seen' engine' run' base h qs r (Emit c.in-Emit.place c.in-Emit.reducer b)) (sym c.in-Emit.is) (emit_in told seen' engine' run' base h qs c.in-Emit.body c.in-Emit.place c.in-Emit.reducer b is)) s.result (s.ensures.stores base h qs w))

pub returns-in-Keep-clause-stores : goal.returns-in-Keep-clause-stores
returns-in-Keep-clause-stores g c = λ base h qs w.
    let told = g.P.Spawner.told c.args.spawner.now in
    let s = c.store_range-stored-in-Keep in
    let seen' = g.D.Disk.seen s.new.disk in
    let engine' = s.new.engine in
    let run' = s.new.run in
    subst (λ (x : Stored (TaskRecord Body)). Stores (RecordIn told seen' engine' run' base h qs c.args.given) x seen' engine' run' base h qs) (sym c.kept.ensures)
    (stores_map (λ (b : Body). Keep c.in-Keep.place b) (RangeIn told seen' engine' run' base h qs c.in-Keep.body) (RecordIn told seen' engine' run' base h qs c.args.given) seen' engine' run' base h qs
    (λ b is. subst (λ (r : TaskRecord Range). RecordIn told seen' engine' run' base h qs r (Keep c.in-Keep.place b)) (sym c.in-Keep.is) (keep_in told seen' engine' run' base h qs c.in-Keep.body c.in-Keep.place b is)) s.result (s.ensures.stores base h qs w))

pub returns-in-Ref-clause-any_moment : goal.returns-in-Ref-clause-any_moment
returns-in-Ref-clause-any_moment g c = idle_leaves g.D.Disk.seen g.D.Disk.may_leave g.D.Disk.moment g.D.Disk.left_since c.args.disk.now c.args.engine.now c.args.run.now c.requires.ready.running (g.met.D.Disk.only_now c.args.disk.now)
