use Rattle.std.proofs.Common.{◌≡◌, ◌≤◌, ◌+◌, ℕ, List, Option, refl, sym, ap, ◌∙◌, subst, arith}
use Rattle.mt_engine.proofs.Accepts.{idle_leaves}
use Rattle.mt_records.specs.declared.range.Range.{Range}
use Rattle.mt_types.specs.declared.body.Body.{Body}
use Rattle.mt_types.specs.declared.task.Fate.{Fate}
use Rattle.mt_types.specs.declared.task.Fate.TheVariants.{Good}
use Rattle.mt_types.specs.declared.task.TaskRecord.{TaskRecord}
use Rattle.mt_tasks.specs.Storing.{FateIn, RecordsIn, Stores, stored_map}
use Rattle.mt_tasks.specs.declared.stored.Stored.{Stored}
use Rattle.mt_tasks.proofs.Mapped.{good_in, stores_map}
use Rattle.mt_tasks.proofs.storing.store_fate.Goals as goal

pub returns-in-Good-clause-stores : goal.returns-in-Good-clause-stores
returns-in-Good-clause-stores g c = λ base h qs w.
    let told = g.P.Spawner.told c.args.spawner.now in
    let seen' = g.D.Disk.seen c.store_records-stored.new.disk in
    let engine' = c.store_records-stored.new.engine in
    let run' = c.store_records-stored.new.run in
    let s = c.store_records-stored.result in
    let given : Good c.into_vec.result.items ≡ c.args.fate = ap (λ (l : List (TaskRecord Range)). Good l) c.into_vec.ensures ∙ sym c.in-Good.is in
    subst (λ (x : Stored (Fate Body)). Stores (FateIn told seen' engine' run' base h qs c.args.fate) x seen' engine' run' base h qs) (sym c.good.ensures)
    (stores_map (λ (l : List (TaskRecord Body)). Good l) (RecordsIn told seen' engine' run' base h qs c.into_vec.result.items) (FateIn told seen' engine' run' base h qs c.args.fate) seen' engine' run' base h qs
    (λ ts is. subst (λ (f : Fate Range). FateIn told seen' engine' run' base h qs f (Good ts)) given (good_in told seen' engine' run' base h qs c.into_vec.result.items ts is)) s (c.store_records-stored.ensures.stores base h qs w))

pub returns-in-Bad-clause-any_moment : goal.returns-in-Bad-clause-any_moment
returns-in-Bad-clause-any_moment g c = idle_leaves g.D.Disk.seen g.D.Disk.may_leave g.D.Disk.moment g.D.Disk.left_since c.args.disk.now c.args.engine.now c.args.run.now c.requires.ready.running (g.met.D.Disk.only_now c.args.disk.now)
