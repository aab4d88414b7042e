use Rattle.std.proofs.Common.{◌≡◌, ℕ, false, List, [], ◌∷◌, ◌++◌, Option, refl, sym, ap, ◌∙◌, subst, arith}
use Rattle.mt_opening.specs.Current.{EngineState}
use Rattle.mt_engine.proofs.Accepts.{idle_leaves}
use Rattle.mt_types.specs.declared.body.Body.{Body}
use Rattle.mt_types.specs.declared.task.Raw.{Raw}
use Rattle.mt_types.specs.declared.task.TaskRecord.{TaskRecord}
use Rattle.mt_tasks.specs.Storing.{Places, RecordAt, RecordIn, RecordsAt, RecordsIn, Stores}
use Rattle.mt_tasks.specs.declared.stored.Stored.{Stored}
use Rattle.mt_tasks.proofs.Commits.{leaves_twice}
use Rattle.mt_tasks.proofs.Growing.{at_more, at_none, records_more, records_none}
use Rattle.mt_tasks.proofs.Mapped.{end_stores}
use Rattle.mt_tasks.proofs.Steps.{same_live_on, stays_idle, stays_then}
use Rattle.mt_tasks.proofs.storing.store_records.Goals as goal

pub loop-one-init : goal.loop-one-init
loop-one-init g c =
    let told = g.P.Spawner.told c.args.spawner.now in
    let seen = g.D.Disk.seen c.args.disk.now in
    let none = sym c.new-done.ensures.items in
    record {
      places = subst (λ (l : List (TaskRecord Body)). RecordsAt c.args.run.now c.args.run.now [] l) none (at_none c.args.run.now);
      stores = λ base h qs w. subst (λ (l : List (TaskRecord Body)). RecordsIn told seen c.args.engine.now c.args.run.now base h qs [] l) none (records_none told seen c.args.engine.now c.args.run.now base h qs w);
      any_moment = idle_leaves g.D.Disk.seen g.D.Disk.may_leave g.D.Disk.moment g.D.Disk.left_since c.args.disk.now c.args.engine.now c.args.run.now c.requires.ready.running (g.met.D.Disk.only_now c.args.disk.now);
      goes_on = record { running = c.requires.ready.running; order = c.requires.ready.order };
      keeps = stays_idle g.D.Disk.seen g.D.Disk.faults c.args.disk.now c.args.engine.now;
      still_open = refl;
      same = record { live = refl; counts = record { waits = refl; company = refl } };
      faults = omega arith;
      held = refl;
      told = refl;
      rule = refl;
    }

pub returns-in-Some-keep-clause-stores : goal.returns-in-Some-keep-clause-stores
returns-in-Some-keep-clause-stores g c = λ base h qs w.
    let told = g.P.Spawner.told c.args.spawner.now in
    let s = c.store_record-stored in
    let seen' = g.D.Disk.seen s.new.disk in
    let engine' = s.new.engine in
    let run' = s.new.run in
    let first = c.loop-one.invariant.stores base h qs w in
    let more = subst (λ (t : Option Raw). Stores (RecordIn t seen' engine' run' base h (qs ++ first.pieces) c.in-Some.one) s.result seen' engine' run' base h (qs ++ first.pieces)) c.loop-one.invariant.told
    (s.ensures.stores base h (qs ++ first.pieces) first.writing) in
    subst (λ (x : Stored (List (TaskRecord Body))). Stores (RecordsIn told seen' engine' run' base h qs c.args.records.items) x seen' engine' run' base h qs) (sym c.in-Some-keep.ensures)
    (end_stores (RecordsIn told seen' engine' run' base h qs c.args.records.items) told c.in-Some.one seen' engine' run' base h qs first.pieces s.result more)

pub returns-in-Some-keep-clause-any_moment : goal.returns-in-Some-keep-clause-any_moment
returns-in-Some-keep-clause-any_moment g c = λ base h qs w.
    let first = c.loop-one.invariant.stores base h qs w in
    leaves_twice g.D.Disk.moment g.D.Disk.left_since c.args.disk.now c.loop-one.disk c.store_record-stored.new.disk base h (c.loop-one.invariant.any_moment base h qs w)
    (c.store_record-stored.ensures.any_moment base h (qs ++ first.pieces) first.writing)

pub loop-one-preserved : goal.loop-one-preserved
loop-one-preserved g c =
    let told = g.P.Spawner.told c.args.spawner.now in
    let old = c.loop-one in
    let kept = old.invariant in
    let s = c.store_record-stored in
    let seen' = g.D.Disk.seen s.new.disk in
    let engine' = s.new.engine in
    let run' = s.new.run in
    let one = c.in-Some.one in
    let k = c.in_default.ensures in
    let is_open : old.engine.log.closed ≡ false = ap (λ (e : EngineState). e.log.closed) kept.still_open ∙ c.requires.ready.is_open in
    let placed = subst (λ (x : Stored (TaskRecord Body)). Places (RecordAt old.run run' one) x) k.1 s.ensures.places in
    record {
      places = subst (λ (l : List (TaskRecord Body)). RecordsAt c.args.run.now run' (old.yielded ++ one ∷ []) l) (sym k.2) (at_more c.args.run.now old.run run' old.yielded old.done.items one k.0 kept.places placed);
      stores = λ base h qs w.
          let first = kept.stores base h qs w in
          let more = subst (λ (t : Option Raw). Stores (RecordIn t seen' engine' run' base h (qs ++ first.pieces) one) s.result seen' engine' run' base h (qs ++ first.pieces)) kept.told (s.ensures.stores base h (qs ++ first.pieces) first.writing) in
          let there = subst (λ (x : Stored (TaskRecord Body)). Stores (RecordIn told seen' engine' run' base h (qs ++ first.pieces) one) x seen' engine' run' base h (qs ++ first.pieces)) k.1 more in
          subst (λ (l : List (TaskRecord Body)). RecordsIn told seen' engine' run' base h qs (old.yielded ++ one ∷ []) l) (sym k.2)
          (records_more told (g.D.Disk.seen old.disk) seen' old.engine engine' old.run run' base h qs old.yielded old.done.items one k.0 first there);
      any_moment = λ base h qs w.
          let first = kept.stores base h qs w in
          leaves_twice g.D.Disk.moment g.D.Disk.left_since c.args.disk.now old.disk s.new.disk base h (kept.any_moment base h qs w) (s.ensures.any_moment base h (qs ++ first.pieces) first.writing);
      goes_on = s.ensures.goes_on;
      keeps = stays_then g.D.Disk.seen g.D.Disk.faults c.args.disk.now old.disk s.new.disk c.args.engine.now old.engine engine' kept.still_open kept.keeps is_open s.ensures.keeps;
      still_open = s.ensures.still_open (λ d. cc (sym k.1 ∙ d)) ∙ kept.still_open;
      same = same_live_on kept.same s.ensures.same;
      faults = omega (arith, kept.faults, s.ensures.faults);
      held = s.ensures.held ∙ kept.held;
      told = s.ensures.told ∙ kept.told;
      rule = s.ensures.rule ∙ kept.rule;
    }
