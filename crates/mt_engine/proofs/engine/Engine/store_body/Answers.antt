use Rattle.std.proofs.Common.{◌≡◌, ◌≤◌, true≢false, false, sym, subst, ap, ◌∙◌}
use Rattle.mt_log.specs.LogState.{LogState}
use Rattle.mt_log.specs.RunState.{Running}
use Rattle.mt_body.specs.Storing.{Stores}
use Rattle.mt_opening.specs.Current.{EngineState}
use Rattle.mt_engine.proofs.Ends.{goes_on_leaves}
use Rattle.mt_engine.proofs.Runs.{same_tells}
use Rattle.mt_engine.proofs.Stores.{closed_by, same_where_open, stays_open, stores_body}
use Rattle.mt_engine.proofs.engine.Engine.store_body.Goals as goal

pub store-requires-clause-running : goal.store-requires-clause-running
store-requires-clause-running g c = subst (λ (e : EngineState). Running g.D.Disk.seen g.D.Disk.may_leave c.args.disk.now e.log c.args.run.now) (sym c.self.view_is) c.requires.ready.running

pub store-requires-clause-order : goal.store-requires-clause-order
store-requires-clause-order g c = subst (λ (e : EngineState). e.log.closed ≡ false → e.log.gate ≤ c.args.run.now.next) (sym c.self.view_is) c.requires.ready.order

pub returns-clause-stores : goal.returns-clause-stores
returns-clause-stores g c =
    let d = g.D.Disk in
    let s = g.S.Source in
    subst (λ (e : EngineState). Stores c.store.result (s.left c.args.source.now) (s.left c.store.new.source) c.store.new.sum (d.seen c.args.disk.now) (d.seen c.store.new.disk) e.log c.store.new.log c.args.run.now c.store.new.run)
    c.self.view_is c.store.ensures.stores

pub returns-clause-body : goal.returns-clause-body
returns-clause-body g c base h qs w =
    let d = g.D.Disk in
    let s = g.S.Source in
    stores_body (d.seen c.args.disk.now) (d.seen c.store.new.disk) c.args.self.now c.args.run.now c.store.new.run base h qs w c.store.result (s.left c.args.source.now) (s.left c.store.new.source) c.store.new.sum
    (record { log = c.store.new.log; state = c.self.inside.account }) (ap (λ (e : EngineState). record e { log = c.store.new.log }) c.self.view_is)
    (subst (λ (e : EngineState). Stores c.store.result (s.left c.args.source.now) (s.left c.store.new.source) c.store.new.sum (d.seen c.args.disk.now) (d.seen c.store.new.disk) e.log c.store.new.log c.args.run.now c.store.new.run)
    c.self.view_is c.store.ensures.stores)
    c.store.ensures.same (λ e. ap d.seen (c.store.ensures.memory e).0)

pub returns-clause-any_moment : goal.returns-clause-any_moment
returns-clause-any_moment g c base h qs w =
    let d = g.D.Disk in
    goes_on_leaves d.moment d.left_since c.args.disk.now c.store.new.disk (d.seen c.args.disk.now) c.args.self.now c.args.run.now base h qs w c.store.ensures.any_moment

pub returns-clause-keeps : goal.returns-clause-keeps
returns-clause-keeps g c =
    let d = g.D.Disk in
    let s = g.S.Source in
    let same = same_where_open (s.left c.args.source.now) (s.left c.store.new.source) c.store.new.sum (d.seen c.args.disk.now) (d.seen c.store.new.disk) c.self.inside.log c.store.new.log c.args.run.now c.store.new.run c.store.result c.store.ensures.stores in
    record {
      told = λ is_open. same_tells (d.seen c.args.disk.now) (d.seen c.store.new.disk) (c.store.ensures.same (λ e.
          true≢false (sym (closed_by (s.left c.args.source.now) (s.left c.store.new.source) c.store.new.sum (d.seen c.args.disk.now) (d.seen c.store.new.disk) c.self.inside.log c.store.new.log c.args.run.now c.store.new.run c.store.result c.store.ensures.stores e) ∙ is_open)));
      version = λ is_open. ap (λ (l : LogState). l.is_old) (same is_open) ∙ ap (λ (e : EngineState). e.log.is_old) c.self.view_is;
      limit = λ is_open. ap (λ (l : LogState). l.limit) (same is_open) ∙ ap (λ (e : EngineState). e.log.limit) c.self.view_is;
      faults = c.store.ensures.faults;
    }

pub returns-clause-closed : goal.returns-clause-closed
returns-clause-closed g c is =
    let d = g.D.Disk in
    let s = g.S.Source in
    closed_by (s.left c.args.source.now) (s.left c.store.new.source) c.store.new.sum (d.seen c.args.disk.now) (d.seen c.store.new.disk) c.self.inside.log c.store.new.log c.args.run.now c.store.new.run c.store.result c.store.ensures.stores is

pub returns-clause-still_open : goal.returns-clause-still_open
returns-clause-still_open g c not =
    let d = g.D.Disk in
    let s = g.S.Source in
    let same = stays_open (s.left c.args.source.now) (s.left c.store.new.source) c.store.new.sum (d.seen c.args.disk.now) (d.seen c.store.new.disk) c.self.inside.log c.store.new.log c.args.run.now c.store.new.run c.store.result c.store.ensures.stores not in
    (λ i. record { log = same i; state = c.self.inside.account }) ∙ c.self.view_is
