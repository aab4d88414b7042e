use Rattle.std.proofs.Common.{◌≡◌, List, Option, Some, [], true≢false, refl, sym, subst, ap, ◌∙◌, arith, append-nil}
use Rattle.std.specs.Prelude.{IfSome, ℕ}
use Rattle.mt_jobtext.specs.Pieces.{IsShowable}
use Rattle.mt_jobtext.specs.JobTexts.{text_of}
use Rattle.mt_log.specs.LogState.{LogState}
use Rattle.mt_body.specs.Storing.{Stores}
use Rattle.mt_body.specs.declared.pieces.Storing.TheVariants as storing
use Rattle.mt_model.specs.Honest.{OfFound}
use Rattle.mt_model.specs.JobSteps.{done_at}
use Rattle.mt_model.specs.State.{job_at}
use Rattle.mt_types.specs.declared.body.Body.{Body}
use Rattle.mt_types.specs.declared.job.Job.{Job}
use Rattle.mt_opening.specs.Current.{EngineState, IsWriting}
use Rattle.mt_engine.specs.Archiving.{TextGoes}
use Rattle.mt_engine.proofs.Accepts.{idle_leaves}
use Rattle.mt_engine.proofs.Archives.{never_same, places_text, stores_text}
use Rattle.mt_engine.proofs.Ends.{goes_on_leaves}
use Rattle.mt_engine.proofs.Runs.{same_tells}
use Rattle.mt_engine.proofs.Stores.{closed_by, same_where_open, stays_open}
use Rattle.mt_engine.proofs.engine.Engine.store_text.Goals as goal

pub closed-requires-clause-showable : goal.closed-requires-clause-showable
closed-requires-clause-showable g c =
    let found = c.in-Some.ensures.job ∙ ap (λ (js : List (Job Body)). job_at js c.args.ending.job) c.jobs.ensures.jobs in
    let count = ap (λ (e : EngineState). e.state.count) c.self.view_is in
    subst (λ (o : Option (Job Body)). OfFound IsShowable o) (sym found)
    (c.lawful_is_showable.ensures c.self.inside.account c.args.ending.job c.jobs.ensures.lawful c.jobs.ensures.limits (omega (arith, count, c.position.ensures.most, c.position.ensures.count)))

pub returns-in_default-closed : goal.returns-in_default-closed
returns-in_default-closed g c =
    let d = g.D.Disk in
    let found = c.in-Some.ensures.job ∙ ap (λ (js : List (Job Body)). job_at js c.args.ending.job) c.jobs.ensures.jobs ∙ ap (λ (e : EngineState). job_at e.state.jobs c.args.ending.job) c.self.view_is in
    subst (λ (o : Option (Job Body)). IfSome o (λ j. TextGoes d.seen d.may_leave d.moment d.left_since d.faults c.args.disk.now c.args.disk.now c.args.self.now c.args.self.now c.args.run.now c.args.run.now
    (text_of c.args.login.now (done_at c.args.ending.moment c.args.ending.cancelled j) c.args.text) storing.Memory)) found
    (record {
      places = tt;
      told = λ base h qs w. record { pieces = []; writing = subst (λ (x : List (List ℕ)). IsWriting (d.seen c.args.disk.now) c.args.self.now c.args.run.now base h x) (sym (append-nil qs)) w };
      any_moment = idle_leaves d.seen d.may_leave d.moment d.left_since c.args.disk.now c.args.self.now c.args.run.now c.requires.ready.running (g.met.D.Disk.only_now c.args.disk.now);
      goes_on = record { running = c.requires.ready.running; order = c.requires.ready.order };
      keeps = record { told = λ o. refl; version = λ o. refl; limit = λ o. refl; faults = never_same (d.faults c.args.disk.now) };
      still_open = λ e. refl;
      closed = λ e. cc;
      disk = λ e. cc;
    })

pub returns : goal.returns
returns g c =
    let d = g.D.Disk in
    let found = c.in-Some.ensures.job ∙ ap (λ (js : List (Job Body)). job_at js c.args.ending.job) c.jobs.ensures.jobs ∙ ap (λ (e : EngineState). job_at e.state.jobs c.args.ending.job) c.self.view_is in
    let after : EngineState = record { log = c.store.new.log; state = c.self.inside.account } in
    let text = text_of c.args.login.now (done_at c.args.ending.moment c.args.ending.cancelled c.in-Some.kept.now.job) c.args.text in
    let seen = d.seen c.args.disk.now in
    let seen' = d.seen c.store.new.disk in
    let stores : Stores c.store.result (Some text) (Some c.store.new.source) c.store.new.sum seen seen' c.args.self.now.log c.store.new.log c.args.run.now c.store.new.run
    = subst (λ (t : List ℕ). Stores c.store.result (Some t) (Some c.store.new.source) c.store.new.sum seen seen' c.args.self.now.log c.store.new.log c.args.run.now c.store.new.run) c.in-Ok.ensures
    (subst (λ (e : EngineState). Stores c.store.result (Some c.in-Ok.lines) (Some c.store.new.source) c.store.new.sum seen seen' e.log c.store.new.log c.args.run.now c.store.new.run) c.self.view_is c.store.ensures.stores) in
    let so : after ≡ record c.args.self.now { log = c.store.new.log } = ap (λ (e : EngineState). record e { log = c.store.new.log }) c.self.view_is in
    let closes = closed_by (Some text) (Some c.store.new.source) c.store.new.sum seen seen' c.args.self.now.log c.store.new.log c.args.run.now c.store.new.run c.store.result stores in
    let same = same_where_open (Some text) (Some c.store.new.source) c.store.new.sum seen seen' c.args.self.now.log c.store.new.log c.args.run.now c.store.new.run c.store.result stores in
    subst (λ (o : Option (Job Body)). IfSome o (λ j. TextGoes d.seen d.may_leave d.moment d.left_since d.faults c.args.disk.now c.store.new.disk c.args.self.now after c.args.run.now c.store.new.run
    (text_of c.args.login.now (done_at c.args.ending.moment c.args.ending.cancelled j) c.args.text) c.store.result)) found
    (record {
      places = places_text text (Some c.store.new.source) c.store.new.sum seen seen' c.args.self.now c.args.run.now c.store.new.run c.store.result c.store.new.log stores c.store.ensures.failed;
      told = λ base h qs w. stores_text text (Some c.store.new.source) c.store.new.sum seen seen' c.args.self.now c.args.run.now c.store.new.run base h qs c.store.result after so stores
          c.store.ensures.same (λ e. ap d.seen (c.store.ensures.memory e).0) c.store.ensures.failed w;
      any_moment = λ base h qs w. goes_on_leaves d.moment d.left_since c.args.disk.now c.store.new.disk seen c.args.self.now c.args.run.now base h qs w c.store.ensures.any_moment;
      goes_on = record { running = c.store.ensures.running; order = c.store.ensures.order };
      keeps = record {
        told = λ is_open. same_tells seen seen' (c.store.ensures.same (λ e. true≢false (sym (closes e) ∙ is_open)));
        version = λ is_open. ap (λ (l : LogState). l.is_old) (same is_open);
        limit = λ is_open. ap (λ (l : LogState). l.limit) (same is_open);
        faults = c.store.ensures.faults;
      };
      still_open = λ not. so ∙ ap (λ (l : LogState). record c.args.self.now { log = l }) (stays_open (Some text) (Some c.store.new.source) c.store.new.sum seen seen' c.args.self.now.log c.store.new.log c.args.run.now c.store.new.run c.store.result stores not);
      closed = closes;
      disk = c.store.ensures.disk;
    })
