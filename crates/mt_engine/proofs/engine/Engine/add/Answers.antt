use Rattle.std.proofs.Common.{◌≡◌, ◌⊎◌, ◌++◌, ◌∷◌, [], ℕ, List, inl, inr, is_some, refl, sym, subst, ap, ◌∙◌, arith}
use Rattle.mt_disk.specs.CrashModel.{LeavesOnly}
use Rattle.mt_log.specs.LogImage.{IsBeforeOrAfter}
use Rattle.mt_log.specs.LogState.{LogState, told, with_payloads}
use Rattle.mt_log.specs.RunState.{HasTaken}
use Rattle.mt_body.specs.Stored.{bytes_of}
use Rattle.mt_types.specs.Values.{command_with}
use Rattle.mt_opening.specs.Current.{EngineState}
use Rattle.mt_engine.specs.Accepting.{Accepts}
use Rattle.mt_engine.specs.declared.engine.Accepted.{Accepted}
use Rattle.mt_engine.specs.declared.engine.Accepted.TheVariants as accepted
use Rattle.mt_engine.proofs.Accepts.{idle_leaves, none_added, one_added}
use Rattle.mt_engine.proofs.Ends.{added_current}
use Rattle.mt_engine.proofs.Runs.{added_so, ended_same, where_open}
use Rattle.mt_engine.proofs.engine.Engine.add.Goals as goal
use Rattle.mt_engine.proofs.engine.Engine.add.Goals.{in-Done, in-Disk}

pub returns-in-Err-clause-any_moment : goal.returns-in-Err-clause-any_moment
returns-in-Err-clause-any_moment g c =
    let d = g.D.Disk in
    none_added d.moment d.left_since c.args.disk.now c.args.disk.now (d.seen c.args.disk.now) c.args.self.now c.args.run c.args.command c.give_up.result
    (idle_leaves d.seen d.may_leave d.moment d.left_since c.args.disk.now c.args.self.now c.args.run c.requires.ready.running (g.met.D.Disk.only_now c.args.disk.now))

pub publish-requires-clause-payload : goal.publish-requires-clause-payload
publish-requires-clause-payload g c = c.requires.short

pub returns-clause-accepts : goal.returns-clause-accepts
returns-clause-accepts g c base h qs writing stored =
    let d = g.D.Disk in
    let new : EngineState = record { log = c.publish.new.log; state = c.change.new.self } in
    let P : Accepted → Type 0 = λ r. Accepts r (command_with (bytes_of qs) c.args.command) (d.seen c.publish.new.disk) new base h in
    let taken = subst (λ (x : EngineState). HasTaken (d.seen c.args.disk.now) x.log c.args.run writing.records) (sym c.self.view_is) writing.taken in
    elim c.match-publish.branch [
      | in-Done w ↦ subst P (sym w.result-is)
          (added_current (d.may_leave c.publish.new.disk) (d.seen c.args.disk.now) (d.seen c.publish.new.disk) c.args.self.now new c.args.run base h qs writing c.args.command c.requires.kind c.requires.spelled stored c.requires.takes
          (subst (λ (p : List ℕ). told (d.seen c.publish.new.disk) ≡ with_payloads (writing.records ++ p ∷ []) (told (d.seen c.args.disk.now))) c.requires.payload (c.publish.ensures.added writing.records taken w.in-Done.is))
          (added_so c.self.inside.log c.publish.new.log c.self.inside.account c.args.self.now c.self.view_is c.change.new.self c.args.run c.args.command c.args.payload.now c.requires.payload (c.publish.ensures.place w.in-Done.is) c.in-Ok.ensures.ok)
          c.publish.ensures.stands)
      | in-Disk w ↦ subst P (sym w.result-is) tt
    ]

pub returns-clause-any_moment : goal.returns-clause-any_moment
returns-clause-any_moment g c =
    let d = g.D.Disk in
    let how : (c.match-publish.result ≡ accepted.Added) ⊎ (c.match-publish.result ≡ accepted.Disk) = elim c.match-publish.branch [ in-Done w ↦ inl w.result-is | in-Disk w ↦ inr w.result-is ] in
    one_added d.moment d.left_since c.args.disk.now c.publish.new.disk (d.seen c.args.disk.now) c.args.self.now c.args.run c.args.command c.match-publish.result c.requires.kind c.requires.spelled c.requires.takes how
    (λ files is records taken. subst (λ (p : List ℕ). LeavesOnly d.moment d.left_since c.args.disk.now c.publish.new.disk (IsBeforeOrAfter files (records ++ p ∷ []))) c.requires.payload
    (c.publish.ensures.any_moment files is records (subst (λ (x : EngineState). HasTaken (d.seen c.args.disk.now) x.log c.args.run records) (sym c.self.view_is) taken)))

pub returns-in-Err-clause-keeps : goal.returns-in-Err-clause-keeps
returns-in-Err-clause-keeps g c = record {
  told = λ is_open. refl;
  version = λ is_open. ap (λ (e : EngineState). e.log.is_old) (c.give_up.ensures.1) ∙ ap (λ (e : EngineState). e.log.is_old) c.self.view_is;
  limit = λ is_open. ap (λ (e : EngineState). e.log.limit) (c.give_up.ensures.1) ∙ ap (λ (e : EngineState). e.log.limit) c.self.view_is;
  faults = omega arith;
}

pub returns-clause-keeps : goal.returns-clause-keeps
returns-clause-keeps g c =
    let d = g.D.Disk in
    let same = ended_same c.publish.result c.self.inside.log c.publish.new.log _ c.publish.ensures.place c.publish.ensures.closes in
    record {
      told = λ is_open. where_open c.publish.result c.publish.new.log.closed (is_some (d.seen c.publish.new.disk) ≡ is_some (d.seen c.args.disk.now)) c.publish.ensures.told
          (λ e. ap (λ (l : LogState). l.closed) (c.publish.ensures.closes e)) is_open;
      version = λ is_open. same.0 ∙ ap (λ (e : EngineState). e.log.is_old) c.self.view_is;
      limit = λ is_open. same.1 ∙ ap (λ (e : EngineState). e.log.limit) c.self.view_is;
      faults = c.publish.ensures.faults;
    }
