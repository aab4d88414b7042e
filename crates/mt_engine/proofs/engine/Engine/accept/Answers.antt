use Rattle.std.proofs.Common.{◌≡◌, length, refl, sym, subst, ap, ◌∙◌, arith}
use Rattle.mt_body.specs.Stored.{bytes_of}
use Rattle.mt_model.specs.CommandStep.{allowed}
use Rattle.mt_types.specs.Values.{command_with}
use Rattle.mt_opening.specs.Current.{EngineState}
use Rattle.mt_engine.specs.Accepting.{Accepts}
use Rattle.mt_engine.specs.declared.engine.Accepted.{Accepted}
use Rattle.mt_engine.proofs.Accepts.{idle_leaves, none_added, none_refused}
use Rattle.mt_account.proofs.Commands.{size_of}
use Rattle.mt_engine.proofs.engine.Engine.accept.Goals as goal
use Rattle.mt_engine.proofs.engine.Engine.accept.Goals.{in-Done, in-Disk, in-Done-end_run, in-Disk-end_run}

pub returns-in-Err-clause-accepts : goal.returns-in-Err-clause-accepts
returns-in-Err-clause-accepts g c base h qs writing stored =
    let d = g.D.Disk in
    let P : Accepted → Type 0 = λ r. Accepts r (command_with (bytes_of qs) c.args.command) (d.seen c.end_run.new.disk) c.end_run.new.self base h in
    elim c.match-end_run.branch [
      | in-Done w ↦ subst P (sym w.result-is) (c.end_run.ensures.current base h qs writing w.in-Done.is)
      | in-Disk w ↦ subst P (sym w.result-is) tt
    ]

pub returns-in-Err-clause-any_moment : goal.returns-in-Err-clause-any_moment
returns-in-Err-clause-any_moment g c =
    let d = g.D.Disk in
    none_added d.moment d.left_since c.args.disk.now c.end_run.new.disk (d.seen c.args.disk.now) c.args.self.now c.args.run c.args.command c.match-end_run.result c.end_run.ensures.any_moment

pub returns-in-Err-encode-clause-keeps : goal.returns-in-Err-encode-clause-keeps
returns-in-Err-encode-clause-keeps g c = record {
  told = λ is_open. refl;
  version = λ is_open. ap (λ (e : EngineState). e.log.is_old) (c.give_up.ensures.1);
  limit = λ is_open. ap (λ (e : EngineState). e.log.limit) (c.give_up.ensures.1);
  faults = omega arith;
}

pub returns-in-Err-encode-clause-any_moment : goal.returns-in-Err-encode-clause-any_moment
returns-in-Err-encode-clause-any_moment g c =
    let d = g.D.Disk in
    none_added d.moment d.left_since c.args.disk.now c.args.disk.now (d.seen c.args.disk.now) c.args.self.now c.args.run c.args.command c.give_up.result
    (idle_leaves d.seen d.may_leave d.moment d.left_since c.args.disk.now c.args.self.now c.args.run c.requires.ready.running (g.met.D.Disk.only_now c.args.disk.now))

pub returns-then-count-eq-MOST_COMMANDS-clause-accepts : goal.returns-then-count-eq-MOST_COMMANDS-clause-accepts
returns-then-count-eq-MOST_COMMANDS-clause-accepts g c base h qs writing stored =
    let d = g.D.Disk in
    let e = c.end_run-then-count-eq-MOST_COMMANDS in
    let P : Accepted → Type 0 = λ r. Accepts r (command_with (bytes_of qs) c.args.command) (d.seen e.new.disk) e.new.self base h in
    elim c.match-end_run-2.branch [
      | in-Done-end_run w ↦ subst P (sym w.result-is) (e.ensures.current base h qs writing w.in-Done-end_run.is)
      | in-Disk-end_run w ↦ subst P (sym w.result-is) tt
    ]

pub returns-then-count-eq-MOST_COMMANDS-clause-any_moment : goal.returns-then-count-eq-MOST_COMMANDS-clause-any_moment
returns-then-count-eq-MOST_COMMANDS-clause-any_moment g c =
    let d = g.D.Disk in
    let e = c.end_run-then-count-eq-MOST_COMMANDS in
    none_added d.moment d.left_since c.args.disk.now e.new.disk (d.seen c.args.disk.now) c.args.self.now c.args.run c.args.command c.match-end_run-2.result e.ensures.any_moment

pub add-requires-clause-takes : goal.add-requires-clause-takes
add-requires-clause-takes g c =
    let count : c.args.self.now.state.count ≡ c.count.result = ap (λ (e : EngineState). e.state.count) (sym c.self.view_is) ∙ sym c.count.ensures.count in
    let limit : c.self.inside.log.limit ≡ c.args.self.now.log.limit = ap (λ (e : EngineState). e.log.limit) c.self.view_is in
    record {
      allows = ap (λ (e : EngineState). allowed size_of e.state c.args.command) (sym c.self.view_is)
          ∙ none_refused (allowed size_of c.self.inside.account c.args.command) c.judge.result c.in_default.field-0 c.in_default.is c.judge.ensures;
      few = omega (arith, count, c.count.ensures.most, c.if-count-eq-MOST_COMMANDS.false);
      fits = omega (arith, c.has_room_in_run.ensures.0 c.if-not-has_room_in_run.false, limit, c.len.ensures, ap length c.as_slice.ensures.value, c.as_slice.ensures.len, ap length c.in-Ok.ensures);
    }

pub returns-then-len-gt-MOST_BYTES-clause-any_moment : goal.returns-then-len-gt-MOST_BYTES-clause-any_moment
returns-then-len-gt-MOST_BYTES-clause-any_moment g c =
    let d = g.D.Disk in
    none_added d.moment d.left_since c.args.disk.now c.args.disk.now (d.seen c.args.disk.now) c.args.self.now c.args.run c.args.command c.give_up-then-len-gt-MOST_BYTES.result
    (idle_leaves d.seen d.may_leave d.moment d.left_since c.args.disk.now c.args.self.now c.args.run c.requires.ready.running (g.met.D.Disk.only_now c.args.disk.now))
