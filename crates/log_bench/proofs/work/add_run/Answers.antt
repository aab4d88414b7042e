use Rattle.std.proofs.Common.{◌≡◌, ◌+◌, ℕ, List, Option, false, ap, arith, replicate, sym, subst, ◌∙◌}
use Rattle.std.proofs.lemmas.List.{replicate_more}
use Rattle.std.specs.Result.{OnOk}
use Rattle.mt_log.specs.LogState.{LogState, told, with_payloads}
use Rattle.mt_log.specs.RunState.{HasTaken}
use Rattle.mt_log.specs.declared.append.AppendError.TheVariants.{Closed}
use Rattle.log_bench.proofs.Repeated.{unless_closed}
use Rattle.log_bench.proofs.work.add_run.Goals as goal

pub loop-done-preserved : goal.loop-done-preserved
loop-done-preserved g c =
    let p = c.args.payload.now in
    let n = c.loop-done._done in
    let before = c.loop-done.invariant in
    record {
      running = c.add_to_run.ensures.running;
      order = c.add_to_run.ensures.order;
      same = c.in_ok-add_to_run.ensures.same ∙ before.same;
      taken = λ is_open.
          let was_open : c.loop-done.log.closed ≡ false = sym (ap (λ (l : LogState). l.closed) c.in_ok-add_to_run.ensures.place.2) ∙ is_open in
          let more : HasTaken (g.D.Disk.seen c.add_to_run.new.disk) c.add_to_run.new.self c.add_to_run.new.run (replicate (n + 1) p) =
          subst (λ (ps : List (List ℕ)). HasTaken (g.D.Disk.seen c.add_to_run.new.disk) c.add_to_run.new.self c.add_to_run.new.run ps) (replicate_more n p)
          (c.in_ok-add_to_run.ensures.taken (replicate n p) (before.taken was_open)) in
          more;
    }

pub returns : goal.returns
returns g c =
    let before = c.loop-done.invariant in
    let p = c.args.payload.now in
    let n = c.loop-done._done in
    let all : n ≡ c.args.count = omega (arith, c.loop-done-test.false) in
    let seen = g.D.Disk.seen in
    record {
      added = unless_closed _ c.loop-done.log.closed c.end_run.result Closed c.end_run.ensures.closed.1
          (λ is_open.
          let ended : OnOk c.end_run.result (told (seen c.end_run.new.disk) ≡ with_payloads (replicate n p) (told (seen c.loop-done.disk))) =
          c.end_run.ensures.added (replicate n p) (before.taken is_open) in
          let from_start : OnOk c.end_run.result (told (seen c.end_run.new.disk) ≡ with_payloads (replicate n p) (told (seen c.args.disk.now))) =
          subst (λ (t : Option (List (List ℕ))). OnOk c.end_run.result (told (seen c.end_run.new.disk) ≡ with_payloads (replicate n p) t)) before.same ended in
          subst (λ (m : ℕ). OnOk c.end_run.result (told (seen c.end_run.new.disk) ≡ with_payloads (replicate m p) (told (seen c.args.disk.now)))) all from_start);
    }
