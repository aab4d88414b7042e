use Rattle.std.proofs.Common.{◌≡◌, ◌∙◌, ◌++◌, ℕ, List, ap, sym, refl, arith, inl, inr, length, None, Option}
use Rattle.mt_disk.specs.Files.{Files}
use Rattle.mt_disk.proofs.Readings.{reads_none, reads_on}
use Rattle.mt_spawn.specs.Children.{Seen}
use Rattle.mt_runner.specs.Attempts.{RunnerState}
use Rattle.mt_runner.proofs.Engines.{ready_on}
use Rattle.mt_runner.proofs.Fills.{began_more, began_none, began_paired, began_same, begins_at, next_now, some_now}
use Rattle.mt_runner.proofs.Pairs.{kept_length}
use Rattle.mt_runner.specs.declared.fill.Begun.TheVariants as begun
use Rattle.mt_runner.proofs.runner.Runner.fill.Goals as goal

pub loop-self-init : goal.loop-self-init
loop-self-init g c = record {
  begun = began_none _ c.args.engine.now.state _ _ c.args.engine.now (g.D.Disk.faults c.args.disk.now) c.requires.paired;
  read = reads_none _ _ _ _ _;
  stays = g.met.D.Disk.same c.args.disk.now;
  faults = omega arith;
  free = c.requires.free;
  rule = refl;
  slots = refl;
  login = refl;
}

pub start_next-requires-clause-engine : goal.start_next-requires-clause-engine
start_next-requires-clause-engine g c = ready_on _ _ _ _ _ _ c.args.engine.now c.loop-self.invariant.read c.requires.engine

pub start_next-requires-clause-paired : goal.start_next-requires-clause-paired
start_next-requires-clause-paired g c = began_paired _ _ _ _ c.loop-self.invariant.begun

pub loop-self-preserved : goal.loop-self-preserved
loop-self-preserved g c =
    let i = c.loop-self.invariant in
    let e = c.in-Began.ensures in
    record {
      begun = began_more _ _ _ _ _ i.begun (begins_at g.P.Spawner.may g.P.Spawner.gives _ _ c.args.engine.now _ _ begun.Began _ _ _ _ i.login i.rule i.read.seen_same e.begins);
      read = reads_on _ _ _ _ _ _ _ i.read e.read;
      stays = g.met.D.Disk.joined _ _ _ i.stays e.stays;
      faults = omega (arith, i.faults, e.faults);
      free = e.free;
      rule = e.rule ∙ i.rule;
      slots = e.slots ∙ i.slots;
      login = e.login ∙ i.login;
    }

pub returns-in-NoTask-clause-fills : goal.returns-in-NoTask-clause-fills
returns-in-NoTask-clause-fills g c =
    let i = c.loop-self.invariant in
    let e = begins_at g.P.Spawner.may g.P.Spawner.gives _ _ c.args.engine.now _ _ begun.NoTask _ _ _ _ i.login i.rule i.read.seen_same c.in-NoTask.ensures.begins in
    (began_same _ _ _ _ _ i.begun e.1 e.2, inl (next_now _ _ _ _ i.begun None e.0))

pub returns-in-SpawnFault-clause-fills : goal.returns-in-SpawnFault-clause-fills
returns-in-SpawnFault-clause-fills g c =
    let i = c.loop-self.invariant in
    let e = begins_at g.P.Spawner.may g.P.Spawner.gives _ _ c.args.engine.now _ _ begun.SpawnFault _ _ _ _ i.login i.rule i.read.seen_same c.in-SpawnFault.ensures.begins in
    (began_same _ _ _ _ _ i.begun e.0.live (omega (arith, e.1)), some_now _ _ _ _ i.begun e.0.next, omega (arith, e.1, i.begun.faults))

pub returns-in-Disk-clause-fills : goal.returns-in-Disk-clause-fills
returns-in-Disk-clause-fills g c =
    let i = c.loop-self.invariant in
    let e = begins_at g.P.Spawner.may g.P.Spawner.gives _ _ c.args.engine.now _ _ begun.Disk _ _ _ _ i.login i.rule i.read.seen_same c.in-Disk.ensures.begins in
    (began_same _ _ _ _ _ i.begun e.0.live e.1, some_now _ _ _ _ i.begun e.0.next, omega (arith, e.2, i.faults))

pub returns-in-Memory-clause-fills : goal.returns-in-Memory-clause-fills
returns-in-Memory-clause-fills g c =
    let i = c.loop-self.invariant in
    let e = begins_at g.P.Spawner.may g.P.Spawner.gives _ _ c.args.engine.now _ _ begun.Memory _ _ _ _ i.login i.rule i.read.seen_same c.in-Memory.ensures.begins in
    (began_same _ _ _ _ _ i.begun e.0.live e.1, some_now _ _ _ _ i.begun e.0.next)

pub returns-clause-fills : goal.returns-clause-fills
returns-clause-fills g c =
    let i = c.loop-self.invariant in
    (i.begun, inr (omega (arith, kept_length _ _ _ i.begun.live.are, c.self.invariant.1, c.loop-self-test.false, c.len.ensures, ap (λ (r : RunnerState). length r.kept) c.self.view_is, ap (λ (r : RunnerState). r.slots) c.self.view_is, i.slots)))
