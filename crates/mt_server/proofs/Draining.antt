-- What a drain leaves of an account.
use Rattle.std.proofs.Common.{◌≡◌, ℕ, Option, Some, None, ap, sym, subst, arith}
use Rattle.std.specs.List.{flat_map}
use Rattle.mt_base.specs.Counts.{Rose}
use Rattle.mt_base.specs.Lists.{IsPrefixOf}
use Rattle.mt_opening.specs.History.{History}
use Rattle.mt_runner.specs.Account.{AccountSide, NoCountFell}
use Rattle.mt_runner.specs.Turning.{Drained, TakesTurn, Working, added_of, most_turns}
use Rattle.mt_runner.specs.declared.turn.Turn.{Turn}
use Rattle.mt_runner.specs.declared.turn.Turn.TheVariants as turn
use Rattle.mt_connection.specs.Transcript.{Setting, working}
use Rattle.mt_connection.proofs.Crashes.{all_of, front_of_front}
use Rattle.mt_connection.proofs.Runs.{no_count_fell, no_count_fell_self}
use Rattle.mt_server.specs.Events.{DrainsBehind, DrainsUnless, Event, Had, Woke, end_breaks}
use Rattle.mt_server.specs.declared.status.ServeEnd.{ServeEnd}

pub same_front : (h k : History) → k ≡ h → IsPrefixOf h k
same_front h k e = subst (λ (x : History). IsPrefixOf h x) (sym e) (all_of h)

module _ (w : Working) where
  turn_counts : (old : AccountSide) (last : Turn) (new : AccountSide) → TakesTurn w old last new → NoCountFell old new
  turn_counts old (turn.Closed job) new t = t.2.counts
  turn_counts old (turn.Committed task) new t = t.2.counts
  turn_counts old turn.Idle new t = t.0.2.counts
  turn_counts old turn.NotYet new t = t.0.2.counts
  turn_counts old turn.SpawnFault new t = t.0.2.counts
  turn_counts old turn.Full new t = t.unmoved.counts
  turn_counts old turn.Disk new t = t.counts
  turn_counts old turn.Memory new t = t.counts

  turn_grows : (old : AccountSide) (last : Turn) (new : AccountSide) → TakesTurn w old last new → IsPrefixOf old.history new.history
  turn_grows old (turn.Closed job) new t = (t.0.added, sym t.2.history)
  turn_grows old (turn.Committed task) new t = (t.0.added, sym t.2.history)
  turn_grows old turn.Idle new t = (t.0.0.added, sym t.0.2.history)
  turn_grows old turn.NotYet new t = (t.0.0.added, sym t.0.2.history)
  turn_grows old turn.SpawnFault new t = (t.0.0.added, sym t.0.2.history)
  turn_grows old turn.Full new t = same_front old.history new.history t.unmoved.history
  turn_grows old turn.Disk new t = (t.last, sym t.history)
  turn_grows old turn.Memory new t = same_front old.history new.history t.history

  pub drained_counts : (most : ℕ) (old : AccountSide) (last : Turn) (new : AccountSide) → Drained w most old last new → NoCountFell old new
  drained_counts most old last new d = no_count_fell old d.middle new d.led.counts (turn_counts d.middle last new d.ends)

  pub drained_grows : (most : ℕ) (old : AccountSide) (last : Turn) (new : AccountSide) → Drained w most old last new → IsPrefixOf old.history new.history
  drained_grows most old last new d = front_of_front old.history d.middle.history new.history (flat_map added_of d.turns, sym d.led.history) (turn_grows d.middle last new d.ends)

  -- a fault is counted
  pub drained_fault : (most : ℕ) (old new : AccountSide) → Drained w most old turn.SpawnFault new → Rose old.tasks.faults new.tasks.faults
  drained_fault most old new d = let before = d.led.counts.spawn in let rose = d.ends.2 in omega (arith, before, rose)

  pub fault_by : (most : ℕ) (old : AccountSide) (last : Turn) (new : AccountSide) → last ≡ turn.SpawnFault → Drained w most old last new → Rose old.tasks.faults new.tasks.faults
  fault_by most old last new is d = drained_fault most old new (subst (λ (l : Turn). Drained w most old l new) is d)

  pub drained_disk : (most : ℕ) (old new : AccountSide) → Drained w most old turn.Disk new → Rose old.disk_faults new.disk_faults
  drained_disk most old new d = let before = d.led.counts.disk in let rose = d.ends.rose in omega (arith, before, rose)

-- ---- what follows an event

module _ (s : Setting) where
  unless_counts : (why : Option ServeEnd) (drain : Option Turn) (old new : AccountSide) → DrainsUnless s why drain old new → NoCountFell old new
  unless_counts (Some why) drain old new d = subst (λ (x : AccountSide). NoCountFell old x) (sym d.1) (no_count_fell_self old)
  unless_counts None drain old new d = drained_counts (working s) most_turns old d.0 new d.2

  unless_grows : (why : Option ServeEnd) (drain : Option Turn) (old new : AccountSide) → DrainsUnless s why drain old new → IsPrefixOf old.history new.history
  unless_grows (Some why) drain old new d = same_front old.history new.history (ap (λ (x : AccountSide). x.history) d.1)
  unless_grows None drain old new d = drained_grows (working s) most_turns old d.0 new d.2

  pub behind_counts : {L : Type 0} (e : Event L) (old new : AccountSide) → DrainsBehind s e old new → NoCountFell old new
  behind_counts (Had x) old new d = unless_counts (end_breaks x.end) x.drain old new d
  behind_counts (Woke last) old new d = drained_counts (working s) most_turns old last new d

  pub behind_grows : {L : Type 0} (e : Event L) (old new : AccountSide) → DrainsBehind s e old new → IsPrefixOf old.history new.history
  behind_grows (Had x) old new d = unless_grows (end_breaks x.end) x.drain old new d
  behind_grows (Woke last) old new d = drained_grows (working s) most_turns old last new d
