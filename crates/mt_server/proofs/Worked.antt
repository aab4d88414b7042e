-- A connection, and the drain behind one that ended well.
use Rattle.std.proofs.Common.{◌≡◌, ◌≢◌, ◌⊎◌, ◌≤◌, ℕ, Bool, true, false, Option, refl, subst, arith}
use Rattle.std.specs.Prelude.{IfSome}
use Rattle.mt_base.specs.Counts.{NeverFell, Rose}
use Rattle.mt_disk.specs.Files.{Files}
use Rattle.mt_opening.specs.Current.{HasFront}
use Rattle.mt_opening.specs.History.{Bytes}
use Rattle.mt_runner.specs.Account.{AccountSide}
use Rattle.mt_runner.specs.ByAnswer.{GoesOn}
use Rattle.mt_runner.specs.Turning.{Drained, Working, most_turns}
use Rattle.mt_runner.specs.declared.turn.Turn.{Turn}
use Rattle.mt_runner.specs.declared.turn.Turn.TheVariants as turn
use Rattle.mt_connection.specs.Endings.{Served}
use Rattle.mt_connection.specs.Outcomes.{ByEnd}
use Rattle.mt_connection.specs.Sides.{Sides, account_of, link_of}
use Rattle.mt_connection.specs.Transcript.{Setting, working}
use Rattle.mt_connection.specs.declared.end.ConnectionEnd.{ConnectionEnd}
use Rattle.mt_connection.specs.declared.end.ConnectionEnd.TheVariants as ended
use Rattle.mt_connection.proofs.Crashes.{all_of}
use Rattle.mt_server.specs.Guarantees.{Worked}
use Rattle.mt_server.specs.Statuses.{ByBytes, ByDisk, BySpawner, IsBegun, IsOfSession, StaysOpen, is_ended, most_messages}
use Rattle.mt_server.specs.declared.status.Status.TheVariants as status
use Rattle.mt_server.proofs.Draining.{fault_by}
use Rattle.mt_server.proofs.Later.{served_later}

end_is : (end : ConnectionEnd) → is_ended end ≡ true → end ≡ ended.Ended
end_is ended.Ended is = refl
end_is end is = absurd (cc)

pub worked_served : (s : Setting) (since : ℕ → Files → Type 0) (old : Sides) (end : ConnectionEnd) (new : Sides) → is_ended end ≡ false → Served s since most_messages old end new → Worked s since old (status.Session end) new
worked_served s since old ended.Ended new never x = absurd (cc)
worked_served s since old ended.Many new never x = x
worked_served s since old ended.Truncated new never x = x
worked_served s since old ended.Refused new never x = x
worked_served s since old ended.SourceFault new never x = x
worked_served s since old ended.SinkFault new never x = x
worked_served s since old ended.Full new never x = x
worked_served s since old ended.Disk new never x = x
worked_served s since old ended.Memory new never x = x

pub worked_drained : (s : Setting) (past since : ℕ → Files → Type 0) (old mid new : Sides) (end : ConnectionEnd) (last : Turn) → is_ended end ≡ true
    → (s.knows ≡ true → (t : ℕ) (c : Files) → t ≤ mid.time → since t c → past t c ⊎ HasFront s.base c mid.history) → Served s past most_messages old end mid → Drained (working s) most_turns (account_of mid) last (account_of new) → link_of new ≡ link_of mid
    → Worked s since old (status.Drained last) new
worked_drained s past since old mid new end last is goes x d link =
    (mid, served_later s past since mid.time mid.history goes most_messages old ended.Ended mid (omega arith) (all_of mid.history) (subst (λ (e : ConnectionEnd). Served s past most_messages old e mid) (end_is end is) x), d, link)

pub session_begun : (end : ConnectionEnd) → is_ended end ≡ false → IsOfSession (status.Session end) × IsBegun (status.Session end)
session_begun ended.Ended never = absurd (cc)
session_begun end never = (tt, tt)

pub session_open : (end : ConnectionEnd) (closed : Bool) → (end ≢ ended.Disk → end ≢ ended.Memory → closed ≡ false) → StaysOpen (status.Session end) closed
session_open ended.Disk closed live = tt
session_open ended.Memory closed live = tt
session_open ended.Ended closed live = live (λ e. cc) (λ e. cc)
session_open ended.Many closed live = live (λ e. cc) (λ e. cc)
session_open ended.Truncated closed live = live (λ e. cc) (λ e. cc)
session_open ended.Refused closed live = live (λ e. cc) (λ e. cc)
session_open ended.SourceFault closed live = live (λ e. cc) (λ e. cc)
session_open ended.SinkFault closed live = live (λ e. cc) (λ e. cc)
session_open ended.Full closed live = live (λ e. cc) (λ e. cc)

-- an end that is well leaves the engine open
pub ended_is : (end : ConnectionEnd) (closed : Bool) → is_ended end ≡ true → (end ≢ ended.Disk → end ≢ ended.Memory → closed ≡ false) → closed ≡ false
ended_is ended.Ended closed is live = live (λ e. cc) (λ e. cc)
ended_is end closed is live = absurd (cc)

pub drained_open : (last : Turn) (closed : Bool) → GoesOn last closed → StaysOpen (status.Drained last) closed
drained_open turn.Disk closed is = tt
drained_open turn.Memory closed is = tt
drained_open last closed is = is

pub session_bytes : (left : Option Bytes) (end : ConnectionEnd) (last : Turn) → is_ended end ≡ true → IfSome left (λ bytes. ByEnd most_messages bytes end) → IfSome left (λ bytes. ByBytes bytes (status.Drained last))
session_bytes left end last is by = subst (λ (e : ConnectionEnd). IfSome left (λ bytes. ByEnd most_messages bytes e)) (end_is end is) by

pub disk_of_drain : (last : Turn) (d d1 d2 : ℕ) → NeverFell d d1 → (last ≡ turn.Disk → Rose d1 d2) → ByDisk (status.Drained last) d d2
disk_of_drain turn.Disk d d1 d2 fell rose = let now = rose refl in omega (arith, fell, now)
disk_of_drain last d d1 d2 fell rose = tt

pub spawner_of_drain : (w : Working) (most before : ℕ) (old : AccountSide) (last : Turn) (new : AccountSide) → NeverFell before old.tasks.faults → Drained w most old last new → BySpawner (status.Drained last) before new.tasks.faults
spawner_of_drain w most before old turn.SpawnFault new fell d = let now = fault_by w most old turn.SpawnFault new refl d in omega (arith, fell, now)
spawner_of_drain w most before old last new fell d = tt
