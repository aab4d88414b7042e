-- A session in the setting and over the account at entry.
use Rattle.std.proofs.Common.{◌≡◌, ◌≤◌, ℕ, true, arith}
use Rattle.mt_base.specs.Counts.{NeverFell}
use Rattle.mt_disk.specs.Files.{Files}
use Rattle.mt_opening.specs.Current.{IsBetween}
use Rattle.mt_opening.specs.History.{History}
use Rattle.mt_runner.specs.Account.{Tasks, account_side}
use Rattle.mt_runner.specs.Turning.{MayTurn, TurnTaken}
use Rattle.mt_connection.specs.Endings.{Served}
use Rattle.mt_connection.specs.Sides.{LinkSide, Sides, account_of, joined, link_of}
use Rattle.mt_connection.specs.Transcript.{Setting, working}
use Rattle.mt_connection.specs.declared.end.ConnectionEnd.{ConnectionEnd}
use Rattle.mt_connection.specs.declared.end.ConnectionEnd.TheVariants as ended
use Rattle.mt_connection.proofs.Runs.{no_count_fell}
use Rattle.mt_connection.proofs.Standing.{stand_from}
use Rattle.mt_server.specs.Guarantees.{HasRun, HasSize, Holds, IsDurable, IsStopped, Leaves, Scene, Session, Unserved, Worked, account_scene}
use Rattle.mt_server.specs.Statuses.{IsUnopened}
use Rattle.mt_server.specs.declared.status.Status.{Status}
use Rattle.mt_server.specs.declared.status.Status.TheVariants as status
use Rattle.mt_server.proofs.Connecting.{IsStood, holds, stopped_counts, worked_counts, worked_gains}
use Rattle.mt_server.proofs.Gains.{gained_more, gained_none}

-- one connection that began earlier, over a disk that had counted no more faults
served_earlier : (s : Setting) (since : ℕ → Files → Type 0) (most : ℕ) (link : LinkSide) (h : History) (used d d0 t t0 asked : ℕ) (tasks : Tasks) (end : ConnectionEnd) (new : Sides) → NeverFell d0 d → t0 ≤ t
    → Served s since most (joined link (account_side h used d t asked tasks)) end new → Served s since most (joined link (account_side h used d0 t0 asked tasks)) end new
served_earlier s since most link h used d d0 t t0 asked tasks end new fewer early x =
    let counts = x.ran.counts in
    record {
      exchanges = x.exchanges;
      middle = x.middle;
      ran = record {
        run = x.ran.run;
        history = x.ran.history;
        used = x.ran.used;
        asked = x.ran.asked;
        source = x.ran.source;
        sink = x.ran.sink;
        missed = x.ran.missed;
        company = x.ran.company;
        counts = record {
          read = counts.read;
          write = counts.write;
          account = record {
            disk = let a = counts.account.disk in omega (arith, a, fewer);
            time = let a = counts.account.time in omega (arith, a, early);
            asked = counts.account.asked;
            spawn = counts.account.spawn;
            waits = counts.account.waits;
            company = counts.account.company;
          };
        };
      };
      stand = stand_from s since h t0 t x.exchanges x.middle.time early x.stand;
      counts = x.counts;
      ends = x.ends;
      by_bytes = x.by_bytes;
    }

module _ (s : Setting) (since : ℕ → Files → Type 0) (link : LinkSide) (h : History) (used d d0 t t0 asked : ℕ) (tasks : Tasks) (new : Sides) (fewer : NeverFell d0 d) (early : t0 ≤ t) where
  abbrev late : Sides
  late = joined link (account_side h used d t asked tasks)

  abbrev first : Sides
  first = joined link (account_side h used d0 t0 asked tasks)

  -- and so one that was drained
  pub worked_earlier : (end : Status) → Worked s since late end new → Worked s since first end new
  worked_earlier (status.Session ended.Ended) w = absurd w
  worked_earlier (status.Session ended.Many) w = served_earlier s since _ link h used d d0 t t0 asked tasks ended.Many new fewer early w
  worked_earlier (status.Session ended.Truncated) w = served_earlier s since _ link h used d d0 t t0 asked tasks ended.Truncated new fewer early w
  worked_earlier (status.Session ended.Refused) w = served_earlier s since _ link h used d d0 t t0 asked tasks ended.Refused new fewer early w
  worked_earlier (status.Session ended.SourceFault) w = served_earlier s since _ link h used d d0 t t0 asked tasks ended.SourceFault new fewer early w
  worked_earlier (status.Session ended.SinkFault) w = served_earlier s since _ link h used d d0 t t0 asked tasks ended.SinkFault new fewer early w
  worked_earlier (status.Session ended.Full) w = served_earlier s since _ link h used d d0 t t0 asked tasks ended.Full new fewer early w
  worked_earlier (status.Session ended.Disk) w = served_earlier s since _ link h used d d0 t t0 asked tasks ended.Disk new fewer early w
  worked_earlier (status.Session ended.Memory) w = served_earlier s since _ link h used d d0 t t0 asked tasks ended.Memory new fewer early w
  worked_earlier (status.Drained last) w = (w.0, served_earlier s since _ link h used d d0 t t0 asked tasks ended.Ended w.0 fewer early w.1, w.2, w.3)
  worked_earlier status.Usage w = absurd w
  worked_earlier (status.UnreadableLog why) w = absurd w
  worked_earlier status.OpeningFault w = absurd w
  worked_earlier status.OutOfMemory w = absurd w
  worked_earlier (status.Serve end) w = absurd w

-- a session whose connection was served, and whose children were ended
session_of : (s : Setting) (since : ℕ → Files → Type 0) (old worked : Sides) (end : Status) (new : Sides) → Worked s since old end worked → link_of new ≡ link_of worked → IsStopped (account_of worked) (account_of new) → Session s since old end new
session_of s since old worked (status.Session end) new w link stopped = (worked, w, link, stopped)
session_of s since old worked (status.Drained last) new w link stopped = (worked, w, link, stopped)
session_of s since old worked status.Usage new w link stopped = absurd w
session_of s since old worked (status.UnreadableLog why) new w link stopped = absurd w
session_of s since old worked status.OpeningFault new w link stopped = absurd w
session_of s since old worked status.OutOfMemory new w link stopped = absurd w
session_of s since old worked (status.Serve end) new w link stopped = absurd w

-- what such a session leaves
pub has_run : (s : Setting) → ((h : History) (used asked : ℕ) (t : TurnTaken) → s.turned h used asked t → MayTurn (working s) h used asked t) → (old : Scene Sides) (worked : Sides) (end : Status) (new : Scene Sides) → Worked s new.since old.side end worked
    → link_of new.side ≡ link_of worked → IsStopped (account_of worked) (account_of new.side) → (s.knows ≡ true → IsStood s.base old.side.history) → (s.knows ≡ true → (c : Files) → new.images c → IsDurable end s.base new.side.history c)
    → (s.knows ≡ true → HasSize end new.side.used new.size) → (s.knows ≡ true → Leaves old.since new.since old.side.time new.side.time (IsBetween s.base old.side.history new.side.history)) → HasRun s old end new
has_run s turns old worked end new w link stopped stood durable sized crash =
    let fell = stopped_counts (account_of worked) (account_of new.side) stopped in
    record {
      transcript = session_of s new.since old.side worked end new.side w link stopped;
      holds = holds s (account_scene old) end (account_scene new) stood
          (gained_more s (account_of old.side) (account_of worked) (account_of new.side) (worked_gains s new.since old.side worked turns end w) (gained_none s (account_of worked) (account_of new.side) stopped.history fell)) durable sized crash
          (no_count_fell (account_of old.side) (account_of worked) (account_of new.side) (worked_counts s new.since old.side worked end w) fell);
    }

-- a session whose store was not opened
pub unserved_run : (s : Setting) (old new : Scene Sides) (end : Status) → IsUnopened end → Unserved end old.side new.side → Holds s (account_scene old) end (account_scene new) → HasRun s old end new
unserved_run s old new (status.UnreadableLog why) is ends left = record { transcript = ends; holds = left }
unserved_run s old new status.OpeningFault is ends left = record { transcript = ends; holds = left }
unserved_run s old new status.OutOfMemory is ends left = record { transcript = ends; holds = left }
unserved_run s old new status.Usage is ends left = absurd ends.ends
unserved_run s old new (status.Session end) is ends left = absurd is
unserved_run s old new (status.Drained last) is ends left = absurd is
unserved_run s old new (status.Serve end) is ends left = absurd is
