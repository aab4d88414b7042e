-- A serve that began before its store was opened, and one whose store was not opened.
use Rattle.std.proofs.Common.{◌≡◌, ℕ, List, [], ◌∷◌, Option, true, refl, sym, subst}
use Rattle.mt_disk.specs.Files.{Files}
use Rattle.mt_opening.specs.Current.{IsBetween}
use Rattle.mt_opening.specs.History.{Bytes, History}
use Rattle.mt_opening.specs.declared.opening.Unreadable.{Unreadable}
use Rattle.mt_runner.specs.Account.{AccountSide, NoCountFell}
use Rattle.mt_runner.specs.Turning.{MayTurn, TurnTaken}
use Rattle.mt_connection.specs.Sides.{LinkSide, joined}
use Rattle.mt_connection.specs.Transcript.{Setting, working}
use Rattle.mt_connection.proofs.Runs.{no_count_fell, no_count_fell_self}
use Rattle.mt_server.specs.Guarantees.{HasServed, HasSize, Holds, IsDurable, IsOpened, IsStopped, Leaves, Scene, Shop, Visited, shop_scene}
use Rattle.mt_server.specs.Lines.{SaysLine, line_of}
use Rattle.mt_server.specs.Events.{DrainsBehind, Event, Events, Had, IsEnd, Passed, Woke, on_link}
use Rattle.mt_server.specs.Statuses.{ByDisk, ByDoor, IsBegun, IsOfServe, IsSilent, IsUnopened, NotOpened, most_messages}
use Rattle.mt_server.specs.declared.status.ServeEnd.{ServeEnd}
use Rattle.mt_server.specs.declared.status.Status.{Status}
use Rattle.mt_server.specs.declared.status.Status.TheVariants as status
use Rattle.mt_server.proofs.Connecting.{IsStood, holds, served_counts, stopped_counts}
use Rattle.mt_server.proofs.Draining.{behind_counts}
use Rattle.mt_server.proofs.Following.{whole_rounds}
use Rattle.mt_server.proofs.Gains.{event_gains, gained_more, gained_none}

module _ {L : Type 0} (side : L → LinkSide) (stays : L → L → Type 0) where
  events_counts : (s : Setting) (since : ℕ → Files → Type 0) (old : AccountSide) (es : List (Event L)) (new : AccountSide) → Events (Visited side stays s since) (DrainsBehind s) old es new → NoCountFell old new
  events_counts s since old [] new led = subst (λ (x : AccountSide). NoCountFell old x) (sym led) (no_count_fell_self old)
  events_counts s since old (Woke last ∷ es) new led = let e : Event L = Woke last in no_count_fell old led.0 new (behind_counts s e old led.0 led.1) (events_counts s since led.0 es new led.3)
  events_counts s since old (Had x ∷ es) new led =
      no_count_fell old led.0 new (served_counts (on_link s (side x.taken)) since most_messages (joined (side x.taken) old) x.end (joined (side x.given) led.0) led.2.0)
      (no_count_fell led.0 led.1 new (behind_counts s (Had x) led.0 led.1 led.3) (events_counts s since led.1 es new led.5))

  -- a store that was opened, events that came, and children that were ended
  pub has_served : (s : Setting) → ((h : History) (used asked : ℕ) (t : TurnTaken) → s.turned h used asked t → MayTurn (working s) h used asked t) → (wanted : ℕ) (old : Scene (Shop L)) (opened : AccountSide) (events : List (Event L)) (worked : AccountSide) (end : ServeEnd)
      (new : Scene (Shop L)) → IsOpened old.side.account opened → Events (Visited side stays s new.since) (DrainsBehind s) opened events worked → IsStopped worked new.side.account → IsEnd wanted end events old.side.door new.side.door → Passed old.side.door events new.side.door
      → (s.knows ≡ true → IsStood s.base old.side.account.history) → (s.knows ≡ true → (c : Files) → new.images c → IsDurable (status.Serve end) s.base new.side.account.history c) → (s.knows ≡ true → HasSize (status.Serve end) new.side.account.used new.size)
      → (s.knows ≡ true → Leaves old.since new.since old.side.account.time new.side.account.time (IsBetween s.base old.side.account.history new.side.account.history)) → HasServed side stays s wanted old (status.Serve end) new
  has_served s turns wanted old opened events worked end new is_opened led stopped ends links stood durable sized crash =
      let fell = stopped_counts worked new.side.account stopped in
      record {
        events = events;
        transcript = (
          record {
            opened = opened;
            is_opened = is_opened;
            worked = worked;
            led = led;
            is_stopped = stopped;
            whole = λ whole. whole_rounds (Visited side stays s new.since) (DrainsBehind s) opened events worked whole led;
          },
          ends,
        );
        links = links;
        holds = holds s (shop_scene old) (status.Serve end) (shop_scene new) stood
            (gained_more s old.side.account opened new.side.account (gained_none s old.side.account opened is_opened.history is_opened.counts)
            (gained_more s opened worked new.side.account (event_gains s turns side stays new.since opened events worked led) (gained_none s worked new.side.account stopped.history fell))) durable sized crash
            (no_count_fell old.side.account opened new.side.account is_opened.counts (no_count_fell opened worked new.side.account (events_counts s new.since opened events worked led) fell));
      }

  -- a serve whose store was not opened
  pub unserved_serve : (s : Setting) (wanted : ℕ) (old new : Scene (Shop L)) (end : Status) → IsUnopened end → IsOfServe end → Passed old.side.door [] new.side.door → new.side.account.history ≡ old.side.account.history → new.side.account.used ≡ old.side.account.used
      → Holds s (shop_scene old) end (shop_scene new) → HasServed side stays s wanted old end new
  unserved_serve s wanted old new (status.UnreadableLog why) is of links history used left = record { events = []; transcript = (refl, history, used); links = links; holds = left }
  unserved_serve s wanted old new status.OpeningFault is of links history used left = record { events = []; transcript = (refl, history, used); links = links; holds = left }
  unserved_serve s wanted old new status.OutOfMemory is of links history used left = record { events = []; transcript = (refl, history, used); links = links; holds = left }
  unserved_serve s wanted old new status.Usage is of links history used left = absurd of
  unserved_serve s wanted old new (status.Session end) is of links history used left = absurd is
  unserved_serve s wanted old new (status.Serve end) is of links history used left = absurd is
  unserved_serve s wanted old new (status.Drained last) is of links history used left = absurd is

-- what the status says where the store was not opened
pub unopened_serve : (end : Status) (got : Option Bytes) (w d : ℕ) (got' : Option Bytes) (w' d' : ℕ) → NotOpened end got w d got' w' d' → IsOfServe end × ByDisk end d d' × ((wanted t f t' f' : ℕ) → ByDoor end wanted t f t' f')
unopened_serve (status.UnreadableLog why) got w d got' w' d' is = (tt, tt, (λ wanted t f t' f'. tt))
unopened_serve status.OpeningFault got w d got' w' d' is = (tt, is.2, (λ wanted t f t' f'. tt))
unopened_serve status.OutOfMemory got w d got' w' d' is = (tt, tt, (λ wanted t f t' f'. tt))
unopened_serve status.Usage got w d got' w' d' is = absurd is
unopened_serve (status.Session end) got w d got' w' d' is = absurd is
unopened_serve (status.Serve end) got w d got' w' d' is = absurd is
unopened_serve (status.Drained last) got w d got' w' d' is = absurd is

pub not_begun : (end : Status) → IsUnopened end → IsBegun end → ⊥
not_begun (status.UnreadableLog why) is begun = begun
not_begun status.OpeningFault is begun = begun
not_begun status.OutOfMemory is begun = begun
not_begun status.Usage is begun = begun
not_begun (status.Session end) is begun = is
not_begun (status.Drained last) is begun = is
not_begun (status.Serve end) is begun = is

-- a status without a line is one of a store that was not opened
pub silent_unopened : (end : Status) → IsSilent end → IsUnopened end
silent_unopened status.OpeningFault is = is
silent_unopened status.OutOfMemory is = is
silent_unopened status.Usage is = absurd is
silent_unopened (status.UnreadableLog why) is = absurd is
silent_unopened (status.Session end) is = is
silent_unopened (status.Drained last) is = is
silent_unopened (status.Serve end) is = is

-- the line of a log that can't be read was said
pub said_why : (end : Status) (got : Option Bytes) (w d : ℕ) (got' : Option Bytes) (w' d' : ℕ) → NotOpened end got w d got' w' d' → (why : Unreadable) → end ≡ status.UnreadableLog why → SaysLine (line_of why) got got' w w'
said_why end got w d got' w' d' not why is = subst (λ (e : Status). NotOpened e got w d got' w' d') is not
