-- The replies of a run, read off its transcript; and that a run is a life.
use Rattle.std.proofs.Common.{inl, inr}
use Rattle.std.specs.Prelude.{◌≡◌, ◌⊎◌, ℕ, ◌+◌, ◌≤◌, true, List, [], ◌∷◌, ◌++◌}
use Rattle.mt_answer.specs.Answer.{Answer}
use Rattle.mt_connection.specs.Endings.{Cut, Ends, Halted, IsCut, IsCutEarly, Refusing, Served, Unanswered}
use Rattle.mt_connection.specs.Sides.{LinkSide, Sides, joined}
use Rattle.mt_connection.specs.Transcript.{Exchange, Setting, commands_of, growth_of}
use Rattle.mt_connection.specs.declared.end.ConnectionEnd.{ConnectionEnd}
use Rattle.mt_connection.specs.declared.end.ConnectionEnd.TheVariants as ended
use Rattle.mt_disk.specs.Files.{Files}
use Rattle.mt_headline.specs.Headline.{Chain, IsLife, Life, Reply}
use Rattle.mt_http.specs.declared.message.Head.{Head}
use Rattle.mt_lives.specs.Lives.{HasWhole}
use Rattle.mt_model.specs.CommandStep.{replay}
use Rattle.mt_model.specs.State.{first_state}
use Rattle.mt_opening.specs.History.{Bytes, HasHistory, History}
use Rattle.mt_runner.specs.Account.{AccountSide}
use Rattle.mt_server.specs.Events.{DrainsBehind, Event, Events, Had, Woke, on_link}
use Rattle.mt_server.specs.Guarantees.{HasRun, HasServed, Scene, Serve, Session, Shop, Visited, Worked}
use Rattle.mt_server.specs.Statuses.{most_messages}
use Rattle.mt_server.specs.declared.status.Status.{Status}
use Rattle.mt_server.specs.declared.status.Status.TheVariants as status
use Rattle.mt_types.specs.declared.task.Raw.{Raw}
use Rattle.mt_types.specs.declared.task.Run.{Run}

-- ---- the replies of a transcript; the history that it begins with comes after an earlier one

abbrev pub reply_over : (earlier : History) (limit : ℕ) → History → ℕ → Head → Bytes → ℕ → Answer Bytes → Reply
reply_over earlier limit h used head body moment answer =
    record { before = earlier ++ h; limit = limit; used = used; head = head; body = body; moment = moment; answer = answer }

-- one of each exchange
abbrev pub replies_of : (earlier : History) (limit : ℕ) → History → ℕ → List Exchange → List Reply
replies_of earlier limit h used [] = []
replies_of earlier limit h used (x ∷ xs) =
    reply_over earlier limit h used x.head x.body x.moment x.answer ∷ replies_of earlier limit (h ++ commands_of x) (used + growth_of x) xs

-- a reply of which these bytes were written
abbrev pub if_written : Bytes → Reply → List Reply
if_written [] r = []
if_written (b ∷ bs) r = r ∷ []

module _ (earlier : History) (s : Setting) (since : ℕ → Files → Type 0) where
  -- one that was cut off
  abbrev pub cut_reply : (old new : Sides) → Cut s since old new → List Reply
  cut_reply old new x = if_written x.written (reply_over earlier s.limit old.history old.used x.head x.body x.moment x.answer)

  -- one that was written whole, before the scheduling step that ended the connection
  abbrev pub halted_reply : (old new : Sides) (Did : AccountSide → AccountSide → Type 0) → Halted s since old new Did → List Reply
  halted_reply old new Did x = replies_of earlier s.limit old.history old.used (x.exchange ∷ [])

  -- the last one, where the output failed
  abbrev pub of_sink : (old new : Sides) → (IsCut s since old new ⊎ IsCutEarly old new) ⊎ Refusing s since old new → List Reply
  of_sink old new (inl (inl x)) = cut_reply old new x.0
  of_sink old new (inl (inr early)) = []
  of_sink old new (inr refused) = []

  -- and where the disk or an allocation did
  abbrev pub of_break : (old new : Sides) (Did : AccountSide → AccountSide → Type 0) → (Cut s since old new ⊎ Unanswered old new) ⊎ Halted s since old new Did → List Reply
  of_break old new Did (inl (inl x)) = cut_reply old new x
  of_break old new Did (inl (inr none)) = []
  of_break old new Did (inr x) = halted_reply old new Did x

  -- the reply that is no exchange, if there is one, by how a connection ended
  abbrev pub last_reply : (most : ℕ) (xs : List Exchange) (old : Sides) (end : ConnectionEnd) (new : Sides) → Ends s since most xs old end new → List Reply
  last_reply most xs old ended.SinkFault new e = of_sink old new e.1
  last_reply most xs old ended.Full new e = halted_reply old new _ e.1
  last_reply most xs old ended.Disk new e = of_break old new _ e.1
  last_reply most xs old ended.Memory new e = of_break old new _ e.1
  last_reply most xs old ended.Ended new e = []
  last_reply most xs old ended.Many new e = []
  last_reply most xs old ended.Truncated new e = []
  last_reply most xs old ended.Refused new e = []
  last_reply most xs old ended.SourceFault new e = []

  -- those of a connection
  abbrev pub replies_of_connection : (most : ℕ) (old : Sides) (end : ConnectionEnd) (new : Sides) → Served s since most old end new → List Reply
  replies_of_connection most old end new x =
      replies_of earlier s.limit old.history old.used x.exchanges ++ last_reply most x.exchanges x.middle end new x.ends

  -- those of a session
  abbrev pub replies_of_worked : (old : Sides) (end : Status) (new : Sides) → Worked s since old end new → List Reply
  replies_of_worked old (status.Session ended.Many) new x = replies_of_connection most_messages old ended.Many new x
  replies_of_worked old (status.Session ended.Truncated) new x = replies_of_connection most_messages old ended.Truncated new x
  replies_of_worked old (status.Session ended.Refused) new x = replies_of_connection most_messages old ended.Refused new x
  replies_of_worked old (status.Session ended.SourceFault) new x = replies_of_connection most_messages old ended.SourceFault new x
  replies_of_worked old (status.Session ended.SinkFault) new x = replies_of_connection most_messages old ended.SinkFault new x
  replies_of_worked old (status.Session ended.Full) new x = replies_of_connection most_messages old ended.Full new x
  replies_of_worked old (status.Session ended.Disk) new x = replies_of_connection most_messages old ended.Disk new x
  replies_of_worked old (status.Session ended.Memory) new x = replies_of_connection most_messages old ended.Memory new x
  replies_of_worked old (status.Drained last) new x = replies_of_connection most_messages old ended.Ended x.0 x.1
  replies_of_worked old _ new x = []

  abbrev pub replies_of_session : (old : Sides) (end : Status) (new : Sides) → Session s since old end new → List Reply
  replies_of_session old (status.Session end) new x = replies_of_worked old (status.Session end) x.0 x.1
  replies_of_session old (status.Drained last) new x = replies_of_worked old (status.Drained last) x.0 x.1
  replies_of_session old _ new x = []

-- those of the connections of a server, time slice by time slice
abbrev pub replies_of_events : (earlier : History) {L : Type 0} (side : L → LinkSide) (stays : L → L → Type 0) (s : Setting) (since : ℕ → Files → Type 0) (old : AccountSide) (events : List (Event L)) (new : AccountSide)
    → Events (Visited side stays s since) (DrainsBehind s) old events new → List Reply
replies_of_events earlier side stays s since old [] new x = []
replies_of_events earlier side stays s since old (Had slice ∷ es) new x =
    replies_of_connection earlier (on_link s (side slice.taken)) since most_messages (joined (side slice.taken) old) slice.end (joined (side slice.given) x.0) x.2.0
    ++ replies_of_events earlier side stays s since x.1 es new x.5
replies_of_events earlier side stays s since old (Woke last ∷ es) new x = replies_of_events earlier side stays s since x.0 es new x.3

abbrev pub replies_of_serve : (earlier : History) {L : Type 0} (side : L → LinkSide) (stays : L → L → Type 0) (s : Setting) (since : ℕ → Files → Type 0) (wanted : ℕ) (old : Shop L) (end : Status) (new : Shop L) (events : List (Event L))
    → Serve side stays s since wanted old end new events → List Reply
replies_of_serve earlier side stays s since wanted old (status.Serve end) new events x = replies_of_events earlier side stays s since x.0.opened events x.0.worked x.0.led
replies_of_serve earlier side stays s since wanted old _ new events x = []

-- ---- a run is a life

-- on a store of this whole history: each crash image at exit ends a life with these replies
abbrev pub LeavesLives : Bytes → (Run → Bytes → Raw → Type 0) → (before : History) → (images : Files → Type 0) → List Reply → Type 0
LeavesLives login gives before images replies =
    (c : Files) → images c → (after : History) × IsLife login gives before (record { replies = replies; after = after; files = c })

-- a crash image at exit is one since each step up to the exit
abbrev pub CountsNow : (time : ℕ) (images : Files → Type 0) (since : ℕ → Files → Type 0) → Type 0
CountsNow time images since = (t : ℕ) (c : Files) → t ≤ time → images c → since t c

-- of a session over a disk that exposes its contents, whose history comes after an earlier one
abbrev pub SessionsAreLives : Type 1
SessionsAreLives = (s : Setting) (earlier : History) → s.knows ≡ true → s.base ≡ replay first_state earlier → (old : Scene Sides) (end : Status) (new : Scene Sides) → CountsNow new.side.time new.images new.since
    → (run : HasRun s old end new) → LeavesLives s.login s.runs (earlier ++ old.side.history) new.images (replies_of_session earlier s new.since old.side end new.side run.transcript)

-- the same of a server
abbrev pub ServesAreLives : Type 0 → Type 1
ServesAreLives L = (side : L → LinkSide) (stays : L → L → Type 0) (s : Setting) (earlier : History) → s.knows ≡ true → s.base ≡ replay first_state earlier
    → (wanted : ℕ) (old : Scene (Shop L)) (end : Status) (new : Scene (Shop L)) → CountsNow new.side.account.time new.images new.since
    → (served : HasServed side stays s wanted old end new)
    → LeavesLives s.login s.runs (earlier ++ old.side.account.history) new.images (replies_of_serve earlier side stays s new.since wanted old.side end new.side served.events served.transcript)

-- one session on a store of this whole history, over files that stand for the base and the history at the start
pub record IsSession (s : Setting) (earlier before : History) (old : Scene Sides) (end : Status) (new : Scene Sides) : Type 0 where
  pub run : HasRun s old end new
  pub lives : LeavesLives s.login s.runs before new.images (replies_of_session earlier s new.since old.side end new.side run.transcript)

-- one server
pub record IsServe {L : Type 0} (side : L → LinkSide) (stays : L → L → Type 0) (s : Setting) (earlier before : History) (wanted : ℕ) (old : Scene (Shop L)) (end : Status) (new : Scene (Shop L)) : Type 0 where
  pub served : HasServed side stays s wanted old end new
  pub lives : LeavesLives s.login s.runs before new.images (replies_of_serve earlier side stays s new.since wanted old.side end new.side served.events served.transcript)

-- ---- chains of runs

-- a run more, on what the run before it left
abbrev pub ChainsGoOn : Bytes → (Run → Bytes → Raw → Type 0) → Type 0
ChainsGoOn login gives = (ls : List Life) (before : History) (l : Life) → Chain login gives [] ls before → IsLife login gives before l → Chain login gives [] (ls ++ l ∷ []) l.after

-- a new store, whose files are empty, has no command
abbrev pub NewStoresAreEmpty : Type 0
NewStoresAreEmpty = HasWhole HasHistory [] (record { head = []; one = []; two = [] })
