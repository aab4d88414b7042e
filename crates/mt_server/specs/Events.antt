-- Many connections: the turns of their links, one after another, each of which is taken from a door and given back to it; and the drains
-- behind them.
use Rattle.std.specs.Prelude.{◌≡◌, ℕ, ◌+◌, ◌<◌, Bool, if◌then◌else◌, true, false, List, [], ◌∷◌, ◌++◌, length, map, Option, Some, None, is_some, option_map}
use Rattle.std.specs.List.{list_any}
use Rattle.std.specs.Option.{option_and_then, option_or}
use Rattle.mt_base.specs.Counts.{Rose, NeverFell}
use Rattle.mt_disk.specs.Files.{Files}
use Rattle.mt_edge.specs.Doors.{as_count}
use Rattle.mt_log.specs.LogImage.{log_size, payloads_of}
use Rattle.mt_connection.specs.Sides.{LinkSide}
use Rattle.mt_connection.specs.Transcript.{Setting, working}
use Rattle.mt_connection.specs.declared.end.ConnectionEnd.{ConnectionEnd}
use Rattle.mt_connection.specs.declared.end.ConnectionEnd.TheVariants as ended
use Rattle.mt_runner.specs.Account.{AccountSide}
use Rattle.mt_runner.specs.Turning.{Drained, most_turns}
use Rattle.mt_runner.specs.declared.turn.Turn.{Turn}
use Rattle.mt_runner.specs.declared.turn.Turn.TheVariants as turn
use Rattle.mt_server.specs.declared.status.ServeEnd.{ServeEnd}
use Rattle.mt_server.specs.declared.status.ServeEnd.TheVariants as serving

-- the bytes of the log in these files, its closed gate among them, where the disk tells them
abbrev pub size_of : Option Files → ℕ
size_of None = 0
size_of (Some files) = log_size (payloads_of files)

-- One turn of a link: as it was taken and as it was given back; whether this was its first turn, and whether it is over; how the turn
-- ended; and the answer of the drain behind it, if there was one. A link that is not over may have another turn.
pub record Round (L : Type 0) : Type 0 where
  pub taken : L
  pub given : L
  pub first : Bool
  pub over : Bool
  pub end : ConnectionEnd
  pub drain : Option Turn

-- what came at the door
pub data Event (L : Type 0) : Type 0 where
  -- a link, which had its turn
  Had : (x : Round L) → Event L
  -- no link; the drain behind it ended so
  Woke : (last : Turn) → Event L

-- what ends a serve at once: the end of a turn of a link, or that of a drain
abbrev pub end_breaks : ConnectionEnd → Option ServeEnd
end_breaks ended.Full = Some serving.LogFull
end_breaks ended.Disk = Some serving.Disk
end_breaks ended.Memory = Some serving.Memory
end_breaks _ = None

abbrev pub drain_breaks : Turn → Option ServeEnd
drain_breaks turn.Full = Some serving.LogFull
drain_breaks turn.Disk = Some serving.Disk
drain_breaks turn.Memory = Some serving.Memory
drain_breaks _ = None

module _ {L : Type 0} where
  abbrev pub taken_of : Round L → L
  taken_of x = x.taken

  abbrev pub given_of : Round L → L
  given_of x = x.given

  -- the drain behind an event
  abbrev pub drain_of : Event L → Option Turn
  drain_of (Had x) = x.drain
  drain_of (Woke last) = Some last

  -- how an event ends a serve, if it does
  abbrev pub broken : Event L → Option ServeEnd
  broken (Had x) = option_or (end_breaks x.end) (option_and_then drain_breaks x.drain)
  broken (Woke last) = drain_breaks last

  abbrev pub fatal : Event L → Bool
  fatal e = is_some (broken e)

  -- no event is fatal
  abbrev pub GoesOn : List (Event L) → Type 0
  GoesOn events = list_any fatal events ≡ false

  -- These events lead from one state to another: each turn does `Did`, and what follows it, or a waking, does `Then`. None follows a
  -- fatal one.
  abbrev pub Events : {A : Type 0} → (Did : Round L → A → A → Type 0) → (Then : Event L → A → A → Type 0) → A → List (Event L) → A → Type 0
  Events Did Then old [] new = new ≡ old
  Events {A} Did Then old (Had x ∷ es) new =
      (served : A) × (drained : A) × Did x old served × Then (Had x) served drained × (fatal (Had x) ≡ true → es ≡ []) × Events Did Then drained es new
  Events {A} Did Then old (Woke last ∷ es) new =
      (drained : A) × Then (Woke last) old drained × (fatal (Woke last) ≡ true → es ≡ []) × Events Did Then drained es new

  -- one connection after another, whole
  abbrev pub Rounds : {A : Type 0} → (Did : Round L → A → A → Type 0) → (Then : Event L → A → A → Type 0) → A → List (Round L) → A → Type 0
  Rounds Did Then old [] new = new ≡ old
  Rounds {A} Did Then old (x ∷ xs) new =
      (served : A) × (drained : A) × Did x old served × Then (Had x) served drained × (fatal (Had x) ≡ true → xs ≡ []) × Rounds Did Then drained xs new

  -- the turns
  abbrev pub turns_in : List (Event L) → List (Round L)
  turns_in [] = []
  turns_in (Had x ∷ es) = x ∷ turns_in es
  turns_in (Woke last ∷ es) = turns_in es

  -- each link had one turn, which is its whole connection
  abbrev pub AreWhole : List (Event L) → Type 0
  AreWhole [] = Unit {0}
  AreWhole (Had x ∷ es) = (x.first ≡ true) × (x.over ≡ true) × AreWhole es
  AreWhole (Woke last ∷ es) = ⊥

  -- how many links were taken in these turns, and how many are over
  abbrev pub firsts : List (Round L) → ℕ
  firsts [] = 0
  firsts (x ∷ xs) = as_count x.first + firsts xs

  abbrev pub lasts : List (Round L) → ℕ
  lasts [] = 0
  lasts (x ∷ xs) = as_count x.over + lasts xs

  -- the links of these turns that are over, as they were given back
  abbrev pub over_in : List (Round L) → List L
  over_in [] = []
  over_in (x ∷ xs) = if x.over then x.given ∷ over_in xs else over_in xs

-- nothing follows a turn of a link that broke; a drain any other
abbrev pub DrainsUnless : Setting → Option ServeEnd → Option Turn → AccountSide → AccountSide → Type 0
DrainsUnless s (Some why) drain old new = (drain ≡ None) × (new ≡ old)
DrainsUnless s None drain old new = (last : Turn) × (drain ≡ Some last) × Drained (working s) most_turns old last new

-- a drain follows each waking, and each turn of a link but one that broke
abbrev pub DrainsBehind : {L : Type 0} → Setting → Event L → AccountSide → AccountSide → Type 0
DrainsBehind s (Had x) old new = DrainsUnless s (end_breaks x.end) x.drain old new
DrainsBehind s (Woke last) old new = Drained (working s) most_turns old last new

-- the same setting on this link
abbrev pub on_link : Setting → LinkSide → Setting
on_link s link = record s { hears = is_some link.left }

-- a door at one moment: the links that wait and those that were given back for good, where it tells them, and its counts
pub record DoorSide (L : Type 0) : Type 0 where
  pub waiting : Option (List L)
  pub given_back : Option (List L)
  pub taken : ℕ
  pub over : ℕ
  pub faults : ℕ

abbrev pub door_side : {L : Type 0} → (waiting given_back : Option (List L)) (taken over faults : ℕ) → DoorSide L
door_side waiting given_back taken over faults = record { waiting = waiting; given_back = given_back; taken = taken; over = over; faults = faults }

module _ {L : Type 0} where
  -- The links of these events were taken from the door in turn, and each that is over was given back. Where the door tells the links
  -- that wait, each had one turn.
  pub record Passed (old : DoorSide L) (events : List (Event L)) (new : DoorSide L) : Type 0 where
    pub whole : is_some old.waiting ≡ true → AreWhole events
    pub taken : old.waiting ≡ option_map (λ rest. map taken_of (turns_in events) ++ rest) new.waiting
    pub back : new.given_back ≡ option_map (λ links. links ++ over_in (turns_in events)) old.given_back
    pub count : new.taken ≡ old.taken + firsts (turns_in events)
    pub over : new.over ≡ old.over + lasts (turns_in events)
    pub faults : NeverFell old.faults new.faults

  -- the last event ended the serve so, and none before it was fatal
  abbrev pub EndsBy : ServeEnd → List (Event L) → Type 0
  EndsBy end events = (front : List (Event L)) × (last : Event L) × (events ≡ front ++ last ∷ []) × (broken last ≡ Some end) × GoesOn front

  -- so many links were taken, and all are over
  abbrev pub AllServed : ℕ → List (Event L) → Type 0
  AllServed wanted events = GoesOn events × (firsts (turns_in events) ≡ wanted) × (lasts (turns_in events) ≡ wanted)

  -- the drain behind the last event
  abbrev pub last_drain : List (Event L) → Option Turn
  last_drain [] = None
  last_drain (e ∷ []) = drain_of e
  last_drain (e ∷ f ∷ es) = last_drain (f ∷ es)

-- a drain that may have left something to do: a task still runs, or all its turns are spent
abbrev pub is_pending : Turn → Bool
is_pending (turn.Closed job) = true
is_pending (turn.Committed task) = true
is_pending turn.NotYet = true
is_pending _ = false

-- How events end a serve of so many links: all were served, and this is the answer of the last drain; the door failed before; more
-- events came than are counted; or the last one broke.
abbrev pub IsEnd : {L : Type 0} → ℕ → ServeEnd → List (Event L) → DoorSide L → DoorSide L → Type 0
IsEnd wanted serving.Served events old new = AllServed wanted events × (last_drain events ≡ Some turn.Idle)
IsEnd wanted serving.TasksFailed events old new = AllServed wanted events × (last_drain events ≡ Some turn.SpawnFault)
IsEnd wanted serving.TasksPending events old new = AllServed wanted events × ((last : Turn) × (last_drain events ≡ Some last) × (is_pending last ≡ true))
IsEnd wanted serving.NoLink events old new = GoesOn events × (firsts (turns_in events) < wanted) × Rose old.faults new.faults
IsEnd wanted serving.Spent events old new = GoesOn events × (length events ≡ 18446744073709551615)
IsEnd wanted end events old new = EndsBy end events
