-- What stood at an earlier moment of the disk stands at a later one.
use Rattle.std.proofs.Common.{◌≡◌, ℕ, ◌≤◌, Bool, List, [], ◌∷◌, true, inl, inr, ◌⊎◌, ⊎_elim, ap, sym, subst, arith}
use Rattle.std.specs.List.{flat_map}
use Rattle.mt_base.specs.Lists.{IsPrefixOf}
use Rattle.mt_disk.specs.Files.{Files}
use Rattle.mt_disk.specs.CrashModel.{LeavesOnly}
use Rattle.mt_opening.specs.Current.{HasFront, IsBetween}
use Rattle.mt_opening.specs.History.{Bytes, History}
use Rattle.mt_model.specs.State.{State}
use Rattle.mt_runner.specs.Account.{AccountSide, told_time}
use Rattle.mt_connection.specs.Endings.{Cut, Ends, Halted, Refusing, Served, Settled}
use Rattle.mt_connection.specs.Sides.{LinkSide, Sides, joined}
use Rattle.mt_connection.specs.Transcript.{Exchange, Setting, commands_of}
use Rattle.mt_connection.specs.declared.end.ConnectionEnd.{ConnectionEnd}
use Rattle.mt_connection.specs.declared.end.ConnectionEnd.TheVariants as ended
use Rattle.mt_connection.proofs.Crashes.{front_of_front, not_later}
use Rattle.mt_connection.proofs.Standing.{has_front_of, stands_on}
use Rattle.mt_server.specs.Events.{DrainsBehind, Event, Events, Had, Woke, on_link}
use Rattle.mt_server.specs.Guarantees.{Visited}
use Rattle.mt_server.specs.Statuses.{most_messages}
use Rattle.mt_server.proofs.Draining.{behind_counts, behind_grows, same_front}

-- ---- what an end added

halted_grows : (s : Setting) (since : ℕ → Files → Type 0) (old new : Sides) (Did : AccountSide → AccountSide → Type 0) (h : Halted s since old new Did) → IsPrefixOf h.middle.history new.history → IsPrefixOf old.history new.history
halted_grows s since old new Did h more = front_of_front old.history h.middle.history new.history (flat_map commands_of (h.exchange ∷ []), sym h.answered.history) more

ends_grow : (s : Setting) (since : ℕ → Files → Type 0) (most : ℕ) (xs : List Exchange) (old : Sides) (end : ConnectionEnd) (new : Sides) → Ends s since most xs old end new → IsPrefixOf old.history new.history
ends_grow s since most xs old ended.Ended new e = same_front old.history new.history e.1.history
ends_grow s since most xs old ended.Many new e = same_front old.history new.history e.3.history
ends_grow s since most xs old ended.Truncated new e = same_front old.history new.history e.1.0.history
ends_grow s since most xs old ended.Refused new e = same_front old.history new.history e.1.0.history
ends_grow s since most xs old ended.SourceFault new e = same_front old.history new.history e.1.0.history
ends_grow s since most xs old ended.SinkFault new e =
    elim e.1 [ inl (inl cut) ↦ (cut.0.answer.added, sym cut.0.history) | inl (inr early) ↦ same_front old.history new.history early.0.history | inr refusing ↦ same_front old.history new.history refusing.history ]
ends_grow s since most xs old ended.Full new e = halted_grows s since old new _ e.1 (same_front e.1.middle.history new.history e.1.did.unmoved.history)
ends_grow s since most xs old ended.Disk new e =
    elim e.1 [
      | inl (inl cut) ↦ (cut.answer.added, sym cut.history)
      | inl (inr none) ↦ same_front old.history new.history none.history
      | inr halted ↦ halted_grows s since old new _ halted (halted.did.last, sym halted.did.history)
    ]
ends_grow s since most xs old ended.Memory new e =
    elim e.1 [
      | inl (inl cut) ↦ (cut.answer.added, sym cut.history)
      | inl (inr none) ↦ same_front old.history new.history none.history
      | inr halted ↦ halted_grows s since old new _ halted (same_front halted.middle.history new.history halted.did.history)
    ]

-- a connection goes on from the history that it began with
pub served_grows : (s : Setting) (since : ℕ → Files → Type 0) (most : ℕ) (old : Sides) (end : ConnectionEnd) (new : Sides) → Served s since most old end new → IsPrefixOf old.history new.history
served_grows s since most old end new x =
    front_of_front old.history x.middle.history new.history (flat_map commands_of x.exchanges, sym x.ran.history) (ends_grow s since most x.exchanges x.middle end new x.ends)

pub served_time : (s : Setting) (since : ℕ → Files → Type 0) (most : ℕ) (old : Sides) (end : ConnectionEnd) (new : Sides) → Served s since most old end new → old.time ≤ new.time
served_time s since most old end new x = let a = x.ran.counts.account.time in let b = x.counts.account.time in omega (arith, a, b)

-- ---- what stood then, where images since are those of before or have all of this history

module _ (s : Setting) (past since : ℕ → Files → Type 0) (now : ℕ) (all : History) (goes : s.knows ≡ true → (t : ℕ) (c : Files) → t ≤ now → since t c → past t c ⊎ HasFront s.base c all) where
  settled_later : (old new : Sides) (written : Bytes) (h : History) → new.time ≤ now → IsPrefixOf h all → Settled s past old new written h → Settled s since old new written h
  settled_later old new written h there front x = record {
    settled = x.settled;
    from = x.from;
    to = x.to;
    holds = λ knows some c is. ⊎_elim (λ was. x.holds knows some c was) (λ has. has_front_of s.base c h all front has) (goes knows x.settled c (let a = x.to in omega (arith, a, there)) is);
  }

  abbrev cut_later : (old new : Sides) → new.time ≤ now → IsPrefixOf new.history all → Cut s past old new → Cut s since old new
  cut_later old new there front x = record {
    read = x.read;
    head = x.head;
    body = x.body;
    moment = x.moment;
    answer = x.answer;
    written = x.written;
    is_read = x.is_read;
    source = x.source;
    given = x.given;
    answered = x.answered;
    front = x.front;
    sink = x.sink;
    history = x.history;
    stands = settled_later old new x.written new.history there front x.stands;
  }

  abbrev refusing_later : (old new : Sides) → new.time ≤ now → IsPrefixOf new.history all → Refusing s past old new → Refusing s since old new
  refusing_later old new there front x = record {
    place = x.place;
    code = x.code;
    count = x.count;
    moment = x.moment;
    sent = x.sent;
    written = x.written;
    here = x.here;
    why = x.why;
    position = x.position;
    given = x.given;
    before = x.before;
    front = x.front;
    sink = x.sink;
    history = x.history;
    stands = settled_later old new x.written old.history there (subst (λ (h : History). IsPrefixOf h all) x.history front) x.stands;
    pieces = x.pieces;
  }

  -- a message whose turn ended the connection, where it led on from its history
  abbrev halted_later : (Did : AccountSide → AccountSide → Type 0) (old new : Sides) (h : Halted s past old new Did) → h.middle.time ≤ new.time → IsPrefixOf h.middle.history new.history → new.time ≤ now → IsPrefixOf new.history all → Halted s since old new Did
  halted_later Did old new h early grew there front = record {
    exchange = h.exchange;
    middle = h.middle;
    answered = h.answered;
    stand = stands_on s past since now all goes old.history old.time (h.exchange ∷ []) h.middle.time (omega (arith, early, there))
        (subst (λ (k : History). IsPrefixOf k all) h.answered.history (front_of_front h.middle.history new.history all grew front)) h.stand;
    did = h.did;
    link = h.link;
  }

  ends_later : (most : ℕ) (xs : List Exchange) (old : Sides) (end : ConnectionEnd) (new : Sides) → new.time ≤ now → IsPrefixOf new.history all → Ends s past most xs old end new → Ends s since most xs old end new
  ends_later most xs old ended.Ended new there front e = e
  ends_later most xs old ended.Many new there front e = e
  ends_later most xs old ended.Truncated new there front e = e
  ends_later most xs old ended.Refused new there front e = (e.0, (refusing_later old new there front e.1.0, e.1.1))
  ends_later most xs old ended.SourceFault new there front e = e
  ends_later most xs old ended.SinkFault new there front e = (
    e.0,
    elim e.1 [ inl (inl cut) ↦ inl (inl (cut_later old new there front cut.0, cut.1)) | inl (inr early) ↦ inl (inr early) | inr refusing ↦ inr (refusing_later old new there front refusing) ],
    e.2,
  )
  ends_later most xs old ended.Full new there front e =
      let h = e.1 in
      let counts = h.did.unmoved.counts in
      (e.0, halted_later _ old new h counts.time (same_front h.middle.history new.history h.did.unmoved.history) there front)
  ends_later most xs old ended.Disk new there front e = (
    e.0,
    elim e.1 [
      | inl (inl cut) ↦ inl (inl (cut_later old new there front cut))
      | inl (inr none) ↦ inl (inr none)
      | inr halted ↦ inr (halted_later _ old new halted halted.did.counts.time (halted.did.last, sym halted.did.history) there front)
    ],
    e.2,
  )
  ends_later most xs old ended.Memory new there front e = (
    e.0,
    elim e.1 [
      | inl (inl cut) ↦ inl (inl (cut_later old new there front cut))
      | inl (inr none) ↦ inl (inr none)
      | inr halted ↦ inr (halted_later _ old new halted halted.did.counts.time (same_front halted.middle.history new.history halted.did.history) there front)
    ],
  )

  -- one connection
  pub served_later : (most : ℕ) (old : Sides) (end : ConnectionEnd) (new : Sides) → new.time ≤ now → IsPrefixOf new.history all → Served s past most old end new → Served s since most old end new
  served_later most old end new there front x =
      let middle : IsPrefixOf x.middle.history all = front_of_front x.middle.history new.history all (ends_grow s past most x.exchanges x.middle end new x.ends) front in
      record {
        exchanges = x.exchanges;
        middle = x.middle;
        ran = x.ran;
        stand = stands_on s past since now all goes old.history old.time x.exchanges x.middle.time (let a = x.counts.account.time in omega (arith, a, there)) (subst (λ (h : History). IsPrefixOf h all) x.ran.history middle) x.stand;
        counts = x.counts;
        ends = ends_later most x.exchanges x.middle end new there front x.ends;
        by_bytes = x.by_bytes;
      }

-- ---- events

module _ {L : Type 0} (side : L → LinkSide) (stays : L → L → Type 0) (s : Setting) (past since : ℕ → Files → Type 0) (now : ℕ) (all : History)
    (goes : s.knows ≡ true → (t : ℕ) (c : Files) → t ≤ now → since t c → past t c ⊎ HasFront s.base c all) where
  pub events_later : (old : AccountSide) (es : List (Event L)) (new : AccountSide) → new.time ≤ now → IsPrefixOf new.history all → Events (Visited side stays s past) (DrainsBehind s) old es new
      → (old.time ≤ new.time) × IsPrefixOf old.history new.history × Events (Visited side stays s since) (DrainsBehind s) old es new
  events_later old [] new there front led = ((let a = ap (λ (x : AccountSide). x.time) led in omega (arith, a)), same_front old.history new.history (ap (λ (x : AccountSide). x.history) led), led)
  events_later old (Woke last ∷ es) new there front led =
      let rest = events_later led.0 es new there front led.3 in
      let e : Event L = Woke last in
      let counts = behind_counts s e old led.0 led.1 in
      let time = counts.time in
      ((let a = rest.0 in omega (arith, a, time)), front_of_front old.history led.0.history new.history (behind_grows s e old led.0 led.1) rest.1, (led.0, led.1, led.2, rest.2))
  events_later old (Had x ∷ es) new there front led =
      let rest = events_later led.1 es new there front led.5 in
      let counts = behind_counts s (Had x) led.0 led.1 led.3 in
      let time = counts.time in
      let before = served_time (on_link s (side x.taken)) past most_messages (joined (side x.taken) old) x.end (joined (side x.given) led.0) led.2.0 in
      let behind = front_of_front led.0.history led.1.history new.history (behind_grows s (Had x) led.0 led.1 led.3) rest.1 in
      let grew = served_grows (on_link s (side x.taken)) past most_messages (joined (side x.taken) old) x.end (joined (side x.given) led.0) led.2.0 in
      let early : led.0.time ≤ now = let a = rest.0 in omega (arith, a, time, there) in (
        (let a = rest.0 in omega (arith, a, time, before)),
        front_of_front old.history led.0.history new.history grew behind,
        (
          led.0,
          led.1,
          (served_later (on_link s (side x.taken)) past since now all goes most_messages (joined (side x.taken) old) x.end (joined (side x.given) led.0) early (front_of_front led.0.history new.history all behind front) led.2.0, led.2.1),
          led.3,
          led.4,
          rest.2,
        ),
      )

-- images of a later moment are those of before, or have the history of then
pub goes_by : {D : Type 0} (moment : D → ℕ) (left_since : D → ℕ → Files → Type 0) (mid new : D) (base : State Bytes) (m k : History) (knows : Bool) → (knows ≡ true → LeavesOnly moment left_since mid new (IsBetween base m k))
    → knows ≡ true → (t : ℕ) (c : Files) → t ≤ told_time knows (moment mid) → left_since new t c → left_since mid t c ⊎ HasFront base c m
goes_by moment left_since mid new base m k knows run is t c le left =
    ⊎_elim (λ was. inl was) (λ (b : IsBetween base m k c). inr (record { history = b.history; has = b.has; is_front = b.from })) ((run is).before t c (let a = not_later knows (moment mid) in omega (arith, le, a)) left)
