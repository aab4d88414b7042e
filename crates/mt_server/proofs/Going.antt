-- Events so far, and one more, or the end.
use Rattle.std.proofs.Common.{◌≡◌, ◌≢◌, ℕ, ◌+◌, ◌≤◌, List, [], ◌∷◌, ◌++◌, length, Bool, true, false, ◌||◌, ◌⊎◌, refl, ap, sym, subst, ◌∙◌, append-nil, length-append, arith}
use Rattle.std.specs.Prelude.{Option, None, Some, is_some}
use Rattle.std.specs.Option.{option_and_then, option_or}
use Rattle.std.proofs.lemmas.List.Folds.{list_any-append}
use Rattle.mt_disk.specs.Files.{Files}
use Rattle.mt_edge.specs.Doors.{as_count}
use Rattle.mt_opening.specs.Current.{HasFront}
use Rattle.mt_opening.specs.History.{HasHistory}
use Rattle.mt_runner.specs.Account.{AccountSide}
use Rattle.mt_runner.specs.declared.turn.Turn.{Turn}
use Rattle.mt_runner.specs.declared.turn.Turn.TheVariants as turn
use Rattle.mt_connection.specs.Sides.{LinkSide}
use Rattle.mt_connection.specs.Transcript.{Setting}
use Rattle.mt_connection.specs.declared.end.ConnectionEnd.{ConnectionEnd}
use Rattle.mt_connection.specs.declared.end.ConnectionEnd.TheVariants as ended
use Rattle.mt_connection.proofs.Crashes.{all_of}
use Rattle.mt_server.specs.Events.{AllServed, DoorSide, DrainsBehind, EndsBy, Event, Events, GoesOn, Had, IsEnd, Passed, Woke, broken, drain_breaks, drain_of, end_breaks, fatal, firsts, last_drain, lasts, turns_in}
use Rattle.mt_server.specs.Guarantees.{IsDurable, Shop, Visited}
use Rattle.mt_server.specs.Statuses.{ByDoor, BySpawner}
use Rattle.mt_server.specs.Visiting.{ServesLinks, served_by}
use Rattle.mt_server.specs.declared.status.ServeEnd.{ServeEnd}
use Rattle.mt_server.specs.declared.status.ServeEnd.TheVariants as serving
use Rattle.mt_server.specs.declared.status.Status.TheVariants as status
use Rattle.mt_server.proofs.Following.{events_more, firsts_more, lasts_more, passed_more, passed_nothing, turns_more}
use Rattle.mt_server.proofs.Later.{events_later}

-- events so far, none of which broke
pub record Going {L : Type 0} (side : L → LinkSide) (stays : L → L → Type 0) (s : Setting) (since : ℕ → Files → Type 0) (old : Shop L) (events : List (Event L)) (new : Shop L) : Type 0 where
  pub led : Events (Visited side stays s since) (DrainsBehind s) old.account events new.account
  pub links : Passed old.door events new.door
  pub none : GoesOn events

-- images of a later moment are those of before, or have the history of then
abbrev pub Carries : Setting → (past since : ℕ → Files → Type 0) → AccountSide → Type 0
Carries s past since mid = s.knows ≡ true → (t : ℕ) (c : Files) → t ≤ mid.time → since t c → past t c ⊎ HasFront s.base c mid.history

-- so many events, links that were taken, and links that are over
pub record Counted {L : Type 0} (events : List (Event L)) (all taken over : ℕ) : Type 0 where
  pub all_is : length events ≡ all
  pub firsts_is : firsts (turns_in events) ≡ taken
  pub lasts_is : lasts (turns_in events) ≡ over

pub counted_more : {L : Type 0} (xs : List (Event L)) (e : Event L) (first last : Bool) (n t o t' o' : ℕ) → Counted xs n t o → firsts (turns_in (e ∷ [])) ≡ as_count first → lasts (turns_in (e ∷ [])) ≡ as_count last
    → t' ≡ t + as_count first → o' ≡ o + as_count last → Counted (xs ++ e ∷ []) (n + 1) t' o'
counted_more xs e first last n t o t' o' h is_first is_over taken_is over_is = record {
  all_is = length-append xs (e ∷ []) ∙ ap (λ n. n + 1) h.all_is;
  firsts_is = let more = ap firsts (turns_more xs (e ∷ [])) ∙ firsts_more (turns_in xs) (turns_in (e ∷ [])) in omega (arith, more, is_first, taken_is, h.firsts_is);
  lasts_is = let more = ap lasts (turns_more xs (e ∷ [])) ∙ lasts_more (turns_in xs) (turns_in (e ∷ [])) in omega (arith, more, is_over, over_is, h.lasts_is);
}

none_more : {L : Type 0} (xs : List (Event L)) (e : Event L) → GoesOn xs → fatal e ≡ false → GoesOn (xs ++ e ∷ [])
none_more xs e none is = list_any-append fatal xs (e ∷ []) ∙ (ap (λ (b : Bool). b || (fatal e || false)) none ∙ ap (λ (b : Bool). false || (b || false)) is)

-- the drain behind the last of these events
pub last_is : {L : Type 0} (xs : List (Event L)) (e : Event L) → last_drain (xs ++ e ∷ []) ≡ drain_of e
last_is [] e = refl
last_is (x ∷ []) e = refl
last_is (x ∷ y ∷ xs) e = last_is (y ∷ xs) e

-- all links were served, and this is the answer of the last drain
pub served_ends : {L : Type 0} (wanted : ℕ) (events : List (Event L)) (last : Turn) (old new : DoorSide L) → AllServed wanted events → last_drain events ≡ Some last → drain_breaks last ≡ None → IsEnd wanted (served_by last) events old new
served_ends wanted events turn.Idle old new all is none = (all, is)
served_ends wanted events turn.SpawnFault old new all is none = (all, is)
served_ends wanted events turn.NotYet old new all is none = (all, (turn.NotYet, is, refl))
served_ends wanted events (turn.Closed job) old new all is none = (all, (turn.Closed job, is, refl))
served_ends wanted events (turn.Committed task) old new all is none = (all, (turn.Committed task, is, refl))
served_ends wanted events turn.Full old new all is none = absurd (cc)
served_ends wanted events turn.Disk old new all is none = absurd (cc)
served_ends wanted events turn.Memory old new all is none = absurd (cc)

-- and the disk did not fail
pub no_link_no_disk : serving.NoLink ≢ serving.Disk
no_link_no_disk e = cc

pub spent_no_disk : serving.Spent ≢ serving.Disk
spent_no_disk e = cc

pub no_disk : (last : Turn) → served_by last ≢ serving.Disk
no_disk turn.Idle e = cc
no_disk turn.SpawnFault e = cc
no_disk last e = cc

-- an event breaks a serve in three ways
abbrev IsBreak : ServeEnd → Type 0
IsBreak serving.LogFull = Unit {0}
IsBreak serving.Disk = Unit {0}
IsBreak serving.Memory = Unit {0}
IsBreak _ = ⊥

ends_by : {L : Type 0} (end : ServeEnd) → IsBreak end → (wanted : ℕ) (events : List (Event L)) (old new : DoorSide L) → EndsBy end events → IsEnd wanted end events old new
ends_by serving.LogFull is wanted events old new ends = ends
ends_by serving.Disk is wanted events old new ends = ends
ends_by serving.Memory is wanted events old new ends = ends
ends_by end is wanted events old new ends = absurd is

pub broke_door : (end : ServeEnd) → IsBreak end → (wanted t f t' f' : ℕ) → ByDoor (status.Serve end) wanted t f t' f'
broke_door serving.LogFull is wanted t f t' f' = tt
broke_door serving.Disk is wanted t f t' f' = tt
broke_door serving.Memory is wanted t f t' f' = tt
broke_door end is wanted t f t' f' = absurd is

pub broke_spawner : (end : ServeEnd) → IsBreak end → (f f' : ℕ) → BySpawner (status.Serve end) f f'
broke_spawner serving.LogFull is f f' = tt
broke_spawner serving.Disk is f f' = tt
broke_spawner serving.Memory is f f' = tt
broke_spawner end is f f' = absurd is

drain_break : (last : Turn) (end : ServeEnd) → drain_breaks last ≡ Some end → IsBreak end
drain_break turn.Full end is = let same : serving.LogFull ≡ end = cc in subst IsBreak same tt
drain_break turn.Disk end is = let same : serving.Disk ≡ end = cc in subst IsBreak same tt
drain_break turn.Memory end is = let same : serving.Memory ≡ end = cc in subst IsBreak same tt
drain_break turn.Idle end is = absurd (cc)
drain_break turn.NotYet end is = absurd (cc)
drain_break turn.SpawnFault end is = absurd (cc)
drain_break (turn.Closed job) end is = absurd (cc)
drain_break (turn.Committed task) end is = absurd (cc)

end_break : (how : ConnectionEnd) (end : ServeEnd) → end_breaks how ≡ Some end → IsBreak end
end_break ended.Full end is = let same : serving.LogFull ≡ end = cc in subst IsBreak same tt
end_break ended.Disk end is = let same : serving.Disk ≡ end = cc in subst IsBreak same tt
end_break ended.Memory end is = let same : serving.Memory ≡ end = cc in subst IsBreak same tt
end_break ended.Ended end is = absurd (cc)
end_break ended.Many end is = absurd (cc)
end_break ended.Truncated end is = absurd (cc)
end_break ended.Refused end is = absurd (cc)
end_break ended.SourceFault end is = absurd (cc)
end_break ended.SinkFault end is = absurd (cc)

-- what breaks an event is one of them
pub break_is : {L : Type 0} (e : Event L) (end : ServeEnd) → broken e ≡ Some end → IsBreak end
break_is (Woke last) end is = drain_break last end is
break_is (Had x) end is = by (end_breaks x.end) refl x.drain is
  where
    by : (first : Option ServeEnd) → end_breaks x.end ≡ first → (drain : Option Turn) → option_or first (option_and_then drain_breaks drain) ≡ Some end → IsBreak end
    by (Some why) made drain is = end_break x.end end (made ∙ is)
    by None made None is = absurd (cc)
    by None made (Some last) is = drain_break last end is

module _ {L : Type 0} (side : L → LinkSide) (stays : L → L → Type 0) (s : Setting) where
  pub going_nothing : (since : ℕ → Files → Type 0) (old : Shop L) → Going side stays s since old [] old
  going_nothing since old = record { led = refl; links = passed_nothing old.door; none = refl }

  -- the events so far, over a disk that went on
  led_later : (past since : ℕ → Files → Type 0) (old : Shop L) (xs : List (Event L)) (mid : Shop L) → Carries s past since mid.account → Going side stays s past old xs mid → Events (Visited side stays s since) (DrainsBehind s) old.account xs mid.account
  led_later past since old xs mid carries so_far =
      (events_later side stays s past since mid.account.time mid.account.history carries old.account xs mid.account (omega arith) (all_of mid.account.history) so_far.led).2

  -- one event more
  led_event : (past since : ℕ → Files → Type 0) (old : Shop L) (xs : List (Event L)) (mid : Shop L) (e : Event L) (new : Shop L) → Carries s past since mid.account → Going side stays s past old xs mid
      → Events (Visited side stays s since) (DrainsBehind s) mid.account (e ∷ []) new.account → Events (Visited side stays s since) (DrainsBehind s) old.account (xs ++ e ∷ []) new.account
  led_event past since old xs mid e new carries so_far did =
      events_more (Visited side stays s since) (DrainsBehind s) old.account xs mid.account (e ∷ []) new.account so_far.none (led_later past since old xs mid carries so_far) did

  -- and it did not break
  pub going_event : (past since : ℕ → Files → Type 0) (old : Shop L) (xs : List (Event L)) (mid : Shop L) (e : Event L) (new : Shop L) → Carries s past since mid.account → Going side stays s past old xs mid → broken e ≡ None
      → Events (Visited side stays s since) (DrainsBehind s) mid.account (e ∷ []) new.account → Passed mid.door (e ∷ []) new.door → Going side stays s since old (xs ++ e ∷ []) new
  going_event past since old xs mid e new carries so_far went did links = record {
    led = led_event past since old xs mid e new carries so_far did;
    links = passed_more old.door xs mid.door (e ∷ []) new.door so_far.links links;
    none = none_more xs e so_far.none (ap is_some went);
  }

  -- the door was asked once more
  pub going_same : (past since : ℕ → Files → Type 0) (old : Shop L) (xs : List (Event L)) (mid new : Shop L) → Carries s past since mid.account → Going side stays s past old xs mid → new.account ≡ mid.account → Passed mid.door [] new.door
      → Going side stays s since old xs new
  going_same past since old xs mid new carries so_far same links = record {
    led = subst (λ (a : AccountSide). Events (Visited side stays s since) (DrainsBehind s) old.account xs a) (sym same) (led_later past since old xs mid carries so_far);
    links = subst (λ (events : List (Event L)). Passed old.door events new.door) (append-nil xs) (passed_more old.door xs mid.door [] new.door so_far.links links);
    none = so_far.none;
  }

  -- no event broke: all of the history is in each image
  pub serves_open : (since : ℕ → Files → Type 0) (images : Files → Type 0) (old new : Shop L) (xs : List (Event L)) (wanted : ℕ) (end : ServeEnd) → Going side stays s since old xs new → IsEnd wanted end xs old.door new.door
      → end ≢ serving.Disk → (s.knows ≡ true → (c : Files) → images c → HasHistory s.base new.account.history c) → ServesLinks side stays s since images wanted old end new
  serves_open since images old new xs wanted end so_far is_end no_disk kept = record {
    events = xs;
    led = so_far.led;
    ends = is_end;
    links = so_far.links;
    durable = λ knows c image. whole end no_disk c (kept knows c image);
  }
    where
      whole : (end : ServeEnd) → end ≢ serving.Disk → (c : Files) → HasHistory s.base new.account.history c → IsDurable (status.Serve end) s.base new.account.history c
      whole serving.Disk never c has = absurd (never refl)
      whole end never c has = has

  -- the last event broke
  pub serves_broke : (past since : ℕ → Files → Type 0) (images : Files → Type 0) (old : Shop L) (xs : List (Event L)) (mid : Shop L) (e : Event L) (end : ServeEnd) (new : Shop L) (wanted : ℕ) → Carries s past since mid.account → Going side stays s past old xs mid
      → broken e ≡ Some end → Events (Visited side stays s since) (DrainsBehind s) mid.account (e ∷ []) new.account → Passed mid.door (e ∷ []) new.door
      → (s.knows ≡ true → (c : Files) → images c → IsDurable (status.Serve end) s.base new.account.history c) → ServesLinks side stays s since images wanted old end new
  serves_broke past since images old xs mid e end new wanted carries so_far broke did links durable = record {
    events = xs ++ e ∷ [];
    led = led_event past since old xs mid e new carries so_far did;
    ends = ends_by end (break_is e end broke) wanted (xs ++ e ∷ []) old.door new.door (xs, e, refl, broke, so_far.none);
    links = passed_more old.door xs mid.door (e ∷ []) new.door so_far.links links;
    durable = durable;
  }
