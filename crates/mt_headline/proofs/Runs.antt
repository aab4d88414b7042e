-- A run is a life.
use Rattle.std.proofs.Common.{◌≡◌, ◌≢◌, ◌≤◌, ◌⊎◌, inl, inr, ℕ, ◌+◌, Bool, true, false, List, [], ◌∷◌, ◌++◌, Option, Some, refl, sym, ap, ◌∙◌, subst, append_assoc, arith}
use Rattle.std.proofs.lemmas.List.{append_cancel_left}
use Rattle.std.specs.Bool.{MatchBool}
use Rattle.std.specs.List.{AllByRecursion, flat_map}
use Rattle.std.specs.Option.{ForSome}
use Rattle.mt_answer.specs.Answer.{Answer}
use Rattle.mt_answer.specs.Whole.{answer_of}
use Rattle.mt_base.specs.Lists.{IsPrefixOf}
use Rattle.mt_connection.proofs.Crashes.{all_of, front_of_front}
use Rattle.mt_connection.specs.Endings.{Cut, Ends, Halted, IsCut, IsCutEarly, Refusing, Served, Unanswered}
use Rattle.mt_connection.specs.Sides.{LinkSide, Sides, account_of, joined}
use Rattle.mt_connection.specs.Transcript.{Exchange, IsTheAnswer, Run as Runs, Setting, Stand, commands_of, growth_of, still, working}
use Rattle.mt_connection.specs.declared.end.ConnectionEnd.{ConnectionEnd}
use Rattle.mt_connection.specs.declared.end.ConnectionEnd.TheVariants as ended
use Rattle.mt_disk.specs.Files.{Files}
use Rattle.mt_headline.specs.Headline.{Chain, IsLife, IsReplyOf, Life, Reply}
use Rattle.mt_headline.specs.Runs.{ChainsGoOn, CountsNow, IsServe, IsSession, LeavesLives, NewStoresAreEmpty, ServesAreLives, SessionsAreLives, cut_reply, halted_reply, if_written, last_reply, of_break, of_sink, replies_of, replies_of_connection, replies_of_events, replies_of_serve, replies_of_session, replies_of_worked, reply_over}
use Rattle.mt_http.specs.declared.message.Head.{Head}
use Rattle.mt_lives.specs.Lives.{HasWhole}
use Rattle.mt_model.proofs.Replays.{replay_on}
use Rattle.mt_model.proofs.Stood.{short_honest}
use Rattle.mt_model.specs.CommandStep.{replay}
use Rattle.mt_model.specs.Honest.{HonestFrom}
use Rattle.mt_model.specs.State.{State, first_state}
use Rattle.mt_opening.specs.Current.{HasFront}
use Rattle.mt_opening.specs.History.{Bytes, HasHistory, History}
use Rattle.mt_records.specs.Fate.{fate}
use Rattle.mt_runner.specs.Account.{AccountSide, told_time}
use Rattle.mt_server.proofs.Done.{only_files}
use Rattle.mt_server.proofs.Connecting.{history_one}
use Rattle.mt_server.proofs.Draining.{behind_counts, behind_grows, drained_counts}
use Rattle.mt_server.proofs.Later.{served_grows, served_time}
use Rattle.mt_server.specs.Events.{DrainsBehind, Event, Events, Had, Woke, on_link}
use Rattle.mt_server.specs.Guarantees.{HasRun, HasServed, Holds, Scene, Serve, Session, Shop, Visited, Worked, account_scene, shop_scene}
use Rattle.mt_server.specs.Statuses.{most_messages}
use Rattle.mt_server.specs.declared.status.Status.{Status}
use Rattle.mt_server.specs.declared.status.Status.TheVariants as status
use Rattle.mt_runner.specs.Turning.{most_turns}
use Rattle.mt_types.specs.declared.task.Raw.{Raw}
use Rattle.mt_types.specs.declared.task.Run.{Run as TaskRun}

both : {X : Type 0} → (P : X → Type 0) → (xs ys : List X) → AllByRecursion P xs → AllByRecursion P ys → AllByRecursion P (xs ++ ys)
both P [] ys all more = more
both P (x ∷ xs) ys all more = (all.0, both P xs ys all.1 more)

behind : (earlier a b : History) → IsPrefixOf a b → IsPrefixOf (earlier ++ a) (earlier ++ b)
behind earlier a b p = (p.0, append_assoc earlier a p.0 ∙ ap (λ x. earlier ++ x) p.1)

-- ---- one connection, in an image with a history that is one since each step up to now

module _ (s : Setting) (knows : s.knows ≡ true) (earlier : History) (base : s.base ≡ replay first_state earlier) (since : ℕ → Files → Type 0) (now : ℕ) (c : Files) (k : History) (left : (t : ℕ) → t ≤ now → since t c)
    (has : HasHistory s.base k c) where
  abbrev AreReplies : History → List Reply → Type 0
  AreReplies entry rs = AllByRecursion (IsReplyOf s.login s.runs (earlier ++ entry) (earlier ++ k)) rs

  is_reply : (entry h : History) (used : ℕ) (head : Head) (body : Bytes) (moment : ℕ) (answer : Answer Bytes) → IsPrefixOf entry h → IsTheAnswer s h used head body moment answer → HasFront s.base c (h ++ answer.added)
      → IsReplyOf s.login s.runs (earlier ++ entry) (earlier ++ k) (reply_over earlier s.limit h used head body moment answer)
  is_reply entry h used head body moment answer from answered there =
      let is : answer ≡ answer_of s.login s.limit (replay s.base h) used head body moment =
      subst (λ (b : Bool). MatchBool b (answer ≡ answer_of s.login s.limit (replay s.base h) used head body moment) ((answer.added ≡ []) × (answer.grew ≡ 0))) knows answered in
      let state : replay s.base h ≡ replay first_state (earlier ++ h) = ap (λ (b : State Bytes). replay b h) base ∙ sym (replay_on first_state earlier h) in
      let same = history_one s.base there.history k c there.has has in
      record {
        answer = is ∙ ap (λ (t : State Bytes). answer_of s.login s.limit t used head body moment) state;
        from = behind earlier entry h from;
        durable = subst (λ (x : History). IsPrefixOf x (earlier ++ k)) (sym (append_assoc earlier h answer.added)) (behind earlier (h ++ answer.added) k (subst (IsPrefixOf (h ++ answer.added)) same there.is_front));
      }

  stand_time : (h : History) (from : ℕ) (xs : List Exchange) (to : ℕ) → Stand s since h from xs to → from ≤ to
  stand_time h from [] to stand = stand
  stand_time h from (x ∷ xs) to stand = let more = stand_time (h ++ commands_of x) x.settled xs to stand.2 in let first = stand.0 in omega (arith, first, more)

  exchanges_are : (entry h : History) (used asked from to : ℕ) (xs : List Exchange) → IsPrefixOf entry h → to ≤ now → Runs s h used asked xs → Stand s since h from xs to → AreReplies entry (replies_of earlier s.limit h used xs)
  exchanges_are entry h used asked from to [] p late run stand = tt
  exchanges_are entry h used asked from to (x ∷ xs) p late run stand =
      let before = stand_time (h ++ commands_of x) x.settled xs to stand.2 in (
        is_reply entry h used x.head x.body x.moment x.answer p run.0.answered (stand.1 knows c (left x.settled (omega (arith, before, late)))),
        exchanges_are entry (h ++ commands_of x) (used + growth_of x) x.turn.asked x.settled to xs (front_of_front entry h (h ++ commands_of x) p (commands_of x, refl)) late run.2 stand.2,
      )

  cut_is : (entry : History) (old new : Sides) → IsPrefixOf entry old.history → new.time ≤ now → (x : Cut s since old new) → AreReplies entry (cut_reply earlier s since old new x)
  cut_is entry old new p late x = by x.written refl
    where
      by : (w : Bytes) → x.written ≡ w → AreReplies entry (if_written w (reply_over earlier s.limit old.history old.used x.head x.body x.moment x.answer))
      by [] is = tt
      by (b ∷ bs) is =
          let some : x.written ≢ [] = λ none. absurd (cc) in
          let to = x.stands.to in
          let there : HasFront s.base c new.history = x.stands.holds knows some c (left x.stands.settled (omega (arith, to, late))) in
          (is_reply entry old.history old.used x.head x.body x.moment x.answer p x.answered (subst (HasFront s.base c) x.history there), tt)

-- ---- and one whose last message was answered whole

module _ (s : Setting) (knows : s.knows ≡ true) (earlier : History) (base : s.base ≡ replay first_state earlier) (since : ℕ → Files → Type 0) (now : ℕ) (c : Files) (k : History) (left : (t : ℕ) → t ≤ now → since t c)
    (has : HasHistory s.base k c) where
  abbrev Said : History → List Reply → Type 0
  Said entry rs = AllByRecursion (IsReplyOf s.login s.runs (earlier ++ entry) (earlier ++ k)) rs

  halted_is : (entry : History) (old new : Sides) (Did : AccountSide → AccountSide → Type 0) → IsPrefixOf entry old.history → (x : Halted s since old new Did) → x.middle.time ≤ now → Said entry (halted_reply earlier s since old new Did x)
  halted_is entry old new Did p x late =
      exchanges_are (still s) knows earlier base since now c k left has entry old.history old.used old.asked old.time x.middle.time (x.exchange ∷ []) p late x.answered.run x.stand

  break_is : (entry : History) (old new : Sides) (Did : AccountSide → AccountSide → Type 0) → IsPrefixOf entry old.history → new.time ≤ now → ((x : Halted s since old new Did) → x.middle.time ≤ now)
      → (x : (Cut s since old new ⊎ Unanswered old new) ⊎ Halted s since old new Did) → Said entry (of_break earlier s since old new Did x)
  break_is entry old new Did p late before (inl (inl x)) = cut_is s knows earlier base since now c k left has entry old new p late x
  break_is entry old new Did p late before (inl (inr none)) = tt
  break_is entry old new Did p late before (inr x) = halted_is entry old new Did p x (before x)

  ends_are : (entry : History) (most : ℕ) (xs : List Exchange) (old : Sides) (end : ConnectionEnd) (new : Sides) → IsPrefixOf entry old.history → new.time ≤ now → (e : Ends s since most xs old end new)
      → Said entry (last_reply earlier s since most xs old end new e)
  ends_are entry most xs old ended.SinkFault new p late e = by e.1
    where
      by : (x : (IsCut s since old new ⊎ IsCutEarly old new) ⊎ Refusing s since old new) → Said entry (of_sink earlier s since old new x)
      by (inl (inl x)) = cut_is s knows earlier base since now c k left has entry old new p late x.0
      by (inl (inr early)) = tt
      by (inr refused) = tt
  ends_are entry most xs old ended.Full new p late e = let time = e.1.did.unmoved.counts.time in halted_is entry old new _ p e.1 (omega (arith, time, late))
  ends_are entry most xs old ended.Disk new p late e = break_is entry old new _ p late (λ x. let time = x.did.counts.time in omega (arith, time, late)) e.1
  ends_are entry most xs old ended.Memory new p late e = break_is entry old new _ p late (λ x. let time = x.did.counts.time in omega (arith, time, late)) e.1
  ends_are entry most xs old ended.Ended new p late e = tt
  ends_are entry most xs old ended.Many new p late e = tt
  ends_are entry most xs old ended.Truncated new p late e = tt
  ends_are entry most xs old ended.Refused new p late e = tt
  ends_are entry most xs old ended.SourceFault new p late e = tt

  connection_is : (entry : History) (most : ℕ) (old : Sides) (end : ConnectionEnd) (new : Sides) → IsPrefixOf entry old.history → new.time ≤ now → (x : Served s since most old end new)
      → Said entry (replies_of_connection earlier s since most old end new x)
  connection_is entry most old end new p late x =
      let time = x.counts.account.time in
      both (IsReplyOf s.login s.runs (earlier ++ entry) (earlier ++ k)) (replies_of earlier s.limit old.history old.used x.exchanges) (last_reply earlier s since most x.exchanges x.middle end new x.ends)
      (exchanges_are s knows earlier base since now c k left has entry old.history old.used old.asked old.time x.middle.time x.exchanges p (omega (arith, time, late)) x.ran.run x.stand)
      (ends_are entry most x.exchanges x.middle end new (front_of_front entry old.history x.middle.history p (flat_map commands_of x.exchanges, sym x.ran.history)) late x.ends)

  -- ---- a session

  worked_is : (old : Sides) (end : Status) (new : Sides) → new.time ≤ now → (x : Worked s since old end new) → Said old.history (replies_of_worked earlier s since old end new x)
  worked_is old (status.Session ended.Ended) new late x = absurd x
  worked_is old (status.Session ended.Many) new late x = connection_is old.history most_messages old ended.Many new (all_of old.history) late x
  worked_is old (status.Session ended.Truncated) new late x = connection_is old.history most_messages old ended.Truncated new (all_of old.history) late x
  worked_is old (status.Session ended.Refused) new late x = connection_is old.history most_messages old ended.Refused new (all_of old.history) late x
  worked_is old (status.Session ended.SourceFault) new late x = connection_is old.history most_messages old ended.SourceFault new (all_of old.history) late x
  worked_is old (status.Session ended.SinkFault) new late x = connection_is old.history most_messages old ended.SinkFault new (all_of old.history) late x
  worked_is old (status.Session ended.Full) new late x = connection_is old.history most_messages old ended.Full new (all_of old.history) late x
  worked_is old (status.Session ended.Disk) new late x = connection_is old.history most_messages old ended.Disk new (all_of old.history) late x
  worked_is old (status.Session ended.Memory) new late x = connection_is old.history most_messages old ended.Memory new (all_of old.history) late x
  worked_is old (status.Drained last) new late x =
      let time = (drained_counts (working s) most_turns (account_of x.0) last (account_of new) x.2).time in
      connection_is old.history most_messages old ended.Ended x.0 (all_of old.history) (omega (arith, time, late)) x.1
  worked_is old status.Usage new late x = absurd x
  worked_is old (status.UnreadableLog why) new late x = absurd x
  worked_is old status.OpeningFault new late x = absurd x
  worked_is old status.OutOfMemory new late x = absurd x
  worked_is old (status.Serve end) new late x = absurd x

  session_is : (old : Sides) (end : Status) (new : Sides) → new.time ≤ now → (x : Session s since old end new) → Said old.history (replies_of_session earlier s since old end new x)
  session_is old (status.Session end) new late x = let time = x.3.time in worked_is old (status.Session end) x.0 (omega (arith, time, late)) x.1
  session_is old (status.Drained last) new late x = let time = x.3.time in worked_is old (status.Drained last) x.0 (omega (arith, time, late)) x.1
  session_is old status.Usage new late x = absurd x
  session_is old (status.UnreadableLog why) new late x = tt
  session_is old status.OpeningFault new late x = tt
  session_is old status.OutOfMemory new late x = tt
  session_is old (status.Serve end) new late x = absurd x

-- ---- a server

module _ {L : Type 0} (side : L → LinkSide) (stays : L → L → Type 0) (s : Setting) (since : ℕ → Files → Type 0) where
  events_time : (old : AccountSide) (es : List (Event L)) (new : AccountSide) → Events (Visited side stays s since) (DrainsBehind s) old es new → old.time ≤ new.time
  events_time old [] new x = let same = ap (λ (a : AccountSide). a.time) x in omega (arith, same)
  events_time old (Had slice ∷ es) new x =
      let one = served_time (on_link s (side slice.taken)) since most_messages (joined (side slice.taken) old) slice.end (joined (side slice.given) x.0) x.2.0 in
      let two = (behind_counts s (Had slice) x.0 x.1 x.3).time in
      let three = events_time x.1 es new x.5 in
      omega (arith, one, two, three)
  events_time old (Woke last ∷ es) new x =
      let one = (behind_counts s {L = L} (Woke last) old x.0 x.1).time in
      let two = events_time x.0 es new x.3 in
      omega (arith, one, two)

  module _ (knows : s.knows ≡ true) (earlier : History) (base : s.base ≡ replay first_state earlier) (now : ℕ) (c : Files) (k : History) (left : (t : ℕ) → t ≤ now → since t c) (has : HasHistory s.base k c) where
    events_are : (entry : History) (old : AccountSide) (es : List (Event L)) (new : AccountSide) → IsPrefixOf entry old.history → new.time ≤ now → (x : Events (Visited side stays s since) (DrainsBehind s) old es new)
        → AllByRecursion (IsReplyOf s.login s.runs (earlier ++ entry) (earlier ++ k)) (replies_of_events earlier side stays s since old es new x)
    events_are entry old [] new p late x = tt
    events_are entry old (Had slice ∷ es) new p late x =
        let two = (behind_counts s (Had slice) x.0 x.1 x.3).time in
        let three = events_time x.1 es new x.5 in
        let grown = front_of_front entry old.history x.0.history p (served_grows (on_link s (side slice.taken)) since most_messages (joined (side slice.taken) old) slice.end (joined (side slice.given) x.0) x.2.0) in
        both (IsReplyOf s.login s.runs (earlier ++ entry) (earlier ++ k))
        (replies_of_connection earlier (on_link s (side slice.taken)) since most_messages (joined (side slice.taken) old) slice.end (joined (side slice.given) x.0) x.2.0)
        (replies_of_events earlier side stays s since x.1 es new x.5)
        (connection_is (on_link s (side slice.taken)) knows earlier base since now c k left has entry most_messages (joined (side slice.taken) old) slice.end (joined (side slice.given) x.0) p (omega (arith, two, three, late)) x.2.0)
        (events_are entry x.1 es new (front_of_front entry x.0.history x.1.history grown (behind_grows s (Had slice) x.0 x.1 x.3)) late x.5)
    events_are entry old (Woke last ∷ es) new p late x = events_are entry x.0 es new (front_of_front entry old.history x.0.history p (behind_grows s {L = L} (Woke last) old x.0 x.1)) late x.3

    serve_is : (wanted : ℕ) (old : Shop L) (end : Status) (new : Shop L) (events : List (Event L)) → new.account.time ≤ now → (x : Serve side stays s since wanted old end new events)
        → AllByRecursion (IsReplyOf s.login s.runs (earlier ++ old.account.history) (earlier ++ k)) (replies_of_serve earlier side stays s since wanted old end new events x)
    serve_is wanted old (status.Serve end) new events late x =
        let time = x.0.is_stopped.time in
        let same : IsPrefixOf old.account.history x.0.opened.history = subst (IsPrefixOf old.account.history) (sym x.0.is_opened.history) (all_of old.account.history) in
        events_are old.account.history x.0.opened events x.0.worked same (omega (arith, time, late)) x.0.led
    serve_is wanted old (status.Session end) new events late x = absurd x
    serve_is wanted old (status.Drained last) new events late x = absurd x
    serve_is wanted old status.Usage new events late x = absurd x
    serve_is wanted old (status.UnreadableLog why) new events late x = tt
    serve_is wanted old status.OpeningFault new events late x = tt
    serve_is wanted old status.OutOfMemory new events late x = tt

-- ---- lives

-- what an image has of what a run added, with the replies that are of it
life : (s : Setting) → s.knows ≡ true → (earlier : History) → s.base ≡ replay first_state earlier → (old : Scene AccountSide) (end : Status) (new : Scene AccountSide) → Holds s old end new → CountsNow new.side.time new.images new.since
    → (c : Files) → new.images c → (replies : List Reply)
    → ((k : History) → HasHistory s.base k c → AllByRecursion (IsReplyOf s.login s.runs (earlier ++ old.side.history) (earlier ++ k)) replies)
    → (after : History) × IsLife s.login s.runs (earlier ++ old.side.history) (record { replies = replies; after = after; files = c })
life s knows earlier base old end new holds counts c image replies are =
    let crash = holds.crash_prefix knows in
    let is = crash.each c (counts old.side.time c crash.later image) in
    let own : History = is.from.0 in
    let k_is : old.side.history ++ own ≡ is.history = is.from.1 in
    let all : old.side.history ++ (own ++ is.to.0) ≡ old.side.history ++ holds.added =
    sym (append_assoc old.side.history own is.to.0) ∙ (ap (λ (h : History). h ++ is.to.0) k_is ∙ (is.to.1 ∙ holds.grew)) in
    let added : own ++ is.to.0 ≡ holds.added = append_cancel_left old.side.history _ _ all in
    let state : replay s.base old.side.history ≡ replay first_state (earlier ++ old.side.history) = ap (λ (b : State Bytes). replay b old.side.history) base ∙ sym (replay_on first_state earlier old.side.history) in
    let honest : HonestFrom s.login s.runs (fate s.login) (replay s.base old.side.history) own =
    short_honest s.login s.runs (fate s.login) (replay s.base old.side.history) own is.to.0 (subst (HonestFrom s.login s.runs (fate s.login) (replay s.base old.side.history)) (sym added) holds.honest) in (
      earlier ++ is.history,
      record {
        added = own;
        grew = ap (λ (h : History). earlier ++ h) (sym k_is) ∙ sym (append_assoc earlier old.side.history own);
        honest = subst (λ (t : State Bytes). HonestFrom s.login s.runs (fate s.login) t own) state honest;
        image = record { earlier = earlier; rest = is.history; has = subst (λ (b : State Bytes). HasHistory b is.history c) base is.has; all = refl };
        replies = are is.history is.has;
      },
    )

pub sessions_are_lives : SessionsAreLives
sessions_are_lives s earlier knows base old end new counts run c image =
    life s knows earlier base (account_scene old) end (account_scene new) run.holds counts c image (replies_of_session earlier s new.since old.side end new.side run.transcript)
    (λ k has. session_is s knows earlier base new.since new.side.time c k (λ t late. counts t c late image) has old.side end new.side (omega arith) run.transcript)

pub serves_are_lives : {L : Type 0} → ServesAreLives L
serves_are_lives side stays s earlier knows base wanted old end new counts served c image =
    life s knows earlier base (shop_scene old) end (shop_scene new) served.holds counts c image (replies_of_serve earlier side stays s new.since wanted old.side end new.side served.events served.transcript)
    (λ k has. serve_is side stays s new.since knows earlier base new.side.account.time c k (λ t late. counts t c late image) has wanted old.side end new.side served.events (omega arith) served.transcript)

-- ---- for the call

pub told_within : (knows : Bool) (moment : ℕ) → told_time knows moment ≤ moment
told_within true moment = omega arith
told_within false moment = omega arith

-- files that have a whole history are what a run begins with
pub whole_history : (seen : Option Files) (files : Files) (before : History) → seen ≡ Some files → (w : HasWhole HasHistory before files) → ForSome seen (HasHistory (replay first_state w.earlier) w.rest)
whole_history seen files before is w = only_files seen files (HasHistory (replay first_state w.earlier) w.rest) is w.has

pub is_session : (s : Setting) (earlier rest before : History) → s.knows ≡ true → s.base ≡ replay first_state earlier → before ≡ earlier ++ rest → (old : Scene Sides) (end : Status) (new : Scene Sides) → old.side.history ≡ rest
    → CountsNow new.side.time new.images new.since → HasRun s old end new → IsSession s earlier before old end new
is_session s earlier rest before knows base all old end new same counts run = record {
  run = run;
  lives = subst (λ (h : History). LeavesLives s.login s.runs h new.images (replies_of_session earlier s new.since old.side end new.side run.transcript))
      (ap (λ (h : History). earlier ++ h) same ∙ sym all) (sessions_are_lives s earlier knows base old end new counts run);
}

pub is_serve : {L : Type 0} (side : L → LinkSide) (stays : L → L → Type 0) (s : Setting) (earlier rest before : History) → s.knows ≡ true → s.base ≡ replay first_state earlier → before ≡ earlier ++ rest
    → (wanted : ℕ) (old : Scene (Shop L)) (end : Status) (new : Scene (Shop L)) → old.side.account.history ≡ rest → CountsNow new.side.account.time new.images new.since
    → HasServed side stays s wanted old end new → IsServe side stays s earlier before wanted old end new
is_serve side stays s earlier rest before knows base all wanted old end new same counts served = record {
  served = served;
  lives = subst (λ (h : History). LeavesLives s.login s.runs h new.images (replies_of_serve earlier side stays s new.since wanted old.side end new.side served.events served.transcript))
      (ap (λ (h : History). earlier ++ h) same ∙ sym all) (serves_are_lives side stays s earlier knows base wanted old end new counts served);
}

-- ---- chains of runs

module _ (login : Bytes) (gives : TaskRun → Bytes → Raw → Type 0) where
  goes_on : (a b : History) (ls : List Life) (l : Life) → Chain login gives a ls b → IsLife login gives b l → Chain login gives a (ls ++ l ∷ []) l.after
  goes_on a b [] l is life = (subst (λ (h : History). IsLife login gives h l) is life, refl)
  goes_on a b (x ∷ ls) l is life = (is.0, goes_on x.after b ls l is.1 life)

  pub chains_go_on : ChainsGoOn login gives
  chains_go_on ls before l is life = goes_on [] before ls l is life

pub new_stores_are_empty : NewStoresAreEmpty
unfolding replay
new_stores_are_empty = record {
  earlier = [];
  rest = [];
  has = record { ps = []; read = refl; fit = λ none. omega arith; is = record { front = []; rest = []; split = refl; begins = (refl, refl); leads = refl } };
  all = refl;
}
