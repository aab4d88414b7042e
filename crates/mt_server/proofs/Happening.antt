-- A call at the door, and the drain behind it, are an event.
use Rattle.std.proofs.Common.{◌≡◌, ℕ, Bool, true, false, [], ◌∷◌, Some, None, refl, ap, sym, ◌∙◌, subst, arith}
use Rattle.std.specs.Prelude.{Option}
use Rattle.std.specs.Option.{option_and_then, option_or}
use Rattle.mt_disk.specs.Files.{Files}
use Rattle.mt_edge.specs.Doors.{as_count}
use Rattle.mt_runner.specs.Account.{AccountSide}
use Rattle.mt_runner.specs.Turning.{Drained, TurnImages, most_turns}
use Rattle.mt_runner.specs.declared.turn.Turn.{Turn}
use Rattle.mt_runner.specs.declared.turn.Turn.TheVariants as turn
use Rattle.mt_connection.specs.Endings.{Images}
use Rattle.mt_connection.specs.Sides.{LinkSide, joined}
use Rattle.mt_connection.specs.Transcript.{Setting, working}
use Rattle.mt_connection.specs.declared.end.ConnectionEnd.{ConnectionEnd}
use Rattle.mt_connection.specs.declared.end.ConnectionEnd.TheVariants as ended
use Rattle.mt_connection.proofs.Crashes.{all_of}
use Rattle.mt_server.specs.Events.{DrainsBehind, DrainsUnless, Event, Events, Had, Passed, Round, Woke, broken, drain_breaks, drain_of, end_breaks, firsts, lasts, on_link, turns_in}
use Rattle.mt_server.specs.Guarantees.{IsDurable, Shop, Visited}
use Rattle.mt_server.specs.Statuses.{most_messages}
use Rattle.mt_server.specs.Visiting.{Happens, happened_by}
use Rattle.mt_server.specs.declared.came.Happened.TheVariants as happened
use Rattle.mt_server.specs.declared.status.ServeEnd.{ServeEnd}
use Rattle.mt_server.specs.declared.status.ServeEnd.TheVariants as serving
use Rattle.mt_server.specs.declared.status.Status.TheVariants as status
use Rattle.mt_server.proofs.Doors.{passed_drain}
use Rattle.mt_server.proofs.Going.{Carries}
use Rattle.mt_server.proofs.Later.{served_later}

module _ {L : Type 0} (side : L → LinkSide) (stays : L → L → Type 0) (s : Setting) (since : ℕ → Files → Type 0) (images : Files → Type 0) (old new : Shop L) where
  -- one event, whose drain ended so
  happened_so : (e : Event L) (last : Turn) (first over : Bool) → drain_of e ≡ Some last → broken e ≡ drain_breaks last → firsts (turns_in (e ∷ [])) ≡ as_count first → lasts (turns_in (e ∷ [])) ≡ as_count over
      → Events (Visited side stays s since) (DrainsBehind s) old.account (e ∷ []) new.account → Passed old.door (e ∷ []) new.door → (s.knows ≡ true → TurnImages last s.base new.account.history images)
      → Happens side stays s since images old (happened_by first over last) new
  happened_so e turn.Full first over drain breaks one all led links left = (e, breaks, led, links, left)
  happened_so e turn.Disk first over drain breaks one all led links left = (e, breaks, led, links, left)
  happened_so e turn.Memory first over drain breaks one all led links left = (e, breaks, led, links, left)
  happened_so e turn.Idle first over drain breaks one all led links left = (e, drain, breaks, refl, one, all, led, links)
  happened_so e turn.NotYet first over drain breaks one all led links left = (e, drain, breaks, refl, one, all, led, links)
  happened_so e turn.SpawnFault first over drain breaks one all led links left = (e, drain, breaks, refl, one, all, led, links)
  happened_so e (turn.Closed job) first over drain breaks one all led links left = (e, drain, breaks, refl, one, all, led, links)
  happened_so e (turn.Committed task) first over drain breaks one all led links left = (e, drain, breaks, refl, one, all, led, links)

  -- no link came
  pub woke_here : (last : Turn) → Drained (working s) most_turns old.account last new.account → Passed old.door (Woke last ∷ []) new.door → (s.knows ≡ true → TurnImages last s.base new.account.history images)
      → Happens side stays s since images old (happened_by false false last) new
  woke_here last drained links left = happened_so (Woke last) last false false refl refl refl refl (new.account, drained, (λ broke. refl), refl) links left

  module _ (past : ℕ → Files → Type 0) (mid : Shop L) (x : Round L) (end : ConnectionEnd) (end_is : x.end ≡ end) (did : Visited side stays s past x old.account mid.account) (carries : Carries s past since mid.account) where
    did_here : Visited side stays s since x old.account mid.account
    did_here = (served_later (on_link s (side x.taken)) past since mid.account.time mid.account.history carries most_messages (joined (side x.taken) old.account) x.end (joined (side x.given) mid.account) (omega arith) (all_of mid.account.history) did.0, did.1)

    -- a link had its turn, and a drain followed it
    pub had_here : (first over : Bool) → x.first ≡ first → x.over ≡ over → end_breaks end ≡ None → (last : Turn) → Drained (working s) most_turns mid.account last new.account → Passed old.door (Had x ∷ []) new.door
        → (s.knows ≡ true → TurnImages last s.base new.account.history images) → Happens side stays s since images old (happened_by first over last) new
    had_here first over first_is over_is went last drained links left =
        let none : end_breaks x.end ≡ None = ap end_breaks end_is ∙ went in
        happened_so (Had (record x { drain = Some last })) last first over refl (ap (λ (o : Option ServeEnd). option_or o (option_and_then drain_breaks (Some last))) none)
        (let one = ap as_count first_is in omega (arith, one)) (let one = ap as_count over_is in omega (arith, one))
        (mid.account, new.account, did_here, subst (λ (o : Option ServeEnd). DrainsUnless s o (Some last) mid.account new.account) (sym none) (last, refl, drained), (λ broke. refl), refl)
        (passed_drain old.door x (Some last) new.door links) left

    -- it broke
    pub broke_here : (why : ServeEnd) → end_breaks end ≡ Some why → new.account ≡ mid.account → Passed old.door (Had x ∷ []) new.door → (s.knows ≡ true → Images end s.base mid.account.history images)
        → Happens side stays s since images old (happened.Broke why) new
    broke_here why breaks same links left =
        let is : end_breaks x.end ≡ Some why = ap end_breaks end_is ∙ breaks in (
          Had (record x { drain = None }),
          ap (λ (o : Option ServeEnd). option_or o None) is,
          (mid.account, new.account, did_here, subst (λ (o : Option ServeEnd). DrainsUnless s o None mid.account new.account) (sym is) (refl, same), (λ broke. refl), refl),
          passed_drain old.door x None new.door links,
          (λ knows c image. subst (λ (a : AccountSide). IsDurable (status.Serve why) s.base a.history c) (sym same) (by end why breaks (left knows) c image)),
        )
      where
        by : (end : ConnectionEnd) (why : ServeEnd) → end_breaks end ≡ Some why → Images end s.base mid.account.history images → (c : Files) → images c → IsDurable (status.Serve why) s.base mid.account.history c
        by ended.Full why breaks left c image = let same : serving.LogFull ≡ why = cc in subst (λ (w : ServeEnd). IsDurable (status.Serve w) s.base mid.account.history c) same (left c image)
        by ended.Disk why breaks left c image = let same : serving.Disk ≡ why = cc in subst (λ (w : ServeEnd). IsDurable (status.Serve w) s.base mid.account.history c) same (left c image)
        by ended.Memory why breaks left c image = let same : serving.Memory ≡ why = cc in subst (λ (w : ServeEnd). IsDurable (status.Serve w) s.base mid.account.history c) same (left c image)
        by ended.Ended why breaks left c image = absurd (cc)
        by ended.Many why breaks left c image = absurd (cc)
        by ended.Truncated why breaks left c image = absurd (cc)
        by ended.Refused why breaks left c image = absurd (cc)
        by ended.SourceFault why breaks left c image = absurd (cc)
        by ended.SinkFault why breaks left c image = absurd (cc)
