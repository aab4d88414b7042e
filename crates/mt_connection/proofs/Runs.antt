-- How a connection goes on from one exchange to the next.
use Rattle.std.proofs.Common.{◌≡◌, ℕ, ◌+◌, ◌<◌, List, [], ◌∷◌, ◌++◌, Option, Some, None, Bool, true, false, inl, inr, refl, ap, sym, subst, ◌∙◌, arith, append_assoc, append-nil, ◌||◌}
use Rattle.std.specs.Prelude.{is_some}
use Rattle.std.specs.List.{flat_map, list_any}
use Rattle.std.proofs.lemmas.List.Concat.{flat_map-append}
use Rattle.std.proofs.lemmas.List.Folds.{list_any-append}
use Rattle.std.proofs.Math.Bool.{or-false}
use Rattle.mt_disk.specs.Files.{Files}
use Rattle.mt_edge.specs.Stream.{LeftAfter, GotMore}
use Rattle.mt_edge.proofs.Streams.{left_after, got_more, got_nothing, left_all}
use Rattle.mt_opening.specs.History.{Bytes, History}
use Rattle.mt_model.specs.CommandStep.{replay}
use Rattle.mt_model.specs.State.{State}
use Rattle.mt_model.proofs.Replays.{replay_on}
use Rattle.mt_types.specs.declared.task.Raw.{Raw}
use Rattle.mt_types.specs.declared.task.Run.{Run as ChildRun}
use Rattle.mt_runner.specs.Account.{AccountSide, NoCountFell}
use Rattle.mt_runner.specs.Turning.{companies}
use Rattle.mt_runner.proofs.Drains.{companies_add, companies_zero}
use Rattle.mt_connection.specs.Endings.{Ends, IsOpen}
use Rattle.mt_connection.specs.Sides.{LinkSide, NoneFell, Sides, joined}
use Rattle.mt_connection.specs.Steps.{Stepped}
use Rattle.mt_connection.specs.Transcript.{Exchange, Ran, Run, Setting, asked_in, closing, commands_of, growth_of, grown, missed, read_of, said_by, setting}
use Rattle.mt_connection.specs.declared.end.ConnectionEnd.{ConnectionEnd}
use Rattle.mt_connection.specs.declared.end.ConnectionEnd.TheVariants.{Ended, Many, Truncated, Refused, SourceFault, SinkFault, Full, Disk, Memory}
use Rattle.mt_connection.specs.declared.end.Step.{Step}
use Rattle.mt_connection.specs.declared.end.Step.TheVariants as step
use Rattle.mt_connection.proofs.Crashes.{timed}

pub no_count_fell : (old mid new : AccountSide) → NoCountFell old mid → NoCountFell mid new → NoCountFell old new
no_count_fell old mid new h k = record {
  disk = omega (arith, h.disk, k.disk);
  time = omega (arith, h.time, k.time);
  asked = omega (arith, h.asked, k.asked);
  spawn = omega (arith, h.spawn, k.spawn);
  waits = omega (arith, h.waits, k.waits);
  company = omega (arith, h.company, k.company);
}

pub none_fell : (old mid new : Sides) → NoneFell old mid → NoneFell mid new → NoneFell old new
none_fell old mid new h k = record { read = omega (arith, h.read, k.read); write = omega (arith, h.write, k.write); account = no_count_fell _ _ _ h.account k.account }

pub no_count_fell_self : (x : AccountSide) → NoCountFell x x
no_count_fell_self x = record { disk = omega arith; time = omega arith; asked = omega arith; spawn = omega arith; waits = omega arith; company = omega arith }

pub none_fell_self : (s : Sides) → NoneFell s s
none_fell_self s = record { read = omega arith; write = omega arith; account = no_count_fell_self _ }

pub true_false : true ≡ false → ⊥
true_false h = cc

zero_one : ◌≡◌ {A = ℕ} 0 1 → ⊥
zero_one h = omega arith

pub any_none : (a b : Bool) → (a || b) ≡ false → (a ≡ false) × (b ≡ false)
any_none true b h = absurd (true_false h)
any_none false b h = (refl, h)

grown-append : (xs ys : List Exchange) → grown (xs ++ ys) ≡ grown xs + grown ys
grown-append [] ys = omega arith
grown-append (x ∷ xs) ys = let more = grown-append xs ys in omega (arith, more)

missed-append : (xs ys : List Exchange) → missed (xs ++ ys) ≡ missed xs + missed ys
missed-append [] ys = omega arith
missed-append (x ∷ xs) ys = let more = missed-append xs ys in omega (arith, more)

asked_in-append : (asked : ℕ) (xs ys : List Exchange) → asked_in asked (xs ++ ys) ≡ asked_in (asked_in asked xs) ys
asked_in-append asked [] ys = refl
asked_in-append asked (x ∷ xs) ys = asked_in-append x.turn.asked xs ys

module _ (s : Setting) where
  run_more : (h : History) (used asked : ℕ) (xs ys : List Exchange) → list_any closing xs ≡ false → Run s h used asked xs → Run s (h ++ flat_map commands_of xs) (used + grown xs) (asked_in asked xs) ys → Run s h used asked (xs ++ ys)
  run_more h used asked [] ys none r more =
      let same : used + 0 ≡ used = omega arith in
      subst (λ (u : ℕ). Run s h u asked ys) same (subst (λ (k : History). Run s k (used + 0) asked ys) (append-nil h) more)
  run_more h used asked (x ∷ xs) ys none r more =
      let parts = any_none (closing x) (list_any closing xs) none in
      let all : used + (growth_of x + grown xs) ≡ (used + growth_of x) + grown xs = omega arith in
      let behind = subst (λ (u : ℕ). Run s ((h ++ commands_of x) ++ flat_map commands_of xs) u (asked_in x.turn.asked xs) ys) all
      (subst (λ (k : History). Run s k (used + (growth_of x + grown xs)) (asked_in x.turn.asked xs) ys) (sym (append_assoc h (commands_of x) (flat_map commands_of xs))) more) in
      (r.0, (λ c. absurd (true_false (sym c ∙ parts.0))), run_more (h ++ commands_of x) (used + growth_of x) x.turn.asked xs ys parts.1 r.2 behind)

  pub ran_nothing : (old : Sides) → Ran s old [] old
  ran_nothing old = record {
    run = tt;
    history = sym (append-nil old.history);
    used = omega arith;
    asked = refl;
    source = left_all old.left;
    sink = got_nothing old.got;
    missed = omega arith;
    company = let none = companies_zero s.slots (replay s.base old.history) in omega (arith, none);
    counts = none_fell_self old;
  }

  company_more : (old : Sides) (xs : List Exchange) (mid : Sides) (ys : List Exchange) → mid.history ≡ old.history ++ flat_map commands_of xs
      → companies s.slots (replay s.base old.history) (flat_map commands_of (xs ++ ys)) ≡ companies s.slots (replay s.base old.history) (flat_map commands_of xs) + companies s.slots (replay s.base mid.history) (flat_map commands_of ys)
  company_more old xs mid ys is =
      ap (λ (cs : History). companies s.slots (replay s.base old.history) cs) (flat_map-append commands_of xs ys)
      ∙ (companies_add s.slots (replay s.base old.history) (flat_map commands_of xs) (flat_map commands_of ys)
      ∙ ap (λ (st : State Bytes). companies s.slots (replay s.base old.history) (flat_map commands_of xs) + companies s.slots st (flat_map commands_of ys))
      (sym (replay_on s.base old.history (flat_map commands_of xs)) ∙ ap (λ (k : History). replay s.base k) (sym is)))

  -- exchanges after exchanges
  pub ran_more : (old : Sides) (xs : List Exchange) (mid : Sides) (ys : List Exchange) (new : Sides) → list_any closing xs ≡ false → Ran s old xs mid → Ran s mid ys new → Ran s old (xs ++ ys) new
  ran_more old xs mid ys new none h k = let both = company_more old xs mid ys h.history in record {
    run = run_more old.history old.used old.asked xs ys none h.run
        (subst (λ (n : ℕ). Run s (old.history ++ flat_map commands_of xs) (old.used + grown xs) n ys) h.asked
        (subst (λ (u : ℕ). Run s (old.history ++ flat_map commands_of xs) u mid.asked ys) h.used (subst (λ (hs : History). Run s hs mid.used mid.asked ys) h.history k.run)));
    history = k.history ∙ (ap (λ (hs : History). hs ++ flat_map commands_of ys) h.history ∙ (append_assoc old.history (flat_map commands_of xs) (flat_map commands_of ys) ∙ ap (λ (cs : History). old.history ++ cs) (sym (flat_map-append commands_of xs ys))));
    used = let all = grown-append xs ys in let one = h.used in let two = k.used in omega (arith, all, one, two);
    asked = k.asked ∙ (ap (λ (n : ℕ). asked_in n ys) h.asked ∙ sym (asked_in-append old.asked xs ys));
    source = subst (λ (bytes : Bytes). LeftAfter old.left bytes new.left) (sym (flat_map-append read_of xs ys)) (left_after old.left (flat_map read_of xs) mid.left (flat_map read_of ys) new.left h.source k.source);
    sink = subst (λ (bytes : Bytes). GotMore old.got bytes new.got) (sym (flat_map-append said_by xs ys)) (got_more old.got (flat_map said_by xs) mid.got (flat_map said_by ys) new.got h.sink k.sink);
    missed = let all = missed-append xs ys in let one = h.missed in let two = k.missed in omega (arith, all, one, two);
    company = let one = h.company in let two = k.company in omega (arith, both, one, two);
    counts = none_fell old mid new h.counts k.counts;
  }

  -- the end that is met at once is the end after exchanges
  pub ends_after : (since : ℕ → Files → Type 0) (xs : List Exchange) (old : Sides) (end : ConnectionEnd) (new : Sides) (most : ℕ) → IsOpen most xs → ((most : ℕ) → 0 < most → Ends s since most [] old end new) → Ends s since most xs old end new
  ends_after since xs old Ended new most free h = (elim (h 1 (omega arith)).0 [ inl closed ↦ absurd (true_false (sym closed.0)) | inr end ↦ inr (free, end.1) ], (h 1 (omega arith)).1)
  ends_after since xs old Many new most free h = absurd (zero_one (h 1 (omega arith)).1)
  ends_after since xs old Truncated new most free h = (free, (h 1 (omega arith)).1)
  ends_after since xs old Refused new most free h = (free, (h 1 (omega arith)).1)
  ends_after since xs old SourceFault new most free h = (free, (h 1 (omega arith)).1)
  ends_after since xs old SinkFault new most free h = (free, (h 1 (omega arith)).1, (h 1 (omega arith)).2)
  ends_after since xs old Full new most free h = (free, (h 1 (omega arith)).1)
  ends_after since xs old Disk new most free h = (free, (h 1 (omega arith)).1, (h 1 (omega arith)).2)
  ends_after since xs old Memory new most free h = (free, (h 1 (omega arith)).1)

pub closing_more : (xs : List Exchange) (x : Exchange) (b : Bool) → list_any closing xs ≡ false → closing x ≡ b → list_any closing (xs ++ x ∷ []) ≡ b
closing_more xs x b none is = list_any-append closing xs (x ∷ []) ∙ (ap (λ (c : Bool). c || (closing x || false)) none ∙ (or-false (closing x) ∙ is))

-- a step of a connection in the setting that the connection began with
pub stepped_here : {R C : Type 0} (moments : R → ℕ → ℕ → Type 0) (runs : C → ChildRun → Bytes → Raw → Type 0) (login : Bytes) (base : State Bytes) (since : ℕ → Files → Type 0) (images : Files → Type 0) (hears hears' knows knows' : Bool) (rule rule' : R) (child child' : C)
    (slots slots' limit limit' : ℕ) → hears' ≡ hears → knows' ≡ knows → rule' ≡ rule → child' ≡ child → slots' ≡ slots → limit' ≡ limit → (link : LinkSide) (x : AccountSide) (is : Step) (link' : LinkSide) (x' : AccountSide)
    → Stepped (setting hears' knows' (moments rule') (runs child') login slots' limit' base) since images (joined link (timed knows' x)) is (joined link' (timed knows' x'))
    → Stepped (setting hears knows (moments rule) (runs child) login slots limit base) since images (joined link (timed knows x)) is (joined link' (timed knows x'))
stepped_here moments runs login base since images hears hears' knows knows' rule rule' child child' slots slots' limit limit' same_hears same_knows same_rule same_child same_slots same_limit link x is link' x' s =
    subst (λ (b : Bool). Stepped (setting b knows (moments rule) (runs child) login slots limit base) since images (joined link (timed knows x)) is (joined link' (timed knows x'))) same_hears
    (subst (λ (b : Bool). Stepped (setting hears' b (moments rule) (runs child) login slots limit base) since images (joined link (timed b x)) is (joined link' (timed b x'))) same_knows
    (subst (λ r. Stepped (setting hears' knows' (moments r) (runs child) login slots limit base) since images (joined link (timed knows' x)) is (joined link' (timed knows' x'))) same_rule
    (subst (λ r. Stepped (setting hears' knows' (moments rule') (runs r) login slots limit base) since images (joined link (timed knows' x)) is (joined link' (timed knows' x'))) same_child
    (subst (λ (n : ℕ). Stepped (setting hears' knows' (moments rule') (runs child') login n limit base) since images (joined link (timed knows' x)) is (joined link' (timed knows' x'))) same_slots
    (subst (λ (l : ℕ). Stepped (setting hears' knows' (moments rule') (runs child') login slots' l base) since images (joined link (timed knows' x)) is (joined link' (timed knows' x'))) same_limit s)))))

-- what tells goes on so
pub still_heard : (old : Option Bytes) (read : Bytes) (new : Option Bytes) → LeftAfter old read new → is_some new ≡ is_some old
still_heard old read None gone = sym (ap is_some gone)
still_heard old read (Some rest) gone = sym (ap is_some gone)

pub went_on : (closed : Bool) (end : ConnectionEnd) → step.Went closed ≡ step.Over end → ⊥
went_on closed end h = cc
