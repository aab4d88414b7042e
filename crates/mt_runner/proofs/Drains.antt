-- Turns one after another, and drains.
use Rattle.std.proofs.Common.{◌≡◌, ◌≢◌, ◌⊎◌, inl, inr, ℕ, suc, ◌+◌, ◌<◌, ◌≤◌, min, Bool, true, false, List, [], ◌∷◌, ◌++◌, length, refl, ap, sym, subst, ◌∙◌, arith, append-nil, append_assoc, length-append, Option, Some, None}
use Rattle.std.specs.Prelude.{is_some}
use Rattle.std.specs.Bool.{MatchBool}
use Rattle.std.specs.List.{flat_map}
use Rattle.mt_base.specs.Counts.{NeverFell, Rose, RoseBy}
use Rattle.mt_base.specs.Lists.{IsPrefixOf}
use Rattle.mt_disk.specs.CrashModel.{LeavesOnly}
use Rattle.mt_disk.specs.Files.{Files}
use Rattle.mt_disk.proofs.Moments.{joins}
use Rattle.mt_types.specs.declared.command.Command.{Command}
use Rattle.mt_types.specs.declared.task.Raw.{Raw}
use Rattle.mt_types.specs.declared.task.Run.{Run}
use Rattle.mt_model.specs.CommandStep.{replay, step}
use Rattle.mt_model.specs.Honest.{Bytes, HonestFrom, IsStep}
use Rattle.mt_model.specs.State.{State}
use Rattle.mt_model.proofs.Replays.{replay_on}
use Rattle.mt_model.proofs.Stood.{honest_on}
use Rattle.mt_records.specs.Fate.{fate}
use Rattle.mt_opening.specs.Current.{EngineIsReady, EngineState, IsBetween, Over}
use Rattle.mt_opening.specs.History.{History}
use Rattle.mt_engine.specs.Ready.{EngineGoesOn}
use Rattle.mt_runner.specs.Account.{AccountSide, NoCountFell}
use Rattle.mt_runner.specs.ByAnswer.{GoesOn}
use Rattle.mt_runner.specs.Turning.{AddsOne, DidAdd, Drained, Follow, Goes, Led, MayTurn, TakesTurn, TurnImages, TurnTaken, Working, added_of, adds, asked_behind, companies, grown_by, no_turn, working_of}
use Rattle.mt_runner.specs.declared.turn.Turn.{Turn}
use Rattle.mt_runner.specs.declared.turn.Turn.TheVariants as turn
use Rattle.mt_runner.proofs.Crashes.{all_of, between_from, between_to, front_of_front}
use Rattle.mt_runner.proofs.Standing.{not_both}

-- ---- sums over histories and turns

pub companies_add : (slots : ℕ) (s : State Bytes) (a b : History) → companies slots s (a ++ b) ≡ companies slots s a + companies slots (replay s a) b
unfolding companies replay
companies_add slots s [] b = omega arith
companies_add slots s (c ∷ a) b = let more = companies_add slots (step s c) a b in omega (arith, more)

pub companies_zero : (slots : ℕ) (s : State Bytes) → companies slots s [] ≡ 0
unfolding companies
companies_zero slots s = refl

added_both : (ts us : List TurnTaken) → flat_map added_of (ts ++ us) ≡ flat_map added_of ts ++ flat_map added_of us
added_both [] us = refl
added_both (t ∷ ts) us = ap (λ (h : History). t.added ++ h) (added_both ts us) ∙ sym (append_assoc t.added (flat_map added_of ts) (flat_map added_of us))

grown_both : (ts us : List TurnTaken) → grown_by (ts ++ us) ≡ grown_by ts + grown_by us
grown_both [] us = omega arith
grown_both (t ∷ ts) us = let more = grown_both ts us in omega (arith, more)

asked_both : (asked : ℕ) (ts us : List TurnTaken) → asked_behind asked (ts ++ us) ≡ asked_behind (asked_behind asked ts) us
asked_both asked [] us = refl
asked_both asked (t ∷ ts) us = asked_both t.asked ts us

pub counts_same : (a : AccountSide) → NoCountFell a a
counts_same a = record { disk = omega arith; time = omega arith; asked = omega arith; spawn = omega arith; waits = omega arith; company = omega arith }

pub counts_more : (a b c : AccountSide) → NoCountFell a b → NoCountFell b c → NoCountFell a c
counts_more a b c x y = record {
  disk = let p = x.disk in let q = y.disk in omega (arith, p, q);
  time = let p = x.time in let q = y.time in omega (arith, p, q);
  asked = let p = x.asked in let q = y.asked in omega (arith, p, q);
  spawn = let p = x.spawn in let q = y.spawn in omega (arith, p, q);
  waits = let p = x.waits in let q = y.waits in omega (arith, p, q);
  company = let p = x.company in let q = y.company in omega (arith, p, q);
}

no_more_bytes : (n : ℕ) → n + 0 ≡ n
no_more_bytes n = omega arith

more_bytes : (a b c : ℕ) → a + b + c ≡ a + (b + c)
more_bytes a b c = omega arith

-- ---- turns behind turns

module _ (w : Working) where
  follow_on : (h : History) (used asked : ℕ) (ts us : List TurnTaken) → Follow w h used asked ts → Follow w (h ++ flat_map added_of ts) (used + grown_by ts) (asked_behind asked ts) us → Follow w h used asked (ts ++ us)
  follow_on h used asked [] us f more =
      subst (λ (n : ℕ). Follow w h n asked us) (no_more_bytes used) (subst (λ (k : History). Follow w k (used + 0) asked us) (append-nil h) more)
  follow_on h used asked (t ∷ ts) us f more = (
    f.0,
    f.1,
    follow_on (h ++ t.added) (used + t.grew) t.asked ts us f.2
        (subst (λ (n : ℕ). Follow w ((h ++ t.added) ++ flat_map added_of ts) n (asked_behind t.asked ts) us) (sym (more_bytes used t.grew (grown_by ts)))
        (subst (λ (k : History). Follow w k (used + (t.grew + grown_by ts)) (asked_behind t.asked ts) us) (sym (append_assoc h t.added (flat_map added_of ts))) more)),
  )

  pub led_none : (a : AccountSide) → Led w a [] a
  led_none a = record {
    follow = tt;
    history = sym (append-nil a.history);
    used = sym (no_more_bytes a.used);
    asked = refl;
    company = let none = companies_zero w.slots (replay w.base a.history) in omega (arith, none);
    counts = counts_same a;
  }

  pub led_on : (a b c : AccountSide) (ts us : List TurnTaken) → Led w a ts b → Led w b us c → Led w a (ts ++ us) c
  led_on a b c ts us x y =
      let there : c.history ≡ a.history ++ flat_map added_of (ts ++ us) =
      y.history ∙ (ap (λ (k : History). k ++ flat_map added_of us) x.history ∙ (append_assoc a.history (flat_map added_of ts) (flat_map added_of us) ∙ ap (λ (k : History). a.history ++ k) (sym (added_both ts us)))) in
      let follow : Follow w (a.history ++ flat_map added_of ts) (a.used + grown_by ts) (asked_behind a.asked ts) us =
      subst (λ (n : ℕ). Follow w (a.history ++ flat_map added_of ts) (a.used + grown_by ts) n us) x.asked
      (subst (λ (n : ℕ). Follow w (a.history ++ flat_map added_of ts) n b.asked us) x.used
      (subst (λ (k : History). Follow w k b.used b.asked us) x.history y.follow)) in
      let both : companies w.slots (replay w.base a.history) (flat_map added_of (ts ++ us)) ≡ companies w.slots (replay w.base a.history) (flat_map added_of ts) + companies w.slots (replay w.base b.history) (flat_map added_of us) =
      ap (λ (k : History). companies w.slots (replay w.base a.history) k) (added_both ts us)
      ∙ (companies_add w.slots (replay w.base a.history) (flat_map added_of ts) (flat_map added_of us)
      ∙ ap (λ (s : State Bytes). companies w.slots (replay w.base a.history) (flat_map added_of ts) + companies w.slots s (flat_map added_of us))
      (sym (replay_on w.base a.history (flat_map added_of ts)) ∙ ap (λ (k : History). replay w.base k) (sym x.history))) in
      record {
        follow = follow_on a.history a.used a.asked ts us x.follow follow;
        history = there;
        used = let p = x.used in let q = y.used in let r = grown_both ts us in omega (arith, p, q, r);
        asked = y.asked ∙ (ap (λ (n : ℕ). asked_behind n us) x.asked ∙ sym (asked_both a.asked ts us));
        company = let p = x.company in let q = y.company in omega (arith, p, q, both);
        counts = counts_more a b c x.counts y.counts;
      }

  -- one turn
  pub led_one : (a b : AccountSide) (t : TurnTaken) → (w.knows ≡ true → t.added ≢ []) → Goes w a t b → Led w a (t ∷ []) b
  led_one a b t some g = record {
    follow = (g.turned, some, tt);
    history = g.history ∙ ap (λ (k : History). a.history ++ k) (sym (append-nil t.added));
    used = let p = g.used in omega (arith, p);
    asked = g.asked;
    company = let p = g.company in let same = ap (λ (k : History). companies w.slots (replay w.base a.history) k) (append-nil t.added) in omega (arith, p, same);
    counts = g.counts;
  }

  -- a turn that added a command
  pub one_added : (old : AccountSide) (end : Turn) (new : AccountSide) → adds end ≡ true → TakesTurn w old end new → (t : TurnTaken) × (w.knows ≡ true → t.added ≢ []) × Goes w old t new
  one_added old (turn.Closed job) new is a = (a.0, (λ kn e. let one = (a.1 kn).2 in let bad = sym one ∙ e in absurd (cc)), a.2)
  one_added old (turn.Committed task) new is a = (a.0, (λ kn e. let one = (a.1 kn).2 in let bad = sym one ∙ e in absurd (cc)), a.2)
  one_added old turn.Idle new is a = cc
  one_added old turn.NotYet new is a = cc
  one_added old turn.SpawnFault new is a = cc
  one_added old turn.Full new is a = cc
  one_added old turn.Disk new is a = cc
  one_added old turn.Memory new is a = cc

  -- ---- what turns add is honest

  none_honest : (s : State Bytes) → HonestFrom w.login w.runs (fate w.login) s []
  unfolding HonestFrom
  none_honest s = tt

  pub turned_honest : (h : History) (used asked : ℕ) (t : TurnTaken) → w.knows ≡ true → MayTurn w h used asked t → HonestFrom w.login w.runs (fate w.login) (replay w.base h) t.added
  unfolding HonestFrom
  turned_honest h used asked t knows m = by t.added (subst (λ (b : Bool). MatchBool b (DidAdd w asked (replay w.base h) used t t.added) (t ≡ no_turn t.asked)) knows m.1)
    where
      by : (added : History) → DidAdd w asked (replay w.base h) used t added → HonestFrom w.login w.runs (fate w.login) (replay w.base h) added
      by [] did = tt
      by (c ∷ []) did = (record { room = did.1.few; made = did.0.is_free.made; free = did.0.is_free.free; honest = did.0.honest }, tt)
      by (c ∷ d ∷ cs) did = absurd did

  pub follow_honest : (h : History) (used asked : ℕ) (ts : List TurnTaken) → w.knows ≡ true → Follow w h used asked ts → HonestFrom w.login w.runs (fate w.login) (replay w.base h) (flat_map added_of ts)
  follow_honest h used asked [] knows f = none_honest (replay w.base h)
  follow_honest h used asked (t ∷ ts) knows f =
      honest_on w.login w.runs (fate w.login) (replay w.base h) t.added (flat_map added_of ts) (turned_honest h used asked t knows f.0)
      (subst (λ (s : State Bytes). HonestFrom w.login w.runs (fate w.login) s (flat_map added_of ts)) (replay_on w.base h t.added) (follow_honest (h ++ t.added) (used + t.grew) t.asked ts knows f.2))

-- ---- a drain

-- an answer that added a command leaves the engine open
pub open_more : (end : Turn) (closed : Bool) → adds end ≡ true → GoesOn end closed → closed ≡ false
open_more (turn.Closed n) closed is g = g
open_more (turn.Committed t) closed is g = g
open_more turn.Idle closed is g = g
open_more turn.NotYet closed is g = g
open_more turn.SpawnFault closed is g = g
open_more turn.Full closed is g = g
open_more turn.Disk closed is g = cc
open_more turn.Memory closed is g = cc

-- the same at equal parts of a setting
pub at_setting : {K R : Type 0} (moments : K → ℕ → ℕ → Type 0) (runs : R → Run → Bytes → Raw → Type 0) (base : State Bytes) (P : Bool → Working → Type 0) (b b' : Bool) (k k' : K) (r r' : R) (login login' : Bytes) (slots slots' limit limit' : ℕ)
    → b' ≡ b → k' ≡ k → r' ≡ r → login' ≡ login → slots' ≡ slots → limit' ≡ limit → P b' (working_of b' (moments k') (runs r') login' slots' limit' base) → P b (working_of b (moments k) (runs r) login slots limit base)
at_setting {K} {R} moments runs base P b b' k k' r r' login login' slots slots' limit limit' eb ek er el es em p =
    subst (λ (x : ℕ). P b (working_of b (moments k) (runs r) login slots x base)) em
    (subst (λ (x : ℕ). P b (working_of b (moments k) (runs r) login x limit' base)) es
    (subst (λ (x : Bytes). P b (working_of b (moments k) (runs r) x slots' limit' base)) el
    (subst (λ (x : R). P b (working_of b (moments k) (runs x) login' slots' limit' base)) er
    (subst (λ (x : K). P b (working_of b (moments x) (runs r') login' slots' limit' base)) ek
    (subst (λ (x : Bool). P x (working_of x (moments k') (runs r') login' slots' limit' base)) eb p)))))

module _ {D : Type 0} (seen : D → Option Files) (may_leave : D → Files → Type 0) (moment : D → ℕ) (left_since : D → ℕ → Files → Type 0) where
  -- what one turn did, in a setting
  abbrev pub Took : Bool → Working → D → D → EngineState → Turn → State Bytes → History → AccountSide → (History → AccountSide) → Type 0
  Took b w disk disk' e' end base h old new =
      (k : History) × TakesTurn w old end (new k) × (e'.log.closed ≡ false → Over (seen disk') e' base k) × IsPrefixOf h k
      × (b ≡ true → TurnImages end base k (may_leave disk')) × (b ≡ true → LeavesOnly moment left_since disk disk' (IsBetween base h k))

  -- what a drain did
  abbrev pub Ended : Bool → Working → ℕ → D → D → EngineState → Turn → State Bytes → History → AccountSide → (History → AccountSide) → Type 0
  Ended b w most disk disk' e' end base h old new =
      (k : History) × Drained w most old end (new k) × (e'.log.closed ≡ false → Over (seen disk') e' base k) × IsPrefixOf h k
      × (b ≡ true → TurnImages end base k (may_leave disk')) × (b ≡ true → LeavesOnly moment left_since disk disk' (IsBetween base h k))

  -- turns so far, each of which added a command; so many more may be taken
  abbrev pub SoFar : Bool → Working → (most left : ℕ) → D → D → EngineState → State Bytes → History → AccountSide → (History → AccountSide) → Type 0
  SoFar b w most left disk disk' e' base h old new =
      (k : History) × (ts : List TurnTaken) × Led w old ts (new k) × (length ts + left ≡ most) × Over (seen disk') e' base k × IsPrefixOf h k
      × (b ≡ true → LeavesOnly moment left_since disk disk' (IsBetween base h k))

  module _ (b : Bool) (w : Working) (most left : ℕ) (disk mid disk' : D) (e1 e' : EngineState) (base : State Bytes) (h : History) (old : AccountSide) (here new : History → AccountSide) where
    leaves_on : (m k : History) → IsPrefixOf h m → IsPrefixOf m k → LeavesOnly moment left_since disk mid (IsBetween base h m) → LeavesOnly moment left_since mid disk' (IsBetween base m k) → LeavesOnly moment left_since disk disk' (IsBetween base h k)
    leaves_on m k f g x y = joins moment left_since disk mid disk' (IsBetween base h m) (IsBetween base m k) (IsBetween base h k) x y (λ c i. between_to base h m k c g i) (λ c i. between_from base h m k c f i)

    -- one turn more
    pub so_more : (end : Turn) → adds end ≡ true → e'.log.closed ≡ false → 0 < left → (left' : ℕ) → left' + 1 ≡ left → (s : SoFar b w most left disk mid e1 base h old here) → Took b w mid disk' e' end base s.0 (here s.0) new
        → SoFar b w most left' disk disk' e' base h old new
    so_more end is is_open some left' one s t =
        let a = one_added w (here s.0) end (new t.0) is t.1 in
        let all = length-append s.1 (a.0 ∷ []) in (
          t.0,
          s.1 ++ a.0 ∷ [],
          led_on w old (here s.0) (new t.0) s.1 (a.0 ∷ []) s.2 (led_one w (here s.0) (new t.0) a.0 a.1 a.2),
          omega (arith, all, one, s.3),
          t.2 is_open,
          front_of_front h s.0 t.0 s.5 t.3,
          (λ kn. leaves_on s.0 t.0 s.5 t.3 (s.6 kn) (t.5 kn)),
        )

    -- the last turn
    pub so_ends : (end : Turn) → 0 < left → (adds end ≡ true → left ≡ 1) → (s : SoFar b w most left disk mid e1 base h old here) → Took b w mid disk' e' end base s.0 (here s.0) new → Ended b w most disk disk' e' end base h old new
    so_ends end some spent s t = (
      t.0,
      record {
        turns = s.1;
        middle = here s.0;
        led = s.2;
        few = omega (arith, some, s.3);
        ends = t.1;
        spent = λ is. (let one = spent is in omega (arith, one, s.3));
      },
      t.2,
      front_of_front h s.0 t.0 s.5 t.3,
      t.4,
      (λ kn. leaves_on s.0 t.0 s.5 t.3 (s.6 kn) (t.5 kn)),
    )

-- an engine goes on over one call after another
pub goes_on_more : {D : Type 0} (seen : D → Option Files) (may_leave : D → Files → Type 0) (faults : D → ℕ) (old mid new : D) (e e1 e2 : EngineState) → is_some (seen mid) ≡ is_some (seen old) → e1.log.is_old ≡ e.log.is_old → e1.log.limit ≡ e.log.limit → NeverFell (faults old) (faults mid)
    → EngineGoesOn seen may_leave faults mid new e1 e2 → EngineGoesOn seen may_leave faults old new e e2
goes_on_more seen may_leave faults old mid new e e1 e2 told version limit count g = record {
  stays = record {
    told = λ is_open. g.stays.told is_open ∙ told;
    version = λ is_open. g.stays.version is_open ∙ version;
    limit = λ is_open. g.stays.limit is_open ∙ limit;
    faults = let x = g.stays.faults in omega (arith, x, count);
  };
  stands = g.stands;
  serves = g.serves;
}
