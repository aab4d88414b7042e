-- Turns that are steps of a life, one after another.
use Rattle.std.proofs.Common.{◌≡◌, ℕ, Bool, true, false, List, refl, ap, sym, subst, ◌∙◌, Option}
use Rattle.std.specs.Prelude.{is_some}
use Rattle.mt_disk.specs.Files.{Files}
use Rattle.mt_disk.proofs.Moments.{joins}
use Rattle.mt_types.specs.declared.task.Raw.{Raw}
use Rattle.mt_types.specs.declared.task.Run.{Run}
use Rattle.mt_model.specs.Honest.{Bytes}
use Rattle.mt_model.specs.State.{State}
use Rattle.mt_records.specs.Fate.{fate}
use Rattle.mt_opening.specs.Current.{EngineIsReady, EngineState, IsBetween, IsCurrent}
use Rattle.mt_opening.specs.History.{History}
use Rattle.mt_runner.specs.Living.{LivesTo, may_lose, may_waste}
use Rattle.mt_runner.specs.Turning.{TurnImages, adds}
use Rattle.mt_runner.specs.declared.runner.Started.{Started}
use Rattle.mt_runner.specs.declared.turn.Turn.{Turn}
use Rattle.mt_runner.specs.declared.turn.Turn.TheVariants as turn
use Rattle.mt_runner.proofs.Crashes.{all_of, between_from, between_to, front_of_front, images_open, unmoved}
use Rattle.mt_runner.proofs.Lived.{lives_same, lives_then, lives_wider}

-- an answer that added a command lets nothing go in vain
never_wastes : (end : Turn) → adds end ≡ true → may_waste end ≡ false
never_wastes (turn.Closed n) is = refl
never_wastes (turn.Committed t) is = refl
never_wastes turn.Idle is = refl
never_wastes turn.NotYet is = refl
never_wastes turn.SpawnFault is = refl
never_wastes turn.Full is = cc
never_wastes turn.Disk is = cc
never_wastes turn.Memory is = cc

never_loses : (end : Turn) → adds end ≡ true → may_lose end ≡ false
never_loses (turn.Closed n) is = refl
never_loses (turn.Committed t) is = refl
never_loses turn.Idle is = refl
never_loses turn.NotYet is = refl
never_loses turn.SpawnFault is = cc
never_loses turn.Full is = refl
never_loses turn.Disk is = refl
never_loses turn.Memory is = cc

wrong : {X : Type 0} (b : Bool) → b ≡ false → b ≡ true → X
wrong b un is = let no : false ≡ true = sym un ∙ is in absurd (cc)

whole_images : (end : Turn) → adds end ≡ true → (base : State Bytes) (h : History) (images : Files → Type 0) → TurnImages end base h images → TurnImages turn.Idle base h images
whole_images (turn.Closed n) is base h images all = all
whole_images (turn.Committed t) is base h images all = all
whole_images turn.Idle is base h images all = all
whole_images turn.NotYet is base h images all = all
whole_images turn.SpawnFault is base h images all = all
whole_images turn.Full is base h images all = all
whole_images turn.Disk is base h images all = cc
whole_images turn.Memory is base h images all = all

module _ {D : Type 0} (seen : D → Option Files) (may_leave : D → Files → Type 0) (moment : D → ℕ) (left_since : D → ℕ → Files → Type 0) (login : Bytes) (runs : Run → Bytes → Raw → Type 0) where
  abbrev pub LivedTo : D → D → EngineState → Turn → State Bytes → History → List Started → List Started → Type 0
  LivedTo disk disk' e' end base h before after = LivesTo login runs (fate login) seen may_leave moment left_since disk disk' e' end base h before after

  -- nothing happened yet
  pub lived_none : (disk : D) (e : EngineState) (base : State Bytes) (h : History) (ks : List Started) → ((c : Files) → left_since disk (moment disk) c → may_leave disk c) → EngineIsReady seen may_leave disk e → IsCurrent (seen disk) e base h
      → LivedTo disk disk e turn.Idle base h ks ks
  lived_none disk e base h ks only_now ready i = record {
    whole = h;
    lives = lives_same login runs turn.Idle base h ks;
    grew = all_of h;
    current = λ still. i;
    images = λ c image. images_open seen may_leave disk e base h ready.stands ready.is_open (λ files is. i) (ap is_some i.is_read.seen_is) c image;
    leaves = unmoved seen may_leave moment left_since disk e base h only_now ready.stands ready.is_open (λ files is. i) (ap is_some i.is_read.seen_is);
  }

  module _ (disk mid disk' : D) (e1 e' : EngineState) (base : State Bytes) (h : History) (xs ys zs : List Started) (a : LivedTo disk mid e1 turn.Idle base h xs ys) where
    -- a turn behind turns that each added a command
    pub lived_more : (end : Turn) → LivedTo mid disk' e' end base a.whole ys zs → LivedTo disk disk' e' end base h xs zs
    lived_more end b = record {
      whole = b.whole;
      lives = lives_then login runs end base h a.whole b.whole xs ys zs (lives_wider login runs turn.Idle end base h a.whole xs ys (λ is. wrong false refl is) (λ is. wrong false refl is) a.lives) b.lives;
      grew = front_of_front h a.whole b.whole a.grew b.grew;
      current = b.current;
      images = b.images;
      leaves = joins moment left_since disk mid disk' (IsBetween base h a.whole) (IsBetween base a.whole b.whole) (IsBetween base h b.whole) a.leaves b.leaves
          (λ c i. between_to base h a.whole b.whole c b.grew i) (λ c i. between_from base h a.whole b.whole c a.grew i);
    }

    -- and where it added one too, more may follow
    pub lived_on : (end : Turn) → adds end ≡ true → LivedTo mid disk' e' end base a.whole ys zs → LivedTo disk disk' e' turn.Idle base h xs zs
    lived_on end is b =
        let c = lived_more end b in
        record {
          whole = c.whole;
          lives = lives_wider login runs end turn.Idle base h c.whole xs zs (λ waste. wrong (may_waste end) (never_wastes end is) waste) (λ lose. wrong (may_lose end) (never_loses end is) lose) c.lives;
          grew = c.grew;
          current = c.current;
          images = whole_images end is base c.whole (may_leave disk') c.images;
          leaves = c.leaves;
        }

-- the same at an equal rule and login
pub lived_at : {D R : Type 0} (seen : D → Option Files) (may_leave : D → Files → Type 0) (moment : D → ℕ) (left_since : D → ℕ → Files → Type 0) (gives : R → Run → Bytes → Raw → Type 0) (r r' : R) (login login' : Bytes)
    (disk disk' : D) (e' : EngineState) (end : Turn) (base : State Bytes) (h : History) (before after : List Started) → r' ≡ r → login' ≡ login
    → LivedTo seen may_leave moment left_since login' (gives r') disk disk' e' end base h before after → LivedTo seen may_leave moment left_since login (gives r) disk disk' e' end base h before after
lived_at {D} {R} seen may_leave moment left_since gives r r' login login' disk disk' e' end base h before after er el l =
    subst (λ (x : Bytes). LivedTo seen may_leave moment left_since x (gives r) disk disk' e' end base h before after) el
    (subst (λ (q : R). LivedTo seen may_leave moment left_since login' (gives q) disk disk' e' end base h before after) er l)
