-- What the calls of a spawner do to its children and its counts.
use Rattle.std.specs.Prelude.{◌≡◌, ◌==◌, ℕ, ◌+◌, min, Bool, false, not, List, [], ◌∷◌, ◌++◌, length, map, filter, Option, Some, None, IfSome}
use Rattle.std.specs.List.{AllZip, Contains, list_any}
use Rattle.std.specs.Io.KnownBytes.{IsAtEnd}
use Rattle.mt_base.specs.Counts.{NeverFell, Rose, RoseBy}
use Rattle.mt_types.specs.declared.task.Raw.{Raw}
use Rattle.mt_spawn.specs.Orders.{told_of}
use Rattle.mt_spawn.specs.declared.task.Begun.{Begun}
use Rattle.mt_spawn.specs.declared.task.Begun.TheVariants as begun
use Rattle.mt_spawn.specs.declared.task.Left.{Left}
use Rattle.mt_spawn.specs.declared.task.Waited.{Waited}
use Rattle.mt_spawn.specs.declared.task.Waited.TheVariants as waited

-- a live child: its ticket, what decides what it may end in, and how often it was waited for in vain
pub record Child (Fate : Type 0) : Type 0 where
  pub ticket : ℕ
  pub fate : Fate
  pub waits : ℕ

-- the live children in the order of their starts; how many calls failed, how many waits were in vain, and how many children lived
-- at the ends of children, summed up
pub record Seen (Fate : Type 0) : Type 0 where
  pub live : List (Child Fate)
  pub faults : ℕ
  pub waits : ℕ
  pub company : ℕ

-- what a child may have ended in: the outcome that is told, or else any of which this is told
abbrev pub MayBe : (Raw → Type 0) → Left → Option Raw → Type 0
MayBe may left (Some raw) = (told_of raw ≡ left) × may raw
MayBe may left None = (raw : Raw) → told_of raw ≡ left → may raw

module _ {F : Type 0} where
  abbrev pub ticket_of : Child F → ℕ
  ticket_of c = c.ticket

  -- a child of this ticket lives
  abbrev pub lives : ℕ → List (Child F) → Bool
  lives t cs = list_any (λ n. t == n) (map ticket_of cs)

  -- those of other tickets
  abbrev pub without : ℕ → List (Child F) → List (Child F)
  without t cs = filter (λ c. not (t == c.ticket)) cs

  -- no wait was in vain, and no child ended
  pub record SameCounts (old new : Seen F) : Type 0 where
    pub waits : new.waits ≡ old.waits
    pub company : new.company ≡ old.company

  -- nor came or went one
  pub record SameLive (old new : Seen F) : Type 0 where
    pub live : new.live ≡ old.live
    pub counts : SameCounts old new

  -- the child of this ticket is gone
  pub record Loses (t : ℕ) (old new : Seen F) : Type 0 where
    pub gone : new.live ≡ without t old.live
    pub counts : SameCounts old new

  -- a child more, of a new ticket, which ends in what its order gives on the bytes that came with it
  pub record Adds (may : F → Raw → Type 0) (gives : List ℕ → Raw → Type 0) (left left' : Option (List ℕ)) (old : Seen F) (t : ℕ) (new : Seen F) : Type 0 where
    pub fate : F
    pub fresh : lives t old.live ≡ false
    pub added : new.live ≡ old.live ++ record { ticket = t; fate = fate; waits = 0 } ∷ []
    pub honest : IfSome left (λ bytes. (raw : Raw) → may fate raw → gives bytes raw)
    pub at_end : IsAtEnd left'
    pub counts : SameCounts old new

  -- a start, by its answer
  abbrev pub Begins : (F → Raw → Type 0) → (List ℕ → Raw → Type 0) → Option (List ℕ) → Option (List ℕ) → Seen F → Begun → Seen F → Type 0
  Begins may gives left left' old (begun.Began ticket) new = Adds may gives left left' old ticket.number new × NeverFell old.faults new.faults
  Begins may gives left left' old begun.Failed new = SameLive old new × Rose old.faults new.faults
  Begins may gives left left' old begun.InputFailed new = SameLive old new × NeverFell old.faults new.faults
  Begins may gives left left' old begun.Memory new = SameLive old new × NeverFell old.faults new.faults

  -- a live child has ended, and what it left is held
  pub record HasEnded (may : F → Raw → Type 0) (t : ℕ) (old : Seen F) (left : Left) (told : Option Raw) (new : Seen F) : Type 0 where
    pub child : Child F
    pub alive : Contains old.live child
    pub named : child.ticket ≡ t
    pub given : MayBe (may child.fate) left told
    pub gone : new.live ≡ without t old.live
    pub company : new.company ≡ min 18446744073709551615 (old.company + length old.live)
    pub waits : new.waits ≡ old.waits
    pub faults : NeverFell old.faults new.faults

  -- a live child before and after a wait in vain
  pub record HasWaited (c d : Child F) : Type 0 where
    pub ticket : d.ticket ≡ c.ticket
    pub fate : d.fate ≡ c.fate
    pub rose : RoseBy 1 c.waits d.waits

  -- every live child was waited for in vain
  pub record AllWait (old new : Seen F) : Type 0 where
    pub each : AllZip HasWaited old.live new.live
    pub waits : RoseBy 1 old.waits new.waits
    pub company : new.company ≡ old.company
    pub faults : NeverFell old.faults new.faults

  -- a child that lived is gone
  pub record IsGone (t : ℕ) (old new : Seen F) : Type 0 where
    pub child : Child F
    pub alive : Contains old.live child
    pub named : child.ticket ≡ t
    pub loses : Loses t old new

  -- a wait, by its answer: what is held behind it, and what is told of that
  abbrev pub Waits : (F → Raw → Type 0) → Seen F → Waited → Option Left → Option Raw → Seen F → Type 0
  Waits may old (waited.Ended ticket left) held told new = HasEnded may ticket.number old left told new × (held ≡ Some left)
  Waits may old waited.NotYet held told new = AllWait old new × (held ≡ None)
  Waits may old (waited.Failed ticket) held told new = IsGone ticket.number old new × Rose old.faults new.faults × (held ≡ None)
  Waits may old (waited.Lost ticket) held told new = IsGone ticket.number old new × NeverFell old.faults new.faults × (held ≡ None)
  Waits may old waited.Memory held told new = SameLive old new × NeverFell old.faults new.faults × (held ≡ None)
