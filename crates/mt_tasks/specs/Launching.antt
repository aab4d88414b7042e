-- What a start of a task does to the children.
use Rattle.std.specs.Prelude.{◌≡◌, ℕ, false, List, [], ◌∷◌, ◌++◌}
use Rattle.mt_base.specs.Counts.{NeverFell, Rose}
use Rattle.mt_spawn.specs.Children.{SameCounts, SameLive, Seen, lives}
use Rattle.mt_tasks.specs.declared.launching.Launched.{Launched}
use Rattle.mt_tasks.specs.declared.launching.Launched.TheVariants as launched

module _ {F : Type 0} where
  -- a child more, of a new ticket, which may only end in what is right
  pub record Comes (Is : F → Type 0) (old : Seen F) (t : ℕ) (new : Seen F) : Type 0 where
    pub fate : F
    pub fresh : lives t old.live ≡ false
    pub added : new.live ≡ old.live ++ record { ticket = t; fate = fate; waits = 0 } ∷ []
    pub right : Is fate
    pub counts : SameCounts old new
    pub faults : NeverFell old.faults new.faults

  -- a start, by its answer
  abbrev pub Launches : (F → Type 0) → Seen F → Launched → Seen F → Type 0
  Launches Is old (launched.Began ticket) new = Comes Is old ticket.number new
  Launches Is old launched.Failed new = SameLive old new × Rose old.faults new.faults
  Launches Is old launched.InputFailed new = SameLive old new × NeverFell old.faults new.faults
  Launches Is old launched.Memory new = SameLive old new × NeverFell old.faults new.faults
