-- The lives of a store: runs of the program, each over what the one before it left, whatever ended that one.
use Rattle.std.specs.Prelude.{◌≡◌, ℕ, ⊤, List, [], ◌∷◌, ◌++◌}
use Rattle.std.specs.List.{AllByRecursion}
use Rattle.mt_base.specs.Lists.{IsPrefixOf}
use Rattle.mt_disk.specs.Files.{Files}
use Rattle.mt_model.specs.Types.{Command, Fate, Raw, Run}
use Rattle.mt_model.specs.CommandStep.{replay}
use Rattle.mt_model.specs.Honest.{Bytes, HonestFrom}
use Rattle.mt_model.specs.State.{State, first_state}

abbrev pub History : Type 0
History = List (Command Bytes)

-- what a run left: the history that it told of, the whole history that stands in the files then, and the files
pub record Life : Type 0 where
  pub named : History
  pub after : History
  pub files : Files

abbrev pub named_of : Life → History
named_of l = l.named

module _ (Has : State Bytes → History → Files → Type 0) where
  -- the files' log stands for this whole history: for a base to which an earlier one leads, and for the rest behind it
  pub record HasWhole (whole : History) (files : Files) : Type 0 where
    pub earlier : History
    pub rest : History
    pub has : Has (replay first_state earlier) rest files
    pub all : whole ≡ earlier ++ rest

  -- one end of a run over a base and a history behind it: one of the images that a crash may leave then
  pub record Lived (base : State Bytes) (old new named : History) (files : Files) : Type 0 where
    pub history : History
    pub has : Has base history files
    pub from : IsPrefixOf old history
    pub to : IsPrefixOf history new
    pub told : IsPrefixOf named history

  -- a life over a whole history
  pub record IsLife (before : History) (l : Life) : Type 0 where
    pub left : HasWhole l.after l.files
    pub grew : IsPrefixOf before l.after
    pub told : IsPrefixOf l.named l.after

  -- lives one behind the other, from this history to that one
  abbrev pub Lives : History → List Life → History → Type 0
  Lives before [] after = after ≡ before
  Lives before (l ∷ ls) after = IsLife before l × Lives l.after ls after

  -- a run over a base is a life over each whole history that leads to it
  abbrev pub RunsAreLives : Type 0
  RunsAreLives = (earlier old new named : History) (files : Files) → (l : Lived (replay first_state earlier) old new named files)
      → IsLife (earlier ++ old) (record { named = earlier ++ named; after = earlier ++ l.history; files = files })

  -- what was told of stays, whatever lives follow
  abbrev pub ToldStays : Type 0
  ToldStays = (before after : History) (ls : List Life) → Lives before ls after → IsPrefixOf before after × AllByRecursion (λ l. IsPrefixOf l.named after) ls

-- each life's own commands are honest
module _ (login : List ℕ) (gives : Run → Bytes → Raw → Type 0) (fate_of : Raw → Fate Bytes) where
  abbrev pub AreHonest : History → List Life → Type 0
  AreHonest before [] = ⊤
  AreHonest before (l ∷ ls) = ((added : History) → l.after ≡ before ++ added → HonestFrom login gives fate_of (replay first_state before) added) × AreHonest l.after ls
