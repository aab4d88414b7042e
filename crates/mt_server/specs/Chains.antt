-- Runs one behind the other, as lives of one store: crashes among them, and what their own commands make of the whole history.
use Rattle.std.specs.Prelude.{◌≡◌, ◌≤◌, ℕ, ⊤, List, [], ◌∷◌, ◌++◌, length}
use Rattle.mt_disk.specs.Files.{Files}
use Rattle.mt_opening.specs.History.{Bytes, HasHistory, History}
use Rattle.mt_jobtext.specs.Archives.{ArchivesFrom}
use Rattle.mt_lives.specs.Lives.{AreHonest, Life, Lived, Lives}
use Rattle.mt_lives.specs.World.{Attempt, Crash, Happens}
use Rattle.mt_model.specs.CommandStep.{replay}
use Rattle.mt_model.specs.Honest.{Honest, HonestFrom}
use Rattle.mt_model.specs.State.{first_state}
use Rattle.mt_types.specs.declared.task.Fate.{Fate}
use Rattle.mt_types.specs.declared.task.Raw.{Raw}
use Rattle.mt_types.specs.declared.task.Run.{Run}

-- the life that a run over a base ends in an image with this history, over an earlier history that leads to the base
abbrev pub life_of : (earlier named history : History) → Files → Life
life_of earlier named history files = record { named = earlier ++ named; after = earlier ++ history; files = files }

-- the jobs that each life's own commands end have their texts in their archives
abbrev pub HaveArchives : Bytes → History → List Life → Type 0
HaveArchives login before [] = ⊤
HaveArchives login before (l ∷ ls) = ((added : History) → l.after ≡ before ++ added → ArchivesFrom login (replay first_state before) added) × HaveArchives login l.after ls

module _ (login : Bytes) (gives : Run → Bytes → Raw → Type 0) where
  -- An image that a run leaves is what a crash leaves of the world of its history: the commands of the image, no fewer than were told of, if
  -- what was told of stands at its front, and no attempt.
  abbrev pub ImagesAreCrashes : Type 0
  ImagesAreCrashes = (fate_of : Raw → Fate Bytes) (earlier old new told : History) (c : Files) → (l : Lived HasHistory (replay first_state earlier) old new told c) → (named : ℕ) (attempts : List Attempt) → named ≤ length (earlier ++ told)
      → Happens login gives fate_of (record { history = earlier ++ new; named = named; attempts = attempts }) (Crash (length (earlier ++ l.history))) (record { history = earlier ++ l.history; named = named; attempts = [] })

  -- where what a run added is honest, so is what each of its images has of that
  abbrev pub RunsAreHonest : Type 0
  RunsAreHonest = (fate_of : Raw → Fate Bytes) (earlier old added told : History) (c : Files) → HonestFrom login gives fate_of (replay (replay first_state earlier) old) added
      → (l : Lived HasHistory (replay first_state earlier) old (old ++ added) told c) → AreHonest login gives fate_of (earlier ++ old) (life_of earlier told l.history c ∷ [])

  -- where the commands of each life are honest, the whole history is
  abbrev pub LivesAreHonest : Type 0
  LivesAreHonest = (fate_of : Raw → Fate Bytes) (before after : History) (ls : List Life) → Lives HasHistory before ls after → AreHonest login gives fate_of before ls → Honest login gives fate_of before → Honest login gives fate_of after

-- where the archives of what a run added are the texts, so are those of what each of its images has of that
abbrev pub RunsHaveArchives : Type 0
RunsHaveArchives = (login : Bytes) (earlier old added told : History) (c : Files) → ArchivesFrom login (replay (replay first_state earlier) old) added
    → (l : Lived HasHistory (replay first_state earlier) old (old ++ added) told c) → HaveArchives login (earlier ++ old) (life_of earlier told l.history c ∷ [])

-- where the archives of each life's own commands are the texts of their jobs, so are those of the whole history
abbrev pub LivesKeepArchives : Type 0
LivesKeepArchives = (login : Bytes) (before after : History) (ls : List Life) → Lives HasHistory before ls after → HaveArchives login before ls → ArchivesFrom login first_state before → ArchivesFrom login first_state after
