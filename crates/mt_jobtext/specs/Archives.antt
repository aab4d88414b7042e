-- The archives of a history are the texts of its jobs.
use Rattle.std.specs.Prelude.{◌≡◌, ⊤, List, [], ◌∷◌, ◌++◌}
use Rattle.mt_types.specs.declared.command.Command.{Command}
use Rattle.mt_types.specs.declared.command.Command.TheVariants.{Close}
use Rattle.mt_types.specs.declared.job.Job.{Job}
use Rattle.mt_model.specs.CommandStep.{replay, step}
use Rattle.mt_model.specs.Honest.{Bytes, OfFound}
use Rattle.mt_model.specs.JobSteps.{done_at}
use Rattle.mt_model.specs.State.{State, job_at}
use Rattle.mt_jobtext.specs.JobTexts.{archive_of}

-- of a job that this command ends, the archive is the five texts, as it is then
abbrev pub HasTexts : Bytes → State Bytes → Command Bytes → Type 0
HasTexts login s (Close job cancelled archive moment) = OfFound (λ (j : Job Bytes). archive ≡ archive_of login (done_at moment cancelled j)) (job_at s.jobs job)
HasTexts login s other = ⊤

-- each command of a history, in the state before it
unfoldable pub ArchivesFrom : Bytes → State Bytes → List (Command Bytes) → Type 0
ArchivesFrom login s [] = ⊤
ArchivesFrom login s (c ∷ cs) = HasTexts login s c × ArchivesFrom login (step s c) cs

-- they grow by those of what follows
abbrev pub ArchivesGrow : Type 0
ArchivesGrow = (login : Bytes) (s : State Bytes) (h cs : List (Command Bytes)) → ArchivesFrom login s h → ArchivesFrom login (replay s h) cs → ArchivesFrom login s (h ++ cs)

-- a front of a history has them
abbrev pub ArchivesOfFronts : Type 0
ArchivesOfFronts = (login : Bytes) (s : State Bytes) (h cs : List (Command Bytes)) → ArchivesFrom login s (h ++ cs) → ArchivesFrom login s h

-- and so has the rest, in the state that the front leads to
abbrev pub ArchivesOfRests : Type 0
ArchivesOfRests = (login : Bytes) (s : State Bytes) (h cs : List (Command Bytes)) → ArchivesFrom login s (h ++ cs) → ArchivesFrom login (replay s h) cs
