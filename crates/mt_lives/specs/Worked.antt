-- A worked life: a map job of two tasks, with a crash between their ends.
use Rattle.std.specs.Prelude.{ℕ, List, [], ◌∷◌, codes, Some}
use Rattle.mt_model.specs.Types.{EndInput, Raw, Task, Whole}
use Rattle.mt_model.specs.Worked.{cat, closed, in_stor, job_of, post, put, texts}
use Rattle.mt_lives.specs.World.{Accept, Crash, End, Finish, LifeStep, Name, Start, World}

-- what the child of each task leaves
abbrev pub hello : Raw
hello = record { status = 0; stderr = []; made = Whole (codes "hello") [] }

-- a task of the job
abbrev pub task_at : ℕ → Task
task_at place = record { job = 0x1000; phase = 0; place = place }

-- an object, the job, its input twice; both tasks are started, and one is committed; a reply tells of it, and a crash
-- leaves all four commands and no child; the input ends, the other task is started anew, and the job is closed
abbrev pub life : List LifeStep
life =
    Accept (put (in_stor (codes "a")) (codes "hello")) ∷ Accept (job_of (cat ∷ [])) ∷ Accept (post 0x1000 (codes "a" ∷ codes "a" ∷ codes "none" ∷ []))
    ∷ Start 1 (task_at 0) ∷ Start 2 (task_at 1) ∷ End 1 hello (Some 0) ∷ Name ∷ Crash 4
    ∷ Accept (EndInput 0x1000 0) ∷ Start 3 (task_at 1) ∷ End 3 hello (Some 0) ∷ Finish 0x1000 texts 0 ∷ []

-- where it leads
abbrev pub last_world : World
last_world = record { history = closed; named = 4; attempts = [] }
