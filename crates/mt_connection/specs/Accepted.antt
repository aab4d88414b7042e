-- What a message adds, as a step of the life of a store.
use Rattle.std.specs.Prelude.{◌≡◌, ◌≤◌, ℕ, List, ◌++◌, length, map}
use Rattle.mt_answer.specs.Answer.{Answer}
use Rattle.mt_opening.specs.History.{Bytes, History}
use Rattle.mt_http.specs.declared.message.Head.{Head}
use Rattle.mt_lives.specs.World.{Accept, Attempt, Steps}
use Rattle.mt_model.specs.CommandStep.{replay}
use Rattle.mt_model.specs.Lawful.{Lawful}
use Rattle.mt_model.specs.State.{first_state}
use Rattle.mt_types.specs.declared.task.Fate.{Fate}
use Rattle.mt_types.specs.declared.task.Raw.{Raw}
use Rattle.mt_runner.specs.Living.{AreAttempts, world_of}
use Rattle.mt_runner.specs.declared.runner.Started.{Started}
use Rattle.mt_connection.specs.Transcript.{IsTheAnswer, Setting}

-- The command of an answer, where it has one, is accepted from a client: over each whole history that leads to the base, of however many of its
-- commands was told, beside whatever attempts at tasks live, which stay; however outcomes of children are judged.
abbrev pub RequestsAreSteps : Setting → Type 0
RequestsAreSteps s = (earlier h : History) (used : ℕ) (head : Head) (body : Bytes) (moment : ℕ) (answer : Answer Bytes) → replay first_state earlier ≡ s.base → IsTheAnswer s h used head body moment answer
    → (fate_of : Raw → Fate Bytes) (named : ℕ) (attempts : List Attempt) → (length answer.added ≤ 1)
    × Steps s.login s.runs fate_of (record { history = earlier ++ h; named = named; attempts = attempts }) (map Accept answer.added) (record { history = earlier ++ (h ++ answer.added); named = named; attempts = attempts })

-- The same from world to world of the children that a runner keeps, where they are attempts in the state of the history: behind the command they are
-- the same attempts, so that a turn goes on from there.
abbrev pub RequestsKeepChildren : Setting → Type 0
RequestsKeepChildren s = (earlier h : History) (used : ℕ) (head : Head) (body : Bytes) (moment : ℕ) (answer : Answer Bytes) → replay first_state earlier ≡ s.base → IsTheAnswer s h used head body moment answer
    → (fate_of : Raw → Fate Bytes) (named : ℕ) (kept : List Started) → Lawful (replay s.base h) → AreAttempts s.login s.runs fate_of (replay s.base h) kept
    → Steps s.login s.runs fate_of (world_of s.login s.runs fate_of named (earlier ++ h) kept) (map Accept answer.added) (world_of s.login s.runs fate_of named (earlier ++ (h ++ answer.added)) kept)
