-- The life of a map job with a crash between the ends of its two tasks.
use Rattle.std.proofs.Common.{ℕ, List, [], ◌∷◌, ◌++◌, codes, refl, arith}
use Rattle.std.specs.Fmt.{digits}
use Rattle.uuid.specs.Text.{by_index}
use Rattle.mt_ident.specs.Identifiers.{identifier_text}
use Rattle.mt_model.specs.Types.{Command, EndInput}
use Rattle.mt_model.specs.CommandStep.{allowed, change, replay, step}
use Rattle.mt_model.specs.Honest.{Bytes, HonestFrom}
use Rattle.mt_model.specs.Worked.{begun, cat, cat_gives, closed, complete, halfway, in_stor, job_of, judged, map_job_after, put}
use Rattle.mt_model.proofs.HonestWorked.{closed_is_honest}
use Rattle.mt_lives.specs.World.{Attempt, MayEnd, MayStart, Steps, World, attempt_at, first_world}
use Rattle.mt_lives.specs.Worked.{hello, last_world, life, task_at}

-- an attempt at a task of the job, as it stands after a history
abbrev attempt : ℕ → ℕ → List (Command Bytes) → Attempt
attempt ticket place h = attempt_at (codes "l") cat_gives judged ticket (task_at place) (map_job_after h) cat

abbrev world : List (Command Bytes) → ℕ → List Attempt → World
world h named attempts = record { history = h; named = named; attempts = attempts }

abbrev one : List (Command Bytes)
one = put (in_stor (codes "a")) (codes "hello") ∷ []

abbrev two : List (Command Bytes)
two = one ++ job_of (cat ∷ []) ∷ []

abbrev ended : List (Command Bytes)
ended = halfway ++ EndInput 0x1000 0 ∷ []

first_started : MayStart (codes "l") cat_gives judged (world begun 0 []) 1 (task_at 0) (attempt 1 0 begun)
unfolding allowed change replay step identifier_text by_index digits
first_started = record { job = map_job_after begun; phase = cat; found = refl; has = refl; ready = refl; no_ticket = refl; no_attempt = refl; is = refl }

second_started : MayStart (codes "l") cat_gives judged (world begun 0 (attempt 1 0 begun ∷ [])) 2 (task_at 1) (attempt 2 1 begun)
unfolding allowed change replay step identifier_text by_index digits
second_started = record { job = map_job_after begun; phase = cat; found = refl; has = refl; ready = refl; no_ticket = refl; no_attempt = refl; is = refl }

started_anew : MayStart (codes "l") cat_gives judged (world ended 4 []) 3 (task_at 1) (attempt 3 1 ended)
unfolding allowed change replay step identifier_text by_index digits
started_anew = record { job = map_job_after ended; phase = cat; found = refl; has = refl; ready = refl; no_ticket = refl; no_attempt = refl; is = refl }

first_ends : MayEnd (codes "l") cat_gives judged (world begun 0 (attempt 1 0 begun ∷ attempt 2 1 begun ∷ [])) 1 hello
unfolding allowed change replay step identifier_text by_index digits
first_ends = record { attempt = attempt 1 0 begun; lives = (0, omega arith, refl); named = refl; given = refl }

last_ends : MayEnd (codes "l") cat_gives judged (world ended 4 (attempt 3 1 ended ∷ [])) 3 hello
unfolding allowed change replay step identifier_text by_index digits
last_ends = record { attempt = attempt 3 1 ended; lives = (0, omega arith, refl); named = refl; given = refl }

pub map_job_with_a_crash : Steps (codes "l") cat_gives judged first_world life last_world
unfolding HonestFrom allowed change replay step identifier_text by_index digits first_ends last_ends
map_job_with_a_crash = (
  world one 0 [],
  (refl, closed_is_honest.0, refl),
  (
    world two 0 [],
    (refl, closed_is_honest.1.0, refl),
    (
      world begun 0 [],
      (refl, closed_is_honest.1.1.0, refl),
      (
        world begun 0 (attempt 1 0 begun ∷ []),
        (attempt 1 0 begun, first_started, refl),
        (
          world begun 0 (attempt 1 0 begun ∷ attempt 2 1 begun ∷ []),
          (attempt 2 1 begun, second_started, refl),
          (
            world halfway 0 (attempt 2 1 begun ∷ []),
            (first_ends, (omega arith, (tt, tt)), record { room = omega arith; free = refl }, refl),
            (
              world halfway 4 (attempt 2 1 begun ∷ []),
              refl,
              (
                world halfway 4 [],
                (omega arith, omega arith, refl),
                (
                  world ended 4 [],
                  (refl, closed_is_honest.1.1.1.1.0, refl),
                  (
                    world ended 4 (attempt 3 1 ended ∷ []),
                    (attempt 3 1 ended, started_anew, refl),
                    (
                      world complete 4 [],
                      (last_ends, (omega arith, (tt, tt)), record { room = omega arith; free = refl }, refl),
                      (world closed 4 [], (record { room = omega arith; free = refl }, refl), refl),
                    ),
                  ),
                ),
              ),
            ),
          ),
        ),
      ),
    ),
  ),
)
