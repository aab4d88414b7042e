-- A command leaves each attempt what it is: its task, its run and its input stay.
use Rattle.std.proofs.Common.{◌≡◌, ℕ, ◌<◌, List, length, None, sym, ◌∙◌}
use Rattle.mt_types.specs.WellMade.{IsWellMade}
use Rattle.mt_model.specs.Types.{Command, Fate, MOST_COMMANDS, Raw, Run}
use Rattle.mt_model.specs.CommandStep.{allowed, step}
use Rattle.mt_model.specs.Honest.{Bytes}
use Rattle.mt_model.specs.Lawful.{Lawful}
use Rattle.mt_model.specs.State.{State}
use Rattle.mt_model.proofs.TasksStay.{tasks_stay}
use Rattle.mt_lives.specs.World.{Attempt, IsAttempt}

module _ (login : List ℕ) (gives : Run → Bytes → Raw → Type 0) (fate_of : Raw → Fate Bytes) where
  pub attempt_stays : (s : State Bytes) (c : Command Bytes) → Lawful s → s.count < MOST_COMMANDS → IsWellMade c → allowed length s c ≡ None → (a : Attempt) → IsAttempt login gives fate_of s a → IsAttempt login gives fate_of (step s c) a
  attempt_stays s c law room made none a i =
      let t = tasks_stay s c law room made none login a.task.job a.task.phase a.task.place i.job i.phase i.found i.has i.task in
      record {
        job = t.0;
        phase = i.phase;
        found = t.1;
        has = t.2.has;
        task = t.2.task;
        is = i.is ∙ (λ k. record { ticket = a.ticket; task = a.task; run = sym t.2.run k; input = sym t.2.input k });
      }
