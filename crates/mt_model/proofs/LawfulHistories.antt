-- Every state of a history whose commands are well made and allowed is lawful.
use Rattle.std.proofs.Common.{◌≡◌, ℕ, ◌<◌, List, [], ◌∷◌, ◌++◌, length, None}
use Rattle.mt_types.specs.WellMade.{IsWellMade}
use Rattle.mt_types.specs.declared.command.Command.{Command}
use Rattle.mt_types.specs.declared.command.Command.TheVariants.{Put, MakeDirectory, Link, Delete, NewJob, AddInputs, EndInput, Commit, Finish, Cancel, Close, NewUpload, PutPart, CommitUpload, AbortUpload}
use Rattle.mt_types.specs.declared.limits.TheConstants.{MOST_COMMANDS}
use Rattle.mt_types.specs.declared.task.Fate.{Fate}
use Rattle.mt_types.specs.declared.task.Raw.{Raw}
use Rattle.mt_types.specs.declared.task.Run.{Run}
use Rattle.mt_model.specs.CommandStep.{allowed, replay, step}
use Rattle.mt_model.specs.Honest.{Bytes, Honest, HonestFrom}
use Rattle.mt_model.specs.Lawful.{Lawful}
use Rattle.mt_model.specs.Laws.{TakenFrom}
use Rattle.mt_model.specs.State.{State, first_state}
use Rattle.mt_model.proofs.LawfulSteps.{Lawful-abort_upload, Lawful-add_inputs, Lawful-cancel, Lawful-close, Lawful-commit, Lawful-commit_upload, Lawful-delete, Lawful-end_input, Lawful-finish, Lawful-first_state, Lawful-link, Lawful-make_directory, Lawful-new_job, Lawful-new_upload, Lawful-put, Lawful-put_part}

-- one command
pub lawful_step : {B : Type 0} (size : B → ℕ) (s : State B) (c : Command B) → Lawful s → s.count < MOST_COMMANDS → IsWellMade c → allowed size s c ≡ None → Lawful (step s c)
lawful_step size s (Put path content_type body durability metadata moment) law room made e = Lawful-put size s law path content_type body durability metadata moment made e
lawful_step size s (MakeDirectory path moment) law room made e = Lawful-make_directory size s law path moment made e
lawful_step size s (Link path source moment) law room made e = Lawful-link size s law path source moment made.0 e
lawful_step size s (Delete path moment) law room made e = Lawful-delete size s law path moment e
lawful_step size s (NewJob document moment) law room made e = Lawful-new_job size s law document moment made room e
lawful_step size s (AddInputs job lines moment) law room made e = Lawful-add_inputs size s law job lines moment made e
lawful_step size s (EndInput job moment) law room made e = Lawful-end_input size s law job moment e
lawful_step size s (Commit job phase place f moment) law room made e = Lawful-commit size s law job phase place f moment made room e
lawful_step size s (Finish job moment) law room made e = Lawful-finish size s law job moment e
lawful_step size s (Cancel job moment) law room made e = Lawful-cancel size s law job moment e
lawful_step size s (Close job cancelled archive moment) law room made e = Lawful-close size s law job cancelled archive moment room e
lawful_step size s (NewUpload path content_type moment) law room made e = Lawful-new_upload size s law path content_type moment made e
lawful_step size s (PutPart upload index body moment) law room made e = Lawful-put_part size s law upload index body moment made
lawful_step size s (CommitUpload upload parts body moment) law room made e = Lawful-commit_upload size s law upload parts body moment e
lawful_step size s (AbortUpload upload moment) law room made e = Lawful-abort_upload size s law upload moment

module _ {B : Type 0} (size : B → ℕ) where
  pub lawful_taken : (s : State B) (h : List (Command B)) → Lawful s → TakenFrom size s h → Lawful (replay s h)
  unfolding TakenFrom replay
  lawful_taken s [] law taken = law
  lawful_taken s (c ∷ cs) law taken = lawful_taken (step s c) cs (lawful_step size s c law taken.0 taken.1 taken.2) taken.3

  -- a history is taken from a state on, and goes on from where that leads
  pub taken_rest : (s : State B) (h cs : List (Command B)) → TakenFrom size s (h ++ cs) → TakenFrom size (replay s h) cs
  unfolding TakenFrom replay
  taken_rest s [] cs taken = taken
  taken_rest s (d ∷ h) cs taken = taken_rest (step s d) h cs taken.3

  pub taken_front : (s : State B) (h cs : List (Command B)) → TakenFrom size s (h ++ cs) → TakenFrom size s h
  unfolding TakenFrom
  taken_front s [] cs taken = tt
  taken_front s (d ∷ h) cs taken = (taken.0, taken.1, taken.2, taken_front (step s d) h cs taken.3)

  pub taken_on : (s : State B) (h cs : List (Command B)) → TakenFrom size s h → TakenFrom size (replay s h) cs → TakenFrom size s (h ++ cs)
  unfolding TakenFrom replay
  taken_on s [] cs taken more = more
  taken_on s (d ∷ h) cs taken more = (taken.0, taken.1, taken.2, taken_on (step s d) h cs taken.3 more)

module _ (login : List ℕ) (gives : Run → Bytes → Raw → Type 0) (fate_of : Raw → Fate Bytes) where
  lawful_from : (s : State Bytes) (h : List (Command Bytes)) → Lawful s → HonestFrom login gives fate_of s h → Lawful (replay s h)
  unfolding HonestFrom replay
  lawful_from s [] law honest = law
  lawful_from s (c ∷ cs) law honest = lawful_from (step s c) cs (lawful_step length s c law honest.0.room honest.0.made honest.0.free) honest.1

  -- an honest history is one of well made and allowed commands
  pub taken_honest : (s : State Bytes) (h : List (Command Bytes)) → HonestFrom login gives fate_of s h → TakenFrom length s h
  unfolding HonestFrom TakenFrom
  taken_honest s [] honest = tt
  taken_honest s (c ∷ cs) honest = (honest.0.room, honest.0.made, honest.0.free, taken_honest (step s c) cs honest.1)

  pub lawful_honest : (h : List (Command Bytes)) → Honest login gives fate_of h → Lawful (replay first_state h)
  lawful_honest h honest = lawful_from first_state h (Lawful-first_state Bytes) honest
