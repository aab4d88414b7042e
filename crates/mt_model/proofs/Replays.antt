-- A history goes on from where its front leads.
use Rattle.std.proofs.Common.{◌≡◌, List, [], ◌∷◌, ◌++◌, refl}
use Rattle.mt_types.specs.declared.command.Command.{Command}
use Rattle.mt_model.specs.CommandStep.{replay, step}
use Rattle.mt_model.specs.State.{State}

module _ {B : Type 0} where
  pub replay_on : (s : State B) (cs ds : List (Command B)) → replay s (cs ++ ds) ≡ replay (replay s cs) ds
  unfolding replay
  replay_on s [] ds = refl
  replay_on s (c ∷ cs) ds = replay_on (step s c) cs ds

  -- by one command more
  pub replay_more : (s : State B) (cs : List (Command B)) (c : Command B) → replay s (cs ++ c ∷ []) ≡ step (replay s cs) c
  unfolding replay
  replay_more s [] c = refl
  replay_more s (d ∷ cs) c = replay_more (step s d) cs c
