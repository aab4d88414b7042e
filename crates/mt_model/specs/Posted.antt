-- The inputs that posts give a job.
use Rattle.std.specs.Prelude.{ℕ, ◌==◌, List, [], ◌∷◌, ◌++◌, Option, None, if◌then◌else◌}
use Rattle.std.specs.List.{filter_map}
use Rattle.std.specs.Option.{option_map}
use Rattle.mt_model.specs.Types.{AddInputs, Command, InputLine, Item, Named, Other}
use Rattle.mt_model.specs.CommandStep.{step}
use Rattle.mt_model.specs.Names.{root_of_input}
use Rattle.mt_model.specs.Rows.{Rows, object_at}
use Rattle.mt_model.specs.State.{State}

module _ {B : Type 0} where
  -- the input that a line gives: the object that it names, if one stands there
  abbrev pub input_of_line : Rows B → InputLine → Option (Item B)
  input_of_line rows (Named p) = option_map (λ o. record { name = p; root = root_of_input p; body = o.body; reducer = None }) (object_at rows p)
  input_of_line rows (Other text) = None

  -- those of lines, in their order
  abbrev pub inputs_of_lines : Rows B → List InputLine → List (Item B)
  inputs_of_lines rows lines = filter_map (input_of_line rows) lines

  -- those that a command gives this job
  abbrev pub posted_by : State B → Command B → ℕ → List (Item B)
  posted_by s (AddInputs job lines moment) number = if job == number then inputs_of_lines s.rows lines else []
  posted_by s other number = []

  -- those that the posts of a history give it, each by what stands at that moment
  unfoldable pub posted_from : State B → List (Command B) → ℕ → List (Item B)
  posted_from s [] number = []
  posted_from s (c ∷ cs) number = posted_by s c number ++ posted_from (step s c) cs number
