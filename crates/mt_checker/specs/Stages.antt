-- Which lines of a certificate may stand behind others.
use Rattle.std.specs.Prelude.{◌==◌, ◌&&◌, List, [], ◌∷◌, ◌++◌, length, Option, Some, None, option_and_then, if◌then◌else◌}
use Rattle.mt_model.specs.Types.{AccountPath, Item, Phase}
use Rattle.mt_certline.specs.Certificate.{Progress, is_whole, output_follows, task_follows}
use Rattle.mt_certline.specs.declared.line.Line.{Line}
use Rattle.mt_certline.specs.declared.line.Line.TheVariants.{Begin, End, Input, Output, Task}
use Rattle.mt_certline.specs.declared.line.Listed.{Listed}
use Rattle.mt_certline.specs.declared.line.Sum.{Sum}

-- how far a certificate has come: no line yet, in its midst, or its last line was there
pub data Stage : Type 0 where
  Beginning : Stage
  Listing : Progress → Stage
  Over : Stage

-- only the phases are listed
abbrev pub begun : List Phase → Progress
begun phases = record { phases = phases; inputs = []; tasks = []; outputs = [] }

-- with one more of each
abbrev pub with_input : Progress → Item Sum → Progress
with_input g i = record g { inputs = g.inputs ++ i ∷ [] }

abbrev pub with_task : Progress → Listed → Progress
with_task g l = record g { tasks = g.tasks ++ l ∷ [] }

abbrev pub with_output : Progress → AccountPath → Progress
with_output g p = record g { outputs = g.outputs ++ p ∷ [] }

-- the stage behind a line in the midst, none where it may not stand there
abbrev pub after_in : Progress → Line → Option Stage
after_in g (Begin number phases) = None
after_in g (Input i) = if (length g.tasks == 0) && (length g.outputs == 0) then Some (Listing (with_input g i)) else None
after_in g (Task l) = if (length g.outputs == 0) && task_follows g l then Some (Listing (with_task g l)) else None
after_in g (Output p) = if output_follows g p then Some (Listing (with_output g p)) else None
after_in g End = if is_whole g then Some Over else None

-- the first line is the one that begins
abbrev pub first : Line → Option Stage
first (Begin number phases) = Some (Listing (begun phases))
first other = None

-- the stage behind a line, none where it may not stand there
abbrev pub after : Stage → Line → Option Stage
after Beginning l = first l
after (Listing g) l = after_in g l
after Over l = None

-- the stage behind some lines
abbrev pub run : Stage → List Line → Option Stage
run s [] = Some s
run s (l ∷ ls) = option_and_then (λ t. run t ls) (after s l)
