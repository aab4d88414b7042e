-- No number of a line is a float.
use Rattle.std.proofs.Common.{◌≡◌, ℕ, false, List, [], ◌∷◌, map, Option, Some, None, refl, unwrap_or}
use Rattle.serde_json.specs.View.{items_of}
use Rattle.serde_json.specs.Written.{has_float, items_have_float}
use Rattle.mt_types.specs.declared.job.Item.{Item}
use Rattle.mt_jobdoc.proofs.NoFloats.{document-plain}
use Rattle.mt_certline.specs.Written.{begin_data, item_data, line_data, nameless, reducer_data, task_data, whole}
use Rattle.mt_certline.specs.declared.line.Line.{Line}
use Rattle.mt_certline.specs.declared.line.Line.TheVariants.{Begin, End, Input, Output, Task}
use Rattle.mt_certline.specs.declared.line.Listed.{Listed}
use Rattle.mt_certline.specs.declared.line.Sum.{Sum}

reducer-plain : (r : Option ℕ) → has_float (reducer_data r) ≡ false
reducer-plain None = refl
reducer-plain (Some n) = refl

item-plain : (login : List ℕ) (i : Item Sum) → has_float (item_data login i) ≡ false
unfolding item_data
item-plain login i = rw (reducer-plain i.reducer) refl

list-plain : (login : List ℕ) (items : List (Item Sum)) → items_have_float (items_of (map (item_data login) items)) ≡ false
list-plain login [] = refl
list-plain login (i ∷ items) = rw (item-plain login i) (list-plain login items)

numbers-plain : (ns : List ℕ) → items_have_float (items_of (map whole ns)) ≡ false
numbers-plain [] = refl
numbers-plain (n ∷ ns) = numbers-plain ns

task-plain : (login : List ℕ) (l : Listed) → has_float (task_data login l) ≡ false
unfolding task_data
task-plain login l = rw (list-plain login (unwrap_or l.outputs []), numbers-plain l.reads) refl

pub line-plain : (login : List ℕ) (l : Line) → has_float (line_data login l) ≡ false
unfolding line_data begin_data
line-plain login (Begin job phases) = rw (document-plain login (nameless phases)) refl
line-plain login (Input item) = rw (item-plain login item) refl
line-plain login (Task task) = task-plain login task
line-plain login (Output path) = refl
line-plain login End = refl
