-- What is left of a drill's messages.
use Rattle.std.specs.Prelude.{ℕ, Bool, true, nat_lt, List, ◌++◌, drop}
use Rattle.mt_gen.specs.declared.due.Due.{Due}
use Rattle.mt_gen.specs.declared.due.Due.TheVariants.{Directory, Object, Job, Inputs, Line, End, Over}
use Rattle.mt_gen.specs.Messages.{due_bytes}

-- it is due in a drill of so many objects
abbrev pub is_due : ℕ → Due → Bool
is_due n (Directory k) = nat_lt k 16
is_due n (Object i) = nat_lt i n
is_due n Job = true
is_due n Inputs = true
is_due n (Line i) = nat_lt i n
is_due n End = true
is_due n Over = true

-- what is left of the piece that is kept, and the pieces behind it
abbrev pub left_of : ℕ → Due → List ℕ → ℕ → List ℕ
left_of n d text at = drop at text ++ due_bytes n d
