-- One of two facts, by a test.
use Rattle.std.proofs.Common.{◌≡◌, Bool, true, false}
use Rattle.std.specs.Bool.{MatchBool}

pub false_true : false ≡ true → ⊥
false_true is = cc

pub true_false : true ≡ false → ⊥
true_false is = cc

pub choose_true : (b : Bool) (X Y : Type 0) → b ≡ true → X → MatchBool b X Y
choose_true true X Y is x = x
choose_true false X Y is x = absurd (false_true is)

pub choose_false : (b : Bool) (X Y : Type 0) → b ≡ false → Y → MatchBool b X Y
choose_false true X Y is y = absurd (true_false is)
choose_false false X Y is y = y
