-- What a test answers.
use Rattle.std.specs.Prelude.{Option, Some, None, Result, Ok, Err}
use Rattle.mt_types.specs.declared.refusal.Refusal.{Refusal}

-- `Ok`, or the refusal
abbrev pub answer : Option Refusal → Result (Unit {0}) Refusal
answer None = Ok tt
answer (Some refusal) = Err refusal
