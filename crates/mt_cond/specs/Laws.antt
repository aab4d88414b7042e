-- Judgements hang on no body.
use Rattle.std.specs.Prelude.{◌≡◌, Bool, Option}
use Rattle.std.specs.Option.{option_map}
use Rattle.mt_types.specs.Values.{object_with}
use Rattle.mt_types.specs.declared.object.Object.{Object}
use Rattle.mt_cond.specs.Conditions.{judged}
use Rattle.mt_cond.specs.declared.conditions.Conditions.{Conditions}

-- what conditions say of an object they say of it with any other body
abbrev pub JudgedIsRead : Type 0 → Type 0 → Type 0
JudgedIsRead A B = (f : A → B) (c : Conditions) (object : Option (Object A)) (is_read : Bool) → judged c (option_map (object_with f) object) is_read ≡ judged c object is_read
