-- Refusals in order: of those that hold, the first.
use Rattle.std.specs.Prelude.{Bool, List, [], ◌∷◌, Option, Some, None, if◌then◌else◌}
use Rattle.mt_error.specs.declared.code.ErrorCode.{ErrorCode}

-- the first refusal of those in a list
abbrev pub first_of : {A : Type 0} → List (Option A) → Option A
first_of [] = None
first_of (None ∷ more) = first_of more
first_of (Some refusal ∷ more) = Some refusal

abbrev pub refuse_if : Bool → ErrorCode → Option ErrorCode
refuse_if test code = if test then Some code else None
