-- The links of a door that are not in their turn.
use Rattle.std.specs.Prelude.{◌≡◌, ℕ, ◌+◌, Bool, true, Option, Some, None}
use Rattle.mt_adapters.specs.declared.places.Served.{Served}
use Rattle.mt_adapters.specs.declared.places.Served.TheVariants as served

-- what taking the first link that can be served leaves of the count of those that are kept
abbrev pub AfterTaking : Bool → ℕ → Option Served → ℕ → Type 0
AfterTaking fresh kept (Some (served.Fresh wire)) kept' = (kept' ≡ kept) × (fresh ≡ true)
AfterTaking fresh kept (Some (served.Kept link)) kept' = kept ≡ kept' + 1
AfterTaking fresh kept None kept' = kept' ≡ kept
