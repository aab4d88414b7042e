use Rattle.std.proofs.Common.{ℕ, ◌+◌, ◌||◌, false, Option, None, refl, ap}
use Rattle.std.specs.Prelude.{nat_lt}
use Rattle.std.specs.Fmt.{digits}
use Rattle.uuid.specs.Text.{by_index}
use Rattle.mt_ident.specs.Identifiers.{identifier_text}
use Rattle.mt_types.specs.declared.limits.TheConstants.{LARGEST_JOINED}
use Rattle.mt_types.specs.declared.refusal.Refusal.{Refusal}
use Rattle.mt_types.specs.declared.refusal.Refusal.TheVariants.{AssetsTooLarge, TooManyInputs, UploadTooLarge}
use Rattle.mt_model.specs.CommandStep.{allowed, change, replay, step}
use Rattle.mt_model.specs.Limits.{most_asset_bytes, most_inputs}
use Rattle.mt_model.specs.Rows.{first_refusal, refuse_if}
use Rattle.mt_model.proofs.worked.bounds_of_an_account.Goals as goal

-- by the number of lines beside three
abbrev lines : ℕ → Option Refusal
lines n = refuse_if (nat_lt most_inputs (2 + 1 + n)) TooManyInputs

-- by the bytes of an asset of each of two phases
abbrev assets : ℕ → Option Refusal
assets n = refuse_if (nat_lt most_asset_bytes (0 + n) || (nat_lt most_asset_bytes (0 + n) || false)) AssetsTooLarge

-- by the bytes of an asset that one phase has twice
abbrev twice : ℕ → Option Refusal
twice n = refuse_if (nat_lt most_asset_bytes (0 + n + n) || false) AssetsTooLarge

-- by the bytes of a part beside another of three
abbrev parts : ℕ → Option Refusal
parts n = first_refusal (refuse_if (nat_lt LARGEST_JOINED (0 + n + 3)) UploadTooLarge) None

pub returns : goal.returns
unfolding allowed change replay step identifier_text by_index digits
returns c = record {
  inputs = λ ls is. ap lines is;
  too_many = λ ls is. ap lines is;
  assets = λ b is. ap assets is;
  large_assets = λ b is. ap twice is;
  no_asset = refl;
  parts = λ b is. ap parts is;
  large_parts = λ b is. ap parts is;
}
