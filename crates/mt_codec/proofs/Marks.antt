-- No bytes spell no command.
use Rattle.std.proofs.Common.{◌≡◌, ℕ, List, [], ◌∷◌, Err, refl, subst}
use Rattle.mt_types.specs.declared.body.Body.{Body}
use Rattle.mt_types.specs.declared.command.Command.{Command}
use Rattle.mt_codec.specs.declared.error.DecodeError.{DecodeError}
use Rattle.mt_codec.specs.declared.error.DecodeError.TheVariants.{NotACommand, Memory}
use Rattle.mt_codec.specs.Reading.{Gives, Makes, byte_at}
use Rattle.mt_codec.specs.Readers.{command_at, whole_command}

none_spelled : (e : DecodeError) (left bytes : List ℕ) → Gives {A = ℕ} (Err e) left (byte_at bytes) → Makes {A = Command Body} (Err e) (whole_command bytes)
unfolding whole_command command_at
none_spelled Memory left bytes given = tt
none_spelled NotACommand left [] given = refl
none_spelled NotACommand left (b ∷ bytes) given = absurd cc

pub no_mark : (e : DecodeError) (left start bytes : List ℕ) → start ≡ bytes → Gives {A = ℕ} (Err e) left (byte_at start) → Makes {A = Command Body} (Err e) (whole_command bytes)
no_mark e left start bytes is given = subst (λ bs. Makes {A = Command Body} (Err e) (whole_command bs)) is (none_spelled e left start given)
