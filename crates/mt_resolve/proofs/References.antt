-- What a reference points to.
use Rattle.std.proofs.Common.{◌≡◌, Option, Some, None, refl}
use Rattle.std.specs.Prelude.{is_some, option_copied}
use Rattle.std.specs.Borrow.{Bor}

-- a reference is there where what it points to is
pub copied_some : {X : Type 0} (o : Option (Bor X)) → is_some (option_copied o) ≡ is_some o
copied_some None = refl
copied_some (Some x) = refl
