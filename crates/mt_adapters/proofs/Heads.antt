-- A head that was found is one.
use Rattle.std.proofs.Common.{◌≡◌, ℕ, true, List, Option, Some, None, refl, arith}
use Rattle.std.specs.Prelude.{is_some}
use Rattle.mt_adapters.specs.Heads.{FindsHead, HasHead}

pub found : (bytes : List ℕ) (len : Option ℕ) → FindsHead bytes len → is_some len ≡ true → HasHead bytes
found bytes (Some len) (head, within) is = (len, head, within)
found bytes None none is = grind (arith, is)

pub found_there : (bytes : List ℕ) (len : Option ℕ) (there : ℕ) → FindsHead bytes len → len ≡ Some there → HasHead bytes
found_there bytes len there finds is = found bytes len finds (rw (is) refl)
