-- What is known of an answer that may also be want of memory.
use Rattle.std.proofs.Common.{◌≡◌, Result, Ok, Err, IfOk, IfErr, refl, sym, ◌∙◌}
use Rattle.mt_path.specs.declared.error.PathError.{PathError}
use Rattle.mt_path.specs.declared.error.PathError.TheVariants.{Empty, TooLong, BadComponent, OtherLogin, NoArea, Memory}
use Rattle.mt_path.specs.Names.{IsUnlessMemory}

-- where an `Ok` is due, an `Ok` is that one
pub ok_is : {T : Type 0} (x : T) (answer r : Result T PathError) → answer ≡ Ok x → IsUnlessMemory answer r → IfOk r (λ y. y ≡ x)
ok_is x answer (Ok y) due is = let same : Ok x ≡ Ok y = sym due ∙ is in cc
ok_is x answer (Err e) due is = tt

-- and an `Err` is want of memory
pub err_is_memory : {T : Type 0} (x : T) (answer r : Result T PathError) → answer ≡ Ok x → IsUnlessMemory answer r → IfErr r (λ e. e ≡ Memory)
err_is_memory x answer (Ok y) due is = tt
err_is_memory x answer (Err Memory) due is = refl
err_is_memory x answer (Err Empty) due is = let never : Ok x ≡ Err Empty = sym due ∙ is in cc
err_is_memory x answer (Err TooLong) due is = let never : Ok x ≡ Err TooLong = sym due ∙ is in cc
err_is_memory x answer (Err BadComponent) due is = let never : Ok x ≡ Err BadComponent = sym due ∙ is in cc
err_is_memory x answer (Err OtherLogin) due is = let never : Ok x ≡ Err OtherLogin = sym due ∙ is in cc
err_is_memory x answer (Err NoArea) due is = let never : Ok x ≡ Err NoArea = sym due ∙ is in cc
