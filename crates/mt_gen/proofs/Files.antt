-- The bytes of a record, put one behind another.
use Rattle.std.proofs.Common.{◌≡◌, ◌∙◌, ℕ, ◌-◌, List, ◌++◌, length, ap, arith}
use Rattle.std.proofs.lemmas.List.{length-append}
use Rattle.mt_records.specs.Windows.{end_bytes}

pub part_is : (head body first second third end : List ℕ) (k m : ℕ) → first ≡ head → second ≡ first ++ body → third ≡ second ++ end → end ≡ end_bytes (k - m) → k ≡ length second → m ≡ length first
    → third ≡ head ++ body ++ end_bytes (length body)
part_is head body first second third end k m is next last ends far near =
    let count : k - m ≡ length body = omega (arith, far, near, ap length next, length-append first body) in
    last ∙ (λ i. (next ∙ ap (λ (l : List ℕ). l ++ body) is) i ++ (ends ∙ ap end_bytes count) i)
