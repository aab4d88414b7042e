-- How long a log is.
use Rattle.std.proofs.Common.{◌≡◌, ℕ, ◌+◌, Bool, List, [], ◌∷◌, ◌++◌, length, refl, arith, length-append}
use Rattle.std.specs.List.{flat_map}
use Rattle.std.proofs.lemmas.List.Sums.{sum_by-cons}
use Rattle.mt_log.specs.LogImage.{magic_of, record_head, head_of, record_of, log_size, Holds}
use Rattle.mt_log.proofs.Records.{length-head_of}
use Rattle.mt_log.proofs.Walks.{length-magic}

pub log_size-cons : (p : List ℕ) (ps : List (List ℕ)) → log_size (p ∷ ps) ≡ log_size ps + (21 + length p)
log_size-cons p ps = omega (arith, sum_by-cons (λ (p : List ℕ). record_head + length p) p ps)

pub log_size-push : (ps : List (List ℕ)) (p : List ℕ) → log_size (ps ++ p ∷ []) ≡ log_size ps + (21 + length p)
log_size-push [] p = log_size-cons p []
log_size-push (q ∷ ps) p = omega (arith, log_size-cons q ps, log_size-cons q (ps ++ p ∷ []), log_size-push ps p)

length-records : (ps : List (List ℕ)) → 9 + length (flat_map record_of ps) ≡ log_size ps
length-records [] = refl
length-records (p ∷ ps) = omega (arith, length-records ps, log_size-cons p ps, length-append (record_of p) (flat_map record_of ps), length-append (head_of p) p, length-head_of p)

-- the closed gate is the last byte of the log
pub log_size-holds : (old : Bool) (bytes : List ℕ) (gate : ℕ) (ps : List (List ℕ)) → Holds old bytes gate ps → gate + 1 ≡ log_size ps
log_size-holds old bytes gate ps holds = omega (arith, holds.place, length-records ps, length-append (magic_of old) (flat_map record_of ps), length-magic old)
