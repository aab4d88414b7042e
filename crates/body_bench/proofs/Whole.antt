-- A body that was stored in a run of its own stands once the run is ended.
use Rattle.std.proofs.Common.{◌≡◌, ℕ, List, [], ◌++◌, Option, Some, ap, sym, subst, ◌∙◌, append-nil}
use Rattle.std.specs.Option.{ForSome}
use Rattle.mt_types.specs.declared.body.Body.{Body}
use Rattle.mt_log.specs.LogState.{with_payloads}
use Rattle.mt_log.proofs.Told.{mapped_some}
use Rattle.mt_body.specs.Stored.{IsStored, bytes_of}

pub stored_whole : (old new : Option (List (List ℕ))) (pieces : List (List ℕ)) (body : Body) (bytes : List ℕ) → new ≡ with_payloads pieces old
    → ((ps : List (List ℕ)) → old ≡ Some ps → IsStored ((ps ++ []) ++ pieces) body × (bytes_of ((ps ++ []) ++ pieces) body ≡ bytes)) → ForSome new (λ ps. IsStored ps body × (bytes_of ps body ≡ bytes))
stored_whole old new pieces body bytes added stands = λ qs is.
    let was = mapped_some (λ (ps : List (List ℕ)). ps ++ pieces) old qs (sym added ∙ is) in
    subst (λ (x : List (List ℕ)). IsStored x body × (bytes_of x body ≡ bytes)) (ap (λ (x : List (List ℕ)). x ++ pieces) (append-nil was.0) ∙ was.2) (stands was.0 was.1)
