-- A body of so many bytes, piece by piece.
use Rattle.std.proofs.Common.{◌≡◌, ℕ, ◌<◌, List, [], ◌++◌, length, Option, Some, None, subst, sym, ap, ◌∙◌, append-nil, append_assoc, arith, length-append}
use Rattle.std.specs.Prelude.{IfSome}
use Rattle.mt_edge.specs.Stream.{GotMore, LeftAfter, WritesFront}
use Rattle.mt_edge.proofs.Streams.{got_more, if_some_before}

-- the link ended behind fewer bytes
pub too_short : (len : ℕ) (left : Option (List ℕ)) (body : List ℕ) (left' : Option (List ℕ)) → LeftAfter left body left' → IfSome left' (λ rest. rest ≡ []) → length body < len → IfSome left (λ bytes. length bytes < len)
too_short len left body left' gone none few = if_some_before (λ bytes. length bytes < len) left body left' gone (each left' none)
  where
    each : (o : Option (List ℕ)) → IfSome o (λ rest. rest ≡ []) → IfSome o (λ rest. length (body ++ rest) < len)
    each None none = tt
    each (Some rest) none = subst (λ (l : List ℕ). length (body ++ l) < len) (sym none) (subst (λ (l : List ℕ). length l < len) (sym (append-nil body)) few)

-- a front of what was read stands in the sink
pub front_behind : (got : Option (List ℕ)) (body : List ℕ) (mid : Option (List ℕ)) (piece : List ℕ) (got' : Option (List ℕ)) → GotMore got body mid → WritesFront mid piece got' → WritesFront got (body ++ piece) got'
front_behind got body mid piece got' came front = record {
  written = body ++ front.written;
  front = (front.front.0, append_assoc body front.written front.front.0 ∙ ap (λ l. body ++ l) front.front.1);
  short = omega (arith, length-append body front.written, length-append body piece, front.short);
  grew = got_more got body mid front.written got' came front.grew;
}
