-- Reading the bodies of the assets of phases, one phase after the other, as a loop does.
use Rattle.std.proofs.Common.{◌≡◌, ℕ, suc, ◌+◌, ◌≤◌, ◌<◌, List, [], ◌∷◌, ◌++◌, length, get_or, drop, Option, Some, None, Err, refl, sym, ap, ◌∙◌, append_assoc, add-one, drop-cons}
use Rattle.std.proofs.lemmas.List.{append-nil, drop_all}
use Rattle.mt_types.specs.declared.body.Body.{Body}
use Rattle.mt_types.specs.declared.document.Phase.{Phase}
use Rattle.mt_codec.specs.declared.error.DecodeError.{DecodeError}
use Rattle.mt_codec.specs.declared.error.DecodeError.TheVariants.{NotACommand, Memory}
use Rattle.mt_codec.specs.Reading.{◌>>=◌, Gives, times}
use Rattle.mt_codec.specs.Readers.{body_at}
use Rattle.mt_codec.proofs.Loops.{with_front}
use Rattle.mt_snapshot.specs.Readers.{assets_at}

abbrev Assets : Type 0
Assets = List (List Body)

abbrev Total : Type 0
Total = Option (Assets × List ℕ)

abbrev Pair : Type 0
Pair = List Body × Assets

regroup : (front : Assets) (bodies : List Body) (read : Total)
    → with_front front (◌>>=◌ {A = Pair × List ℕ} {B = Assets × List ℕ} (◌>>=◌ {A = Assets × List ℕ} {B = Pair × List ℕ} read (λ y. Some ((bodies, y.0), y.1))) (λ z. Some (z.0.0 ∷ z.0.1, z.1))) ≡ with_front (front ++ bodies ∷ []) read
regroup front bodies (Some y) = ap (λ xs. Some (xs, y.1)) (simp append_assoc)
regroup front bodies None = refl

one : (front : Assets) (p : Phase) (ps : List Phase) (bytes : List ℕ) (bodies : List Body) (after : List ℕ) → times body_at (length p.assets) bytes ≡ Some (bodies, after)
    → with_front front (assets_at (p ∷ ps) bytes) ≡ with_front (front ++ bodies ∷ []) (assets_at ps after)
unfolding assets_at
one front p ps bytes bodies after h = rw h (regroup front bodies (assets_at ps after))

none : (front : Assets) (p : Phase) (ps : List Phase) (bytes : List ℕ) → times body_at (length p.assets) bytes ≡ None → with_front front (assets_at (p ∷ ps) bytes) ≡ None
unfolding assets_at
none front p ps bytes h = rw h refl

-- the phases that are left at a place begin with that one
left : (phases : List Phase) (i : ℕ) (p : Phase) → i < length phases → p ≡ get_or phases i p → drop i phases ≡ p ∷ drop (i + 1) phases
left phases i p lt is = rw add-one (drop-cons phases i p lt ∙ ap (λ q. q ∷ drop (suc i) phases) (sym is))

pub assets_go_on : (front : Assets) (phases : List Phase) (i : ℕ) (p : Phase) (bytes : List ℕ) (bodies : List Body) (after : List ℕ) (total : Total) → i < length phases → p ≡ get_or phases i p
    → times body_at (length p.assets) bytes ≡ Some (bodies, after) → with_front front (assets_at (drop i phases) bytes) ≡ total → with_front (front ++ bodies ∷ []) (assets_at (drop (i + 1) phases) after) ≡ total
assets_go_on front phases i p bytes bodies after total lt is h so_far =
    let front_is : with_front front (assets_at (drop i phases) bytes) ≡ with_front front (assets_at (p ∷ drop (i + 1) phases) bytes) = ap (λ qs. with_front front (assets_at qs bytes)) (left phases i p lt is) in
    sym (one front p (drop (i + 1) phases) bytes bodies after h) ∙ sym front_is ∙ so_far

pub assets_end : (e : DecodeError) (at end : List ℕ) (front : Assets) (phases : List Phase) (i : ℕ) (p : Phase) (bytes : List ℕ) (total : Total) → i < length phases → p ≡ get_or phases i p
    → Gives {A = List Body} (Err e) at (times body_at (length p.assets) bytes) → with_front front (assets_at (drop i phases) bytes) ≡ total → Gives {A = Assets} (Err e) end total
assets_end Memory at end front phases i p bytes total lt is h so_far = tt
assets_end NotACommand at end front phases i p bytes total lt is h so_far =
    let front_is : with_front front (assets_at (drop i phases) bytes) ≡ with_front front (assets_at (p ∷ drop (i + 1) phases) bytes) = ap (λ qs. with_front front (assets_at qs bytes)) (left phases i p lt is) in
    sym so_far ∙ front_is ∙ none front p (drop (i + 1) phases) bytes h

pub assets_done : (front : Assets) (phases : List Phase) (i : ℕ) (bytes : List ℕ) (total : Total) → length phases ≤ i → with_front front (assets_at (drop i phases) bytes) ≡ total → total ≡ Some (front, bytes)
unfolding assets_at
assets_done front phases i bytes total past so_far =
    let none_left = drop_all i phases past in
    let here : with_front front (assets_at (drop i phases) bytes) ≡ Some (front, bytes) = rw none_left (ap (λ xs. Some (xs, bytes)) (append-nil front)) in
    sym so_far ∙ here
