-- The phases of a list, from the front.
use Rattle.std.proofs.Common.{◌≡◌, ℕ, ◌+◌, List, [], ◌∷◌, ◌++◌, refl, ap, sym, ◌∙◌, Result, Ok, Err, append_assoc, map, drop, length, get_or, ◌<◌, suc, add-one, drop-cons}
use Rattle.serde_json.specs.View.{view}
use Rattle.serde_json.specs.declared.value.Value.{Value}
use Rattle.serde_json.specs.Data.{Data}
use Rattle.mt_types.specs.declared.document.Phase.{Phase}
use Rattle.mt_jobdoc.specs.declared.error.InvalidJob.{InvalidJob}
use Rattle.mt_jobdoc.specs.Document.{and_then, phase_of, phases_of}

-- these phases, and then those of the list
abbrev pub behind : List Phase → Result (List Phase) InvalidJob → Result (List Phase) InvalidJob
behind done rest = and_then rest (λ ps. Ok (done ++ ps))

pub phases-cons : (login : List ℕ) (k : ℕ) (d : Data) (ds : List Data) → phases_of login k (d ∷ ds) ≡ and_then (phase_of login k d) (λ p. and_then (phases_of login (k + 1) ds) (λ ps. Ok (p ∷ ps)))
unfolding phases_of
phases-cons login k d ds = refl

pub phases-nil : (login : List ℕ) (k : ℕ) → phases_of login k [] ≡ Ok []
unfolding phases_of
phases-nil login k = refl

behind_more : (done : List Phase) (p : Phase) (rest : Result (List Phase) InvalidJob) → behind done (and_then rest (λ ps. Ok (p ∷ ps))) ≡ behind (done ++ p ∷ []) rest
behind_more done p (Ok ps) = ap (λ (l : List Phase). Ok l) (sym (append_assoc done (p ∷ []) ps))
behind_more done p (Err e) = refl

-- one phase more
pub phase_more : (login : List ℕ) (k : ℕ) (d : Data) (ds : List Data) (done : List Phase) (p : Phase) → phase_of login k d ≡ Ok p
    → behind done (phases_of login k (d ∷ ds)) ≡ behind (done ++ p ∷ []) (phases_of login (k + 1) ds)
phase_more login k d ds done p is =
    ap (behind done) (phases-cons login k d ds ∙ ap (λ (r : Result Phase InvalidJob). and_then r (λ q. and_then (phases_of login (k + 1) ds) (λ ps. Ok (q ∷ ps)))) is)
    ∙ behind_more done p (phases_of login (k + 1) ds)

-- a fault ends it
pub phase_fault : (login : List ℕ) (k : ℕ) (d : Data) (ds : List Data) (done : List Phase) (e : InvalidJob) → phase_of login k d ≡ Err e
    → behind done (phases_of login k (d ∷ ds)) ≡ Err e
phase_fault login k d ds done e is =
    ap (behind done) (phases-cons login k d ds ∙ ap (λ (r : Result Phase InvalidJob). and_then r (λ q. and_then (phases_of login (k + 1) ds) (λ ps. Ok (q ∷ ps)))) is)

-- the values from a place on begin with that at the place
pub next_value : (values : List Value) (k : ℕ) (v : Value) → k < length values → v ≡ get_or values k v → map view (drop k values) ≡ view v ∷ map view (drop (k + 1) values)
next_value values k v below is =
    let cut : drop k values ≡ v ∷ drop (k + 1) values = rw add-one (drop-cons values k v below ∙ ap (λ (x : Value). x ∷ drop (suc k) values) (sym is)) in
    ap (λ (vs : List Value). map view vs) cut
