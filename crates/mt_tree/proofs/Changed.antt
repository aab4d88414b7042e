-- Another value at one key.
use Rattle.std.proofs.Common.{◌≡◌, Bool, true, false, cond, List, [], ◌∷◌, Some, None, refl, ap, ◌∙◌}
use Rattle.std.specs.Map.{lookup, set_value}
use Rattle.std.specs.Option.{option_map}
use Rattle.mt_tree.specs.AreaRows.{changed}

module _ {K X : Type 0} (test : K → Bool) (f : X → X) where
  -- what is written behind the value that a look-up finds
  pub written : (es : List (K × X)) (x : X) → lookup test es ≡ Some x → set_value test es (f x) ≡ changed test f es
  written [] x found = refl
  written (e ∷ es) x found = elim (test e.0) as (λ b. cond b (Some e.1) (lookup test es) ≡ Some x → cond b ((e.0, f x) ∷ es) (e ∷ set_value test es (f x)) ≡ cond b ((e.0, f e.1) ∷ es) (e ∷ changed test f es)) [
    | true ↦ λ h. let same : x ≡ e.1 = cc in ap (λ y. (e.0, f y) ∷ es) same
    | false ↦ λ h. ap (λ l. e ∷ l) (written es x h)
  ] found

  pub untouched : (es : List (K × X)) → lookup test es ≡ None → changed test f es ≡ es
  untouched [] none = refl
  untouched (e ∷ es) none = elim (test e.0) as (λ b. cond b (Some e.1) (lookup test es) ≡ None → cond b ((e.0, f e.1) ∷ es) (e ∷ changed test f es) ≡ e ∷ es) [
    | true ↦ λ h. cc
    | false ↦ λ h. ap (λ l. e ∷ l) (untouched es h)
  ] none

  -- at the key itself
  pub lookup-changed : (es : List (K × X)) → lookup test (changed test f es) ≡ option_map f (lookup test es)
  lookup-changed [] = refl
  lookup-changed (e ∷ es) = elim (test e.0) as (λ b. test e.0 ≡ b → lookup test (cond b ((e.0, f e.1) ∷ es) (e ∷ changed test f es)) ≡ option_map f (cond b (Some e.1) (lookup test es))) [
    | true ↦ λ h. ap (λ b. cond b (Some (f e.1)) (lookup test es)) h
    | false ↦ λ h. ap (λ b. cond b (Some e.1) (lookup test (changed test f es))) h ∙ lookup-changed es
  ] refl
