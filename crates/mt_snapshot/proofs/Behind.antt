-- Forms of fields whose form another field tells.
use Rattle.std.proofs.Common.{◌≡◌, true, ℕ, List, [], ◌∷◌, ◌++◌, map, length, Some, refl, sym, ap, ◌∙◌, subst, append_assoc}
use Rattle.std.specs.List.{flat_map, AllByRecursion}
use Rattle.std.proofs.lemmas.Option.{same_Some, some_pair_parts}
use Rattle.mt_types.specs.declared.body.Body.{Body}
use Rattle.mt_types.specs.declared.document.Phase.{Phase}
use Rattle.mt_codec.specs.Fields.{body_spelling}
use Rattle.mt_codec.specs.Spelling.{FitsBody, undigested_body}
use Rattle.mt_codec.specs.Reading.{◌>>=◌, Reader, times}
use Rattle.mt_codec.specs.Readers.{body_at}
use Rattle.mt_codec.proofs.Options.{bind_some}
use Rattle.mt_codec.proofs.Forms.{IsBytes, IsBytes-behind, IsForm, Took, same, moved, both_form, counted_form, made_again, made_takes}
use Rattle.mt_codec.proofs.Known.{body_form}
use Rattle.mt_snapshot.specs.Readers.{◌&&&◌, assets_at}
use Rattle.mt_snapshot.specs.Records.{assets_spelling}

regrouped : (a b c : List ℕ) → a ++ (b ++ c) ≡ (a ++ b) ++ c
regrouped a b c = sym (append_assoc a b c)

-- one field, and another behind it whose form the first tells
pub behind_form : {A B : Type 0} {spell_a : A → List ℕ} {Fits_a : A → Type 0} {f : Reader A} {spell_b : B → List ℕ} {Fits_b : A → B → Type 0} {clean_b : B → B} {g : A → Reader B}
    → IsForm spell_a Fits_a same f → ((x : A) → IsForm spell_b (Fits_b x) clean_b (g x))
    → IsForm {A = A × B} (λ p. spell_a p.0 ++ spell_b p.1) (λ p. Fits_a p.0 × Fits_b p.0 p.1) (λ p. (p.0, clean_b p.1)) (f &&& g)
behind_form {A} {B} {spell_a} {Fits_a} {f} {spell_b} {Fits_b} {clean_b} {g} one other = record {
  takes = λ bytes x rest fits e.
      let a = bind_some (f bytes) (λ y. g y.0 y.1 >>= λ z. Some ((y.0, z.0), z.1)) (x, rest) e in
      let b = bind_some (g a.0.0 a.0.1) (λ z. Some ((a.0.0, z.0), z.1)) (x, rest) a.2 in
      let s = one.takes bytes a.0.0 a.0.1 fits a.1 in
      let t = (other a.0.0).takes a.0.1 b.0.0 b.0.1 (IsBytes-behind bytes (spell_a a.0.0) a.0.1 s.parts fits) b.1 in
      let made_pair : A × B = (a.0.0, b.0.0) in
      let p : (A × B) × List ℕ = (made_pair, b.0.1) in
      let q : (A × B) × List ℕ = (x, rest) in
      let whole : bytes ≡ (spell_a a.0.0 ++ spell_b b.0.0) ++ b.0.1 = s.parts ∙ ap (λ (r : List ℕ). spell_a a.0.0 ++ r) t.parts ∙ regrouped (spell_a a.0.0) (spell_b b.0.0) b.0.1 in
      let clean_pair : (a.0.0, clean_b b.0.0) ≡ made_pair = λ i. (a.0.0, t.same i) in
      moved (λ (p : A × B). spell_a p.0 ++ spell_b p.1) (λ (p : A × B). Fits_a p.0 × Fits_b p.0 p.1) (λ (p : A × B). (p.0, clean_b p.1)) bytes p q (same_Some p q b.2)
      (record { parts = whole; fits = (s.fits, t.fits); same = clean_pair });
  again = λ x rest fits.
      let grouped : (spell_a x.0 ++ spell_b x.1) ++ rest ≡ spell_a x.0 ++ (spell_b x.1 ++ rest) = append_assoc (spell_a x.0) (spell_b x.1) rest in
      rw (grouped, one.again x.0 (spell_b x.1 ++ rest) fits.0, (other x.0).again x.1 rest fits.1) refl;
}

-- ---- so many fields, by a number that stands elsewhere

abbrev given : ℕ → Reader ℕ
given n bytes = Some (n, bytes)

given_form : (n : ℕ) → IsForm (λ m. []) (λ m. n ≡ m) same (given n)
given_form n = record { takes = given_takes; again = λ m rest is. ap (λ k. Some (k, rest)) is }
  where
    given_takes : (bytes : List ℕ) (m : ℕ) (rest : List ℕ) → IsBytes bytes → given n bytes ≡ Some (m, rest) → Took (λ (k : ℕ). []) (λ (k : ℕ). n ≡ k) same bytes m rest
    given_takes bytes m rest fits e = let s = some_pair_parts n m bytes rest e in record { parts = s.1; fits = s.0; same = refl }

-- so many bodies
bodies_form : (n : ℕ) → IsForm (flat_map body_spelling) (λ xs. (n ≡ length xs) × AllByRecursion (FitsBody true) xs) (map undigested_body) (times body_at n)
bodies_form n = counted_form (given_form n) body_form

-- for each phase, as many bodies as it has assets
abbrev pub FitsAssets : List Phase → List (List Body) → Type 0
FitsAssets phases assets = (map (λ p. length p.assets) phases ≡ map length assets) × AllByRecursion (AllByRecursion (FitsBody true)) assets

abbrev pub undigested_assets : List (List Body) → List (List Body)
undigested_assets = map (map undigested_body)

abbrev joined : List Body × List (List Body) → List (List Body)
joined q = q.0 ∷ q.1

abbrev AssetsTook : List Phase → List ℕ → List (List Body) → List ℕ → Type 0
AssetsTook phases = Took assets_spelling (FitsAssets phases) undigested_assets

none_takes : (bytes : List ℕ) (assets : List (List Body)) (rest : List ℕ) → IsBytes bytes → assets_at [] bytes ≡ Some (assets, rest) → AssetsTook [] bytes assets rest
unfolding assets_at
none_takes bytes assets rest fits e =
    let none : List (List Body) = [] in
    let s = some_pair_parts none assets bytes rest e in
    subst (λ (xs : List (List Body)). AssetsTook [] bytes xs rest) s.0 (record { parts = s.1; fits = (refl, tt); same = refl })

none_again : (assets : List (List Body)) (rest : List ℕ) → FitsAssets [] assets → assets_at [] (assets_spelling assets ++ rest) ≡ Some (undigested_assets assets, rest)
unfolding assets_at
none_again [] rest fits = refl
none_again (x ∷ xs) rest fits = let shape = fits.0 in absurd cc

module _ (p : Phase) (ps : List Phase) (form : IsForm assets_spelling (FitsAssets ps) undigested_assets (assets_at ps)) where
  one_takes : (bytes : List ℕ) (assets : List (List Body)) (rest : List ℕ) → IsBytes bytes → assets_at (p ∷ ps) bytes ≡ Some (assets, rest) → AssetsTook (p ∷ ps) bytes assets rest
  unfolding assets_at
  one_takes bytes assets rest fits e =
      let m = made_takes (both_form (bodies_form (length p.assets)) form) joined bytes assets rest fits e in
      subst (λ (xs : List (List Body)). AssetsTook (p ∷ ps) bytes xs rest) m.2
      (record {
        parts = m.1.parts;
        fits = (λ i. m.1.fits.0.0 i ∷ m.1.fits.1.0 i, (m.1.fits.0.1, m.1.fits.1.1));
        same = ap joined m.1.same;
      })

  one_again : (assets : List (List Body)) (rest : List ℕ) → FitsAssets (p ∷ ps) assets → assets_at (p ∷ ps) (assets_spelling assets ++ rest) ≡ Some (undigested_assets assets, rest)
  unfolding assets_at
  one_again [] rest fits = let shape = fits.0 in absurd cc
  one_again (x ∷ xs) rest fits =
      let shape = fits.0 in
      let here : length p.assets ≡ length x = cc in
      let there : map (λ q. length q.assets) ps ≡ map length xs = cc in
      made_again (both_form (bodies_form (length p.assets)) form) joined (x, xs) rest ((here, fits.1.0), (there, fits.1.1))

pub assets_form : (phases : List Phase) → IsForm assets_spelling (FitsAssets phases) undigested_assets (assets_at phases)
assets_form [] = record { takes = none_takes; again = none_again }
assets_form (p ∷ ps) = record { takes = one_takes p ps (assets_form ps); again = one_again p ps (assets_form ps) }
