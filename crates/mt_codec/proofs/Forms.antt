-- Forms of fields: what is read is what was spelled, and what is spelled is read, whatever follows.
use Rattle.std.proofs.Common.{◌≡◌, ℕ, zero, suc, ◌+◌, ◌^◌, ◌<◌, ◌≤◌, Bool, true, false, cond, ltb, eqb, List, [], ◌∷◌, ◌++◌, map, length, get_or, take, drop, Option, Some, None, refl, sym, ap, subst, ◌∙◌, append_assoc, arith, inl, inr}
use Rattle.std.specs.Prelude.{◌⊎◌, IfSome}
use Rattle.std.specs.Int.{Width, w16, w32, w64, byte_len, from_be_bytes, to_be_bytes}
use Rattle.std.specs.List.{flat_map, AllByRecursion}
use Rattle.std.proofs.lemmas.Bool.{cases_lt, ltb-false, le-ltb, eqb-true}
use Rattle.std.proofs.lemmas.Option.{some_pair_parts, same_Some}
use Rattle.std.proofs.lemmas.List.{take_at, drop_at, take-append-drop, length-append, length-take, get_or-drop, get_or-take, get_or_past}
use Rattle.std.proofs.lemmas.Nat.{be_bytes_2, be_bytes_4, be_bytes_8, from_be_bytes-to_be_bytes_2, from_be_bytes-to_be_bytes_4, from_be_bytes-to_be_bytes_8}
use Rattle.mt_codec.specs.Fields.{optional_spelling}
use Rattle.mt_codec.specs.Reading.{◌>>=◌, ◌&◌, Reader, made, tested, named, choice, nothing, byte_at, number_at, bytes_at, sized, times, counted, optional}
use Rattle.mt_codec.proofs.Options.{bind_some, guard_some, refused_some}

abbrev pub IsBytes : List ℕ → Type 0
IsBytes bytes = (i : ℕ) → get_or bytes i 0 < 256

IsBytes-drop : (n : ℕ) (bytes : List ℕ) → IsBytes bytes → IsBytes (drop n bytes)
IsBytes-drop n bytes h i = rw get_or-drop (h (n + i))

IsBytes-take : (n : ℕ) (bytes : List ℕ) → IsBytes bytes → IsBytes (take n bytes)
IsBytes-take n bytes h i =
    elim (cases_lt i n) [
      | inl lt ↦ rw (get_or-take n bytes i 0 lt) (h i)
      | inr le ↦ rw (get_or_past (take n bytes) i 0 (omega (arith, length-take n bytes))) (omega arith)
    ]

-- what stands behind a part of bytes
pub IsBytes-behind : (bytes text rest : List ℕ) → bytes ≡ text ++ rest → IsBytes bytes → IsBytes rest
IsBytes-behind bytes text rest e h =
    subst IsBytes (drop_at text rest (length text) refl) (IsBytes-drop (length text) (text ++ rest) (subst IsBytes e h))

-- what a reader took from the front of bytes
pub record Took {A : Type 0} (spell : A → List ℕ) (Fits : A → Type 0) (clean : A → A) (bytes : List ℕ) (x : A) (rest : List ℕ) : Type 0 where
  pub parts : bytes ≡ spell x ++ rest
  pub fits : Fits x
  pub same : clean x ≡ x

-- a reader of what is spelled so, up to what clean takes away
pub record IsForm {A : Type 0} (spell : A → List ℕ) (Fits : A → Type 0) (clean : A → A) (read : Reader A) : Type 0 where
  pub takes : (bytes : List ℕ) (x : A) (rest : List ℕ) → IsBytes bytes → read bytes ≡ Some (x, rest) → Took spell Fits clean bytes x rest
  pub again : (x : A) (rest : List ℕ) → Fits x → read (spell x ++ rest) ≡ Some (clean x, rest)

abbrev pub same : {A : Type 0} → A → A
same x = x

-- the same form, with its facts and what it takes away said in other words
pub said : {A : Type 0} {spell : A → List ℕ} {F G : A → Type 0} {c d : A → A} {f : Reader A} → IsForm spell F c f
    → ((x : A) → F x → G x) → ((x : A) → G x → F x) → ((x : A) → c x ≡ d x) → IsForm spell G d f
said {A} {spell} {F} {G} {c} {d} {f} form there back alike = record {
  takes = λ bytes x rest fits e.
      let t = form.takes bytes x rest fits e in
      record { parts = t.parts; fits = there x t.fits; same = sym (alike x) ∙ t.same };
  again = λ x rest fits. form.again x rest (back x fits) ∙ ap (λ y. Some (y, rest)) (alike x);
}

-- ---- one field behind another

pub moved : {A : Type 0} (spell : A → List ℕ) (Fits : A → Type 0) (clean : A → A) (bytes : List ℕ) (p q : A × List ℕ) → p ≡ q → Took spell Fits clean bytes p.0 p.1 → Took spell Fits clean bytes q.0 q.1
moved {A} spell Fits clean bytes p q e t = subst (λ (y : A × List ℕ). Took spell Fits clean bytes y.0 y.1) e t

pub both_form : {A B : Type 0} {spell_a : A → List ℕ} {Fits_a : A → Type 0} {clean_a : A → A} {f : Reader A} {spell_b : B → List ℕ} {Fits_b : B → Type 0} {clean_b : B → B} {g : Reader B}
    → IsForm spell_a Fits_a clean_a f → IsForm spell_b Fits_b clean_b g
    → IsForm {A = A × B} (λ p. spell_a p.0 ++ spell_b p.1) (λ p. Fits_a p.0 × Fits_b p.1) (λ p. (clean_a p.0, clean_b p.1)) (f & g)
both_form {A} {B} {spell_a} {Fits_a} {clean_a} {f} {spell_b} {Fits_b} {clean_b} {g} one other = record {
  takes = λ bytes x rest fits e.
      let a = bind_some (f bytes) (λ y. g y.1 >>= λ z. Some ((y.0, z.0), z.1)) (x, rest) e in
      let b = bind_some (g a.0.1) (λ z. Some ((a.0.0, z.0), z.1)) (x, rest) a.2 in
      let s = one.takes bytes a.0.0 a.0.1 fits a.1 in
      let t = other.takes a.0.1 b.0.0 b.0.1 (IsBytes-behind bytes (spell_a a.0.0) a.0.1 s.parts fits) b.1 in
      let made_pair : A × B = (a.0.0, b.0.0) in
      let p : (A × B) × List ℕ = (made_pair, b.0.1) in
      let q : (A × B) × List ℕ = (x, rest) in
      let whole : bytes ≡ (spell_a a.0.0 ++ spell_b b.0.0) ++ b.0.1 = s.parts ∙ ap (λ (r : List ℕ). spell_a a.0.0 ++ r) t.parts ∙ sym (append_assoc (spell_a a.0.0) (spell_b b.0.0) b.0.1) in
      let clean_pair : (clean_a a.0.0, clean_b b.0.0) ≡ made_pair = λ i. (s.same i, t.same i) in
      moved (λ (p : A × B). spell_a p.0 ++ spell_b p.1) (λ (p : A × B). Fits_a p.0 × Fits_b p.1) (λ (p : A × B). (clean_a p.0, clean_b p.1)) bytes p q (same_Some p q b.2)
      (record { parts = whole; fits = (s.fits, t.fits); same = clean_pair });
  again = λ x rest fits.
      let regrouped : (spell_a x.0 ++ spell_b x.1) ++ rest ≡ spell_a x.0 ++ (spell_b x.1 ++ rest) = append_assoc (spell_a x.0) (spell_b x.1) rest in
      rw (regrouped, one.again x.0 (spell_b x.1 ++ rest) fits.0, other.again x.1 rest fits.1) refl;
}

-- ---- what is made of a field

pub made_takes : {A B : Type 0} {spell : A → List ℕ} {Fits : A → Type 0} {clean : A → A} {f : Reader A} → IsForm spell Fits clean f
    → (make : A → B) (bytes : List ℕ) (y : B) (rest : List ℕ) → IsBytes bytes → made make f bytes ≡ Some (y, rest) → (x : A) × Took spell Fits clean bytes x rest × (make x ≡ y)
made_takes {A} {B} {spell} {Fits} {clean} {f} form make bytes y rest fits e =
    let a = bind_some (f bytes) (λ x. Some (make x.0, x.1)) (y, rest) e in
    let s = some_pair_parts (make a.0.0) y a.0.1 rest a.2 in
    (a.0.0, form.takes bytes a.0.0 rest fits (a.1 ∙ ap (λ (r : List ℕ). Some (a.0.0, r)) s.1), s.0)

pub made_again : {A B : Type 0} {spell : A → List ℕ} {Fits : A → Type 0} {clean : A → A} {f : Reader A} → IsForm spell Fits clean f
    → (make : A → B) (x : A) (rest : List ℕ) → Fits x → made make f (spell x ++ rest) ≡ Some (make (clean x), rest)
made_again form make x rest fits = rw (form.again x rest fits) refl

-- what stands behind a mark, as one of several
pub variant_takes : {A B : Type 0} {spell_a : A → List ℕ} {Fits_a : A → Type 0} {clean_a : A → A} {f : Reader A} → IsForm spell_a Fits_a clean_a f
    → (mark : ℕ) (make : A → B) (spell : B → List ℕ) (Fits : B → Type 0) (clean : B → B)
    → ((x : A) → Fits_a x → mark ∷ spell_a x ≡ spell (make x)) → ((x : A) → Fits_a x → Fits (make x)) → ((x : A) → make (clean_a x) ≡ clean (make x))
    → (bytes : List ℕ) (y : B) (rest : List ℕ) → IsBytes bytes → made make f bytes ≡ Some (y, rest) → Took spell Fits clean (mark ∷ bytes) y rest
variant_takes {A} {B} {spell_a} {Fits_a} {clean_a} {f} form mark make spell Fits clean spelled fit cleaned bytes y rest fits e =
    let m = made_takes form make bytes y rest fits e in
    subst (λ (z : B). Took spell Fits clean (mark ∷ bytes) z rest) m.2
    (record {
      parts = ap (λ (t : List ℕ). mark ∷ t) m.1.parts ∙ ap (λ (t : List ℕ). t ++ rest) (spelled m.0 m.1.fits);
      fits = fit m.0 m.1.fits;
      same = sym (cleaned m.0) ∙ ap make m.1.same;
    })

-- a value of another type, part by part, of which the parts may hold less
pub shown_form : {A B : Type 0} {spell_a : A → List ℕ} {Fits_a : A → Type 0} {clean_a : A → A} {f : Reader A} → IsForm spell_a Fits_a clean_a f
    → (make : A → B) (parts : B → A) (spell : B → List ℕ) (Fits : B → Type 0) (clean : B → B)
    → ((x : A) → spell_a x ≡ spell (make x)) → ((x : A) → Fits_a x → Fits (make x)) → ((y : B) → Fits y → Fits_a (parts y)) → ((x : A) → make (clean_a x) ≡ clean (make x))
    → ((y : B) → spell y ≡ spell_a (parts y)) → ((y : B) → make (clean_a (parts y)) ≡ clean y)
    → IsForm spell Fits clean (made make f)
shown_form {A} {B} {spell_a} {Fits_a} {clean_a} {f} form make parts spell Fits clean spelled fit unfit cleaned text end = record {
  takes = λ bytes y rest fits e.
      let m = made_takes form make bytes y rest fits e in
      subst (λ (z : B). Took spell Fits clean bytes z rest) m.2
      (record { parts = m.1.parts ∙ ap (λ (t : List ℕ). t ++ rest) (spelled m.0); fits = fit m.0 m.1.fits; same = sym (cleaned m.0) ∙ ap make m.1.same });
  again = λ y rest fits.
      ap (λ (t : List ℕ). made make f (t ++ rest)) (text y) ∙ made_again form make (parts y) rest (unfit y fits) ∙ ap (λ (z : B). Some (z, rest)) (end y);
}

-- a value of another type, part by part
pub made_form : {A B : Type 0} {spell_a : A → List ℕ} {Fits_a : A → Type 0} {clean_a : A → A} {f : Reader A} → IsForm spell_a Fits_a clean_a f
    → (make : A → B) (parts : B → A) (spell : B → List ℕ) (Fits : B → Type 0) (clean : B → B)
    → ((y : B) → make (parts y) ≡ y) → ((x : A) → spell_a x ≡ spell (make x)) → ((x : A) → Fits_a x → Fits (make x)) → ((y : B) → Fits y → Fits_a (parts y)) → ((x : A) → make (clean_a x) ≡ clean (make x))
    → IsForm spell Fits clean (made make f)
made_form form make parts spell Fits clean back spelled fit unfit cleaned =
    shown_form form make parts spell Fits clean spelled fit unfit cleaned
    (λ y. ap spell (sym (back y)) ∙ sym (spelled (parts y))) (λ y. cleaned (parts y) ∙ ap clean (back y))

-- ---- tests, names and choices

pub tested_form : {A : Type 0} {spell : A → List ℕ} {Fits : A → Type 0} {clean : A → A} {f : Reader A} → IsForm spell Fits clean f
    → (test : A → Bool) → ((x : A) → test (clean x) ≡ test x) → IsForm spell (λ x. Fits x × (test x ≡ true)) clean (tested test f)
tested_form {A} {spell} {Fits} {clean} {f} form test kept = record {
  takes = λ bytes x rest fits e.
      let a = bind_some (f bytes) (λ y. cond (test y.0) (Some y) None) (x, rest) e in
      let g = guard_some (test a.0.0) a.0 (x, rest) a.2 in
      let t = form.takes bytes x rest fits (a.1 ∙ ap (λ (y : A × List ℕ). Some y) g.1) in
      record { parts = t.parts; fits = (t.fits, ap (λ (y : A × List ℕ). test y.0) (sym g.1) ∙ g.0); same = t.same };
  again = λ x rest fits. rw (form.again x rest fits.0, kept x, fits.1) refl;
}

pub named_form : {A B : Type 0} {spell : A → List ℕ} {Fits : A → Type 0} {f : Reader A} → IsForm spell Fits same f
    → (name : A → Option B) (code : B → A) → ((y : B) → name (code y) ≡ Some y) → ((x : A) (y : B) → name x ≡ Some y → code y ≡ x)
    → IsForm (λ y. spell (code y)) (λ y. Fits (code y)) same (named name f)
named_form {A} {B} {spell} {Fits} {f} form name code named_code code_named = record {
  takes = λ bytes y rest fits e.
      let a = bind_some (f bytes) (λ x. name x.0 >>= λ z. Some (z, x.1)) (y, rest) e in
      let b = bind_some (name a.0.0) (λ z. Some (z, a.0.1)) (y, rest) a.2 in
      let s = some_pair_parts b.0 y a.0.1 rest b.2 in
      let is : a.0.0 ≡ code y = sym (code_named a.0.0 b.0 b.1) ∙ ap code s.0 in
      let t = form.takes bytes (code y) rest fits (a.1 ∙ (λ i. Some (is i, s.1 i))) in
      record { parts = t.parts; fits = t.fits; same = refl };
  again = λ y rest fits. rw (form.again (code y) rest fits, named_code y) refl;
}

chosen : {A : Type 0} (b : Bool) (x y z : A) → cond b x y ≡ z → ((b ≡ true) × (x ≡ z)) ⊎ ((b ≡ false) × (y ≡ z))
chosen true x y z e = inl (refl, e)
chosen false x y z e = inr (refl, e)

-- what holds of what both sides read holds of what the choice reads
pub choice_takes : {A : Type 0} (P : List ℕ → A → List ℕ → Type 0) (mark : ℕ) (f g : Reader A)
    → ((bytes : List ℕ) (x : A) (rest : List ℕ) → IsBytes bytes → f bytes ≡ Some (x, rest) → P (mark ∷ bytes) x rest)
    → ((bytes : List ℕ) (x : A) (rest : List ℕ) → IsBytes bytes → g bytes ≡ Some (x, rest) → P bytes x rest)
    → (bytes : List ℕ) (x : A) (rest : List ℕ) → IsBytes bytes → choice mark f g bytes ≡ Some (x, rest) → P bytes x rest
choice_takes P mark f g here there [] x rest fits e = absurd cc
choice_takes P mark f g here there (b ∷ bytes) x rest fits e =
    elim (chosen (eqb b mark) (f bytes) (g (b ∷ bytes)) (Some (x, rest)) e) [
      | inl first ↦ subst (λ (m : ℕ). P (m ∷ bytes) x rest) (sym (eqb-true b mark first.0)) (here bytes x rest (λ i. fits (suc i)) first.1)
      | inr second ↦ there (b ∷ bytes) x rest fits second.1
    ]

pub nothing_takes : {A : Type 0} (P : List ℕ → A → List ℕ → Type 0) (bytes : List ℕ) (x : A) (rest : List ℕ) → IsBytes bytes → nothing {A = A} bytes ≡ Some (x, rest) → P bytes x rest
nothing_takes P bytes x rest fits e = absurd cc

-- ---- numbers

pub byte_form : IsForm (λ n. n ∷ []) (λ n. n < 256) same byte_at
byte_form = record { takes = byte_takes; again = λ n rest fits. refl }
  where
    byte_takes : (bytes : List ℕ) (n : ℕ) (rest : List ℕ) → IsBytes bytes → byte_at bytes ≡ Some (n, rest) → Took (λ (m : ℕ). m ∷ []) (λ (m : ℕ). m < 256) same bytes n rest
    byte_takes [] n rest fits e = absurd cc
    byte_takes (b ∷ bytes) n rest fits e =
        let s = some_pair_parts b n bytes rest e in
        record { parts = λ i. s.0 i ∷ s.1 i; fits = rw (← s.0) (fits 0); same = refl }

pub record IsWide (w : Width) (limit : ℕ) : Type 0 where
  pub len : (n : ℕ) → length (to_be_bytes w n) ≡ byte_len w
  pub back : (bytes : List ℕ) → length bytes ≡ byte_len w → IsBytes bytes → to_be_bytes w (from_be_bytes w bytes) ≡ bytes
  pub again : (n : ℕ) → n < limit → from_be_bytes w (to_be_bytes w n) ≡ n
  pub below : (bytes : List ℕ) → IsBytes bytes → from_be_bytes w bytes < limit

wide16 : IsWide w16 (2 ^ 16)
wide16 = record {
  len = λ n. refl;
  back = λ bytes len fits. be_bytes_2 bytes _ len fits refl;
  again = λ n lt. from_be_bytes-to_be_bytes_2 n lt;
  below = λ bytes fits. omega (arith, fits 0, fits 1);
}

wide32 : IsWide w32 (2 ^ 32)
wide32 = record {
  len = λ n. refl;
  back = λ bytes len fits. be_bytes_4 bytes _ len fits refl;
  again = λ n lt. from_be_bytes-to_be_bytes_4 n lt;
  below = λ bytes fits. omega (arith, fits 0, fits 1, fits 2, fits 3);
}

wide64 : IsWide w64 (2 ^ 64)
wide64 = record {
  len = λ n. refl;
  back = λ bytes len fits. be_bytes_8 bytes _ len fits refl;
  again = λ n lt. from_be_bytes-to_be_bytes_8 n lt;
  below = λ bytes fits. omega (arith, fits 0, fits 1, fits 2, fits 3, fits 4, fits 5, fits 6, fits 7);
}

wide_form : (w : Width) (limit : ℕ) → IsWide w limit → IsForm (to_be_bytes w) (λ n. n < limit) same (number_at w)
wide_form w limit wide = record {
  takes = λ bytes n rest fits e.
      let g = refused_some (ltb (length bytes) (byte_len w)) (from_be_bytes w (take (byte_len w) bytes), drop (byte_len w) bytes) (n, rest) e in
      let s = some_pair_parts (from_be_bytes w (take (byte_len w) bytes)) n (drop (byte_len w) bytes) rest (ap (λ (y : ℕ × List ℕ). Some y) g.1) in
      let long : byte_len w ≤ length bytes = ltb-false _ _ g.0 in
      let front : to_be_bytes w n ≡ take (byte_len w) bytes = rw (← s.0) (wide.back (take (byte_len w) bytes) (omega (arith, length-take (byte_len w) bytes)) (IsBytes-take (byte_len w) bytes fits)) in
      record {
        parts = rw (front, ← s.1) (sym (take-append-drop (byte_len w) bytes));
        fits = rw (← s.0) (wide.below (take (byte_len w) bytes) (IsBytes-take (byte_len w) bytes fits));
        same = refl;
      };
  again = λ n rest lt.
      let len = wide.len n in
      let long : ltb (length (to_be_bytes w n ++ rest)) (byte_len w) ≡ false = le-ltb _ _ (omega (arith, length-append (to_be_bytes w n) rest)) in
      rw (long, take_at (to_be_bytes w n) rest (byte_len w) len, drop_at (to_be_bytes w n) rest (byte_len w) len, wide.again n lt) refl;
}

pub two_form : IsForm (to_be_bytes w16) (λ n. n < 2 ^ 16) same (number_at w16)
two_form = wide_form w16 (2 ^ 16) wide16

pub four_form : IsForm (to_be_bytes w32) (λ n. n < 2 ^ 32) same (number_at w32)
four_form = wide_form w32 (2 ^ 32) wide32

pub eight_form : IsForm (to_be_bytes w64) (λ n. n < 2 ^ 64) same (number_at w64)
eight_form = wide_form w64 (2 ^ 64) wide64

-- ---- what stands behind a number

pub sized_form : {spell : ℕ → List ℕ} {Fits : ℕ → Type 0} {number : Reader ℕ} → IsForm spell Fits same number
    → IsForm (λ t. spell (length t) ++ t) (λ t. Fits (length t)) same (sized number)
sized_form {spell} {Fits} {number} form = record {
  takes = λ bytes t rest fits e.
      let a = bind_some (number bytes) (λ n. bytes_at n.0 n.1) (t, rest) e in
      let n = a.0.0 in
      let left = a.0.1 in
      let g = refused_some (ltb (length left) n) (take n left, drop n left) (t, rest) a.2 in
      let s = some_pair_parts (take n left) t (drop n left) rest (ap (λ (y : List ℕ × List ℕ). Some y) g.1) in
      let long : n ≤ length left = ltb-false _ _ g.0 in
      let len : n ≡ length t = sym (ap length (sym s.0) ∙ omega (arith, length-take n left)) in
      let took = form.takes bytes n left fits a.1 in
      let behind : left ≡ t ++ rest = sym (take-append-drop n left) ∙ (λ i. s.0 i ++ s.1 i) in
      record {
        parts = took.parts ∙ (λ i. spell (len i) ++ behind i) ∙ sym (append_assoc (spell (length t)) t rest);
        fits = subst Fits len took.fits;
        same = refl;
      };
  again = λ t rest fits.
      let long : ltb (length (t ++ rest)) (length t) ≡ false = le-ltb _ _ (omega (arith, length-append t rest)) in
      rw (append_assoc (spell (length t)) t rest, form.again (length t) (t ++ rest) fits, long, take_at t rest (length t) refl, drop_at t rest (length t) refl) refl;
}

times_takes : {A : Type 0} {spell : A → List ℕ} {Fits : A → Type 0} {clean : A → A} {f : Reader A} → IsForm spell Fits clean f
    → (n : ℕ) (bytes : List ℕ) (xs : List A) (rest : List ℕ) → IsBytes bytes → times f n bytes ≡ Some (xs, rest)
    → Took (flat_map spell) (AllByRecursion Fits) (map clean) bytes xs rest × (n ≡ length xs)
unfolding times
times_takes {A} {spell} {Fits} {clean} {f} form zero bytes xs rest fits e =
    let none : List A = [] in
    let s = some_pair_parts none xs bytes rest e in
    subst (λ (ys : List A). Took (flat_map spell) (AllByRecursion Fits) (map clean) bytes ys rest × (0 ≡ length ys)) s.0 (record { parts = s.1; fits = tt; same = refl }, refl)
times_takes {A} {spell} {Fits} {clean} {f} form (suc n) bytes xs rest fits e =
    let a = bind_some (f bytes) (λ x. times f n x.1 >>= λ ys. Some (x.0 ∷ ys.0, ys.1)) (xs, rest) e in
    let b = bind_some (times f n a.0.1) (λ ys. Some (a.0.0 ∷ ys.0, ys.1)) (xs, rest) a.2 in
    let s = some_pair_parts (a.0.0 ∷ b.0.0) xs b.0.1 rest b.2 in
    let one = form.takes bytes a.0.0 a.0.1 fits a.1 in
    let others = times_takes form n a.0.1 b.0.0 b.0.1 (IsBytes-behind bytes (spell a.0.0) a.0.1 one.parts fits) b.1 in
    let whole : bytes ≡ flat_map spell (a.0.0 ∷ b.0.0) ++ rest = one.parts ∙ ap (λ (r : List ℕ). spell a.0.0 ++ r) (others.0.parts ∙ ap (λ (r : List ℕ). flat_map spell b.0.0 ++ r) s.1) ∙ sym (append_assoc (spell a.0.0) (flat_map spell b.0.0) rest) in
    subst (λ (ys : List A). Took (flat_map spell) (AllByRecursion Fits) (map clean) bytes ys rest × (suc n ≡ length ys)) s.0
    (record { parts = whole; fits = (one.fits, others.0.fits); same = λ i. one.same i ∷ others.0.same i }, ap suc others.1)

times_again : {A : Type 0} {spell : A → List ℕ} {Fits : A → Type 0} {clean : A → A} {f : Reader A} → IsForm spell Fits clean f
    → (xs : List A) (rest : List ℕ) → AllByRecursion Fits xs → times f (length xs) (flat_map spell xs ++ rest) ≡ Some (map clean xs, rest)
unfolding times
times_again form [] rest fits = refl
times_again {A} {spell} {Fits} {clean} {f} form (x ∷ xs) rest fits =
    let regrouped : (spell x ++ flat_map spell xs) ++ rest ≡ spell x ++ (flat_map spell xs ++ rest) = append_assoc (spell x) (flat_map spell xs) rest in
    rw (regrouped, form.again x (flat_map spell xs ++ rest) fits.0, times_again form xs rest fits.1) refl

pub counted_form : {A : Type 0} {spell_n : ℕ → List ℕ} {Fits_n : ℕ → Type 0} {number : Reader ℕ} {spell : A → List ℕ} {Fits : A → Type 0} {clean : A → A} {f : Reader A}
    → IsForm spell_n Fits_n same number → IsForm spell Fits clean f
    → IsForm (λ xs. spell_n (length xs) ++ flat_map spell xs) (λ xs. Fits_n (length xs) × AllByRecursion Fits xs) (map clean) (counted number f)
counted_form {A} {spell_n} {Fits_n} {number} {spell} {Fits} {clean} {f} numbers form = record {
  takes = λ bytes xs rest fits e.
      let a = bind_some (number bytes) (λ n. times f n.0 n.1) (xs, rest) e in
      let took = numbers.takes bytes a.0.0 a.0.1 fits a.1 in
      let others = times_takes form a.0.0 a.0.1 xs rest (IsBytes-behind bytes (spell_n a.0.0) a.0.1 took.parts fits) a.2 in
      record {
        parts = took.parts ∙ (λ i. spell_n (others.1 i) ++ others.0.parts i) ∙ sym (append_assoc (spell_n (length xs)) (flat_map spell xs) rest);
        fits = (subst Fits_n others.1 took.fits, others.0.fits);
        same = others.0.same;
      };
  again = λ xs rest fits.
      let regrouped : (spell_n (length xs) ++ flat_map spell xs) ++ rest ≡ spell_n (length xs) ++ (flat_map spell xs ++ rest) = append_assoc (spell_n (length xs)) (flat_map spell xs) rest in
      rw (regrouped, numbers.again (length xs) (flat_map spell xs ++ rest) fits.0) (times_again form xs rest fits.1);
}

map-same : {A : Type 0} (xs : List A) → map same xs ≡ xs
map-same [] = refl
map-same (x ∷ xs) = ap (λ ys. x ∷ ys) (map-same xs)

-- values that nothing is taken away from
pub list_form : {A : Type 0} {spell_n : ℕ → List ℕ} {Fits_n : ℕ → Type 0} {number : Reader ℕ} {spell : A → List ℕ} {Fits : A → Type 0} {f : Reader A}
    → IsForm spell_n Fits_n same number → IsForm spell Fits same f
    → IsForm (λ xs. spell_n (length xs) ++ flat_map spell xs) (λ xs. Fits_n (length xs) × AllByRecursion Fits xs) same (counted number f)
list_form numbers form = said (counted_form numbers form) (λ xs h. h) (λ xs h. h) map-same

-- ---- a field behind a flag

pub optional_form : {A : Type 0} {spell : A → List ℕ} {Fits : A → Type 0} {f : Reader A} → IsForm spell Fits same f
    → IsForm (optional_spelling spell) (λ o. IfSome o Fits) same (optional f)
optional_form {A} {spell} {Fits} {f} form = record {
  takes = choice_takes (Took (optional_spelling spell) (λ (o : Option A). IfSome o Fits) same) 0 (λ (bytes : List ℕ). Some (None, bytes)) (choice 1 (made (λ (x : A). Some x) f) nothing)
      none_takes
      (choice_takes (Took (optional_spelling spell) (λ (o : Option A). IfSome o Fits) same) 1 (made (λ (x : A). Some x) f) nothing
      (variant_takes form 1 (λ (x : A). Some x) (optional_spelling spell) (λ (o : Option A). IfSome o Fits) same (λ x h. refl) (λ x h. h) (λ x. refl))
      (nothing_takes (Took (optional_spelling spell) (λ (o : Option A). IfSome o Fits) same)));
  again = optional_again;
}
  where
    none_at : Reader (Option A)
    none_at bytes = Some (None, bytes)

    none_takes : (bytes : List ℕ) (o : Option A) (rest : List ℕ) → IsBytes bytes → none_at bytes ≡ Some (o, rest) → Took (optional_spelling spell) (λ (o : Option A). IfSome o Fits) same (0 ∷ bytes) o rest
    none_takes bytes o rest fits e =
        let none : Option A = None in
        let s = some_pair_parts none o bytes rest e in
        subst (λ (p : Option A). Took (optional_spelling spell) (λ (o : Option A). IfSome o Fits) same (0 ∷ bytes) p rest) s.0 (record { parts = ap (λ (t : List ℕ). 0 ∷ t) s.1; fits = tt; same = refl })

    optional_again : (o : Option A) (rest : List ℕ) → IfSome o Fits → optional f (optional_spelling spell o ++ rest) ≡ Some (o, rest)
    optional_again None rest fits = refl
    optional_again (Some x) rest fits = made_again form (λ (y : A). Some y) x rest fits
