-- What directories show, one by one, until a page is due.
use Rattle.std.proofs.Common.{◌≡◌, ℕ, Bool, true, false, List, [], ◌∷◌, ◌++◌, Some, None, refl, sym, ap, ◌∙◌, append_assoc, append-nil}
use Rattle.mt_path.specs.AccountPath.{AccountPath}
use Rattle.mt_script.specs.Levels.{Listed, Settled, Shown, first_of, settled, settled_by, settled_out, shown, with_rows}

-- behind a text the rest shows what the whole shows behind another
pub record StillSettles (before : List ℕ) (whole : Settled) (now : List ℕ) (rest : Settled) : Type 0 where
  pub text : now ++ rest.text ≡ before ++ whole.text
  pub levels : rest.levels ≡ whole.levels

pub still_whole : (before : List ℕ) (whole : Settled) → StillSettles before whole before whole
still_whole before whole = record { text = refl; levels = refl }

-- it ends behind this text, with these levels
abbrev pub EndsSettled : List ℕ → Settled → List ℕ → List Listed → Type 0
EndsSettled before whole now levels = (now ≡ before ++ whole.text) × (levels ≡ whole.levels)

module _ (deep : Bool) (login : List ℕ) (before : List ℕ) (whole : Settled) (now : List ℕ) where
  -- no directory is left
  pub all_settled : StillSettles before whole now (settled deep login []) → EndsSettled before whole now []
  all_settled so_far = (sym (append-nil now) ∙ so_far.text, so_far.levels)

  module _ (l : Listed) (ls : List Listed) (so_far : StillSettles before whole now (settled deep login (l ∷ ls))) where
    abbrev s : Shown
    s = shown deep login l.ask.directory l.rows

    -- it stops in a directory
    pub settled_into : (p : AccountPath) → s.into ≡ Some p → EndsSettled before whole (now ++ s.text) (first_of p ∷ with_rows l s.left ∷ ls)
    settled_into p into =
        let is = ap (settled_by l ls (settled deep login ls) s) into in
        (ap (λ (d : Settled). now ++ d.text) (sym is) ∙ so_far.text, ap (λ (d : Settled). d.levels) (sym is) ∙ so_far.levels)

    -- it stops for a page
    pub settled_more : s.into ≡ None → l.more ≡ true → EndsSettled before whole (now ++ s.text) (with_rows l s.left ∷ ls)
    settled_more none more =
        let is = ap (settled_by l ls (settled deep login ls) s) none ∙ ap (λ b. settled_out b s.text (with_rows l s.left) ls (settled deep login ls)) more in
        (ap (λ (d : Settled). now ++ d.text) (sym is) ∙ so_far.text, ap (λ (d : Settled). d.levels) (sym is) ∙ so_far.levels)

    -- it goes on with the directory outside
    pub settled_on : s.into ≡ None → l.more ≡ false → StillSettles before whole (now ++ s.text) (settled deep login ls)
    settled_on none more =
        let is = ap (settled_by l ls (settled deep login ls) s) none ∙ ap (λ b. settled_out b s.text (with_rows l s.left) ls (settled deep login ls)) more in
        record {
          text = append_assoc now s.text (settled deep login ls).text ∙ (ap (λ (d : Settled). now ++ d.text) (sym is) ∙ so_far.text);
          levels = ap (λ (d : Settled). d.levels) (sym is) ∙ so_far.levels;
        }
