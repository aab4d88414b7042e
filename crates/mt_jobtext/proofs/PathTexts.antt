-- The text of a path, by its key.
use Rattle.std.proofs.Common.{◌≡◌, ℕ, ◌+◌, ◌<◌, List, [], ◌∷◌, ◌++◌, map, length, get_or, set, take, drop, sym, ap, ◌∙◌, arith, append_assoc, length-append}
use Rattle.std.proofs.lemmas.Grind.{flat_map-append}
use Rattle.std.proofs.lemmas.List.{drop_more, length-map, length-take, map_more, set_at}
use Rattle.json.specs.Print.{escape, escape_byte}
use Rattle.mt_path.specs.AccountPath.{AccountPath, IsPath, area_name, path_text, slashed}
use Rattle.mt_path.specs.Keys.{key_bytes, shown_byte}
use Rattle.mt_path.proofs.Keys.{clear_path, length-key, shown-key}
use Rattle.mt_jobtext.specs.JobTexts.{line}

module _ (login area key : List ℕ) (p : AccountPath) (area_is : area ≡ area_name p.area) (key_is : key ≡ key_bytes p.parts) (path : IsPath p) where
  -- the login, the area, and what is shown of the key
  path_shown : (47 ∷ login) ++ ((47 ∷ area) ++ map shown_byte key) ≡ path_text login p
  unfolding path_text
  path_shown =
      (λ k. (47 ∷ login) ++ ((47 ∷ area_is k) ++ map shown_byte (key_is k)))
      ∙ ap (λ (l : List ℕ). (47 ∷ login) ++ ((47 ∷ area_name p.area) ++ l)) (shown-key p.parts (clear_path p path))

  -- between quotes
  pub path_escaped : escape (47 ∷ login) ++ (escape (47 ∷ area) ++ escape (map shown_byte key)) ≡ escape (path_text login p)
  path_escaped =
      ap (λ (l : List ℕ). escape (47 ∷ login) ++ l) (sym (flat_map-append escape_byte (47 ∷ area) (map shown_byte key)))
      ∙ sym (flat_map-append escape_byte (47 ∷ login) ((47 ∷ area) ++ map shown_byte key))
      ∙ ap escape path_shown

  -- on a line of its own
  pub line_shown : 47 ∷ (login ++ (47 ∷ (area ++ (map shown_byte key ++ 10 ∷ [])))) ≡ line (path_text login p)
  line_shown =
      ap (λ (l : List ℕ). 47 ∷ l)
      (ap (λ (l : List ℕ). login ++ (47 ∷ l)) (sym (append_assoc area (map shown_byte key) (10 ∷ [])))
      ∙ sym (append_assoc login (47 ∷ (area ++ map shown_byte key)) (10 ∷ [])))
      ∙ ap line path_shown

-- one byte more of a key that is written over other bytes
pub shown_more : (key xs ys : List ℕ) (k byte : ℕ) → k < length key → length xs ≡ length key → ys ≡ map shown_byte (take k key) ++ drop k xs → byte ≡ shown_byte (get_or key k 0)
    → set ys k byte ≡ map shown_byte (take (k + 1) key) ++ drop (k + 1) xs
shown_more key xs ys k byte within long written is =
    let front : List ℕ = map shown_byte (take k key) in
    let front_long : length front ≡ k = length-map (take k key) shown_byte ∙ omega (arith, length-take k key) in
    let parts : ys ≡ front ++ get_or xs k 0 ∷ drop (k + 1) xs = written ∙ ap (λ l. front ++ l) (drop_more xs k 0 (omega (arith, long))) in
    ap (λ l. set l k byte) parts ∙ set_at front _ _ byte k front_long ∙ sym (append_assoc front (byte ∷ []) _)
    ∙ ap (λ l. l ++ drop (k + 1) xs) (ap (λ b. front ++ b ∷ []) is ∙ sym (map_more shown_byte key k 0 within))

-- how long a line is
pub line_long : (login : List ℕ) (p : AccountPath) → length (line (path_text login p)) ≡ length login + (length (area_name p.area) + length (key_bytes p.parts) + 3)
unfolding path_text
line_long login p =
    let area : List ℕ = 47 ∷ area_name p.area in
    omega (arith, length-append ((47 ∷ login) ++ (area ++ slashed p.parts)) (10 ∷ []), length-append (47 ∷ login) (area ++ slashed p.parts), length-append area (slashed p.parts), length-key p.parts)

-- and what stands behind the login
pub below_short : (p : AccountPath) → IsPath p → length (area_name p.area) + length (key_bytes p.parts) < 1024
below_short p path = omega (arith, path.short, length-append (47 ∷ area_name p.area) (slashed p.parts), length-key p.parts)
