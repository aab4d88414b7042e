-- The lines of bytes, one by one.
use Rattle.std.proofs.Common.{◌≡◌, ℕ, ◌<◌, Bool, true, false, cond, List, [], ◌∷◌, ◌++◌, length, Option, Some, None, option_map, All, refl, sym, ap, ◌∙◌, arith, length-append}
use Rattle.std.specs.List.{list_any, onto_first, slice_split}
use Rattle.std.proofs.lemmas.Bool.{eqb-true, or_from, or_parts}
use Rattle.std.proofs.lemmas.List.Elements.{All-nil, All-cons}
use Rattle.std.proofs.lemmas.List.Splits.{slice_split_at, slice_split_none}
use Rattle.mt_json.specs.Lines.{before_empty, first_line, is_feed, lines_of}

all_clear : (line : List ℕ) → list_any is_feed line ≡ false → All (λ b. is_feed b ≡ false) line
all_clear [] clear = All-nil (λ b. is_feed b ≡ false)
all_clear (b ∷ bs) clear = let parts = or_parts _ _ clear in All-cons (λ b. is_feed b ≡ false) b bs parts.0 (all_clear bs parts.1)

-- a list is cut into one part or more
some_parts : (bytes : List ℕ) → (p : List ℕ) × (more : List (List ℕ)) × (slice_split is_feed bytes ≡ p ∷ more)
some_parts [] = ([], [], refl)
some_parts (b ∷ bytes) = by (is_feed b) (some_parts bytes)
  where
    by : (feed : Bool) → ((p : List ℕ) × (more : List (List ℕ)) × (slice_split is_feed bytes ≡ p ∷ more)) → (p : List ℕ) × (more : List (List ℕ)) × (cond feed ([] ∷ slice_split is_feed bytes) (onto_first b (slice_split is_feed bytes)) ≡ p ∷ more)
    by true w = ([], slice_split is_feed bytes, refl)
    by false w = (b ∷ w.0, w.1, rw w.2 refl)

-- a line, and the lines behind it
pub lines_of-line : (line rest : List ℕ) → list_any is_feed line ≡ false → lines_of (line ++ 10 ∷ rest) ≡ option_map (λ lines. line ∷ lines) (lines_of rest)
lines_of-line line rest clear =
    let some = some_parts rest in
    ap before_empty (slice_split_at is_feed line 10 rest (all_clear line clear) refl ∙ ap (λ parts. line ∷ parts) some.2)
    ∙ ap (option_map (λ lines. line ∷ lines)) (ap before_empty (sym some.2))

-- where no line feed comes, there is no line, and something stands there that is none
pub lines_of-clear : (bytes : List ℕ) → list_any is_feed bytes ≡ false → lines_of bytes ≡ before_empty (bytes ∷ [])
lines_of-clear bytes clear = ap before_empty (slice_split_none is_feed bytes (all_clear bytes clear))

-- ---- by the first line

-- a line, its line feed, and what stands behind
record IsCut (bytes line behind : List ℕ) : Type 0 where
  pub whole : bytes ≡ line ++ 10 ∷ behind
  pub clear : list_any is_feed line ≡ false

same_pair : (p q : List ℕ × List ℕ) → ◌≡◌ {A = Option (List ℕ × List ℕ)} (Some p) (Some q) → p ≡ q
same_pair p q is = cc

-- by its first byte
cut_by : (b : ℕ) (bytes line behind : List ℕ) → ((l r : List ℕ) → first_line bytes ≡ Some (l, r) → IsCut bytes l r) → (feed : Bool) → is_feed b ≡ feed → (found : Option (List ℕ × List ℕ)) → first_line bytes ≡ found
    → cond {A = Option (List ℕ × List ℕ)} feed (Some ([], bytes)) (option_map (λ (p : List ℕ × List ℕ). (b ∷ p.0, p.1)) found) ≡ Some (line, behind) → IsCut (b ∷ bytes) line behind
cut_by b bytes line behind later true e found f is =
    let is_ten : b ≡ 10 = eqb-true b 10 e in
    let same = same_pair ([], bytes) (line, behind) is in
    let none : [] ≡ line = ap (λ (p : List ℕ × List ℕ). p.0) same in
    let rest : bytes ≡ behind = ap (λ (p : List ℕ × List ℕ). p.1) same in
    record { whole = ap (λ x. x ∷ bytes) is_ten ∙ ap (λ l. 10 ∷ l) rest ∙ ap (λ l. l ++ 10 ∷ behind) none; clear = ap (λ l. list_any is_feed l) (sym none) }
cut_by b bytes line behind later false e None f is = cc
cut_by b bytes line behind later false e (Some (l, r)) f is =
    let w = later l r f in
    let same = same_pair (b ∷ l, r) (line, behind) is in
    let line_is : b ∷ l ≡ line = ap (λ (p : List ℕ × List ℕ). p.0) same in
    let rest : r ≡ behind = ap (λ (p : List ℕ × List ℕ). p.1) same in
    record {
      whole = ap (λ bs. b ∷ bs) w.whole ∙ ap (λ bs. b ∷ (l ++ 10 ∷ bs)) rest ∙ ap (λ bs. bs ++ 10 ∷ behind) line_is;
      clear = ap (λ bs. list_any is_feed bs) (sym line_is) ∙ or_from _ _ e w.clear;
    }

first_cut : (bytes line behind : List ℕ) → first_line bytes ≡ Some (line, behind) → IsCut bytes line behind
first_cut [] line behind is = cc
first_cut (b ∷ bytes) line behind is = cut_by b bytes line behind (λ l r. first_cut bytes l r) (is_feed b) refl (first_line bytes) refl is

clear_by : (b : ℕ) (bytes : List ℕ) → (first_line bytes ≡ None → list_any is_feed bytes ≡ false) → (feed : Bool) → is_feed b ≡ feed → (found : Option (List ℕ × List ℕ)) → first_line bytes ≡ found
    → cond {A = Option (List ℕ × List ℕ)} feed (Some ([], bytes)) (option_map (λ (p : List ℕ × List ℕ). (b ∷ p.0, p.1)) found) ≡ None → list_any is_feed (b ∷ bytes) ≡ false
clear_by b bytes later true e found f is = cc
clear_by b bytes later false e None f is = or_from _ _ e (later f)
clear_by b bytes later false e (Some p) f is = cc

first_clear : (bytes : List ℕ) → first_line bytes ≡ None → list_any is_feed bytes ≡ false
first_clear [] is = refl
first_clear (b ∷ bytes) is = clear_by b bytes (first_clear bytes) (is_feed b) refl (first_line bytes) refl is

-- the first line, and the lines behind it
pub lines_of-first : (bytes line behind : List ℕ) → first_line bytes ≡ Some (line, behind) → lines_of bytes ≡ option_map (λ lines. line ∷ lines) (lines_of behind)
lines_of-first bytes line behind is = let w = first_cut bytes line behind is in ap lines_of w.whole ∙ lines_of-line line behind w.clear

-- what stands behind it is shorter
pub first-shorter : (bytes line behind : List ℕ) → first_line bytes ≡ Some (line, behind) → length behind < length bytes
first-shorter bytes line behind is = let w = first_cut bytes line behind is in omega (arith, ap length w.whole, length-append line (10 ∷ behind))

-- some bytes without a first line are no lines
pub lines_of-none : (bytes : List ℕ) → (bytes ≡ [] → ⊥) → first_line bytes ≡ None → lines_of bytes ≡ None
lines_of-none [] some is = absurd (some refl)
lines_of-none (b ∷ bytes) some is = lines_of-clear (b ∷ bytes) (first_clear (b ∷ bytes) is)
