-- Laying out one line more.
use Rattle.std.proofs.Common.{◌≡◌, ℕ, zero, suc, ◌+◌, ◌<◌, ◌≤◌, Bool, true, false, cond, List, [], ◌∷◌, ◌++◌, length, get_or, take, drop, refl, ap, sym, ◌∙◌, subst, arith, append_assoc, append-nil, ◌==◌, inl, inr, map}
use Rattle.std.proofs.Math.ListN.{set, replicate}
use Rattle.std.specs.List.{flat_map, filter, All}
use Rattle.std.proofs.lemmas.Bool.{eq-eqb, ne_eqb}
use Rattle.std.proofs.lemmas.Bool.Decides.{eqb_tells}
use Rattle.std.proofs.lemmas.List.{get_or-set_same, get_or-set_other}
use Rattle.std.proofs.lemmas.List.Elements.{All-append, All-cons, All-nil}
use Rattle.std.proofs.lemmas.Grind.{flat_map-append}
use Rattle.mt_split.specs.declared.key.KeyRule.{KeyRule}
use Rattle.mt_split.specs.declared.parts.Span.{Span}
use Rattle.mt_split.specs.Partition.{lines_of, line_key, reducer_of, part_of, part_of_lines, joined}
use Rattle.mt_split.specs.Spans.{bytes_in, IsWithin}
use Rattle.mt_split.proofs.Cuts.{lines-empty}

-- the fields behind the first
pub joined-cons : (delimiter : ℕ) (field : ℕ → List ℕ) (numbers : List ℕ) (first : ℕ) (others : List ℕ) → numbers ≡ first ∷ others
    → field first ++ flat_map (λ p. delimiter ∷ p) (map field others) ≡ joined delimiter (map field numbers)
unfolding joined
joined-cons delimiter field numbers first others is = rw is refl

pub joined-empty : (delimiter : ℕ) (field : ℕ → List ℕ) (numbers : List ℕ) → numbers ≡ [] → joined delimiter (map field numbers) ≡ []
unfolding joined
joined-empty delimiter field numbers is = rw is refl

pub none_of : (numbers : List ℕ) → length numbers ≡ 0 → numbers ≡ []
none_of [] none = refl
none_of (x ∷ xs) none = absurd (omega arith)

-- the first of a list, by its place
pub first_of_list : (numbers others : List ℕ) (first : ℕ) → numbers ≡ first ∷ others → numbers ≡ get_or numbers 0 0 ∷ others
first_of_list numbers others first is = is ∙ ap (λ (x : ℕ). x ∷ others) (sym (ap (λ (l : List ℕ). get_or l 0 0) is))

pub whole_front : (numbers : List ℕ) (n : ℕ) → length numbers ≤ n → take n numbers ≡ numbers
whole_front [] zero bound = refl
whole_front [] (suc n) bound = refl
whole_front (x ∷ xs) zero bound = absurd (omega arith)
whole_front (x ∷ xs) (suc n) bound = ap (λ (l : List ℕ). x ∷ l) (whole_front xs n (omega arith))

pub part-empty : (n : ℕ) (rule : KeyRule) (r : ℕ) → part_of [] n rule r ≡ []
unfolding part_of
part-empty n rule r = ap (λ (lines : List (List ℕ)). part_of_lines lines n rule r) lines-empty

pub part_of-lines : (text : List ℕ) (n : ℕ) (rule : KeyRule) (r : ℕ) → part_of text n rule r ≡ part_of_lines (lines_of text) n rule r
unfolding part_of
part_of-lines text n rule r = refl

by_test : (b : Bool) (line : List ℕ) (rest : List (List ℕ)) → flat_map (λ l. l) (cond b (line ∷ rest) rest) ≡ cond b line [] ++ flat_map (λ l. l) rest
by_test true line rest = refl
by_test false line rest = refl

-- a reducer's part of a text is its part of the first line and that of the others
part-more : (text line rest : List ℕ) (n : ℕ) (rule : KeyRule) (r : ℕ) → lines_of text ≡ line ∷ lines_of rest
    → part_of text n rule r ≡ cond (reducer_of (line_key line rule) n == r) line [] ++ part_of rest n rule r
part-more text line rest n rule r first =
    part_of-lines text n rule r ∙ ap (λ (lines : List (List ℕ)). part_of_lines lines n rule r) first
    ∙ by_test (reducer_of (line_key line rule) n == r) line _
    ∙ ap (λ (part : List ℕ). cond (reducer_of (line_key line rule) n == r) line [] ++ part) (sym (part_of-lines rest n rule r))

-- what stands before and after the line is added
pub record IsNext (text : List ℕ) (n : ℕ) (rule : KeyRule) (parts new : List (List Span)) (from len q : ℕ) (line : Span) : Type 0 where
  pub added : new ≡ set parts q (get_or parts q [] ++ line ∷ [])
  pub there : q < length parts
  pub begins : line.from ≡ from
  pub counts : line.len ≡ len
  pub first : lines_of (drop from text) ≡ take len (drop from text) ∷ lines_of (drop (from + len) text)
  pub goes : q ≡ reducer_of (line_key (take len (drop from text)) rule) n

pub laid_more : (text : List ℕ) (n : ℕ) (rule : KeyRule) (parts new : List (List Span)) (from len q : ℕ) (line : Span) → IsNext text n rule parts new from len q line
    → (r : ℕ) → (whole : List ℕ) → bytes_in text (get_or parts r []) ++ part_of (drop from text) n rule r ≡ whole
    → bytes_in text (get_or new r []) ++ part_of (drop (from + len) text) n rule r ≡ whole
laid_more text n rule parts new from len q line h r whole was =
    let more = part-more (drop from text) (take len (drop from text)) (drop (from + len) text) n rule r h.first in
    let bytes : take line.len (drop line.from text) ≡ take len (drop from text) = λ i. take (h.counts i) (drop (h.begins i) text) in
    elim (eqb_tells q r) [
      | inl same ↦
          let test : (reducer_of (line_key (take len (drop from text)) rule) n == r) ≡ true = ap (λ (k : ℕ). k == r) (sym h.goes) ∙ same.0 in
          let here : get_or new r [] ≡ get_or parts r [] ++ line ∷ [] =
          ap (λ (all : List (List Span)). get_or all r []) h.added ∙ (λ i. get_or (set parts (same.1 i) (get_or parts (same.1 i) [] ++ line ∷ [])) r []) ∙ get_or-set_same parts r (get_or parts r [] ++ line ∷ []) [] (subst (λ (k : ℕ). k < length parts) same.1 h.there) in
          rw (here, flat_map-append)
          (ap (λ (l : List ℕ). (bytes_in text (get_or parts r []) ++ (l ++ [])) ++ part_of (drop (from + len) text) n rule r) bytes
          ∙ rw append-nil (append_assoc (bytes_in text (get_or parts r [])) (take len (drop from text)) (part_of (drop (from + len) text) n rule r) ∙ ap (λ (l : List ℕ). bytes_in text (get_or parts r []) ++ l) (sym (more ∙ (λ i. cond (test i) (take len (drop from text)) [] ++ part_of (drop (from + len) text) n rule r))) ∙ was))
      | inr other ↦
          let test : (reducer_of (line_key (take len (drop from text)) rule) n == r) ≡ false = ap (λ (k : ℕ). k == r) (sym h.goes) ∙ other.0 in
          let here : get_or new r [] ≡ get_or parts r [] =
          ap (λ (all : List (List Span)). get_or all r []) h.added ∙ get_or-set_other parts q r (get_or parts q [] ++ line ∷ []) [] (λ e. other.1 (sym e)) in
          rw here
          (ap (λ (l : List ℕ). bytes_in text (get_or parts r []) ++ l) (sym (more ∙ (λ i. cond (test i) (take len (drop from text)) [] ++ part_of (drop (from + len) text) n rule r))) ∙ was)
    ]

one_within : (text : List ℕ) (line : Span) → line.from + line.len ≤ length text → All (IsWithin text) (line ∷ [])
one_within text line bound = All-cons (IsWithin text) line [] bound (All-nil (IsWithin text))

pub within_more : (text : List ℕ) (n : ℕ) (rule : KeyRule) (parts new : List (List Span)) (from len q : ℕ) (line : Span) → IsNext text n rule parts new from len q line
    → from + len ≤ length text → (r : ℕ) → All (IsWithin text) (get_or parts r []) → All (IsWithin text) (get_or new r [])
within_more text n rule parts new from len q line h bound r was =
    elim (eqb_tells q r) [
      | inl same ↦
          let here : get_or new r [] ≡ get_or parts r [] ++ line ∷ [] =
          ap (λ (all : List (List Span)). get_or all r []) h.added ∙ (λ i. get_or (set parts (same.1 i) (get_or parts (same.1 i) [] ++ line ∷ [])) r []) ∙ get_or-set_same parts r (get_or parts r [] ++ line ∷ []) [] (subst (λ (k : ℕ). k < length parts) same.1 h.there) in
          subst (All (IsWithin text)) (sym here) (All-append (IsWithin text) (get_or parts r []) (line ∷ []) was (one_within text line (subst (λ (k : ℕ). k ≤ length text) (λ i. sym h.begins i + sym h.counts i) bound)))
      | inr other ↦
          let here : get_or new r [] ≡ get_or parts r [] =
          ap (λ (all : List (List Span)). get_or all r []) h.added ∙ get_or-set_other parts q r (get_or parts q [] ++ line ∷ []) [] (λ e. other.1 (sym e)) in
          subst (All (IsWithin text)) (sym here) was
    ]

all_empty : (k r : ℕ) → get_or (replicate {A = List Span} k []) r [] ≡ []
all_empty zero r = refl
all_empty (suc k) zero = refl
all_empty (suc k) (suc r) = all_empty k r

-- before the first line each part is empty
pub laid_none : (text : List ℕ) (n : ℕ) (rule : KeyRule) (parts : List (List Span)) (k : ℕ) → parts ≡ replicate k [] → (r : ℕ) → get_or parts r [] ≡ []
laid_none text n rule parts k is r = ap (λ (all : List (List Span)). get_or all r []) is ∙ all_empty k r

pub all_within : (text : List ℕ) (spans : List Span) → spans ≡ [] → All (IsWithin text) spans
all_within text spans is = subst (All (IsWithin text)) (sym is) (All-nil (IsWithin text))
