-- Heads: when the next byte ends one, and that a list of bytes begins with at most one
use Rattle.std.proofs.Common.{◌≡◌, ℕ, ◌≤◌, ◌⊎◌, inl, inr, List, [], ◌∷◌, ◌++◌, length, refl, ap, sym, subst, ◌∙◌, append_assoc, append-nil, length-append, arith}
use Rattle.std.proofs.lemmas.Bool.{cases_lt}
use Rattle.std.proofs.lemmas.List.{same_from_push}
use Rattle.httparse.specs.Ascii.{line_feed, carriage_return}
use Rattle.httparse.specs.Grammar.{LineEnd, lf, crlf, print_end, print_blank}
use Rattle.mt_http.specs.Framing.{head_limit, BeginsWithEmptyLine, EndsWithEmptyLine, IsHead, HeadAt, HasNoHead, IsEmptyLines}
use Rattle.mt_http.specs.Reading.{IsHeadFront}

-- ---- lists

-- a list is empty or has a last element
last_of : {A : Type 0} (xs : List A) → (xs ≡ []) ⊎ ((ys : List A) × (y : A) × (xs ≡ ys ++ y ∷ []))
last_of [] = inl refl
last_of (x ∷ xs) =
    elim (last_of xs) [
      | inl none ↦ inr ([], x, ap (λ l. x ∷ l) none)
      | inr w ↦ inr (x ∷ w.0, w.1, ap (λ l. x ∷ l) w.2)
    ]

-- a front of a list with one more element is all of it, or a front of the list
front_of_push : (xs front more : List ℕ) (b : ℕ) → xs ++ b ∷ [] ≡ front ++ more → (more ≡ []) ⊎ ((rest : List ℕ) × (xs ≡ front ++ rest))
front_of_push xs front more b is =
    elim (last_of more) [
      | inl none ↦ inl none
      | inr w ↦ inr (w.0, (same_from_push xs (front ++ w.0) b w.1 (is ∙ ap (λ l. front ++ l) w.2 ∙ sym (append_assoc front w.0 (w.1 ∷ [])))).0)
    ]

-- of two fronts of one list the shorter is a front of the longer
pub shorter_front : (xs xs' ys ys' : List ℕ) → xs ++ xs' ≡ ys ++ ys' → length ys ≤ length xs → (mid : List ℕ) × (xs ≡ ys ++ mid) × (mid ++ xs' ≡ ys')
shorter_front xs xs' [] ys' is short = (xs, refl, is)
shorter_front [] xs' (y ∷ ys) ys' is short = absurd (omega arith)
shorter_front (x ∷ xs) xs' (y ∷ ys) ys' is short =
    let first : x ≡ y = cc in
    let tail : xs ++ xs' ≡ ys ++ ys' = cc in
    let w = shorter_front xs xs' ys ys' tail (omega arith) in
    (w.0, cc, w.2)

-- ---- the first bytes of a head

-- what ends with an empty line has two bytes or more
pub ending_is_long : (bytes : List ℕ) → EndsWithEmptyLine bytes → 2 ≤ length bytes
ending_is_long bytes (front, lf, is) = omega (arith, ap length is, length-append front (line_feed ∷ line_feed ∷ []))
ending_is_long bytes (front, crlf, is) = omega (arith, ap length is, length-append front (line_feed ∷ carriage_return ∷ line_feed ∷ []))

-- at most one byte, of no empty line, begins a head
pub short_front : (bytes : List ℕ) → length bytes ≤ 1 → ¬ (BeginsWithEmptyLine bytes) → IsHeadFront bytes
short_front bytes short begins = record {
  begins = begins;
  open_yet = λ front more is ends. absurd (omega (arith, ending_is_long front ends, ap length is, length-append front more));
}

nothing_begins : ¬ (BeginsWithEmptyLine [])
nothing_begins (lf, more, is) = cc
nothing_begins (crlf, more, is) = cc

-- the lone CR that a head may begin with
return_begins : ¬ (BeginsWithEmptyLine (carriage_return ∷ []))
return_begins (lf, more, is) = absurd (omega (arith, same_heads carriage_return line_feed [] more is))
  where
    same_heads : (a b : ℕ) (xs ys : List ℕ) → a ∷ xs ≡ b ∷ ys → a ≡ b
    same_heads a b xs ys h = cc
return_begins (crlf, more, is) = absurd (omega (arith, ap length is))

pub nothing_fronts : IsHeadFront []
nothing_fronts = short_front [] (omega arith) nothing_begins

pub return_fronts : IsHeadFront (carriage_return ∷ [])
return_fronts = short_front (carriage_return ∷ []) (omega arith) return_begins

-- ---- one more byte

abbrev IsEmptyLine : List ℕ → Type 0
IsEmptyLine bytes = (line : LineEnd) × (bytes ≡ print_end line)

begins_push : (old : List ℕ) (b : ℕ) → ¬ (BeginsWithEmptyLine old) → ¬ (IsEmptyLine (old ++ b ∷ [])) → ¬ (BeginsWithEmptyLine (old ++ b ∷ []))
begins_push old b before not_line w =
    elim (front_of_push old (print_end w.0) w.1 b w.2) [
      | inl none ↦ not_line (w.0, w.2 ∙ ap (λ l. print_end w.0 ++ l) none ∙ append-nil (print_end w.0))
      | inr rest ↦ before (w.0, rest.0, rest.1)
    ]

-- it makes an empty line before the head
pub skipped : (old : List ℕ) (b : ℕ) → IsEmptyLine (old ++ b ∷ []) → (lines : List LineEnd) × (old ++ b ∷ [] ≡ print_blank lines ++ []) × IsHeadFront []
skipped old b w = (w.0 ∷ [], w.1 ∙ sym (append-nil (print_end w.0)) ∙ sym (append-nil (print_end w.0 ++ [])), nothing_fronts)

-- it ends the head
pub head_push : (old : List ℕ) (b : ℕ) → IsHeadFront old → ¬ (IsEmptyLine (old ++ b ∷ [])) → EndsWithEmptyLine (old ++ b ∷ []) → IsHead (old ++ b ∷ [])
head_push old b front_old not_line ends = record {
  begins = begins_push old b front_old.begins not_line;
  ends = ends;
  first = λ front more is e. elim (front_of_push old front more b is) [ inl none ↦ none | inr w ↦ absurd (front_old.open_yet front w.0 w.1 e) ];
}

-- the head goes on
pub front_push : (old : List ℕ) (b : ℕ) → IsHeadFront old → ¬ (IsEmptyLine (old ++ b ∷ [])) → ¬ (EndsWithEmptyLine (old ++ b ∷ [])) → IsHeadFront (old ++ b ∷ [])
front_push old b front_old not_line goes_on = record {
  begins = begins_push old b front_old.begins not_line;
  open_yet = λ front more is e. elim (front_of_push old front more b is) [
    | inl none ↦ goes_on (subst EndsWithEmptyLine (sym (is ∙ ap (λ l. front ++ l) none ∙ append-nil front)) e)
    | inr w ↦ front_old.open_yet front w.0 w.1 e
  ];
}

-- ---- one head

-- where the empty lines at the front end
blank_is_one : (ls ms : List LineEnd) (xs ys : List ℕ) → print_blank ls ++ xs ≡ print_blank ms ++ ys → ¬ (BeginsWithEmptyLine xs) → ¬ (BeginsWithEmptyLine ys) → (ls ≡ ms) × (xs ≡ ys)
blank_is_one [] [] xs ys is no_x no_y = (refl, is)
blank_is_one [] (m ∷ ms) xs ys is no_x no_y = absurd (no_x (m, print_blank ms ++ ys, is ∙ append_assoc (print_end m) (print_blank ms) ys))
blank_is_one (l ∷ ls) [] xs ys is no_x no_y = absurd (no_y (l, print_blank ls ++ xs, sym is ∙ append_assoc (print_end l) (print_blank ls) xs))
blank_is_one (lf ∷ ls) (lf ∷ ms) xs ys is no_x no_y =
    let tail : print_blank ls ++ xs ≡ print_blank ms ++ ys = cc in
    let w = blank_is_one ls ms xs ys tail no_x no_y in
    (ap (λ l. lf ∷ l) w.0, w.1)
blank_is_one (crlf ∷ ls) (crlf ∷ ms) xs ys is no_x no_y =
    let tail : print_blank ls ++ xs ≡ print_blank ms ++ ys = cc in
    let w = blank_is_one ls ms xs ys tail no_x no_y in
    (ap (λ l. crlf ∷ l) w.0, w.1)
blank_is_one (lf ∷ ls) (crlf ∷ ms) xs ys is no_x no_y = absurd (differ (print_blank ls ++ xs) (line_feed ∷ (print_blank ms ++ ys)) is)
  where
    differ : (xs ys : List ℕ) → line_feed ∷ xs ≡ carriage_return ∷ ys → ⊥
    differ xs ys h = cc
blank_is_one (crlf ∷ ls) (lf ∷ ms) xs ys is no_x no_y = absurd (differ (line_feed ∷ (print_blank ls ++ xs)) (print_blank ms ++ ys) is)
  where
    differ : (xs ys : List ℕ) → carriage_return ∷ xs ≡ line_feed ∷ ys → ⊥
    differ xs ys h = cc

-- what follows a head doesn't make its first line empty
head_begins : (head rest : List ℕ) → IsHead head → ¬ (BeginsWithEmptyLine (head ++ rest))
head_begins head rest whole (line, more, is) =
    let w = shorter_front head rest (print_end line) more is (omega (arith, ending_is_long head whole.ends, line_is_short line)) in
    whole.begins (line, w.0, w.1)
  where
    line_is_short : (line : LineEnd) → length (print_end line) ≤ 2
    line_is_short lf = omega arith
    line_is_short crlf = omega arith

shorter_head : (a r b s : List ℕ) → IsHead a → IsHead b → a ++ r ≡ b ++ s → length b ≤ length a → (a ≡ b) × (r ≡ s)
shorter_head a r b s whole_a whole_b is short =
    let w = shorter_front a r b s is short in
    let none = whole_a.first b w.0 w.1 whole_b.ends in
    (w.1 ∙ ap (λ l. b ++ l) none ∙ append-nil b, ap (λ l. l ++ r) (sym none) ∙ w.2)

same_heads : (a r b s : List ℕ) → IsHead a → IsHead b → a ++ r ≡ b ++ s → (a ≡ b) × (r ≡ s)
same_heads a r b s whole_a whole_b is =
    elim (cases_lt (length a) (length b)) [
      | inl less ↦ (let w = shorter_head b s a r whole_b whole_a (sym is) (omega arith) in (sym w.0, sym w.1))
      | inr more ↦ shorter_head a r b s whole_a whole_b is more
    ]

-- bytes begin with at most one head
pub head_is_one : (bytes a r b s : List ℕ) → HeadAt bytes a r → HeadAt bytes b s → (a ≡ b) × (r ≡ s)
head_is_one bytes a r b s at_a at_b =
    let is = sym (append_assoc (print_blank at_a.lines) a r) ∙ sym at_a.split ∙ at_b.split ∙ append_assoc (print_blank at_b.lines) b s in
    let w = blank_is_one at_a.lines at_b.lines (a ++ r) (b ++ s) is (head_begins a r at_a.whole) (head_begins b s at_b.whole) in
    same_heads a r b s at_a.whole at_b.whole w.1

-- ---- no head

-- where a head is not whole yet, there is none
pub front_is_no_head : (lines : List LineEnd) (front : List ℕ) → IsHeadFront front → HasNoHead (print_blank lines ++ front)
front_is_no_head lines front unfinished head rest at_head =
    let is = at_head.split ∙ append_assoc (print_blank at_head.lines) head rest in
    let w = blank_is_one lines at_head.lines front (head ++ rest) is unfinished.begins (head_begins head rest at_head.whole) in
    unfinished.open_yet head rest w.1 at_head.whole.ends

-- a head that ends within the limit is not hidden by what follows
pub long_no_head : (bytes more : List ℕ) → HasNoHead bytes → head_limit ≤ length bytes → HasNoHead (bytes ++ more)
long_no_head bytes more none long head rest at_head =
    let w = shorter_front bytes more (print_blank at_head.lines ++ head) rest at_head.split (omega (arith, at_head.small)) in
    none head w.0 (record { lines = at_head.lines; split = w.1; whole = at_head.whole; small = at_head.small })

-- empty lines alone hold no head
pub lines_no_head : (bytes : List ℕ) → IsEmptyLines bytes → HasNoHead bytes
lines_no_head bytes (lines, inl is) = subst HasNoHead (append-nil (print_blank lines) ∙ sym is) (front_is_no_head lines [] nothing_fronts)
lines_no_head bytes (lines, inr is) = subst HasNoHead (sym is) (front_is_no_head lines (carriage_return ∷ []) return_fronts)

-- a head that has begun is no empty line
pub begun_not_lines : (lines : List LineEnd) (front : List ℕ) → IsHeadFront front → ¬ ((front ≡ []) ⊎ (front ≡ carriage_return ∷ [])) → ¬ (IsEmptyLines (print_blank lines ++ front))
begun_not_lines lines front unfinished begun (ms, inl is) = begun (inl (blank_is_one lines ms front [] (is ∙ sym (append-nil (print_blank ms))) unfinished.begins nothing_begins).1)
begun_not_lines lines front unfinished begun (ms, inr is) = begun (inr (blank_is_one lines ms front (carriage_return ∷ []) is unfinished.begins return_begins).1)
