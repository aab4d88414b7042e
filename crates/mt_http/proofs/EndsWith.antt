-- Two tests of the last bytes find an empty line
use Rattle.std.proofs.Common.{◌≡◌, ◌≢◌, ℕ, suc, ◌-◌, ◌<◌, ◌⊎◌, inl, inr, Bool, true, List, [], ◌∷◌, ◌++◌, length, take, get_or, refl, ap, sym, subst, ◌+◌, length-take, ◌∙◌, append_assoc, append-nil, arith}
use Rattle.std.specs.List.{ends_with}
use Rattle.std.specs.Prelude.{nat_eq}
use Rattle.std.proofs.lemmas.Bool.Decides.{Decides-eqb}
use Rattle.std.proofs.lemmas.Slice.Eq.{ends_is}
use Rattle.httparse.specs.Ascii.{line_feed, carriage_return}
use Rattle.httparse.specs.Grammar.{LineEnd, lf, crlf, print_end}
use Rattle.mt_http.specs.Framing.{EndsWithEmptyLine}
use Rattle.std.proofs.lemmas.List.{get_or-take, take_all}
use Rattle.std.proofs.Math.Seq.{take-suc}
use Rattle.mt_http.specs.Reading.{IsHeadFront, TakesByte, TakesPiece}
use Rattle.mt_http.specs.declared.head.Taken.{Taken}
use Rattle.mt_http.specs.declared.head.Taken.TheVariants as taken
use Rattle.mt_http.proofs.Heads.{front_push}

abbrev lf_lf : List ℕ
lf_lf = line_feed ∷ line_feed ∷ []

abbrev lf_crlf : List ℕ
lf_crlf = line_feed ∷ carriage_return ∷ line_feed ∷ []

pub ends_with_lf : (bytes : List ℕ) (r : Bool) → r ≡ ends_with nat_eq bytes lf_lf → r ≡ true → EndsWithEmptyLine bytes
ends_with_lf bytes r is true_r = (take (length bytes - 2) bytes, lf, (ends_is Decides-eqb bytes lf_lf r is).0 true_r)

pub ends_with_crlf : (bytes : List ℕ) (r : Bool) → r ≡ ends_with nat_eq bytes lf_crlf → r ≡ true → EndsWithEmptyLine bytes
ends_with_crlf bytes r is true_r = (take (length bytes - 3) bytes, crlf, (ends_is Decides-eqb bytes lf_crlf r is).0 true_r)

pub one_test : (bytes : List ℕ) (r s : Bool) → r ≡ ends_with nat_eq bytes lf_lf → s ≡ ends_with nat_eq bytes lf_crlf → EndsWithEmptyLine bytes → (r ≡ true) ⊎ (s ≡ true)
one_test bytes r s is_r is_s (front, lf, is) = inl ((ends_is Decides-eqb bytes lf_lf r is_r).1 front is)
one_test bytes r s is_r is_s (front, crlf, is) = inr ((ends_is Decides-eqb bytes lf_crlf s is_s).1 front is)

-- ---- a last byte that is no LF

last_of : List ℕ → ℕ
last_of [] = 0
last_of (x ∷ []) = x
last_of (x ∷ y ∷ xs) = last_of (y ∷ xs)

last-append : (xs : List ℕ) (b : ℕ) → last_of (xs ++ b ∷ []) ≡ b
unfolding last_of
last-append [] b = refl
last-append (x ∷ []) b = refl
last-append (x ∷ y ∷ xs) b = last-append (y ∷ xs) b

line_last : (xs : List ℕ) (line : LineEnd) → last_of (xs ++ line_feed ∷ print_end line) ≡ line_feed
line_last xs lf = ap last_of (sym (append_assoc xs (line_feed ∷ []) (line_feed ∷ []))) ∙ last-append (xs ++ line_feed ∷ []) line_feed
line_last xs crlf = ap last_of (sym (append_assoc xs (line_feed ∷ carriage_return ∷ []) (line_feed ∷ []))) ∙ last-append (xs ++ line_feed ∷ carriage_return ∷ []) line_feed

-- bytes that an empty line ends, or that are one, have an LF last
pub ends_by_feed : (xs : List ℕ) (b : ℕ) → EndsWithEmptyLine (xs ++ b ∷ []) → b ≡ line_feed
ends_by_feed xs b (front, line, is) = sym (last-append xs b) ∙ ap last_of is ∙ line_last front line

pub is_by_feed : (xs : List ℕ) (b : ℕ) (line : LineEnd) → xs ++ b ∷ [] ≡ print_end line → b ≡ line_feed
unfolding last_of
is_by_feed xs b lf is = sym (last-append xs b) ∙ ap last_of is
is_by_feed xs b crlf is = sym (last-append xs b) ∙ ap last_of is

-- bytes without an LF go on with a head
pub front_more : (old bytes : List ℕ) → IsHeadFront old → ((k : ℕ) → k < length bytes → get_or bytes k 0 ≢ line_feed) → IsHeadFront (old ++ bytes)
front_more old [] front none = subst IsHeadFront (sym (append-nil old)) front
front_more old (b ∷ bytes) front none =
    let first : b ≢ line_feed = none 0 (omega arith) in
    let goes_on = λ (w : EndsWithEmptyLine (old ++ b ∷ [])). first (ends_by_feed old b w) in
    let other = λ (w : (line : LineEnd) × (old ++ b ∷ [] ≡ print_end line)). first (is_by_feed old b w.0 w.1) in
    subst IsHeadFront (append_assoc old (b ∷ []) bytes) (front_more (old ++ b ∷ []) bytes (front_push old b front other goes_on) (λ k less. none (suc k) (omega (arith, less))))

-- all of a line but its last byte
pub front_most : (old piece : List ℕ) → IsHeadFront old → ((k : ℕ) → k + 1 < length piece → get_or piece k 0 ≢ line_feed) → IsHeadFront (old ++ take (length piece - 1) piece)
front_most old piece front line =
    let most = length piece - 1 in
    front_more old (take most piece) front (λ k less is.
    let inside : k < most = omega (arith, less, length-take most piece) in
    line k (omega (arith, inside)) (sym (get_or-take most piece k 0 inside) ∙ is))

-- and its last byte
pub last_of_piece : (piece : List ℕ) → 0 < length piece → piece ≡ take (length piece - 1) piece ++ get_or piece (length piece - 1) 0 ∷ []
last_of_piece piece some =
    let most = length piece - 1 in
    let whole : suc most ≡ length piece = omega arith in
    sym (take_all (length piece) piece (omega arith)) ∙ (ap (λ (n : ℕ). take n piece) (sym whole) ∙ take-suc piece most 0 (omega arith))

-- what a last byte does, the piece does
pub piece_taken : (old piece mid : List ℕ) (b : ℕ) (r : Taken) (new : List ℕ) → mid ++ b ∷ [] ≡ old ++ piece → TakesByte mid b r new → TakesPiece old piece r new
piece_taken old piece mid b taken.More new same (lines, is, front) = (lines, sym same ∙ is, front)
piece_taken old piece mid b taken.Whole new same (is, whole) = (is ∙ same, whole)
piece_taken old piece mid b taken.Memory new same done = tt
