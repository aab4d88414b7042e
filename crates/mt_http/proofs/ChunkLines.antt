-- The size that a chunk line tells is that of the parser's grammar
use Rattle.std.proofs.Common.{◌≡◌, ℕ, inl, inr, Bool, true, false, List, [], ◌∷◌, ◌++◌, ◌&&◌, length, Option, Some, None, refl, ap, sym, ◌∙◌, append_assoc, append-nil, rules}
use Rattle.std.specs.Prelude.{nat_eq, bytes_eq, nat_lt, nat_le}
use Rattle.std.specs.Char.{is_ascii_hexdigit}
use Rattle.std.specs.Str.Parse.{digits_value}
use Rattle.std.proofs.lemmas.Bool.{or_cases, and_parts, and_from, ltb-true, leb-true, lt-ltb, le-leb, eqb-true}
use Rattle.std.proofs.lemmas.Slice.Eq.{bytes_eq-Decides}
use Rattle.std.proofs.lemmas.List.Elements.{All-head, All-tail, All-cons}
use Rattle.httparse.specs.Ascii.{semicolon, crlf_bytes, carriage_return, line_feed}
use Rattle.httparse.specs.Grammar.{AllPass, is_ows, is_extension_byte, ChunkLine, IsExtension, print_extension, print_chunk_line, ReadsChunkLine, chunk_size}
use Rattle.mt_http.specs.Chunk.{keep_while, skip_while, ends_chunk_line, chunk_digits, is_chunk_line, chunk_line_size}

-- ---- the front that passes a test

none_pass : (test : ℕ → Bool) → AllPass test []
none_pass test = search rules

kept_pass : (test : ℕ → Bool) (xs : List ℕ) → AllPass test (keep_while test xs)
kept_pass test [] = none_pass test
kept_pass test (x ∷ xs) = by_test (test x) refl (kept_pass test xs)
  where
    by_test : (b : Bool) → test x ≡ b → AllPass test (keep_while test xs) → AllPass test (keep_while test (x ∷ xs))
    by_test true is more = rw is (All-cons (λ v. test v ≡ true) x (keep_while test xs) is more)
    by_test false is more = rw is (none_pass test)

kept_split : (test : ℕ → Bool) (xs : List ℕ) → xs ≡ keep_while test xs ++ skip_while test xs
kept_split test [] = refl
kept_split test (x ∷ xs) = by_test (test x) refl (kept_split test xs)
  where
    by_test : (b : Bool) → test x ≡ b → xs ≡ keep_while test xs ++ skip_while test xs → x ∷ xs ≡ keep_while test (x ∷ xs) ++ skip_while test (x ∷ xs)
    by_test true is more = rw is (ap (λ l. x ∷ l) more)
    by_test false is more = rw is

-- a byte that fails the test stands behind the front
kept_run : (test : ℕ → Bool) (w : List ℕ) (y : ℕ) (r : List ℕ) → AllPass test w → test y ≡ false → (keep_while test (w ++ y ∷ r) ≡ w) × (skip_while test (w ++ y ∷ r) ≡ y ∷ r)
kept_run test [] y r pass stops = (rw stops, rw stops)
kept_run test (x ∷ w) y r pass stops =
    let first : test x ≡ true = All-head (λ v. test v ≡ true) x w pass in
    let more = kept_run test w y r (All-tail (λ v. test v ≡ true) x w pass) stops in
    (rw first (ap (λ l. x ∷ l) more.0), rw first more.1)

-- ---- the end of a line

is_crlf : (bytes : List ℕ) → bytes_eq bytes crlf_bytes ≡ true → bytes ≡ crlf_bytes
is_crlf bytes is = (bytes_eq-Decides bytes crlf_bytes).0 is

ends_by : (rest : List ℕ) → ends_chunk_line rest ≡ true → (e : Option (List ℕ)) × IsExtension e × (rest ≡ print_extension e ++ crlf_bytes)
ends_by [] is = cc
ends_by (b ∷ bytes) is = by_test (nat_eq b semicolon) refl
  where
    by_test : (t : Bool) → nat_eq b semicolon ≡ t → (e : Option (List ℕ)) × IsExtension e × (b ∷ bytes ≡ print_extension e ++ crlf_bytes)
    by_test true first =
        let ends : bytes_eq (skip_while is_extension_byte bytes) crlf_bytes ≡ true = rw first at is in
        let tail = kept_split is_extension_byte bytes ∙ ap (λ l. keep_while is_extension_byte bytes ++ l) (is_crlf (skip_while is_extension_byte bytes) ends) in
        let head = eqb-true b semicolon first in
        (Some (keep_while is_extension_byte bytes), kept_pass is_extension_byte bytes, cc)
    by_test false first = let ends : bytes_eq (b ∷ bytes) crlf_bytes ≡ true = rw first at is in (None, tt, is_crlf (b ∷ bytes) ends)

-- ---- the whole line

-- a line that the test takes is one of the grammar
line_by : (line : List ℕ) → is_chunk_line line ≡ true → (l : ChunkLine) × ReadsChunkLine line l [] × (l.digits ≡ chunk_digits line)
unfolding print_chunk_line
line_by line is =
    let digits = keep_while is_ascii_hexdigit line in
    let behind = skip_while is_ascii_hexdigit line in
    let pad = keep_while is_ows behind in
    let ending = skip_while is_ows behind in
    let parts : ((nat_lt 0 (length digits) && nat_le (length digits) 16) ≡ true) × (ends_chunk_line ending ≡ true) = and_parts (nat_lt 0 (length digits) && nat_le (length digits) 16) (ends_chunk_line ending) is in
    let sizes : (nat_lt 0 (length digits) ≡ true) × (nat_le (length digits) 16 ≡ true) = and_parts (nat_lt 0 (length digits)) (nat_le (length digits) 16) parts.0 in
    let last = ends_by ending parts.1 in
    let l : ChunkLine = record { digits = digits; pad = pad; extension = last.0 } in
    let whole : line ≡ digits ++ (pad ++ (print_extension last.0 ++ crlf_bytes)) = kept_split is_ascii_hexdigit line ∙ ap (λ t. digits ++ t) (kept_split is_ows behind ∙ ap (λ t. pad ++ t) last.2) in (
      l,
      (
        record {
          digits = (ltb-true 0 (length digits) sizes.0, leb-true (length digits) 16 sizes.1, kept_pass is_ascii_hexdigit line);
          pad = kept_pass is_ows behind;
          extension = last.1;
        },
        whole ∙ sym (simp (append_assoc, append-nil)),
      ),
      refl,
    )

ows_no_digit : (x : ℕ) → is_ows x ≡ true → is_ascii_hexdigit x ≡ false
ows_no_digit x is = elim (or_cases (nat_eq x 32) (nat_eq x 9) is) [
  | inl space ↦ (let e = eqb-true x 32 space in rw e)
  | inr tab ↦ (let e = eqb-true x 9 tab in rw e)
]

-- what ends a line takes no digit or blank at its front
ends_with : (e : Option (List ℕ)) → IsExtension e → (y : ℕ) × (r : List ℕ) × (print_extension e ++ crlf_bytes ≡ y ∷ r) × (is_ascii_hexdigit y ≡ false) × (is_ows y ≡ false) × (ends_chunk_line (y ∷ r) ≡ true)
ends_with None is = (carriage_return, line_feed ∷ [], refl, refl, refl, refl)
ends_with (Some t) is =
    let w = kept_run is_extension_byte t carriage_return (line_feed ∷ []) is refl in
    (semicolon, t ++ crlf_bytes, refl, refl, refl, rw w.1)

-- a line of the grammar is one that the test takes, with its digits
taken_by : (l : ChunkLine) (line : List ℕ) → ReadsChunkLine line l [] → (is_chunk_line line ≡ true) × (chunk_digits line ≡ l.digits)
unfolding print_chunk_line
taken_by l line (valid, is) =
    let last = ends_with l.extension valid.extension in
    let whole : line ≡ l.digits ++ (l.pad ++ last.0 ∷ last.1) = is ∙ simp (append_assoc, append-nil) (ap (λ t. l.digits ++ (l.pad ++ t)) last.2) in
    let at_digits = digits_run l.digits l.pad last.0 last.1 valid.digits.2 valid.pad last.3 in
    let at_pad = kept_run is_ows l.pad last.0 last.1 valid.pad last.4 in
    let digits : chunk_digits line ≡ l.digits = ap chunk_digits whole ∙ at_digits.0 in
    let behind : skip_while is_ascii_hexdigit line ≡ l.pad ++ last.0 ∷ last.1 = ap (skip_while is_ascii_hexdigit) whole ∙ at_digits.1 in
    let ending : skip_while is_ows (skip_while is_ascii_hexdigit line) ≡ last.0 ∷ last.1 = ap (skip_while is_ows) behind ∙ at_pad.1 in
    let some = lt-ltb 0 (length l.digits) valid.digits.0 in
    let few = le-leb (length l.digits) 16 valid.digits.1 in
    (rw (digits, ending) (and_from _ _ (and_from _ _ some few) last.5), digits)
  where
    digits_run : (w pad : List ℕ) (y : ℕ) (r : List ℕ) → AllPass is_ascii_hexdigit w → AllPass is_ows pad → is_ascii_hexdigit y ≡ false
        → (keep_while is_ascii_hexdigit (w ++ (pad ++ y ∷ r)) ≡ w) × (skip_while is_ascii_hexdigit (w ++ (pad ++ y ∷ r)) ≡ pad ++ y ∷ r)
    digits_run w [] y r pass blank stops = kept_run is_ascii_hexdigit w y r pass stops
    digits_run w (p ∷ pad) y r pass blank stops = kept_run is_ascii_hexdigit w p (pad ++ y ∷ r) pass (ows_no_digit p (All-head (λ v. is_ows v ≡ true) p pad blank))

-- the size of a line of the grammar
pub size_of_line : (l : ChunkLine) (line : List ℕ) → ReadsChunkLine line l [] → chunk_line_size line ≡ Some (chunk_size l)
unfolding chunk_line_size
size_of_line l line reads = let w = taken_by l line reads in rw (w.0, w.1)

-- a line that is none of the grammar has no size
pub no_size : (line : List ℕ) → ((l : ChunkLine) → ¬ (ReadsChunkLine line l [])) → chunk_line_size line ≡ None
unfolding chunk_line_size
no_size line none = by_test (is_chunk_line line) refl
  where
    by_test : (t : Bool) → is_chunk_line line ≡ t → chunk_line_size line ≡ None
    by_test true is = let w = line_by line is in absurd (none w.0 w.1)
    by_test false is = rw is

-- a line with a size is one of the grammar
pub line_of_size : (line : List ℕ) (n : ℕ) → chunk_line_size line ≡ Some n → (l : ChunkLine) × ReadsChunkLine line l [] × (chunk_size l ≡ n)
unfolding chunk_line_size
line_of_size line n is = by_test (is_chunk_line line) refl
  where
    by_test : (t : Bool) → is_chunk_line line ≡ t → (l : ChunkLine) × ReadsChunkLine line l [] × (chunk_size l ≡ n)
    by_test true tested =
        let w = line_by line tested in
        let some : ◌≡◌ {A = Option ℕ} (Some (digits_value 16 (chunk_digits line))) (Some n) = rw tested at is in
        (w.0, w.1, ap (digits_value 16) w.2 ∙ cc)
    by_test false tested = let none : ◌≡◌ {A = Option ℕ} None (Some n) = rw tested at is in cc
