-- Stretches of pieces: what they say of a log, and how they go on with it.
use Rattle.std.proofs.Common.{◌≡◌, ◌⊎◌, inl, inr, ⊎_elim, ◌<◌, ◌≤◌, ℕ, zero, suc, ◌+◌, ◌-◌, ◌*◌, ◌/◌, ◌%◌, min, ◌==◌, ◌&&◌, ◌||◌, Bool, true, false, nat_lt, nat_le, if◌then◌else◌, List, [], ◌∷◌, ◌++◌, length, get_or, refl, sym, ◌∙◌, ap, arith, subst, append-nil}
use Rattle.std.specs.List.{AllWithin}
use Rattle.std.specs.List.Sorted.{IsNonDecreasingBy, IsPartitionPoint}
use Rattle.std.proofs.lemmas.Bool.{and_from, and_left, and_right, cases_eq, cases_lt, eq-eqb, eqb-true, le-leb, le-ltb, leb-false, leb-true, lt-leb, lt-ltb, ne_eqb}
use Rattle.std.proofs.lemmas.Bool.Decides.{nat_tests}
use Rattle.mt_codec.specs.Pieces.{is_piece}
use Rattle.mt_log.specs.LogState.{next_place}
use Rattle.mt_log.specs.Places.{end_from, end_of, from_at, from_place}
use Rattle.mt_log.proofs.Places.{end_from-append, end_from-rises, from_place-end}
use Rattle.mt_body.specs.Stored.{begin_with, is_stored, piece_bytes}
use Rattle.mt_body.proofs.Cuts.{begin_none, if_not}
use Rattle.mt_types.specs.declared.body.Body.{Body}
use Rattle.mt_opening.specs.Places.{AreApart, ArePlaces, IsBefore, bytes_ahead, bytes_from, bytes_in, first_place}
use Rattle.mt_opening.specs.declared.places.Stretch.{Stretch}

-- the bytes of a piece
abbrev pub size_of_piece : List ℕ → ℕ
size_of_piece p = length (piece_bytes p)

-- a piece has some, and not too many
pub record HasSize (p : List ℕ) : Type 0 where
  pub some : 0 < size_of_piece p
  pub most : size_of_piece p ≤ 65536
  pub whole : length p ≡ size_of_piece p + 1

pub piece_size : (p : List ℕ) → is_piece p ≡ true → HasSize p
piece_size [] is = absurd (cc is)
piece_size (mark ∷ bytes) is = record { some = grind (arith, nat_tests, is); most = grind (arith, nat_tests, is); whole = omega arith }

-- ---- a body stands where as many bytes stand

abbrev pub fits : ℕ → ℕ → Bool
fits len ahead = nat_le len ahead && ((len == ahead) || (len % 65536 == 0))

same_tests : (a b : Bool) → (a ≡ true → b ≡ true) → (b ≡ true → a ≡ true) → a ≡ b
same_tests true b there back = sym (there refl)
same_tests false true there back = back refl
same_tests false false there back = refl

one_of : (a b : Bool) → (a ≡ true) ⊎ (b ≡ true) → (a || b) ≡ true
one_of true b is = refl
one_of false b (inl is) = absurd (cc is)
one_of false b (inr is) = is

neither : (a b : Bool) → a ≡ false → b ≡ false → (a || b) ≡ false
neither true b x y = x
neither false b x y = y

fits_less : (len ahead : ℕ) → 65536 < len → fits (len - 65536) ahead ≡ fits len (65536 + ahead)
fits_less len ahead more =
    let a : nat_le (len - 65536) ahead ≡ nat_le len (65536 + ahead) = same_tests (nat_le (len - 65536) ahead) (nat_le len (65536 + ahead)) (λ t. le-leb len (65536 + ahead) (omega (arith, leb-true (len - 65536) ahead t))) (λ t. le-leb (len - 65536) ahead (omega (arith, leb-true len (65536 + ahead) t))) in
    let b : ((len - 65536) == ahead) ≡ (len == 65536 + ahead) = same_tests ((len - 65536) == ahead) (len == 65536 + ahead) (λ t. eq-eqb len (65536 + ahead) (omega (arith, more, eqb-true (len - 65536) ahead t))) (λ t. eq-eqb (len - 65536) ahead (omega (arith, eqb-true len (65536 + ahead) t))) in
    let m : (len - 65536) % 65536 ≡ len % 65536 = omega (arith, more) in
    λ i. a i && (b i || (m i == 0))

fits_true : (len ahead : ℕ) → len ≤ ahead → (len ≡ ahead) ⊎ (len % 65536 ≡ 0) → fits len ahead ≡ true
fits_true len ahead le (inl same) = and_from (nat_le len ahead) ((len == ahead) || (len % 65536 == 0)) (le-leb len ahead le) (one_of (len == ahead) (len % 65536 == 0) (inl (eq-eqb len ahead same)))
fits_true len ahead le (inr whole) = and_from (nat_le len ahead) ((len == ahead) || (len % 65536 == 0)) (le-leb len ahead le) (one_of (len == ahead) (len % 65536 == 0) (inr (eq-eqb (len % 65536) 0 whole)))

fits_false : (len ahead : ℕ) → (len ≡ ahead → ⊥) → (ahead < len) ⊎ (len % 65536 ≡ 0 → ⊥) → fits len ahead ≡ false
fits_false len ahead other (inl less) = and_left (nat_le len ahead) ((len == ahead) || (len % 65536 == 0)) (lt-leb len ahead less)
fits_false len ahead other (inr part) = and_right (nat_le len ahead) ((len == ahead) || (len % 65536 == 0)) (neither (len == ahead) (len % 65536 == 0) (ne_eqb len ahead other) (ne_eqb (len % 65536) 0 part))

full_front : (len size ahead : ℕ) (rest : Bool) → 0 < len → size ≡ 65536 → (65536 < len → rest ≡ fits (len - 65536) ahead) → (len ≤ 65536 → rest ≡ true) → ((size == min len 65536) && rest) ≡ fits len (65536 + ahead)
full_front len size ahead rest some full more last = ⊎_elim by_more by_most (cases_lt 65536 len)
  where
    by_more : 65536 < len → ((size == min len 65536) && rest) ≡ fits len (65536 + ahead)
    by_more less =
        let t : (size == min len 65536) ≡ true = eq-eqb size (min len 65536) (omega (arith, less, full)) in
        ap (λ b. b && rest) t ∙ more less ∙ fits_less len ahead less

    by_most : len ≤ 65536 → ((size == min len 65536) && rest) ≡ fits len (65536 + ahead)
    by_most le = ⊎_elim
        (λ (e : len ≡ 65536).
        let t : (size == min len 65536) ≡ true = eq-eqb size (min len 65536) (omega (arith, e, full)) in
        (λ i. t i && last le i) ∙ sym (fits_true len (65536 + ahead) (omega (arith, e)) (inr (omega (arith, e)))))
        (λ (ne : len ≡ 65536 → ⊥).
        let t : (size == min len 65536) ≡ false = ne_eqb size (min len 65536) (λ e. ne (omega (arith, e, le, full))) in
        ap (λ b. b && rest) t ∙ sym (fits_false len (65536 + ahead) (λ e. ne (omega (arith, e, le))) (inr (λ e. ne (omega (arith, e, le, some))))))
        (cases_eq len 65536)

short_front : (len size : ℕ) (rest : Bool) → 0 < len → 0 < size → size < 65536 → (len ≤ 65536 → rest ≡ true) → ((size == min len 65536) && rest) ≡ fits len size
short_front len size rest some has short last = ⊎_elim
    (λ (e : len ≡ size).
    let t : (size == min len 65536) ≡ true = eq-eqb size (min len 65536) (omega (arith, e, short)) in
    (λ i. t i && last (omega (arith, e, short)) i) ∙ sym (fits_true len size (omega (arith, e)) (inl e)))
    (λ (ne : len ≡ size → ⊥).
    let t : (size == min len 65536) ≡ false = ne_eqb size (min len 65536) (λ e. ne (omega (arith, e, short))) in
    ap (λ b. b && rest) t ∙ sym (fits_false len size ne (⊎_elim (λ less. inl less) (λ le. inr (λ whole. ne (omega (arith, le, whole, short, some)))) (cases_lt size len))))
    (cases_eq len size)

fits_front : (len size ahead : ℕ) (piece rest : Bool) → 0 < len → (65536 < len → rest ≡ fits (len - 65536) ahead) → (len ≤ 65536 → rest ≡ true) → (piece ≡ true → (0 < size) × (size ≤ 65536))
    → ((piece && (size == min len 65536)) && rest) ≡ fits len (if piece then (if size == 65536 then 65536 + ahead else size) else 0)
fits_front len size ahead false rest some more last is = sym (fits_false len 0 (λ e. omega (arith, e, some)) (inl some))
fits_front len size ahead true rest some more last is = ⊎_elim
    (λ (full : size ≡ 65536).
    let t : (size == 65536) ≡ true = eq-eqb size 65536 full in
    full_front len size ahead rest some full more last ∙ sym (ap (λ b. fits len (if b then 65536 + ahead else size)) t))
    (λ (other : size ≡ 65536 → ⊥).
    let t : (size == 65536) ≡ false = ne_eqb size 65536 other in
    let has = is refl in
    let less : size < 65536 = ⊎_elim (λ (l : size < 65536). l) (λ (le : 65536 ≤ size). absurd (other (omega (arith, le, has.1)))) (cases_lt size 65536) in
    short_front len size rest some has.0 less last ∙ sym (ap (λ b. fits len (if b then 65536 + ahead else size)) t))
    (cases_eq size 65536)

begin_fits : (len : ℕ) (ps : List (List ℕ)) → 0 < len → begin_with len ps ≡ fits len (bytes_ahead ps)
begin_fits len [] some =
    let t : (len == 0) ≡ false = ne_eqb len 0 (λ e. omega (arith, e, some)) in
    t ∙ sym (fits_false len 0 (λ e. omega (arith, e, some)) (inl some))
begin_fits len (p ∷ ps) some =
    if_not len 0 true ((is_piece p && (length (piece_bytes p) == min len 65536)) && begin_with (len - 65536) ps) (λ e. omega (arith, e, some))
    ∙ fits_front len (size_of_piece p) (bytes_ahead ps) (is_piece p) (begin_with (len - 65536) ps) some
    (λ more. begin_fits (len - 65536) ps (omega (arith, more)))
    (λ le. let none : len - 65536 ≡ 0 = omega (arith, le) in ap (λ n. begin_with n ps) none ∙ begin_none ps)
    (λ is. let s = piece_size p is in (s.some, s.most))

pub stored_none : (ps : List (List ℕ)) (b : Body) → b.len ≡ 0 → (b.first == 0) ≡ is_stored ps b
unfolding is_stored
stored_none ps b none = sym (ap (λ n. if n == 0 then b.first == 0 else begin_with n (from_place b.first ps)) none)

pub stored_some : (ps : List (List ℕ)) (b : Body) → (b.len ≡ 0 → ⊥) → fits b.len (bytes_ahead (from_place b.first ps)) ≡ is_stored ps b
unfolding is_stored
stored_some ps b some =
    sym (if_not b.len 0 (b.first == 0) (begin_with b.len (from_place b.first ps)) some ∙ begin_fits b.len (from_place b.first ps) (⊎_elim (λ (l : 0 < b.len). l) (λ (le : b.len ≤ 0). absurd (some (omega (arith, le)))) (cases_lt 0 b.len)))

-- ---- the bytes of a stretch from a place on

-- a piece of the stretch stands at the place, or would, were it longer
pub record IsAt (place : ℕ) (s : Stretch) : Type 0 where
  pub k : ℕ
  pub place_is : place ≡ s.first + 65558 * k
  pub bytes : bytes_from place s ≡ s.len - 65536 * k

pub record IsOff (place : ℕ) (s : Stretch) : Type 0 where
  pub none : bytes_from place s ≡ 0
  pub nowhere : (k : ℕ) → place ≡ s.first + 65558 * k → ⊥

abbrev from_test : ℕ → Stretch → Bool → ℕ
from_test place s b = if b then s.len - 65536 * ((place - s.first) / 65558) else 0

from_is : (place : ℕ) (s : Stretch) → IsAt place s ⊎ IsOff place s
from_is place s = ⊎_elim (λ (less : place < s.first). inr (below less)) (λ (le : s.first ≤ place). ⊎_elim (λ (e : (place - s.first) % 65558 ≡ 0). inl (at le e)) (λ (ne : (place - s.first) % 65558 ≡ 0 → ⊥). inr (between le ne)) (cases_eq ((place - s.first) % 65558) 0)) (cases_lt place s.first)
  where
    below : place < s.first → IsOff place s
    below less = record {
      none = ap (from_test place s) (and_left (nat_le s.first place) ((place - s.first) % 65558 == 0) (lt-leb s.first place less));
      nowhere = λ k e. omega (arith, e, less);
    }

    at : s.first ≤ place → (place - s.first) % 65558 ≡ 0 → IsAt place s
    at le e = record {
      k = (place - s.first) / 65558;
      place_is = omega (arith, le, e);
      bytes = ap (from_test place s) (and_from (nat_le s.first place) ((place - s.first) % 65558 == 0) (le-leb s.first place le) (eq-eqb ((place - s.first) % 65558) 0 e));
    }

    between : s.first ≤ place → ((place - s.first) % 65558 ≡ 0 → ⊥) → IsOff place s
    between le ne = record {
      none = ap (from_test place s) (and_right (nat_le s.first place) ((place - s.first) % 65558 == 0) (ne_eqb ((place - s.first) % 65558) 0 ne));
      nowhere = λ k e. ne (omega (arith, e, le));
    }

from_at_k : (place k : ℕ) (s : Stretch) → place ≡ s.first + 65558 * k → bytes_from place s ≡ s.len - 65536 * k
from_at_k place k s is = ⊎_elim (λ (a : IsAt place s). let same : a.k ≡ k = omega (arith, is, a.place_is) in a.bytes ∙ ap (λ n. s.len - 65536 * n) same) (λ (o : IsOff place s). absurd (o.nowhere k is)) (from_is place s)

from_before : (place : ℕ) (s : Stretch) (next : ℕ) → IsBefore s next → 0 < bytes_from place s → (place < next) × (place + 65558 * (bytes_from place s / 65536) ≤ next)
from_before place s next before some = ⊎_elim
    (λ (a : IsAt place s). (omega (arith, a.place_is, a.bytes, some, before.ends), omega (arith, a.place_is, a.bytes, some, before.ends)))
    (λ (o : IsOff place s). absurd (omega (arith, o.none, some))) (from_is place s)

from_below : (place : ℕ) (s : Stretch) → place < s.first → bytes_from place s ≡ 0
from_below place s less = ⊎_elim (λ (a : IsAt place s). absurd (omega (arith, a.place_is, less))) (λ (o : IsOff place s). o.none) (from_is place s)

-- ---- the first that has some

abbrev pick : ℕ → ℕ → ℕ
pick a b = if nat_lt 0 a then a else b

pick_some : (a b : ℕ) → 0 < a → pick a b ≡ a
pick_some a b some = let t : nat_lt 0 a ≡ true = lt-ltb 0 a some in ap (λ c. if c then a else b) t

pick_none : (a b : ℕ) → a ≡ 0 → pick a b ≡ b
pick_none a b none = let t : nat_lt 0 a ≡ false = le-ltb 0 a (omega (arith, none)) in ap (λ c. if c then a else b) t

pick_last : (a b : ℕ) → b ≡ 0 → pick a b ≡ a
pick_last a b none = ⊎_elim (λ (some : 0 < a). pick_some a b some) (λ (le : a ≤ 0). pick_none a b (omega (arith, le)) ∙ omega (arith, le, none)) (cases_lt 0 a)

pick_twice : (a b c : ℕ) → pick (pick a b) c ≡ pick a (pick b c)
pick_twice a b c = ⊎_elim
    (λ (some : 0 < a). ap (λ n. pick n c) (pick_some a b some) ∙ pick_some a c some ∙ sym (pick_some a (pick b c) some))
    (λ (le : a ≤ 0). let none : a ≡ 0 = omega (arith, le) in ap (λ n. pick n c) (pick_none a b none) ∙ sym (pick_none a (pick b c) none)) (cases_lt 0 a)

in_push : (place : ℕ) (ss : List Stretch) (l : Stretch) → bytes_in place (ss ++ l ∷ []) ≡ pick (bytes_from place l) (bytes_in place ss)
in_push place [] l = sym (pick_last (bytes_from place l) 0 refl)
in_push place (s ∷ ss) l = ap (λ n. pick n (bytes_from place s)) (in_push place ss l) ∙ pick_twice (bytes_from place l) (bytes_in place ss) (bytes_from place s)

-- ---- stretches apart

least : (ss : List Stretch) (last : ℕ) → AreApart ss last → first_place ss last ≤ last
least [] last apart = omega arith
least (s ∷ ss) last apart = omega (arith, apart.0.begins, least ss last apart.1)

abbrev EndsBefore : ℕ → ℕ → ℕ → Type 0
EndsBefore place bytes first = (place < first) × (place + 65558 * (bytes / 65536) ≤ first)

earlier_before : (place : ℕ) (ss : List Stretch) (last : ℕ) → AreApart ss last → 0 < bytes_in place ss → EndsBefore place (bytes_in place ss) last
earlier_before place [] last apart some = absurd (omega (arith, some))
earlier_before place (s ∷ ss) last apart some = ⊎_elim
    (λ (more : 0 < bytes_in place ss).
    subst (λ n. EndsBefore place n last) (sym (pick_some (bytes_in place ss) (bytes_from place s) more)) (earlier_before place ss last apart.1 more))
    (λ (le : bytes_in place ss ≤ 0).
    let is = pick_none (bytes_in place ss) (bytes_from place s) (omega (arith, le)) in
    let b = from_before place s (first_place ss last) apart.0 (subst (λ n. 0 < n) is some) in
    let l = least ss last apart.1 in
    subst (λ n. EndsBefore place n last) (sym is) (omega (arith, b.0, l), omega (arith, b.1, l)))
    (cases_lt 0 (bytes_in place ss))

none_earlier : (place : ℕ) (ss : List Stretch) (last : ℕ) → AreApart ss last → last ≤ place → bytes_in place ss ≡ 0
none_earlier place ss last apart le =
    ⊎_elim (λ (some : 0 < bytes_in place ss). absurd (omega (arith, (earlier_before place ss last apart some).0, le))) (λ (none : bytes_in place ss ≤ 0). omega (arith, none)) (cases_lt 0 (bytes_in place ss))

apart_push : (ss : List Stretch) (l : Stretch) (last : ℕ) → AreApart ss l.first → IsBefore l last → AreApart (ss ++ l ∷ []) last
apart_push [] l last apart before = (before, tt)
apart_push (s ∷ []) l last apart before = (apart.0, (before, tt))
apart_push (s ∷ t ∷ ss) l last apart before = (apart.0, apart_push (t ∷ ss) l last apart.1 before)

-- ---- the search for one

none_found : (place : ℕ) (ss : List Stretch) → AllWithin (λ s. place < s.first) ss 0 (length ss) → bytes_in place ss ≡ 0
none_found place [] within = refl
none_found place (s ∷ ss) within =
    pick_none (bytes_in place ss) (bytes_from place s) (none_found place ss (λ k d low high. within (suc k) d (omega arith) (omega (arith, high)))) ∙ from_below place s (within 0 s (omega arith) (omega arith))

first_at : (ss : List Stretch) (last : ℕ) (d : Stretch) → 0 < length ss → (get_or ss 0 d).first ≡ first_place ss last
first_at [] last d some = absurd (omega (arith, some))
first_at (s ∷ ss) last d some = refl

pub some_found : (place : ℕ) (ss : List Stretch) (last : ℕ) (d : Stretch) (i : ℕ) → AreApart ss last → i < length ss → AllWithin (λ s. s.first ≤ place) ss 0 (i + 1) → AllWithin (λ s. place < s.first) ss (i + 1) (length ss)
    → bytes_in place ss ≡ bytes_from place (get_or ss i d)
some_found place [] last d i apart less low high = absurd (omega (arith, less))
some_found place (s ∷ ss) last d zero apart less low high =
    pick_none (bytes_in place ss) (bytes_from place s) (none_found place ss (λ k e le lt. high (suc k) e (omega arith) (omega (arith, lt))))
some_found place (s ∷ ss) last d (suc i) apart less low high =
    let is = some_found place ss last d i apart.1 (omega (arith, less)) (λ k e le lt. low (suc k) e (omega arith) (omega (arith, lt))) (λ k e le lt. high (suc k) e (omega (arith, le)) (omega (arith, lt))) in
    let next : first_place ss last ≤ place = omega (arith, first_at ss last d (omega (arith, less)), low 1 d (omega arith) (omega arith)) in
    let none : bytes_from place s ≡ 0 = ⊎_elim (λ (some : 0 < bytes_from place s). absurd (omega (arith, (from_before place s (first_place ss last) apart.0 some).0, next))) (λ (le : bytes_from place s ≤ 0). omega (arith, le)) (cases_lt 0 (bytes_from place s)) in
    pick_last (bytes_in place ss) (bytes_from place s) none ∙ is

head_least : (s : Stretch) (ss : List Stretch) (last : ℕ) → AreApart (s ∷ ss) last → (j : ℕ) (d : Stretch) → j < length (s ∷ ss) → s.first ≤ (get_or (s ∷ ss) j d).first
head_least s ss last apart zero d less = omega arith
head_least s [] last apart (suc j) d less = absurd (omega (arith, less))
head_least s (t ∷ ss) last apart (suc j) d less = omega (arith, apart.0.begins, head_least t ss last apart.1 j d (omega (arith, less)))

pub in_order : (ss : List Stretch) (last : ℕ) → AreApart ss last → IsNonDecreasingBy (λ (s : Stretch). s.first) ss
in_order [] last apart i j d le less = absurd (omega (arith, less))
in_order (s ∷ ss) last apart zero j d le less = head_least s ss last apart j d less
in_order (s ∷ ss) last apart (suc i) zero d le less = absurd (omega (arith, le))
in_order (s ∷ ss) last apart (suc i) (suc j) d le less = in_order ss last apart.1 i j d (omega (arith, le)) (omega (arith, less))

-- the stretch that a search by the first place finds
module _ (place count : ℕ) (ss xs : List Stretch) (last : ℕ) (apart : AreApart ss last) (same : xs ≡ ss) (bound : count ≤ length xs) (point : IsPartitionPoint (λ (s : Stretch). nat_le s.first place ≡ true) (λ (s : Stretch). nat_le s.first place ≡ false) xs count) where
  high : AllWithin (λ (s : Stretch). place < s.first) ss count (length ss)
  high k d le less = leb-false (get_or ss k d).first place (subst (λ (l : List Stretch). nat_le (get_or l k d).first place ≡ false) same (point.1 k d le (omega (arith, less, ap (λ (l : List Stretch). length l) same))))

  pub search_none : count ≡ 0 → bytes_in place ss ≡ 0
  search_none is = none_found place ss (λ k d le less. high k d (omega (arith, is)) less)

  pub search_some : (d : Stretch) → (count ≡ 0 → ⊥) → bytes_in place ss ≡ bytes_from place (get_or xs (count - 1) d)
  search_some d some =
      let size = ap (λ (l : List Stretch). length l) same in
      let next : count - 1 + 1 ≡ count = omega (arith, some) in
      some_found place ss last d (count - 1) apart (omega (arith, some, bound, size))
      (λ k e le less. leb-true (get_or ss k e).first place (subst (λ (l : List Stretch). nat_le (get_or l k e).first place ≡ true) same (point.0 k e le (omega (arith, less, next)))))
      (λ k e le less. high k e (omega (arith, le, next)) less)
      ∙ ap (λ (l : List Stretch). bytes_from place (get_or l (count - 1) d)) (sym same)

-- ---- one payload more

-- how the bytes from a place on go on with a piece: those that end in full pieces at the log's end, by its own
abbrev Pushed : ℕ → ℕ → ℕ → ℕ → ℕ → Type 0
Pushed place end ahead ahead' size =
    ((ahead % 65536 ≡ 0) × (place + 65558 * (ahead / 65536) ≡ end) × (ahead' ≡ ahead + size)) ⊎ ((ahead % 65536 ≡ 0 → place + 65558 * (ahead / 65536) ≡ end → ⊥) × (ahead' ≡ ahead))

abbrev ahead_of : Bool → ℕ → ℕ → ℕ
ahead_of piece size rest = if piece then (if size == 65536 then 65536 + rest else size) else 0

ahead_full : (size rest : ℕ) → size ≡ 65536 → ahead_of true size rest ≡ 65536 + rest
ahead_full size rest full = let t : (size == 65536) ≡ true = eq-eqb size 65536 full in ap (λ b. if b then 65536 + rest else size) t

ahead_short : (size rest : ℕ) → (size ≡ 65536 → ⊥) → ahead_of true size rest ≡ size
ahead_short size rest other = let t : (size == 65536) ≡ false = ne_eqb size 65536 other in ap (λ b. if b then 65536 + rest else size) t

ahead_one : (p : List ℕ) → is_piece p ≡ true → bytes_ahead (p ∷ []) ≡ size_of_piece p
ahead_one p is =
    ap (λ b. ahead_of b (size_of_piece p) 0) is
    ∙ ⊎_elim (λ (full : size_of_piece p ≡ 65536). ahead_full (size_of_piece p) 0 full ∙ omega (arith, full)) (λ (other : size_of_piece p ≡ 65536 → ⊥). ahead_short (size_of_piece p) 0 other) (cases_eq (size_of_piece p) 65536)

pushed_at : (place end end' x x' y y' size : ℕ) → end ≡ end' → x ≡ y → x' ≡ y' → Pushed place end x x' size → Pushed place end' y y' size
pushed_at place end end' x x' y y' size e a b (inl p) = inl (omega (arith, a, p.0), omega (arith, e, a, p.1), omega (arith, a, b, p.2))
pushed_at place end end' x x' y y' size e a b (inr p) = inr ((λ whole ends. p.0 (omega (arith, a, whole)) (omega (arith, e, a, ends))), omega (arith, a, b, p.1))

pushed_full : (place next end a a' x x' size : ℕ) → next ≡ place + 65558 → x ≡ 65536 + a → x' ≡ 65536 + a' → Pushed next end a a' size → Pushed place end x x' size
pushed_full place next end a a' x x' size n e e' (inl p) = inl (omega (arith, e, p.0), omega (arith, n, e, p.1), omega (arith, e, e', p.2))
pushed_full place next end a a' x x' size n e e' (inr p) = inr ((λ whole ends. p.0 (omega (arith, e, whole)) (omega (arith, n, e, ends))), omega (arith, e, e', p.1))

ahead_push : (place : ℕ) (ps : List (List ℕ)) (p : List ℕ) → is_piece p ≡ true → Pushed place (end_from place ps) (bytes_ahead ps) (bytes_ahead (ps ++ p ∷ [])) (size_of_piece p)
ahead_push place [] p is = inl (omega arith, omega arith, ahead_one p is ∙ omega arith)
ahead_push place (q ∷ ps) p is = by (is_piece q) refl (ahead_push (next_place place (length q)) ps p is)
  where
    next : ℕ
    next = next_place place (length q)

    end : ℕ
    end = end_from (next_place place (length q)) ps

    rises : place + 21 ≤ end_from (next_place place (length q)) ps
    rises = omega (arith, end_from-rises (next_place place (length q)) ps)

    by : (b : Bool) → is_piece q ≡ b → Pushed (next_place place (length q)) (end_from (next_place place (length q)) ps) (bytes_ahead ps) (bytes_ahead (ps ++ p ∷ [])) (size_of_piece p)
        → Pushed place (end_from (next_place place (length q)) ps) (bytes_ahead (q ∷ ps)) (bytes_ahead (q ∷ (ps ++ p ∷ []))) (size_of_piece p)
    by true here on =
        let s = piece_size q here in
        ⊎_elim
        (λ (full : size_of_piece q ≡ 65536).
        pushed_full place (next_place place (length q)) (end_from (next_place place (length q)) ps) (bytes_ahead ps) (bytes_ahead (ps ++ p ∷ [])) (bytes_ahead (q ∷ ps)) (bytes_ahead (q ∷ (ps ++ p ∷ []))) (size_of_piece p)
        (omega (arith, s.whole, full))
        (ap (λ b. ahead_of b (size_of_piece q) (bytes_ahead ps)) here ∙ ahead_full (size_of_piece q) (bytes_ahead ps) full)
        (ap (λ b. ahead_of b (size_of_piece q) (bytes_ahead (ps ++ p ∷ []))) here ∙ ahead_full (size_of_piece q) (bytes_ahead (ps ++ p ∷ [])) full)
        on)
        (λ (other : size_of_piece q ≡ 65536 → ⊥).
        let x : bytes_ahead (q ∷ ps) ≡ size_of_piece q = ap (λ b. ahead_of b (size_of_piece q) (bytes_ahead ps)) here ∙ ahead_short (size_of_piece q) (bytes_ahead ps) other in
        let y : bytes_ahead (q ∷ (ps ++ p ∷ [])) ≡ size_of_piece q = ap (λ b. ahead_of b (size_of_piece q) (bytes_ahead (ps ++ p ∷ []))) here ∙ ahead_short (size_of_piece q) (bytes_ahead (ps ++ p ∷ [])) other in
        inr ((λ whole ends. other (omega (arith, x, whole, s.some, s.most))), y ∙ sym x))
        (cases_eq (size_of_piece q) 65536)
    by false here on =
        let x : bytes_ahead (q ∷ ps) ≡ 0 = ap (λ b. ahead_of b (size_of_piece q) (bytes_ahead ps)) here in
        let y : bytes_ahead (q ∷ (ps ++ p ∷ [])) ≡ 0 = ap (λ b. ahead_of b (size_of_piece q) (bytes_ahead (ps ++ p ∷ []))) here in
        inr ((λ whole ends. omega (arith, x, ends, rises)), y ∙ sym x)

from_push : (place at : ℕ) (ps : List (List ℕ)) (p : List ℕ) → is_piece p ≡ true → Pushed place (end_from at ps) (bytes_ahead (from_at place at ps)) (bytes_ahead (from_at place at (ps ++ p ∷ []))) (size_of_piece p)
from_push place at [] p is = ⊎_elim
    (λ (here : at ≡ place).
    let t : (at == place) ≡ true = eq-eqb at place here in
    inl (omega arith, omega (arith, here), ap (λ b. bytes_ahead (if b then p ∷ [] else [])) t ∙ ahead_one p is ∙ omega arith))
    (λ (other : at ≡ place → ⊥).
    let t : (at == place) ≡ false = ne_eqb at place other in
    inr ((λ whole ends. other (omega (arith, ends))), ap (λ b. bytes_ahead (if b then p ∷ [] else [])) t))
    (cases_eq at place)
from_push place at (q ∷ ps) p is = by (cases_eq at place) (from_push place (next_place at (length q)) ps p is)
  where
    by : (at ≡ place) ⊎ (at ≡ place → ⊥) → Pushed place (end_from (next_place at (length q)) ps) (bytes_ahead (from_at place (next_place at (length q)) ps)) (bytes_ahead (from_at place (next_place at (length q)) (ps ++ p ∷ []))) (size_of_piece p)
        → Pushed place (end_from (next_place at (length q)) ps) (bytes_ahead (from_at place at (q ∷ ps))) (bytes_ahead (from_at place at (q ∷ (ps ++ p ∷ [])))) (size_of_piece p)
    by (inl here) on =
        let t : (at == place) ≡ true = eq-eqb at place here in
        pushed_at place (end_from (next_place place (length q)) ps) (end_from (next_place at (length q)) ps) (bytes_ahead (q ∷ ps)) (bytes_ahead (q ∷ (ps ++ p ∷ []))) (bytes_ahead (from_at place at (q ∷ ps))) (bytes_ahead (from_at place at (q ∷ (ps ++ p ∷ [])))) (size_of_piece p)
        (ap (λ n. end_from (next_place n (length q)) ps) (sym here))
        (sym (ap (λ b. bytes_ahead (if b then q ∷ ps else from_at place (next_place at (length q)) ps)) t))
        (sym (ap (λ b. bytes_ahead (if b then q ∷ (ps ++ p ∷ []) else from_at place (next_place at (length q)) (ps ++ p ∷ []))) t))
        (ahead_push place (q ∷ ps) p is)
    by (inr other) on =
        let t : (at == place) ≡ false = ne_eqb at place other in
        pushed_at place (end_from (next_place at (length q)) ps) (end_from (next_place at (length q)) ps) (bytes_ahead (from_at place (next_place at (length q)) ps)) (bytes_ahead (from_at place (next_place at (length q)) (ps ++ p ∷ []))) (bytes_ahead (from_at place at (q ∷ ps))) (bytes_ahead (from_at place at (q ∷ (ps ++ p ∷ [])))) (size_of_piece p)
        refl
        (sym (ap (λ b. bytes_ahead (if b then q ∷ ps else from_at place (next_place at (length q)) ps)) t))
        (sym (ap (λ b. bytes_ahead (if b then q ∷ (ps ++ p ∷ []) else from_at place (next_place at (length q)) (ps ++ p ∷ []))) t))
        on

-- and with a payload that is no piece: not at all
ahead_other : (ps : List (List ℕ)) (p : List ℕ) → is_piece p ≡ false → bytes_ahead (ps ++ p ∷ []) ≡ bytes_ahead ps
ahead_other [] p is = ap (λ b. ahead_of b (size_of_piece p) 0) is
ahead_other (q ∷ ps) p is = ap (λ n. ahead_of (is_piece q) (size_of_piece q) n) (ahead_other ps p is)

from_other : (place at : ℕ) (ps : List (List ℕ)) (p : List ℕ) → is_piece p ≡ false → bytes_ahead (from_at place at (ps ++ p ∷ [])) ≡ bytes_ahead (from_at place at ps)
from_other place at [] p is = by (at == place)
  where
    by : (b : Bool) → bytes_ahead (if b then p ∷ [] else []) ≡ 0
    by true = ap (λ b. ahead_of b (size_of_piece p) 0) is
    by false = refl
from_other place at (q ∷ ps) p is = by (at == place) (from_other place (next_place at (length q)) ps p is)
  where
    by : (b : Bool) → bytes_ahead (from_at place (next_place at (length q)) (ps ++ p ∷ [])) ≡ bytes_ahead (from_at place (next_place at (length q)) ps)
        → bytes_ahead (if b then q ∷ (ps ++ p ∷ []) else from_at place (next_place at (length q)) (ps ++ p ∷ [])) ≡ bytes_ahead (if b then q ∷ ps else from_at place (next_place at (length q)) ps)
    by true on = ahead_other (q ∷ ps) p is
    by false on = on

-- ---- the stretches with it

-- a piece that goes on with the last stretch
grown_at : (place first len end size k ahead ahead' : ℕ) → place ≡ first + 65558 * k → ahead ≡ len - 65536 * k → len % 65536 ≡ 0 → first + 65558 * (len / 65536) ≡ end → size ≤ 65536
    → Pushed place end ahead ahead' size → ahead' ≡ (len + size) - 65536 * k
grown_at place first len end size k ahead ahead' at is whole ends most (inl p) = omega (arith, at, is, whole, ends, most, p.1, p.2)
grown_at place first len end size k ahead ahead' at is whole ends most (inr p) = ⊎_elim
    (λ (less : len < 65536 * k). omega (arith, less, is, whole, most, p.1))
    (λ (le : 65536 * k ≤ len). absurd (p.0 (omega (arith, is, whole, le)) (omega (arith, at, is, whole, ends, le))))
    (cases_lt len (65536 * k))

-- one that does not
apart_at : (place end size ahead ahead' : ℕ) → (ahead % 65536 ≡ 0 → place + 65558 * (ahead / 65536) ≡ end → ⊥) → Pushed place end ahead ahead' size → ahead' ≡ ahead
apart_at place end size ahead ahead' never (inl p) = absurd (never p.0 p.1)
apart_at place end size ahead ahead' never (inr p) = p.1

at_end : (end size ahead ahead' : ℕ) → ahead ≡ 0 → Pushed end end ahead ahead' size → ahead' ≡ size
at_end end size ahead ahead' none (inl p) = omega (arith, none, p.2)
at_end end size ahead ahead' none (inr p) = absurd (p.0 (omega (arith, none)) (omega (arith, none)))

none_at_end : (ps : List (List ℕ)) → bytes_ahead (from_place (end_of ps) ps) ≡ 0
none_at_end ps = ap (λ l. bytes_ahead (from_place (end_of ps) l)) (sym (append-nil ps)) ∙ ap bytes_ahead (from_place-end ps [])

pub end_push : (ps : List (List ℕ)) (p : List ℕ) → end_of (ps ++ p ∷ []) ≡ next_place (end_of ps) (length p)
unfolding end_of
end_push ps p = end_from-append 8 ps (p ∷ [])

pushed_place : (place : ℕ) (ps : List (List ℕ)) (p : List ℕ) → is_piece p ≡ true → Pushed place (end_of ps) (bytes_ahead (from_place place ps)) (bytes_ahead (from_place place (ps ++ p ∷ []))) (size_of_piece p)
unfolding end_of from_place
pushed_place place ps p is = from_push place 8 ps p is

other_place : (place : ℕ) (ps : List (List ℕ)) (p : List ℕ) → is_piece p ≡ false → bytes_ahead (from_place place (ps ++ p ∷ [])) ≡ bytes_ahead (from_place place ps)
unfolding from_place
other_place place ps p is = from_other place 8 ps p is

abbrev nothing : Stretch
nothing = record { first = 0; len = 0 }

pub no_places : ArePlaces [] [] nothing
unfolding from_place end_of
no_places = record { each = λ place. sym (pick_last (bytes_from place nothing) 0 refl ∙ none place); apart = tt; before = record { begins = omega arith; ends = omega arith } }
  where
    none : (place : ℕ) → bytes_from place (record { first = 0; len = 0 }) ≡ 0
    none place = ⊎_elim (λ (a : IsAt place (record { first = 0; len = 0 })). a.bytes ∙ omega arith) (λ (o : IsOff place (record { first = 0; len = 0 })). o.none) (from_is place (record { first = 0; len = 0 }))

module _ (ps : List (List ℕ)) (earlier : List Stretch) (last : Stretch) (a : ArePlaces ps earlier last) where
  -- what the last stretch has from its begin on, and what the others have before it
  from_last : (place : ℕ) → last.first ≤ place → bytes_ahead (from_place place ps) ≡ bytes_from place last
  from_last place le = a.each place ∙ pick_last (bytes_from place last) (bytes_in place earlier) (none_earlier place earlier last.first a.apart le)

  from_earlier : (place : ℕ) → bytes_from place last ≡ 0 → bytes_ahead (from_place place ps) ≡ bytes_in place earlier
  from_earlier place none = a.each place ∙ pick_none (bytes_from place last) (bytes_in place earlier) none

  -- no other stretch ends at the log's end
  not_at_end : (place : ℕ) → (place ≡ end_of ps → ⊥) → bytes_in place earlier % 65536 ≡ 0 → place + 65558 * (bytes_in place earlier / 65536) ≡ end_of ps → ⊥
  not_at_end place other whole ends = ⊎_elim
      (λ (some : 0 < bytes_in place earlier). omega (arith, (earlier_before place earlier last.first a.apart some).1, ends, a.before.begins))
      (λ (le : bytes_in place earlier ≤ 0). other (omega (arith, le, ends))) (cases_lt 0 (bytes_in place earlier))

  -- the bytes from a place on
  pub ahead_last : (place : ℕ) → last.first ≤ place → bytes_from place last ≡ bytes_ahead (from_place place ps)
  ahead_last place le = sym (from_last place le)

  pub ahead_earlier : (place : ℕ) → place < last.first → bytes_in place earlier ≡ bytes_ahead (from_place place ps)
  ahead_earlier place less = sym (from_earlier place (from_below place last less))

module _ (ps : List (List ℕ)) (p : List ℕ) (earlier : List Stretch) (last : Stretch) (a : ArePlaces ps earlier last) where
  -- no piece
  pub places_stay : is_piece p ≡ false → ArePlaces (ps ++ p ∷ []) earlier last
  places_stay is = record {
    each = λ place. other_place place ps p is ∙ a.each place;
    apart = a.apart;
    before = record { begins = omega (arith, a.before.begins, end_push ps p); ends = omega (arith, a.before.ends, end_push ps p) };
  }

  -- a piece
  module _ (size : ℕ) (is : is_piece p ≡ true) (len : length p ≡ size + 1) where
    size_is : size_of_piece p ≡ size
    size_is = omega (arith, (piece_size p is).whole, len)

    most : size ≤ 65536
    most = omega (arith, (piece_size p is).most, size_is)

    some : 0 < size
    some = omega (arith, (piece_size p is).some, size_is)

    abbrev was : ℕ → ℕ
    was place = bytes_ahead (from_place place ps)

    abbrev now : ℕ → ℕ
    now place = bytes_ahead (from_place place (ps ++ p ∷ []))

    pushed : (place : ℕ) → Pushed place (end_of ps) (was place) (now place) size
    pushed place = subst (λ n. Pushed place (end_of ps) (was place) (now place) n) size_is (pushed_place place ps p is)

    -- it goes on with the last stretch
    abbrev grown : Stretch
    grown = record { first = last.first; len = last.len + size }

    still_off : (place : ℕ) → IsOff place last → bytes_from place grown ≡ 0
    still_off place o = ⊎_elim (λ (at : IsAt place grown). absurd (o.nowhere at.k at.place_is)) (λ (x : IsOff place grown). x.none) (from_is place grown)

    module _ (whole : last.len % 65536 ≡ 0) (ends : last.first + 65558 * (last.len / 65536) ≡ end_of ps) where
      on_it : (place : ℕ) → IsAt place last → now place ≡ pick (bytes_from place grown) (bytes_in place earlier)
      on_it place at =
          let behind : last.first ≤ place = omega (arith, at.place_is) in
          grown_at place last.first last.len (end_of ps) size at.k (was place) (now place) at.place_is (from_last ps earlier last a place behind ∙ at.bytes) whole ends most (pushed place)
          ∙ sym (from_at_k place at.k grown at.place_is)
          ∙ sym (pick_last (bytes_from place grown) (bytes_in place earlier) (none_earlier place earlier last.first a.apart behind))

      off_it : (place : ℕ) → IsOff place last → now place ≡ pick (bytes_from place grown) (bytes_in place earlier)
      off_it place o =
          let same = from_earlier ps earlier last a place o.none in
          apart_at place (end_of ps) size (was place) (now place)
          (λ full end. not_at_end ps earlier last a place (λ e. o.nowhere (last.len / 65536) (e ∙ sym ends)) (omega (arith, same, full)) (omega (arith, same, end))) (pushed place)
          ∙ same ∙ sym (pick_none (bytes_from place grown) (bytes_in place earlier) (still_off place o))

      pub places_grow : ArePlaces (ps ++ p ∷ []) earlier (record { first = last.first; len = last.len + size })
      places_grow = record {
        each = λ place. ⊎_elim (λ (at : IsAt place last). on_it place at) (λ (o : IsOff place last). off_it place o) (from_is place last);
        apart = a.apart;
        before = record { begins = omega (arith, a.before.begins, end_push ps p); ends = omega (arith, whole, ends, end_push ps p, len, most, some) };
      }

    -- it begins another
    abbrev begun : Stretch
    begun = record { first = end_of ps; len = size }

    at_the_end : (place : ℕ) → place ≡ end_of ps → now place ≡ pick (bytes_from place begun) (was place)
    at_the_end place here =
        let value = from_at_k place 0 begun (omega (arith, here)) in
        let none : was place ≡ 0 = ap (λ n. bytes_ahead (from_place n ps)) here ∙ none_at_end ps in
        at_end place size (was place) (now place) none (subst (λ e. Pushed place e (was place) (now place) size) (sym here) (pushed place))
        ∙ sym (pick_some (bytes_from place begun) (was place) (omega (arith, value, some)) ∙ value ∙ omega arith)

    module _ (apart : last.len % 65536 ≡ 0 → last.first + 65558 * (last.len / 65536) ≡ end_of ps → ⊥) where
      in_last : (place : ℕ) → 0 < bytes_from place last → was place % 65536 ≡ 0 → place + 65558 * (was place / 65536) ≡ end_of ps → ⊥
      in_last place has whole ends = ⊎_elim
          (λ (at : IsAt place last).
          let same = from_last ps earlier last a place (omega (arith, at.place_is)) ∙ at.bytes in
          apart (omega (arith, same, whole, has, at.bytes)) (omega (arith, same, whole, ends, has, at.bytes, at.place_is)))
          (λ (o : IsOff place last). omega (arith, o.none, has)) (from_is place last)

      never : (place : ℕ) → (place ≡ end_of ps → ⊥) → was place % 65536 ≡ 0 → place + 65558 * (was place / 65536) ≡ end_of ps → ⊥
      never place other whole ends = ⊎_elim
          (λ (has : 0 < bytes_from place last). in_last place has whole ends)
          (λ (le : bytes_from place last ≤ 0).
          let same = from_earlier ps earlier last a place (omega (arith, le)) in
          not_at_end ps earlier last a place other (omega (arith, same, whole)) (omega (arith, same, ends))) (cases_lt 0 (bytes_from place last))

      elsewhere : (place : ℕ) → (place ≡ end_of ps → ⊥) → now place ≡ pick (bytes_from place begun) (was place)
      elsewhere place other =
          let value : bytes_from place begun ≡ 0 = ⊎_elim
          (λ (at : IsAt place begun). at.bytes ∙ omega (arith, at.place_is, other, most))
          (λ (o : IsOff place begun). o.none) (from_is place begun) in
          apart_at place (end_of ps) size (was place) (now place) (never place other) (pushed place)
          ∙ sym (pick_none (bytes_from place begun) (was place) value)

      pub places_begin : ArePlaces (ps ++ p ∷ []) (earlier ++ last ∷ []) (record { first = end_of ps; len = size })
      places_begin = record {
        each = λ place. ⊎_elim (λ (here : place ≡ end_of ps). at_the_end place here) (λ (other : place ≡ end_of ps → ⊥). elsewhere place other) (cases_eq place (end_of ps))
            ∙ sym (ap (λ n. pick (bytes_from place begun) n) (in_push place earlier last ∙ sym (a.each place)));
        apart = apart_push earlier last (end_of ps) a.apart a.before;
        before = record { begins = omega (arith, end_push ps p); ends = omega (arith, end_push ps p, len, most, some) };
      }
