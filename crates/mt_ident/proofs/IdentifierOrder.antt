-- The order of identifiers is that of their numbers: bytes with the highest first keep the order of numbers, and digits that of bytes.
use Rattle.std.proofs.Common.{◌≡◌, ℕ, zero, suc, ◌+◌, ◌*◌, ◌/◌, ◌%◌, ◌^◌, ◌<◌, ◌≤◌, ◌⊎◌, inl, inr, List, [], ◌∷◌, ◌++◌, length, refl, sym, ap, ◌∙◌, arith, Bool, true, false, nat_le, not, Some}
use Rattle.std.proofs.lemmas.Bool.{cases_lt, le-leb, cases_Bool}
use Rattle.std.proofs.lemmas.Bool.Decides.{nat_tests}
use Rattle.std.proofs.lemmas.Cmp.{nat_list_cmp_total}
use Rattle.std.proofs.Math.Nat.{div-div-eq-div-mul}
use Rattle.std.specs.Cmp.Lexicographic.{slice_cmp, slice_partial_cmp, lists_agrees}
use Rattle.std.specs.Int.{w128, to_be_bytes, bytes_high_first, byte_at}
use Rattle.std.specs.declared.cmp.Ordering.{Ordering}
use Rattle.std.specs.declared.cmp.Ordering.TheVariants.{Less, Equal, Greater}
use Rattle.std.specs.Ordering.{nat_cmp, ordering_then, ordering_reverse, is_le, is_lt, is_some_and}
use Rattle.uuid.specs.Text.{by_index, hex_digit, hyphen, hyphenated_text, lower}
use Rattle.mt_ident.specs.Identifiers.{IsKind, identifier_value, identifier_text, is_from}

cmp_same : (n : ℕ) → nat_cmp n n ≡ Equal
cmp_same n = grind (arith, nat_tests)

cmp_less : (n m : ℕ) → n < m → nat_cmp n m ≡ Less
cmp_less n m lt = grind (arith, nat_tests)

cmp_greater : (n m : ℕ) → m < n → nat_cmp n m ≡ Greater
cmp_greater n m lt = grind (arith, nat_tests)

-- three cases of two numbers
compared : (n m : ℕ) → (n < m) ⊎ ((n ≡ m) ⊎ (m < n))
compared n m = elim (cases_lt n m) [
  | inl lt ↦ inl lt
  | inr le ↦ elim (cases_lt m n) [ inl lt ↦ inr (inr lt) | inr ge ↦ inr (inl (omega arith)) ]
]

then_less : (o : Ordering) → o ≡ Less → (p : Ordering) → ordering_then o p ≡ Less
then_less o is p = ap (λ v. ordering_then v p) is

then_same : (o : Ordering) → o ≡ Equal → (p : Ordering) → ordering_then o p ≡ p
then_same o is p = ap (λ v. ordering_then v p) is

-- ---- bytes

-- byte i + 1 of a number is byte i of its 256th part
byte_up : (i n : ℕ) → byte_at (suc i) n ≡ byte_at i (n / 256)
byte_up zero n = refl
byte_up (suc i) n = ap (λ d. d % 256) (ap (λ p. n / p) (power i) ∙ sym (div-div-eq-div-mul n 256 (256 ^ suc i)))
  where
    power : (i : ℕ) → 256 ^ suc (suc i) ≡ 256 * 256 ^ suc i
    power i = omega arith

-- the lowest byte stands last
bytes_last : (k n : ℕ) → bytes_high_first (suc k) n ≡ bytes_high_first k (n / 256) ++ n % 256 ∷ []
bytes_last zero n = refl
bytes_last (suc k) n = ap (λ b. b ∷ bytes_high_first (suc k) n) (byte_up k n) ∙ ap (λ bs. byte_at k (n / 256) ∷ bs) (bytes_last k n)

less_on : (o p q : Ordering) → (p ≡ Less → q ≡ Less) → ordering_then o p ≡ Less → ordering_then o q ≡ Less
less_on Less p q on e = refl
less_on Equal p q on e = on e
less_on Greater p q on e = e

less_behind : (xs ys us vs : List ℕ) → length xs ≡ length ys → slice_cmp nat_cmp xs ys ≡ Less → slice_cmp nat_cmp (xs ++ us) (ys ++ vs) ≡ Less
less_behind [] [] us vs same less = absurd (differ less)
  where
    differ : Equal ≡ Less → ⊥
    differ e = cc
less_behind [] (y ∷ ys) us vs same less = absurd (omega (arith, same))
less_behind (x ∷ xs) [] us vs same less = absurd (omega (arith, same))
less_behind (x ∷ xs) (y ∷ ys) us vs same less = less_on (nat_cmp x y) _ _ (less_behind xs ys us vs (omega (arith, same))) less

same_front : (xs us vs : List ℕ) → slice_cmp nat_cmp (xs ++ us) (xs ++ vs) ≡ slice_cmp nat_cmp us vs
same_front [] us vs = refl
same_front (x ∷ xs) us vs = then_same (nat_cmp x x) (cmp_same x) _ ∙ same_front xs us vs

bytes_length : (k n : ℕ) → length (bytes_high_first k n) ≡ k
bytes_length zero n = refl
bytes_length (suc k) n = omega (arith, bytes_length k n)

bytes_rise : (k n m : ℕ) → n < m → m < 256 ^ k → slice_cmp nat_cmp (bytes_high_first k n) (bytes_high_first k m) ≡ Less
bytes_rise zero n m lt small = absurd (omega (arith, lt, small))
bytes_rise (suc k) n m lt small =
    let cut : m / 256 < 256 ^ k = within in
    both (bytes_last k n) (bytes_last k m)
    (elim (compared (n / 256) (m / 256)) [
      | inl less ↦ less_behind _ _ _ _ (bytes_length k (n / 256) ∙ sym (bytes_length k (m / 256))) (bytes_rise k (n / 256) (m / 256) less cut)
      | inr (inl same) ↦ rw same (same_front (bytes_high_first k (m / 256)) _ _ ∙ then_less (nat_cmp (n % 256) (m % 256)) (cmp_less (n % 256) (m % 256) (omega (arith, lt, same))) Equal)
      | inr (inr more) ↦ absurd (omega (arith, lt, more))
    ])
  where
    part : (m p q : ℕ) → q ≡ 256 * p → m < q → m / 256 < p
    part m p q is h = omega arith

    both : {xs xs' ys ys' : List ℕ} → xs ≡ xs' → ys ≡ ys' → slice_cmp nat_cmp xs' ys' ≡ Less → slice_cmp nat_cmp xs ys ≡ Less
    both p q less = (λ i. slice_cmp nat_cmp (p i) (q i)) ∙ less

    within : m / 256 < 256 ^ k
    within = part m (256 ^ k) (256 ^ suc k) (omega arith) small

-- ---- digits

-- the two digits of a byte
abbrev digits : ℕ → List ℕ
digits b = hex_digit lower (b / 16 % 16) ∷ hex_digit lower (b % 16) ∷ []

digit_rises : (d e : ℕ) → d < e → e < 16 → hex_digit lower d < hex_digit lower e
digit_rises d e lt small = grind (arith, nat_tests)

digit_cmp : (d e : ℕ) → d < 16 → e < 16 → nat_cmp (hex_digit lower d) (hex_digit lower e) ≡ nat_cmp d e
digit_cmp d e low high = elim (compared d e) [
  | inl less ↦ cmp_less _ _ (digit_rises d e less high) ∙ sym (cmp_less d e less)
  | inr (inl same) ↦ rw same (cmp_same (hex_digit lower e) ∙ sym (cmp_same e))
  | inr (inr more) ↦ cmp_greater _ _ (digit_rises e d more low) ∙ sym (cmp_greater d e more)
]

-- by the high half, and then by the low one
halves_cmp : (a b : ℕ) → a < 256 → b < 256 → (o : Ordering) → ordering_then (nat_cmp (a / 16 % 16) (b / 16 % 16)) (ordering_then (nat_cmp (a % 16) (b % 16)) o) ≡ ordering_then (nat_cmp a b) o
halves_cmp a b low high o = elim (compared (a / 16 % 16) (b / 16 % 16)) [
  | inl less ↦ then_less _ (cmp_less _ _ less) _ ∙ sym (then_less _ (cmp_less a b (omega (arith, less))) o)
  | inr (inl same) ↦ then_same _ (ap (λ v. nat_cmp v (b / 16 % 16)) same ∙ cmp_same (b / 16 % 16)) _ ∙ low_cmp same
  | inr (inr more) ↦ ap (λ v. ordering_then v (ordering_then (nat_cmp (a % 16) (b % 16)) o)) (cmp_greater _ _ more) ∙ sym (ap (λ v. ordering_then v o) (cmp_greater a b (omega (arith, more))))
]
  where
    low_cmp : a / 16 % 16 ≡ b / 16 % 16 → ordering_then (nat_cmp (a % 16) (b % 16)) o ≡ ordering_then (nat_cmp a b) o
    low_cmp same = elim (compared (a % 16) (b % 16)) [
      | inl less ↦ ap (λ v. ordering_then v o) (cmp_less _ _ less ∙ sym (cmp_less a b (omega (arith, less, same))))
      | inr (inl equal) ↦ ap (λ v. ordering_then v o) (ap (λ v. nat_cmp v (b % 16)) equal ∙ cmp_same (b % 16) ∙ sym (ap (λ v. nat_cmp v b) (all_same same equal) ∙ cmp_same b))
      | inr (inr more) ↦ ap (λ v. ordering_then v o) (cmp_greater _ _ more ∙ sym (cmp_greater a b (omega (arith, more, same))))
    ]
      where
        all_same : a / 16 % 16 ≡ b / 16 % 16 → a % 16 ≡ b % 16 → a ≡ b
        all_same same equal = omega (arith, same, equal)

digits_cmp : (a b : ℕ) (us vs : List ℕ) → a < 256 → b < 256 → slice_cmp nat_cmp (digits a ++ us) (digits b ++ vs) ≡ ordering_then (nat_cmp a b) (slice_cmp nat_cmp us vs)
digits_cmp a b us vs low high =
    ap (λ v. ordering_then v (ordering_then (nat_cmp (hex_digit lower (a % 16)) (hex_digit lower (b % 16))) (slice_cmp nat_cmp us vs))) (digit_cmp (a / 16 % 16) (b / 16 % 16) (omega arith) (omega arith))
    ∙ ap (λ v. ordering_then (nat_cmp (a / 16 % 16) (b / 16 % 16)) (ordering_then v (slice_cmp nat_cmp us vs))) (digit_cmp (a % 16) (b % 16) (omega arith) (omega arith))
    ∙ halves_cmp a b low high (slice_cmp nat_cmp us vs)

-- bytes as digits, with a hyphen before those that are marked
abbrev shown : List (Bool × ℕ) → List ℕ
shown [] = []
shown ((false, b) ∷ bs) = digits b ++ shown bs
shown ((true, b) ∷ bs) = hyphen ∷ digits b ++ shown bs

abbrev zipped : List Bool → List ℕ → List (Bool × ℕ)
zipped [] bs = []
zipped (m ∷ ms) [] = []
zipped (m ∷ ms) (b ∷ bs) = (m, b) ∷ zipped ms bs

abbrev AreBytes : List ℕ → Type 0
AreBytes [] = Unit {0}
AreBytes (b ∷ bs) = (b < 256) × AreBytes bs

shown_cmp : (ms : List Bool) (xs ys : List ℕ) → length xs ≡ length ms → length ys ≡ length ms → AreBytes xs → AreBytes ys
    → slice_cmp nat_cmp (shown (zipped ms xs)) (shown (zipped ms ys)) ≡ slice_cmp nat_cmp xs ys
shown_cmp [] [] [] long also low high = refl
shown_cmp [] (x ∷ xs) ys long also low high = absurd (omega (arith, long))
shown_cmp [] [] (y ∷ ys) long also low high = absurd (omega (arith, also))
shown_cmp (m ∷ ms) [] ys long also low high = absurd (omega (arith, long))
shown_cmp (m ∷ ms) (x ∷ xs) [] long also low high = absurd (omega (arith, also))
shown_cmp (false ∷ ms) (x ∷ xs) (y ∷ ys) long also low high =
    digits_cmp x y (shown (zipped ms xs)) (shown (zipped ms ys)) low.0 high.0 ∙ ap (ordering_then (nat_cmp x y)) (shown_cmp ms xs ys (omega (arith, long)) (omega (arith, also)) low.1 high.1)
shown_cmp (true ∷ ms) (x ∷ xs) (y ∷ ys) long also low high =
    digits_cmp x y (shown (zipped ms xs)) (shown (zipped ms ys)) low.0 high.0 ∙ ap (ordering_then (nat_cmp x y)) (shown_cmp ms xs ys (omega (arith, long)) (omega (arith, also)) low.1 high.1)

-- which of sixteen bytes a hyphen stands before
abbrev marks : List Bool
marks = false ∷ false ∷ false ∷ false ∷ true ∷ false ∷ true ∷ false ∷ true ∷ false ∷ true ∷ false ∷ false ∷ false ∷ false ∷ false ∷ []

text_is_shown : (n : ℕ) → hyphenated_text lower (to_be_bytes w128 n) ≡ shown (zipped marks (to_be_bytes w128 n))
unfolding by_index
text_is_shown n = refl

byte_small : (i n : ℕ) → byte_at i n < 256
byte_small zero n = omega arith
byte_small (suc i) n = omega arith

are_bytes : (k n : ℕ) → AreBytes (bytes_high_first k n)
are_bytes zero n = tt
are_bytes (suc k) n = (byte_small k n, are_bytes k n)

-- identifiers of one kind rise with their numbers
pub texts_rise : (kind n m : ℕ) → IsKind kind → n < m → m < 2 ^ 62 → slice_cmp nat_cmp (identifier_text kind n) (identifier_text kind m) ≡ Less
unfolding identifier_text
texts_rise kind n m is lt small =
    let x : ℕ = identifier_value kind n in
    let y : ℕ = identifier_value kind m in
    rw (text_is_shown x, text_is_shown y)
    (shown_cmp marks (to_be_bytes w128 x) (to_be_bytes w128 y) refl refl (are_bytes 16 x) (are_bytes 16 y)
    ∙ bytes_rise 16 x y (omega (arith, lt)) (omega (arith, is.1, small)))

-- ---- markers

module _ (kind : ℕ) (marker : List ℕ) (known : IsKind kind) where
  before : ℕ → Ordering
  before n = slice_cmp nat_cmp (identifier_text kind n) marker

  reversed : (o p : Ordering) → o ≡ ordering_reverse p → is_le o ≡ false → p ≡ Less
  reversed o Less is fails = refl
  reversed o Equal is fails = absurd (differ (sym (ap is_le is) ∙ fails))
    where
      differ : true ≡ false → ⊥
      differ e = cc
  reversed o Greater is fails = absurd (differ (sym (ap is_le is) ∙ fails))
    where
      differ : true ≡ false → ⊥
      differ e = cc

  -- what stands before the marker is not from it on
  pub not_from : (n : ℕ) → slice_cmp nat_cmp (identifier_text kind n) marker ≡ Less → is_from kind marker n ≡ false
  not_from n less = ap is_le (nat_list_cmp_total.antisymm marker (identifier_text kind n) ∙ ap ordering_reverse less)

  pub is_before : (n : ℕ) → is_from kind marker n ≡ false → slice_cmp nat_cmp (identifier_text kind n) marker ≡ Less
  is_before n fails = reversed _ _ (nat_list_cmp_total.antisymm marker (identifier_text kind n)) fails

  -- all numbers below one that stands before it do so too
  pub below : (n m : ℕ) → m ≤ n → n < 2 ^ 62 → is_from kind marker n ≡ false → is_from kind marker m ≡ false
  below n m le small fails = elim (cases_lt m n) [
    | inl lt ↦ not_from m (nat_list_cmp_total.trans (identifier_text kind m) (identifier_text kind n) marker (texts_rise kind m n known lt small) (is_before n fails))
    | inr ge ↦ let same : m ≡ n = omega (arith, le, ge) in rw same fails
  ]

  -- and all above one that doesn't, don't
  pub above : (n m : ℕ) → n ≤ m → m < 2 ^ 62 → is_from kind marker n ≡ true → is_from kind marker m ≡ true
  above n m le small holds = elim (cases_Bool (is_from kind marker m)) [
    | inl also ↦ also
    | inr fails ↦ absurd (differ (sym (below m n le small fails) ∙ holds))
  ]
    where
      differ : false ≡ true → ⊥
      differ e = cc

-- a test of two texts, against the order of the two the other way round
less_is : (xs ys : List ℕ) → is_some_and is_lt (slice_partial_cmp (λ x y. Some (nat_cmp x y)) xs ys) ≡ not (is_le (slice_cmp nat_cmp ys xs))
less_is xs ys = ap (is_some_and is_lt) (lists_agrees {R = nat_cmp} (λ x y. refl) xs ys) ∙ by (slice_cmp nat_cmp xs ys) (slice_cmp nat_cmp ys xs) (nat_list_cmp_total.antisymm ys xs)
  where
    by : (o p : Ordering) → p ≡ ordering_reverse o → is_lt o ≡ not (is_le p)
    by Less p is = sym (ap (λ v. not (is_le v)) is)
    by Equal p is = sym (ap (λ v. not (is_le v)) is)
    by Greater p is = sym (ap (λ v. not (is_le v)) is)

pub before_is : (kind number : ℕ) (text marker : List ℕ) → text ≡ identifier_text kind number
    → is_some_and is_lt (slice_partial_cmp (λ x y. Some (nat_cmp x y)) text marker) ≡ not (is_from kind marker number)
before_is kind number text marker is = ap (λ t. is_some_and is_lt (slice_partial_cmp (λ x y. Some (nat_cmp x y)) t marker)) is ∙ less_is (identifier_text kind number) marker

-- how far a search for the least number from the marker on has come
pub record Narrowed (kind : ℕ) (marker : List ℕ) (low high : ℕ) : Type 0 where
  pub order : low ≤ high
  pub small : high ≤ 2 ^ 62
  pub before : (m : ℕ) → m < low → is_from kind marker m ≡ false
  pub behind : (m : ℕ) → high ≤ m → m < 2 ^ 62 → is_from kind marker m ≡ true

pub raised : (kind : ℕ) (marker : List ℕ) (low high middle : ℕ) → IsKind kind → Narrowed kind marker low high → middle < high → is_from kind marker middle ≡ false → Narrowed kind marker (middle + 1) high
raised kind marker low high middle known found within fails = record {
  order = omega arith;
  small = found.small;
  before = λ m lt. below kind marker known middle m (omega (arith, lt)) (omega (arith, within, found.small)) fails;
  behind = found.behind;
}

pub lowered : (kind : ℕ) (marker : List ℕ) (low high middle : ℕ) → IsKind kind → Narrowed kind marker low high → low ≤ middle → middle < high → is_from kind marker middle ≡ true → Narrowed kind marker low middle
lowered kind marker low high middle known found order within holds = record {
  order = order;
  small = omega (arith, within, found.small);
  before = found.before;
  behind = λ m le small. above kind marker known middle m le small holds;
}

stands_below : (low m : ℕ) → m < low → nat_le low m ≡ false
stands_below low m lt = grind (arith, nat_tests)

-- once it is over, the numbers from the marker on are those that aren't below
pub narrowed : (kind : ℕ) (marker : List ℕ) (low high : ℕ) → Narrowed kind marker low high → high ≤ low → (m : ℕ) → m < 2 ^ 62 → is_from kind marker m ≡ nat_le low m
narrowed kind marker low high found over m small = elim (cases_lt m low) [
  | inl lt ↦ found.before m lt ∙ sym (stands_below low m lt)
  | inr le ↦ found.behind m (omega (arith, le, over)) small ∙ sym (le-leb low m le)
]
