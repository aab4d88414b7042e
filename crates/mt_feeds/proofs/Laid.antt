-- The shares of reducers, laid out item by item, and what is read by them.
use Rattle.std.proofs.Common.{◌≡◌, ℕ, ◌+◌, ◌%◌, ◌<◌, ◌≤◌, ◌==◌, Bool, true, false, cond, List, [], ◌∷◌, ◌++◌, length, map, replicate, set, get_or, take, Some, refl, sym, ap, subst, ◌∙◌, arith, zero, suc, append-nil, append_assoc, eq-eqb}
use Rattle.std.specs.List.{enumerate_from, filter, range_with_len, slice_get}
use Rattle.std.specs.Option.{option_and_then}
use Rattle.std.specs.declared.alloc.Global.{Global}
use Rattle.std.specs.declared.vec.Vec.{Vec}
use Rattle.std.proofs.lemmas.Bool.{eqb-true}
use Rattle.std.proofs.lemmas.List.{length-take-le, map-set, take_more}
use Rattle.std.proofs.lemmas.Option.{get_or_from_slice_get, slice_get_within}
use Rattle.std.proofs.lemmas.List.Elements.{filter-append}
use Rattle.std.proofs.lemmas.List.FromFn.{length-range_with_len}
use Rattle.std.proofs.lemmas.Nat.{mod_below}
use Rattle.mt_types.specs.declared.job.Item.{Item}
use Rattle.mt_model.specs.Tasks.{reducer_of, share}
use Rattle.mt_model.proofs.Maps.{length-map, map-append}
use Rattle.mt_feeds.specs.FedJob.{all_shares, share_numbers}
use Rattle.mt_feeds.specs.Opening.{with_place_read}
use Rattle.mt_feeds.proofs.Feeds.{enumerate_push}
use Rattle.mt_feeds.proofs.Lookups.{reads_through, slice_get_behind}

-- ---- functions over a range

same_range : {Y : Type 0} (f g : ℕ → Y) (a n : ℕ) → ((r : ℕ) → a ≤ r → g r ≡ f r) → map g (range_with_len a n) ≡ map f (range_with_len a n)
same_range f g a zero same = refl
same_range f g a (suc n) same = ap (λ y. y ∷ map g (range_with_len (a + 1) n)) (same a (omega arith)) ∙ ap (λ l. f a ∷ l) (same_range f g (a + 1) n (λ r le. same r (omega (arith, le))))

-- functions that differ at one number differ at one place
set_range : {Y : Type 0} (f g : ℕ → Y) (a n k : ℕ) → k < n → ((r : ℕ) → (r ≡ a + k → ⊥) → g r ≡ f r) → map g (range_with_len a n) ≡ set (map f (range_with_len a n)) k (g (a + k))
set_range f g a zero k less same = absurd (omega arith)
set_range f g a (suc n) zero less same =
    let here : a ≡ a + 0 = omega arith in
    ap (λ m. g m ∷ map g (range_with_len (a + 1) n)) here
    ∙ ap (λ l. g (a + 0) ∷ l) (same_range f g (a + 1) n (λ r le. same r (λ e. omega (arith, le, e))))
set_range f g a (suc n) (suc k) less same =
    let on : a + 1 + k ≡ a + suc k = omega arith in
    ap (λ y. y ∷ map g (range_with_len (a + 1) n)) (same a (λ e. omega (arith, e)))
    ∙ ap (λ l. f a ∷ l) (set_range f g (a + 1) n k (omega (arith, less)) (λ r off. same r (λ e. off (omega (arith, e)))) ∙ ap (λ m. set (map f (range_with_len (a + 1) n)) k (g m)) on)

get_range : {Y : Type 0} (f : ℕ → Y) (a n k : ℕ) (d : Y) → k < n → get_or (map f (range_with_len a n)) k d ≡ f (a + k)
get_range f a zero k d less = absurd (omega arith)
get_range f a (suc n) zero d less = let here : a ≡ a + 0 = omega arith in ap f here
get_range f a (suc n) (suc k) d less = let on : a + 1 + k ≡ a + suc k = omega arith in get_range f (a + 1) n k d (omega (arith, less)) ∙ ap f on

-- ---- one list, written at its place

read_items : (lists : List (Vec ℕ Global)) (r : ℕ) (f : Vec ℕ Global) → r < length lists → f ≡ get_or lists r f → get_or (map (λ w. w.items) lists) r [] ≡ f.items
read_items [] r f less is = absurd (omega arith)
read_items (x ∷ xs) zero f less is = ap (λ w. w.items) (sym is)
read_items (x ∷ xs) (suc r) f less is = read_items xs r f (omega (arith, less)) is

pub list_pushed : (lists : List (Vec ℕ Global)) (r place : ℕ) (f new : Vec ℕ Global) → r < length lists → f ≡ get_or lists r f → new.items ≡ f.items ++ place ∷ []
    → map (λ w. w.items) (set lists r new) ≡ set (map (λ w. w.items) lists) r (get_or (map (λ w. w.items) lists) r [] ++ place ∷ [])
list_pushed lists r place f new less is more =
    map-set (λ (w : Vec ℕ Global). w.items) lists r new
    ∙ ap (set (map (λ (w : Vec ℕ Global). w.items) lists) r) (more ∙ ap (λ l. l ++ place ∷ []) (sym (read_items lists r f less is)))

-- without an item each reducer has none
none_from : (B : Type 0) (a n count : ℕ) → replicate n [] ≡ map (share_numbers {B = B} [] count) (range_with_len a n)
none_from B a zero count = refl
none_from B a (suc n) count = ap (λ (l : List (List ℕ)). [] ∷ l) (none_from B (a + 1) n count)

pub none_laid : (B : Type 0) (count : ℕ) → replicate count [] ≡ all_shares {B = B} [] count
none_laid B count = none_from B 0 count count

module _ {B : Type 0} where
  -- ---- one item more

  pushed_case : (items : List (Item B)) (i : Item B) (n m : ℕ) → n ≡ m → (b : Bool) → map (λ (p : ℕ × Item B). p.0) (cond b ((n, i) ∷ []) []) ≡ cond b (m ∷ []) []
  pushed_case items i n m same true = ap (λ k. k ∷ []) same
  pushed_case items i n m same false = refl

  -- a place is added to the list of its reducer, and to no other
  places_push : (items : List (Item B)) (i : Item B) (count reducer : ℕ) → share_numbers (items ++ i ∷ []) count reducer ≡ share_numbers items count reducer ++ cond (reducer_of (length items, i) % count == reducer) (length items ∷ []) []
  places_push items i count reducer =
      let on : 0 + length items ≡ length items = omega arith in
      let test : ℕ × Item B → Bool = λ p. reducer_of p % count == reducer in
      ap (λ l. map (λ (p : ℕ × Item B). p.0) (filter test l)) (enumerate_push 0 items i ∙ ap {A = ℕ} {B = List (ℕ × Item B)} (λ k. enumerate_from 0 items ++ (k, i) ∷ []) on)
      ∙ ap (map (λ (p : ℕ × Item B). p.0)) (filter-append test (enumerate_from 0 items) ((length items, i) ∷ []))
      ∙ map-append (λ (p : ℕ × Item B). p.0) (filter test (enumerate_from 0 items)) (filter test ((length items, i) ∷ []))
      ∙ ap (λ l. share_numbers items count reducer ++ l) (pushed_case items i (length items) (length items) refl (test (length items, i)))

  other_case : (items : List (Item B)) (i : Item B) (count reducer r : ℕ) (b : Bool) → reducer == r ≡ b → (r ≡ 0 + reducer → ⊥) → cond b (length items ∷ []) [] ≡ []
  other_case items i count reducer r true at off = let same : reducer ≡ r = eqb-true reducer r at in absurd (off (omega (arith, same)))
  other_case items i count reducer r false at off = refl

  pub shares_push : (items : List (Item B)) (i : Item B) (count : ℕ) → 0 < count → all_shares (items ++ i ∷ []) count ≡ with_place_read count (length items) i (all_shares items count)
  shares_push items i count some =
      let reducer : ℕ = reducer_of (length items, i) % count in
      let less : reducer < count = mod_below (reducer_of (length items, i)) count some in
      let here : 0 + reducer ≡ reducer = omega arith in
      set_range (share_numbers items count) (share_numbers (items ++ i ∷ []) count) 0 count reducer less
      (λ r off. places_push items i count r ∙ ap (λ l. share_numbers items count r ++ l) (other_case items i count reducer r (reducer == r) refl off) ∙ append-nil (share_numbers items count r))
      ∙ ap (λ l. set (all_shares items count) reducer l)
      (ap (share_numbers (items ++ i ∷ []) count) here ∙ places_push items i count reducer
      ∙ ap (λ b. share_numbers items count reducer ++ cond b (length items ∷ []) []) (eq-eqb reducer reducer refl)
      ∙ ap (λ l. l ++ length items ∷ []) (sym (get_range (share_numbers items count) 0 count reducer [] less ∙ ap (share_numbers items count) here)))

  -- ---- what is read by them

  places_case : (test : ℕ × Item B → Bool) (front rest : List (Item B)) (i : Item B) (b : Bool)
      → map (slice_get (front ++ i ∷ rest)) (map (λ p. p.0) (filter test (enumerate_from (length front + 1) rest))) ≡ map (λ x. Some x) (map (λ p. p.1) (filter test (enumerate_from (length front + 1) rest)))
      → map (slice_get (front ++ i ∷ rest)) (map (λ p. p.0) (cond b ((length front, i) ∷ filter test (enumerate_from (length front + 1) rest)) (filter test (enumerate_from (length front + 1) rest))))
      ≡ map (λ x. Some x) (map (λ p. p.1) (cond b ((length front, i) ∷ filter test (enumerate_from (length front + 1) rest)) (filter test (enumerate_from (length front + 1) rest))))
  places_case test front rest i true more =
      ap (λ o. o ∷ map (slice_get (front ++ i ∷ rest)) (map (λ p. p.0) (filter test (enumerate_from (length front + 1) rest)))) (slice_get_behind front i rest) ∙ ap (λ l. Some i ∷ l) more
  places_case test front rest i false more = more

  long_push : (front : List (Item B)) (i : Item B) → length (front ++ i ∷ []) ≡ length front + 1
  long_push [] i = omega arith
  long_push (j ∷ js) i = let more = long_push js i in omega (arith, more)

  places_from : (test : ℕ × Item B → Bool) (front rest : List (Item B)) → map (slice_get (front ++ rest)) (map (λ p. p.0) (filter test (enumerate_from (length front) rest))) ≡ map (λ x. Some x) (map (λ p. p.1) (filter test (enumerate_from (length front) rest)))
  places_from test front [] = refl
  places_from test front (i ∷ rest) =
      places_case test front rest i (test (length front, i))
      (ap (λ l. map (slice_get l) (map (λ p. p.0) (filter test (enumerate_from (length front + 1) rest)))) (sym (append_assoc front (i ∷ []) rest))
      ∙ subst (λ n. map (slice_get ((front ++ i ∷ []) ++ rest)) (map (λ p. p.0) (filter test (enumerate_from n rest))) ≡ map (λ x. Some x) (map (λ p. p.1) (filter test (enumerate_from n rest)))) (long_push front i) (places_from test (front ++ i ∷ []) rest))

  -- a reducer reads the items at its places
  pub share_reads : (items : List (Item B)) (count reducer k : ℕ) → option_and_then (slice_get items) (slice_get (share_numbers items count reducer) k) ≡ slice_get (share items count reducer) k
  share_reads items count reducer k = reads_through (slice_get items) (share_numbers items count reducer) (share items count reducer) k (places_from (λ p. reducer_of p % count == reducer) [] items)

  -- there are as many lists as reducers
  pub laid_count : (items : List (Item B)) (count : ℕ) (lists : List (Vec ℕ Global)) → map (λ w. w.items) lists ≡ all_shares items count → length lists ≡ count
  laid_count items count lists same =
      sym (length-map (λ (w : Vec ℕ Global). w.items) lists) ∙ ap length same ∙ length-map (share_numbers items count) (range_with_len 0 count) ∙ length-range_with_len 0 count

  -- the next item of a feed
  pub shares_take : (items : List (Item B)) (place : ℕ) (item : Item B) (count : ℕ) → 0 < count → slice_get items place ≡ Some item → all_shares (take (place + 1) items) count ≡ with_place_read count place item (all_shares (take place items) count)
  shares_take items place item count some at =
      let within : place < length items = slice_get_within items place item at in
      let more : take (place + 1) items ≡ take place items ++ item ∷ [] = take_more items place item within ∙ ap (λ x. take place items ++ x ∷ []) (get_or_from_slice_get items place item item at) in
      let long : length (take place items) ≡ place = length-take-le place items (omega (arith, within)) in
      ap (λ l. all_shares l count) more ∙ shares_push (take place items) item count some ∙ ap (λ n. with_place_read count n item (all_shares (take place items) count)) long

  -- the places of one reducer, among those of all
  pub share_at : (items : List (Item B)) (count reducer : ℕ) → reducer < count → slice_get (all_shares items count) reducer ≡ Some (share_numbers items count reducer)
  share_at items count reducer less = by 0 count reducer less ∙ (let here : 0 + reducer ≡ reducer = omega arith in ap (λ r. Some (share_numbers items count r)) here)
    where
      by : (a n k : ℕ) → k < n → slice_get (map (share_numbers items count) (range_with_len a n)) k ≡ Some (share_numbers items count (a + k))
      by a zero k less = absurd (omega arith)
      by a (suc n) zero less = let here : a ≡ a + 0 = omega arith in ap (λ r. Some (share_numbers items count r)) here
      by a (suc n) (suc k) less = let on : a + 1 + k ≡ a + suc k = omega arith in by (a + 1) n k (omega (arith, less)) ∙ ap (λ r. Some (share_numbers items count r)) on
