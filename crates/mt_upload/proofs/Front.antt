-- The parts that a commit lists are the first of an upload, where all are there: so one walk over both lists judges them.
use Rattle.std.proofs.Common.{◌≡◌, ℕ, ◌+◌, ◌<◌, ◌≤◌, ◌==◌, Bool, true, false, cond, ◌&&◌, List, [], ◌∷◌, length, get_or, take, drop, filter_map, slice_get, Some, None, refl, sym, ap, ◌∙◌, arith, zero, suc, add-one, eqb-true, ne_eqb, true≢false}
use Rattle.std.specs.List.{AllByRecursion, cons_option, enumerate_from, list_all}
use Rattle.std.specs.List.Sorted.{IsStrictlySortedBy}
use Rattle.std.specs.Option.{option_map_or}
use Rattle.std.specs.Ordering.{nat_cmp}
use Rattle.std.specs.declared.cmp.Ordering.TheVariants.{Less}
use Rattle.std.proofs.lemmas.Bool.{eqb-false}
use Rattle.std.proofs.lemmas.Cmp.{ranked}
use Rattle.std.proofs.lemmas.List.{drop_more}
use Rattle.std.proofs.lemmas.Map.Keys.{sorted_head, sorted_tail}
use Rattle.mt_types.specs.declared.upload.PartRow.{PartRow}
use Rattle.mt_model.specs.UploadSteps.{is_listed, listed, part_at}
use Rattle.mt_upload.specs.UploadList.{indexes_of, stands_at}

-- numbers above one are at least one more
raised : (a b : ℕ) (ks : List ℕ) → AllByRecursion (λ k. nat_cmp a k ≡ Less) ks → b ≤ a + 1 → AllByRecursion (λ k. b ≤ k) ks
raised a b [] above le = tt
raised a b (k ∷ ks) above le = (let less : a < k = ranked a k Less (sym above.0) in omega arith, raised a b ks above.1 le)

at_least_0 : (ks : List ℕ) → AllByRecursion (λ k. 0 ≤ k) ks
at_least_0 [] = tt
at_least_0 (k ∷ ks) = (omega arith, at_least_0 ks)

second_true : (a b : Bool) → (a && b) ≡ true → b ≡ true
second_true true b both = both
second_true false b both = absurd (true≢false (sym both))

module _ {B : Type 0} where
  -- these are the numbers of the parts from the first on, whose indexes count up from this one
  abbrev pub is_front : ℕ → List (PartRow B) → List ℕ → Bool
  is_front index ps [] = true
  is_front index [] (n ∷ ns) = false
  is_front index (p ∷ ps) (n ∷ ns) = ((p.index == index) && (p.number == n)) && is_front (index + 1) ps ns

  -- ---- place by place

  abbrev stands : List (PartRow B) → ℕ → ℕ → ℕ → Bool
  stands ps place index number = option_map_or (λ p. (p.index == index) && (p.number == number)) (slice_get ps place) false

  front_from : (index k : ℕ) (ps : List (PartRow B)) (ns : List ℕ) → k < length ns
      → is_front index (drop k ps) (drop k ns) ≡ (stands ps k index (get_or ns k 0) && is_front (index + 1) (drop (suc k) ps) (drop (suc k) ns))
  front_from index k ps [] short = absurd (omega arith)
  front_from index zero [] (n ∷ ns) short = refl
  front_from index zero (p ∷ ps) (n ∷ ns) short = refl
  front_from index (suc k) [] (n ∷ ns) short = ap (is_front index []) (drop_more ns k 0 (omega arith))
  front_from index (suc k) (p ∷ ps) (n ∷ ns) short = front_from index k ps ns (omega arith)

  front_at : (k : ℕ) (ps : List (PartRow B)) (ns : List ℕ) (number : ℕ) (t : Bool) → k < length ns → number ≡ get_or ns k 0 → stands_at ps (k, number) ≡ t → is_front k (drop k ps) (drop k ns) ≡ (t && is_front (k + 1) (drop (k + 1) ps) (drop (k + 1) ns))
  front_at k ps ns number t short is tells =
      front_from k k ps ns short
      ∙ ap (λ b. b && is_front (k + 1) (drop (suc k) ps) (drop (suc k) ns)) (ap (stands ps k k) (sym is) ∙ tells)
      ∙ ap (λ m. t && is_front (k + 1) (drop m ps) (drop m ns)) (sym (add-one k))

  -- one part more is the one that is listed
  pub front_more : (k : ℕ) (ps : List (PartRow B)) (ns : List ℕ) (number : ℕ) → k < length ns → number ≡ get_or ns k 0 → stands_at ps (k, number) ≡ true → is_front k (drop k ps) (drop k ns) ≡ is_front (k + 1) (drop (k + 1) ps) (drop (k + 1) ns)
  front_more k ps ns number short is there = front_at k ps ns number true short is there

  -- one isn't
  pub front_ends : (k : ℕ) (ps : List (PartRow B)) (ns : List ℕ) (number : ℕ) → k < length ns → number ≡ get_or ns k 0 → stands_at ps (k, number) ≡ false → is_front k (drop k ps) (drop k ns) ≡ false
  front_ends k ps ns number short is off = front_at k ps ns number false short is off

  -- ---- by index

  none_at : (index : ℕ) (ps : List (PartRow B)) → AllByRecursion (λ k. index + 1 ≤ k) (indexes_of ps) → part_at ps index ≡ None
  none_at index [] above = refl
  none_at index (p ∷ ps) above =
      let more : index + 1 ≤ p.index = above.0 in
      ap (λ b. cond b (Some p) (part_at ps index)) (ne_eqb p.index index (λ same. omega arith)) ∙ none_at index ps above.1

  -- a part of lesser index is none of those that are asked for
  passed : (p : PartRow B) (ps : List (PartRow B)) (index : ℕ) → p.index < index → part_at (p ∷ ps) index ≡ part_at ps index
  passed p ps index less = ap (λ b. cond b (Some p) (part_at ps index)) (ne_eqb p.index index (λ same. omega arith))

  all_passed : (p : PartRow B) (ps : List (PartRow B)) (index : ℕ) (ns : List ℕ) → p.index < index → list_all (is_listed (p ∷ ps)) (enumerate_from index ns) ≡ list_all (is_listed ps) (enumerate_from index ns)
  all_passed p ps index [] less = refl
  all_passed p ps index (n ∷ ns) less =
      ap (λ o. option_map_or (λ q. q.number == n) o false && list_all (is_listed (p ∷ ps)) (enumerate_from (index + 1) ns)) (passed p ps index less)
      ∙ ap (λ b. is_listed ps (index, n) && b) (all_passed p ps (index + 1) ns (omega arith))

  list_passed : (p : PartRow B) (ps : List (PartRow B)) (index : ℕ) (ns : List ℕ) → p.index < index → filter_map (λ l. part_at (p ∷ ps) l.0) (enumerate_from index ns) ≡ filter_map (λ l. part_at ps l.0) (enumerate_from index ns)
  list_passed p ps index [] less = refl
  list_passed p ps index (n ∷ ns) less =
      ap (λ o. cons_option o (filter_map (λ l. part_at (p ∷ ps) l.0) (enumerate_from (index + 1) ns))) (passed p ps index less)
      ∙ ap (cons_option (part_at ps index)) (list_passed p ps (index + 1) ns (omega arith))

  front_case : (index n : ℕ) (ns : List ℕ) (p : PartRow B) (ps : List (PartRow B)) (t : Bool) → (p.index == index) ≡ t → index ≤ p.index → AllByRecursion (λ k. nat_cmp p.index k ≡ Less) (indexes_of ps)
      → (p.index ≡ index → list_all (is_listed (p ∷ ps)) (enumerate_from (index + 1) ns) ≡ is_front (index + 1) ps ns)
      → (option_map_or (λ q. q.number == n) (cond t (Some p) (part_at ps index)) false && list_all (is_listed (p ∷ ps)) (enumerate_from (index + 1) ns)) ≡ ((t && (p.number == n)) && is_front (index + 1) ps ns)
  front_case index n ns p ps true is le above rest = ap (λ b. (p.number == n) && b) (rest (eqb-true p.index index is))
  front_case index n ns p ps false is le above rest =
      ap (λ o. option_map_or (λ q. q.number == n) o false && list_all (is_listed (p ∷ ps)) (enumerate_from (index + 1) ns))
      (none_at index ps (raised p.index (index + 1) (indexes_of ps) above (omega (arith, eqb-false p.index index is))))

  all_listed_from : (index : ℕ) (ps : List (PartRow B)) (ns : List ℕ) → IsStrictlySortedBy nat_cmp (indexes_of ps) → AllByRecursion (λ k. index ≤ k) (indexes_of ps) → list_all (is_listed ps) (enumerate_from index ns) ≡ is_front index ps ns
  all_listed_from index ps [] rising low = refl
  all_listed_from index [] (n ∷ ns) rising low = refl
  all_listed_from index (p ∷ ps) (n ∷ ns) rising low =
      let above = sorted_head nat_cmp p.index (indexes_of ps) rising in
      front_case index n ns p ps (p.index == index) refl low.0 above (λ same.
      all_passed p ps (index + 1) ns (omega (arith, same))
      ∙ all_listed_from (index + 1) ps ns (sorted_tail nat_cmp p.index (indexes_of ps) rising) (raised p.index (index + 1) (indexes_of ps) above (omega (arith, same))))

  -- all that are listed are there just where they are the first
  pub all_listed : (ps : List (PartRow B)) (ns : List ℕ) → IsStrictlySortedBy nat_cmp (indexes_of ps) → list_all (is_listed ps) (enumerate_from 0 ns) ≡ is_front 0 ps ns
  all_listed ps ns rising = all_listed_from 0 ps ns rising (at_least_0 (indexes_of ps))

  taken_case : (index n : ℕ) (ns : List ℕ) (p : PartRow B) (ps : List (PartRow B)) (t : Bool) → (p.index == index) ≡ t → ((t && (p.number == n)) && is_front (index + 1) ps ns) ≡ true
      → (p.index ≡ index → is_front (index + 1) ps ns ≡ true → filter_map (λ l. part_at (p ∷ ps) l.0) (enumerate_from (index + 1) ns) ≡ take (length ns) ps)
      → cons_option (cond t (Some p) (part_at ps index)) (filter_map (λ l. part_at (p ∷ ps) l.0) (enumerate_from (index + 1) ns)) ≡ p ∷ take (length ns) ps
  taken_case index n ns p ps true is front rest = ap (λ l. p ∷ l) (rest (eqb-true p.index index is) (second_true (p.number == n) (is_front (index + 1) ps ns) front))
  taken_case index n ns p ps false is front rest = absurd (true≢false (sym front))

  listed_from : (index : ℕ) (ps : List (PartRow B)) (ns : List ℕ) → IsStrictlySortedBy nat_cmp (indexes_of ps) → is_front index ps ns ≡ true → filter_map (λ l. part_at ps l.0) (enumerate_from index ns) ≡ take (length ns) ps
  listed_from index ps [] rising front = refl
  listed_from index [] (n ∷ ns) rising front = absurd (true≢false (sym front))
  listed_from index (p ∷ ps) (n ∷ ns) rising front =
      taken_case index n ns p ps (p.index == index) refl front (λ same more.
      list_passed p ps (index + 1) ns (omega (arith, same))
      ∙ listed_from (index + 1) ps ns (sorted_tail nat_cmp p.index (indexes_of ps) rising) more)

  -- those that are listed are the first, where all are there
  pub listed_is_front : (ps : List (PartRow B)) (ns : List ℕ) → list_all (is_listed ps) (enumerate_from 0 ns) ≡ true → IsStrictlySortedBy nat_cmp (indexes_of ps) → listed ps ns ≡ take (length ns) ps
  listed_is_front ps ns all rising = listed_from 0 ps ns rising (sym (all_listed ps ns rising) ∙ all)
