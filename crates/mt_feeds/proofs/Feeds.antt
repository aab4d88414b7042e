-- Where outputs stand as the trace grows, and what stands there.
use Rattle.std.proofs.Common.{◌≡◌, ℕ, ◌+◌, ◌-◌, ◌<◌, ◌≤◌, ◌==◌, Bool, true, false, cond, List, [], ◌∷◌, ◌++◌, length, map, set, get_or, Option, Some, refl, sym, ap, ◌∙◌, arith, zero, suc, append-nil, append_assoc, eq-eqb, true≢false}
use Rattle.std.specs.List.{enumerate_from, filter, flat_map, range_with_len, slice_get}
use Rattle.std.specs.Option.{option_and_then, unwrap_or}
use Rattle.std.specs.declared.alloc.Global.{Global}
use Rattle.std.specs.declared.vec.Vec.{Vec}
use Rattle.std.proofs.lemmas.Bool.{eqb-true, ne_eqb}
use Rattle.std.proofs.lemmas.Grind.{flat_map-append}
use Rattle.std.proofs.lemmas.List.{length-set}
use Rattle.std.proofs.lemmas.List.Elements.{filter-append}
use Rattle.std.proofs.lemmas.Option.{slice_get-get_or, slice_get_within}
use Rattle.mt_types.specs.declared.job.Job.{Job}
use Rattle.mt_types.specs.declared.job.TraceEntry.{TraceEntry}
use Rattle.mt_model.specs.Feed.{entries_of, feed, items_in, items_of}
use Rattle.mt_model.specs.JobSteps.{with_entry}
use Rattle.mt_model.proofs.Maps.{map-append, map-map}
use Rattle.mt_sched.proofs.Filters.{range_split}
use Rattle.mt_feeds.specs.declared.kept.At.{At}
use Rattle.mt_feeds.specs.FedJob.{AreFeeds, index_of, item_at, outputs_at, places_at}
use Rattle.mt_feeds.proofs.Lookups.{reads_all, reads_through, slice_get_behind, slice_set_else, slice_set_here}

pub enumerate_push : {X : Type 0} (n : ℕ) (xs : List X) (x : X) → enumerate_from n (xs ++ x ∷ []) ≡ enumerate_from n xs ++ (n + length xs, x) ∷ []
enumerate_push {X = X} n [] x = let here : n ≡ n + 0 = omega arith in ap {B = List (ℕ × X)} (λ k. (k, x) ∷ []) here
enumerate_push {X = X} n (y ∷ ys) x =
    let on : n + 1 + length ys ≡ n + suc (length ys) = omega arith in
    ap {B = List (ℕ × X)} (λ l. (n, y) ∷ l) (enumerate_push (n + 1) ys x) ∙ ap {B = List (ℕ × X)} (λ k. (n, y) ∷ (enumerate_from (n + 1) ys ++ (k, x) ∷ [])) on

-- one output more of an entry
pub places_push : (entry count : ℕ) → places_at entry (count + 1) ≡ places_at entry count ++ record { entry = entry; item = count } ∷ []
places_push entry count =
    let on : 0 + count ≡ count = omega arith in
    ap {B = List At} (map (λ i. record { entry = entry; item = i })) (range_split 0 count 1)
    ∙ map-append {X = ℕ} {Y = At} (λ i. record { entry = entry; item = i }) (range_with_len 0 count) (range_with_len (0 + count) 1)
    ∙ ap {A = ℕ} {B = List At} (λ k. places_at entry count ++ record { entry = entry; item = k } ∷ []) on

abbrev tail_of : {Z : Type 0} → List Z → List Z
tail_of [] = []
tail_of (z ∷ zs) = zs

-- where each element gives one, there are as many
some_count : {X Y : Type 0} (f : X → Option Y) (xs : List X) (ys : List Y) → map f xs ≡ map (λ y. Some y) ys → length xs ≡ length ys
some_count f [] [] same = refl
some_count f [] (y ∷ ys) same = cc
some_count f (x ∷ xs) [] same = cc
some_count f (x ∷ xs) (y ∷ ys) same = ap suc (some_count f xs ys (ap tail_of same))

module _ {B : Type 0} where
  -- the same, where the trace is numbered from n on
  abbrev index_from : ℕ → ℕ → List (TraceEntry B) → List At
  index_from n phase trace = flat_map outputs_at (filter (λ e. e.1.phase == phase) (enumerate_from n trace))

  -- ---- one entry more

  last_case : (e : TraceEntry B) (n m : ℕ) → n ≡ m → (b : Bool) → flat_map outputs_at (cond b ((n, e) ∷ []) []) ≡ cond b (outputs_at (m, e)) []
  last_case e n m same true = append-nil (outputs_at (n, e)) ∙ ap (λ k. outputs_at (k, e)) same
  last_case e n m same false = refl

  -- an entry adds its outputs to those of its phase
  pub index_push : (phase : ℕ) (trace : List (TraceEntry B)) (e : TraceEntry B) → index_of phase (trace ++ e ∷ []) ≡ index_of phase trace ++ cond (e.phase == phase) (outputs_at (length trace, e)) []
  index_push phase trace e =
      let on : 0 + length trace ≡ length trace = omega arith in
      ap (λ l. flat_map outputs_at (filter (λ e. e.1.phase == phase) l)) (enumerate_push 0 trace e)
      ∙ ap (flat_map outputs_at) (filter-append (λ e. e.1.phase == phase) (enumerate_from 0 trace) ((0 + length trace, e) ∷ []))
      ∙ flat_map-append outputs_at (filter (λ e. e.1.phase == phase) (enumerate_from 0 trace)) (filter (λ e. e.1.phase == phase) ((0 + length trace, e) ∷ []))
      ∙ ap (λ l. index_of phase trace ++ l) (last_case e (0 + length trace) (length trace) on (e.phase == phase))

  noted_case : (job : Job B) (feeds : List (Vec At Global)) (e : TraceEntry B) (f new : Vec At Global) → AreFeeds job feeds → e.phase < length feeds → f ≡ get_or feeds e.phase f → new.items ≡ f.items ++ outputs_at (length job.trace, e)
      → (n : ℕ) (g : Vec At Global) (t : Bool) → e.phase == n ≡ t → slice_get (set feeds e.phase new) n ≡ Some g → g.items ≡ index_of n (job.trace ++ e ∷ [])
  noted_case job feeds e f new are less is more n g true at found =
      let here : e.phase ≡ n = eqb-true e.phase n at in
      let same : new ≡ g = ap (λ o. unwrap_or o new) (sym (slice_set_here feeds e.phase new less) ∙ ap (slice_get (set feeds e.phase new)) here ∙ found) in
      let old : f.items ≡ index_of e.phase job.trace = are.noted e.phase f (slice_get-get_or feeds e.phase f less ∙ ap Some (sym is)) in
      ap (λ (v : Vec At Global). v.items) (sym same) ∙ more
      ∙ ap (λ l. l ++ outputs_at (length job.trace, e)) (old ∙ ap (λ k. index_of k job.trace) here)
      ∙ sym (index_push n job.trace e ∙ ap (λ b. index_of n job.trace ++ cond b (outputs_at (length job.trace, e)) []) at)
  noted_case job feeds e f new are less is more n g false at found =
      are.noted n g (sym (slice_set_else feeds e.phase n new (λ same. true≢false (sym (eq-eqb e.phase n same) ∙ at))) ∙ found)
      ∙ sym (index_push n job.trace e ∙ ap (λ b. index_of n job.trace ++ cond b (outputs_at (length job.trace, e)) []) at ∙ append-nil (index_of n job.trace))

  -- the feeds follow an entry, where its outputs are noted for its phase
  pub feeds_entered : (job : Job B) (feeds : List (Vec At Global)) (e : TraceEntry B) (f new : Vec At Global) → AreFeeds job feeds → e.phase < length feeds → f ≡ get_or feeds e.phase f → new.items ≡ f.items ++ outputs_at (length job.trace, e)
      → AreFeeds (with_entry e job) (set feeds e.phase new)
  feeds_entered job feeds e f new are less is more = record {
    each = length-set feeds e.phase new ∙ are.each;
    noted = λ n g found. noted_case job feeds e f new are less is more n g (e.phase == n) refl found;
  }

  -- and so they do where the job has not its phase
  pub feeds_passed : (job : Job B) (feeds : List (Vec At Global)) (e : TraceEntry B) → AreFeeds job feeds → length feeds ≤ e.phase → AreFeeds (with_entry e job) feeds
  feeds_passed job feeds e are past = record {
    each = are.each;
    noted = λ n g found.
        let other : (e.phase == n) ≡ false = ne_eqb e.phase n (λ same. let less = slice_get_within feeds n g found in absurd (omega (arith, same, less, past))) in
        are.noted n g found
        ∙ sym (index_push n job.trace e ∙ ap (λ b. index_of n job.trace ++ cond b (outputs_at (length job.trace, e)) []) other ∙ append-nil (index_of n job.trace));
  }

  -- ---- what stands there

  one_reads : (front : List (TraceEntry B)) (e : TraceEntry B) (rest : List (TraceEntry B)) → map (item_at (front ++ e ∷ rest)) (outputs_at (length front, e)) ≡ map (λ x. Some x) (items_of e.outcome)
  one_reads front e rest =
      map-map (item_at (front ++ e ∷ rest)) (λ i. record { entry = length front; item = i }) (range_with_len 0 (length (items_of e.outcome)))
      ∙ ap (λ o. map (λ i. option_and_then (λ (d : TraceEntry B). slice_get (items_of d.outcome) i) o) (range_with_len 0 (length (items_of e.outcome)))) (slice_get_behind front e rest)
      ∙ reads_all (items_of e.outcome)

  reads_case : (phase : ℕ) (front : List (TraceEntry B)) (e : TraceEntry B) (rest : List (TraceEntry B)) (b : Bool)
      → map (item_at (front ++ e ∷ rest)) (index_from (length front + 1) phase rest) ≡ map (λ x. Some x) (items_in (entries_of phase rest))
      → map (item_at (front ++ e ∷ rest)) (flat_map outputs_at (cond b ((length front, e) ∷ filter (λ e. e.1.phase == phase) (enumerate_from (length front + 1) rest)) (filter (λ e. e.1.phase == phase) (enumerate_from (length front + 1) rest))))
      ≡ map (λ x. Some x) (items_in (cond b (e ∷ entries_of phase rest) (entries_of phase rest)))
  reads_case phase front e rest true more =
      map-append (item_at (front ++ e ∷ rest)) (outputs_at (length front, e)) (index_from (length front + 1) phase rest)
      ∙ ap (λ l. l ++ map (item_at (front ++ e ∷ rest)) (index_from (length front + 1) phase rest)) (one_reads front e rest)
      ∙ ap (λ l. map (λ x. Some x) (items_of e.outcome) ++ l) more
      ∙ sym (map-append (λ x. Some x) (items_of e.outcome) (items_in (entries_of phase rest)))
  reads_case phase front e rest false more = more

  long_push : (front : List (TraceEntry B)) (e : TraceEntry B) → length (front ++ e ∷ []) ≡ length front + 1
  long_push [] e = omega arith
  long_push (d ∷ ds) e = let more = long_push ds e in omega (arith, more)

  reads_from : (phase : ℕ) (front rest : List (TraceEntry B)) → map (item_at (front ++ rest)) (index_from (length front) phase rest) ≡ map (λ x. Some x) (items_in (entries_of phase rest))
  reads_from phase front [] = refl
  reads_from phase front (e ∷ rest) =
      reads_case phase front e rest (e.phase == phase)
      (ap (λ l. map (item_at l) (index_from (length front + 1) phase rest)) (sym (append_assoc front (e ∷ []) rest))
      ∙ ap (λ n. map (item_at ((front ++ e ∷ []) ++ rest)) (index_from n phase rest)) (sym (long_push front e))
      ∙ reads_from phase (front ++ e ∷ []) rest)

  -- what stands at the places that are noted is what the next phase reads
  pub index_reads : (phase : ℕ) (trace : List (TraceEntry B)) (k : ℕ) → option_and_then (item_at trace) (slice_get (index_of phase trace) k) ≡ slice_get (items_in (entries_of phase trace)) k
  index_reads phase trace k = reads_through (item_at trace) (index_of phase trace) (items_in (entries_of phase trace)) k (reads_from phase [] trace)

  pub index_count : (phase : ℕ) (trace : List (TraceEntry B)) → length (index_of phase trace) ≡ length (items_in (entries_of phase trace))
  index_count phase trace = some_count (item_at trace) (index_of phase trace) (items_in (entries_of phase trace)) (reads_from phase [] trace)

  -- an item of what a phase behind the first reads is read at its place
  pub item_after : (job : Job B) (feeds : List (Vec At Global)) (phase place : ℕ) (f : Vec At Global) → AreFeeds job feeds → 0 < phase → slice_get feeds (phase - 1) ≡ Some f
      → option_and_then (item_at job.trace) (slice_get f.items place) ≡ slice_get (feed job phase) place
  item_after job feeds zero place f are later found = absurd (omega arith)
  item_after job feeds (suc n) place f are later found =
      let here : suc n - 1 ≡ n = omega arith in
      ap (λ l. option_and_then (item_at job.trace) (slice_get l place)) (are.noted n f (ap (slice_get feeds) (sym here) ∙ found)) ∙ index_reads n job.trace place

  -- and so is the number of them
  pub count_after : (job : Job B) (feeds : List (Vec At Global)) (phase : ℕ) (f : Vec At Global) → AreFeeds job feeds → 0 < phase → slice_get feeds (phase - 1) ≡ Some f → length f.items ≡ length (feed job phase)
  count_after job feeds zero f are later found = absurd (omega arith)
  count_after job feeds (suc n) f are later found =
      let here : suc n - 1 ≡ n = omega arith in
      ap length (are.noted n f (ap (slice_get feeds) (sym here) ∙ found)) ∙ index_count n job.trace
