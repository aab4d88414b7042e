-- The lines of a job over references, part by part, are those of its certificate.
use Rattle.std.proofs.Common.{◌≡◌, ℕ, ◌+◌, ◌<◌, ◌≤◌, ◌==◌, ◌%◌, suc, Bool, true, false, cond, List, [], ◌∷◌, ◌++◌, map, length, get_or, drop, refl, sym, ap, ◌∙◌, arith, ne_eqb}
use Rattle.std.specs.Prelude.{◌⊎◌, unwrap_or}
use Rattle.std.proofs.Common.{inl, inr}
use Rattle.std.specs.List.{enumerate_from, filter, flat_map, range_with_len, slice_get}
use Rattle.std.proofs.lemmas.List.{drop_more}
use Rattle.std.proofs.lemmas.Bool.{cases_lt}
use Rattle.std.proofs.lemmas.List.Concat.{flat_map-cons}
use Rattle.std.proofs.lemmas.List.FromFn.{length-range_with_len}
use Rattle.std.proofs.lemmas.Nat.{mod_below}
use Rattle.std.proofs.lemmas.Option.{slice_get_past}
use Rattle.mt_types.specs.Values.{item_with, job_with, outcome_with, trace_entry_with}
use Rattle.mt_types.specs.declared.document.Phase.{Phase}
use Rattle.mt_types.specs.declared.document.PhaseKind.{PhaseKind}
use Rattle.mt_types.specs.declared.document.PhaseKind.TheVariants.{Map, Reduce}
use Rattle.mt_model.specs.Types.{AccountPath, Body, Item, Job, TraceEntry}
use Rattle.mt_model.specs.Feed.{entries_of, feed, items_in, items_of}
use Rattle.mt_model.specs.Tasks.{reducer_of}
use Rattle.mt_model.proofs.Maps.{length-map, map-append, map-map}
use Rattle.mt_model.proofs.TasksWith.{entries_of-with, feed-with}
use Rattle.mt_certline.specs.Certificate.{good_items, listed_in, listed_of, reads_of}
use Rattle.mt_certline.specs.declared.line.Line.{Line}
use Rattle.mt_certline.specs.declared.line.Line.TheVariants.{Input, Output, Task}
use Rattle.mt_certline.specs.declared.line.Listed.{Listed}
use Rattle.mt_certline.specs.declared.line.Sum.{Sum}
use Rattle.mt_feeds.specs.FedJob.{all_shares, lists_of, share_numbers}
use Rattle.mt_feeds.proofs.Laid.{share_at}
use Rattle.mt_cert.specs.Certifying.{sum_of_body}
use Rattle.mt_cert.specs.Reading.{AreLaid, IsOpened, certificate_in, given_lines, input_lines, listed_by, output_lines, reads_by, task_lines}
use Rattle.mt_cert.specs.declared.shares.Opened.{Opened}

-- ---- a loop over a list

-- the element that is next, and those behind it
pub next_of : {A : Type 0} (xs : List A) (i : ℕ) (x : A) → i < length xs → x ≡ get_or xs i x → drop i xs ≡ x ∷ drop (i + 1) xs
next_of xs i x less is = drop_more xs i x less ∙ ap (λ y. y ∷ drop (i + 1) xs) (sym is)

-- ---- committed tasks

entries_next : (phase : ℕ) (e : TraceEntry Body) (es : List (TraceEntry Body)) (b : Bool) → e.phase == phase ≡ b → entries_of phase (e ∷ es) ≡ cond b (e ∷ entries_of phase es) (entries_of phase es)
entries_next phase e es b is = ap (λ t. cond t (e ∷ entries_of phase es) (entries_of phase es)) is

module _ (xs : List (TraceEntry Body)) (i : ℕ) (e : TraceEntry Body) (next : drop i xs ≡ e ∷ drop (i + 1) xs) where
  pub task_next : (o : Opened) → e.phase == o.phase ≡ true → task_lines o (drop i xs) ≡ (Task (listed_by o.kind (lists_of o.shares) e) ∷ []) ++ task_lines o (drop (i + 1) xs)
  task_next o is =
      let line : TraceEntry Body → Line = λ e. Task (listed_by o.kind (lists_of o.shares) e) in
      ap (task_lines o) next ∙ ap (map line) (entries_next o.phase e (drop (i + 1) xs) true is)

  pub task_other : (o : Opened) → e.phase == o.phase ≡ false → task_lines o (drop i xs) ≡ [] ++ task_lines o (drop (i + 1) xs)
  task_other o is =
      let line : TraceEntry Body → Line = λ e. Task (listed_by o.kind (lists_of o.shares) e) in
      ap (task_lines o) next ∙ ap (map line) (entries_next o.phase e (drop (i + 1) xs) false is)

  pub given_next : (phase : ℕ) → e.phase == phase ≡ true → given_lines phase (drop i xs) ≡ output_lines (items_of e.outcome) ++ given_lines phase (drop (i + 1) xs)
  given_next phase is =
      ap (given_lines phase) next
      ∙ (ap (λ es. output_lines (items_in es)) (entries_next phase e (drop (i + 1) xs) true is)
      ∙ (ap output_lines (flat_map-cons (λ (e : TraceEntry Body). items_of e.outcome) e (entries_of phase (drop (i + 1) xs)))
      ∙ map-append (λ (i : Item Body). Output i.name) (items_of e.outcome) (items_in (entries_of phase (drop (i + 1) xs)))))

  pub given_other : (phase : ℕ) → e.phase == phase ≡ false → given_lines phase (drop i xs) ≡ [] ++ given_lines phase (drop (i + 1) xs)
  given_other phase is = ap (given_lines phase) next ∙ ap (λ es. output_lines (items_in es)) (entries_next phase e (drop (i + 1) xs) false is)

  pub items_next : (phase : ℕ) → e.phase == phase ≡ true → items_in (entries_of phase (drop i xs)) ≡ items_of e.outcome ++ items_in (entries_of phase (drop (i + 1) xs))
  items_next phase is =
      ap (λ es. items_in (entries_of phase es)) next
      ∙ (ap items_in (entries_next phase e (drop (i + 1) xs) true is)
      ∙ flat_map-cons (λ (e : TraceEntry Body). items_of e.outcome) e (entries_of phase (drop (i + 1) xs)))

  pub items_other : (phase : ℕ) → e.phase == phase ≡ false → items_in (entries_of phase (drop i xs)) ≡ items_in (entries_of phase (drop (i + 1) xs))
  items_other phase is = ap (λ es. items_in (entries_of phase es)) next ∙ ap items_in (entries_next phase e (drop (i + 1) xs) false is)

-- ---- what a task reads

numbers_from : (count place n : ℕ) (items : List (Item Body)) → map (λ p. p.0) (filter (λ p. reducer_of p % count == place) (enumerate_from n (map (item_with sum_of_body) items)))
    ≡ map (λ p. p.0) (filter (λ p. reducer_of p % count == place) (enumerate_from n items))
numbers_from count place n [] = refl
numbers_from count place n (i ∷ is) = by (reducer_of (n, i) % count == place) (numbers_from count place (n + 1) is)
  where
    by : (b : Bool) → map (λ p. p.0) (filter (λ p. reducer_of p % count == place) (enumerate_from (n + 1) (map (item_with sum_of_body) is))) ≡ map (λ p. p.0) (filter (λ p. reducer_of p % count == place) (enumerate_from (n + 1) is))
        → map (λ p. p.0) (cond b ((n, item_with sum_of_body i) ∷ filter (λ p. reducer_of p % count == place) (enumerate_from (n + 1) (map (item_with sum_of_body) is))) (filter (λ p. reducer_of p % count == place) (enumerate_from (n + 1) (map (item_with sum_of_body) is))))
        ≡ map (λ p. p.0) (cond b ((n, i) ∷ filter (λ p. reducer_of p % count == place) (enumerate_from (n + 1) is)) (filter (λ p. reducer_of p % count == place) (enumerate_from (n + 1) is)))
    by true more = ap (λ l. n ∷ l) more
    by false more = more

-- past the last reducer none is read
none_past : (count place n : ℕ) (items : List (Item Body)) → 0 < count → count ≤ place → map (λ p. p.0) (filter (λ p. reducer_of p % count == place) (enumerate_from n items)) ≡ []
none_past count place n [] some past = refl
none_past count place n (i ∷ is) some past =
    let less : reducer_of (n, i) % count < count = mod_below (reducer_of (n, i)) count some in
    let off : reducer_of (n, i) % count == place ≡ false = ne_eqb (reducer_of (n, i) % count) place (λ e. omega (arith, e, less, past)) in
    ap (λ b. map (λ (p : ℕ × Item Body). p.0) (cond b ((n, i) ∷ filter (λ p. reducer_of p % count == place) (enumerate_from (n + 1) is)) (filter (λ p. reducer_of p % count == place) (enumerate_from (n + 1) is)))) off
    ∙ none_past count place (n + 1) is some past

shared : (items : List (Item Body)) (count place : ℕ) → 0 < count → unwrap_or (slice_get (all_shares items count) place) [] ≡ share_numbers items count place
shared items count place some = by (cases_lt place count)
  where
    by : (place < count) ⊎ (count ≤ place) → unwrap_or (slice_get (all_shares items count) place) [] ≡ share_numbers items count place
    by (inl less) = ap (λ o. unwrap_or o []) (share_at items count place less)
    by (inr past) =
        let long : length (all_shares items count) ≡ count = length-map (share_numbers items count) (range_with_len 0 count) ∙ length-range_with_len 0 count in
        ap (λ o. unwrap_or o []) (slice_get_past (all_shares items count) place (omega (arith, long, past))) ∙ sym (none_past count place 0 items some past)

-- by the shares that are laid out, a task reads its places
reads_same : (kind : PhaseKind) (items : List (Item Body)) (lists : List (List ℕ)) (place : ℕ) → AreLaid kind items lists → reads_by kind lists place ≡ reads_of kind (map (item_with sum_of_body) items) place
reads_same Map items lists place laid = refl
reads_same (Reduce count) items lists place laid =
    ap (λ ls. unwrap_or (slice_get ls place) []) laid.1 ∙ (shared items count place laid.0 ∙ sym (numbers_from count place 0 items))

map_same : {A B : Type 0} (f g : A → B) → ((x : A) → f x ≡ g x) → (xs : List A) → map f xs ≡ map g xs
map_same f g same [] = refl
map_same f g same (x ∷ xs) = ap (λ y. y ∷ map f xs) (same x) ∙ ap (λ l. g x ∷ l) (map_same f g same xs)

module _ (job : Job Body) where
  abbrev known : Job Sum
  known = job_with sum_of_body job

  abbrev entry : TraceEntry Body → TraceEntry Sum
  entry = trace_entry_with sum_of_body

  listed_same : (n : ℕ) (p : Phase) (o : Opened) → IsOpened n p.kind (feed job n) o → (e : TraceEntry Body) → listed_by o.kind (lists_of o.shares) e ≡ listed_of known (n, p) (entry e)
  listed_same n p o is e =
      let with_reads : List ℕ → Listed = λ r. record { phase = e.phase; place = e.place; position = e.position; outputs = good_items (outcome_with sum_of_body e.outcome); reads = r } in
      ap (λ k. with_reads (reads_by k (lists_of o.shares) e.place)) is.kind_is
      ∙ (ap with_reads (reads_same p.kind (feed job n) (lists_of o.shares) e.place is.laid)
      ∙ ap (λ items. with_reads (reads_of p.kind items e.place)) (sym (feed-with sum_of_body job n)))

  -- the tasks of a phase
  pub tasks_listed : (n : ℕ) (p : Phase) (o : Opened) → IsOpened n p.kind (feed job n) o → task_lines o job.trace ≡ map (λ l. Task l) (listed_in known (n, p))
  tasks_listed n p o is =
      let lists : List (List ℕ) = lists_of o.shares in
      map_same (λ e. Task (listed_by o.kind lists e)) (λ e. Task (listed_of known (n, p) (entry e))) (λ e. ap (λ l. Task l) (listed_same n p o is e)) (entries_of o.phase job.trace)
      ∙ (ap (λ m. map (λ (e : TraceEntry Body). Task (listed_of known (n, p) (entry e))) (entries_of m job.trace)) is.phase_is
      ∙ (sym (map-map (λ (e : TraceEntry Sum). Task (listed_of known (n, p) e)) entry (entries_of n job.trace))
      ∙ (ap (map (λ (e : TraceEntry Sum). Task (listed_of known (n, p) e))) (sym (entries_of-with sum_of_body n job.trace))
      ∙ sym (map-map (λ (l : Listed). Task l) (listed_of known (n, p)) (entries_of n known.trace)))))

  -- those of the phases from one on
  abbrev pub tasks_from : ℕ → List Phase → List Line
  tasks_from n ps = map (λ l. Task l) (flat_map (listed_in known) (enumerate_from n ps))

  pub phase_next : (i : ℕ) (p : Phase) → drop i job.document.phases ≡ p ∷ drop (i + 1) job.document.phases
      → tasks_from i (drop i job.document.phases) ≡ map (λ l. Task l) (listed_in known (i, p)) ++ tasks_from (i + 1) (drop (i + 1) job.document.phases)
  phase_next i p next =
      let more : List (ℕ × Phase) = enumerate_from (i + 1) (drop (i + 1) job.document.phases) in
      ap (tasks_from i) next ∙ (ap (map (λ (l : Listed). Task l)) (flat_map-cons (listed_in known) (i, p) more)
      ∙ map-append (λ (l : Listed). Task l) (listed_in known (i, p)) (flat_map (listed_in known) more))

  -- the inputs
  pub inputs_listed : input_lines job.inputs ≡ map (λ i. Input i) (certificate_in job).inputs
  inputs_listed = sym (map-map (λ (i : Item Sum). Input i) (item_with sum_of_body) job.inputs)

  names_listed : (items : List (Item Body)) → output_lines items ≡ map (λ p. Output p) (map (λ i. i.name) (map (item_with sum_of_body) items))
  names_listed [] = refl
  names_listed (i ∷ is) = ap (λ l. Output i.name ∷ l) (names_listed is)

  -- the outputs
  pub outputs_listed : (last : ℕ) → length job.document.phases ≡ suc last → given_lines last job.trace ≡ map (λ p. Output p) (certificate_in job).outputs
  outputs_listed last is =
      names_listed (feed job (suc last))
      ∙ (ap (λ items. map (λ (p : AccountPath). Output p) (map (λ (i : Item Sum). i.name) items)) (sym (feed-with sum_of_body job (suc last)))
      ∙ ap (λ n. map (λ (p : AccountPath). Output p) (map (λ (i : Item Sum). i.name) (feed known n))) (sym is))
