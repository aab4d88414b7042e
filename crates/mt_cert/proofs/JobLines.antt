-- The lines of the certificate of a lawful job are lines, and its text is accepted.
use Rattle.std.proofs.Common.{◌≡◌, ℕ, ◌+◌, ◌<◌, ◌≤◌, ◌^◌, ◌*◌, ◌==◌, zero, suc, Bool, true, false, cond, List, [], ◌∷◌, ◌++◌, map, length, sym, ap, subst, ◌∙◌, arith}
use Rattle.std.specs.Prelude.{◌%◌, All, IfSome}
use Rattle.std.specs.List.{AllByRecursion, enumerate_from, filter, flat_map}
use Rattle.std.proofs.lemmas.Bool.{and_from, le-leb}
use Rattle.std.proofs.lemmas.List.{length-map}
use Rattle.std.proofs.lemmas.List.Concat.{flat_map-cons}
use Rattle.std.proofs.lemmas.List.Elements.{recursion_from_All}
use Rattle.mt_path.specs.AccountPath.{AccountPath, IsPath}
use Rattle.mt_path.proofs.Components.{test_from_IsComponent}
use Rattle.mt_types.specs.Values.{item_with, job_with, outcome_with, trace_entry_with}
use Rattle.mt_types.specs.declared.document.Phase.{Phase}
use Rattle.mt_types.specs.declared.document.PhaseKind.{PhaseKind}
use Rattle.mt_types.specs.declared.document.PhaseKind.TheVariants.{Map, Reduce}
use Rattle.mt_types.specs.declared.job.Outcome.{Outcome}
use Rattle.mt_types.specs.declared.job.Outcome.TheVariants as outcome
use Rattle.mt_model.specs.Types.{Item, Job, MOST_COMMANDS, TraceEntry}
use Rattle.mt_model.specs.Feed.{entries_of, feed, items_of}
use Rattle.mt_model.specs.Finished.{outputs_of}
use Rattle.mt_model.specs.Keeping as limits
use Rattle.mt_model.specs.Lawful.{LawfulItem, LawfulJob}
use Rattle.mt_model.specs.Tasks.{phases_of, reducer_of, share_places}
use Rattle.mt_model.proofs.TasksWith.{feed-with}
use Rattle.mt_certline.specs.Certificate.{Certificate, certificate_of, good_items, lines_of, listed_in, listed_of, reads_of}
use Rattle.mt_certline.specs.Laws.{IsBegin, IsItem, IsLine, IsListed, IsWhole}
use Rattle.mt_certline.specs.declared.line.Line.{Line}
use Rattle.mt_certline.specs.declared.line.Line.TheVariants.{End, Input, Output, Task}
use Rattle.mt_certline.specs.declared.line.Listed.{Listed}
use Rattle.mt_certline.specs.declared.line.Sum.{Sum}
use Rattle.mt_cert.specs.Accepting.{IsHeld, IsSum}

-- ---- lists

pub every_append : {A : Type 0} (P : A → Type 0) (xs ys : List A) → AllByRecursion P xs → AllByRecursion P ys → AllByRecursion P (xs ++ ys)
every_append P [] ys first second = second
every_append P (x ∷ xs) ys first second = (first.0, every_append P xs ys first.1 second)

every_map : {A B : Type 0} (P : B → Type 0) (f : A → B) (xs : List A) → AllByRecursion (λ x. P (f x)) xs → AllByRecursion P (map f xs)
every_map P f [] all = tt
every_map P f (x ∷ xs) all = (all.0, every_map P f xs all.1)

every_filter : {A : Type 0} (P : A → Type 0) (test : A → Bool) (xs : List A) → AllByRecursion P xs → AllByRecursion P (filter test xs)
every_filter P test [] all = tt
every_filter P test (x ∷ xs) all = by (test x) (every_filter P test xs all.1)
  where
    by : (b : Bool) → AllByRecursion P (filter test xs) → AllByRecursion P (cond b (x ∷ filter test xs) (filter test xs))
    by true more = (all.0, more)
    by false more = more

every_concat : {A B : Type 0} (P : B → Type 0) (f : A → List B) (xs : List A) → AllByRecursion (λ x. AllByRecursion P (f x)) xs → AllByRecursion P (flat_map f xs)
every_concat P f [] all = tt
every_concat P f (x ∷ xs) all = subst (AllByRecursion P) (sym (flat_map-cons f x xs)) (every_append P (f x) (flat_map f xs) all.0 (every_concat P f xs all.1))

every_each : {A : Type 0} (P : A → Type 0) → ((x : A) → P x) → (xs : List A) → AllByRecursion P xs
every_each P each [] = tt
every_each P each (x ∷ xs) = (each x, every_each P each xs)

every_both : {A : Type 0} (P Q R : A → Type 0) → ((x : A) → P x → Q x → R x) → (xs : List A) → AllByRecursion P xs → AllByRecursion Q xs → AllByRecursion R xs
every_both P Q R f [] ps qs = tt
every_both P Q R f (x ∷ xs) ps qs = (f x ps.0 qs.0, every_both P Q R f xs ps.1 qs.1)

-- places below a bound, beside what stands there
places_below : {A : Type 0} (n m : ℕ) (xs : List A) → n + length xs ≤ m → AllByRecursion (λ (p : ℕ × A). p.0 < m) (enumerate_from n xs)
places_below n m [] fits = tt
places_below n m (x ∷ xs) fits = (omega (arith, fits), places_below (n + 1) m xs (omega (arith, fits)))

module _ {B : Type 0} (sum_of : B → Sum) where
  -- ---- items

  item_is : (i : Item B) → LawfulItem i → limits.IsItem i → IsSum (sum_of i.body) → IsItem (item_with sum_of i)
  item_is i lawful kept sum = record {
    digest = sum.digest;
    name = lawful.name;
    reducer = kept;
    root = and_from _ _ (le-leb (length i.root) 200 lawful.short) (test_from_IsComponent i.root lawful.component);
    size = sum.size;
  }

  items_are : (is : List (Item B)) → AllByRecursion LawfulItem is → AllByRecursion limits.IsItem is → AllByRecursion (λ i. IsSum (sum_of i.body)) is → AllByRecursion IsItem (map (item_with sum_of) is)
  items_are [] lawful kept sums = tt
  items_are (i ∷ is) lawful kept sums = (item_is i lawful.0 kept.0 sums.0, items_are is lawful.1 kept.1 sums.1)

  -- the outputs of a task
  outcome_is : (o : Outcome B) → AllByRecursion LawfulItem (items_of o) → limits.IsOutcome o → AllByRecursion (λ i. IsSum (sum_of i.body)) (items_of o) → AllByRecursion IsItem (items_of (outcome_with sum_of o))
  outcome_is (outcome.Good items) lawful kept sums = items_are items lawful kept sums
  outcome_is (outcome.Bad failure status stderr) lawful kept sums = tt

  some_items : (o : Outcome Sum) → AllByRecursion IsItem (items_of o) → IfSome (good_items o) (AllByRecursion IsItem)
  some_items (outcome.Good items) all = all
  some_items (outcome.Bad failure status stderr) all = tt

  -- ---- a job

  module _ (count : ℕ) (job : Job B) (few : count ≤ MOST_COMMANDS) (lawful : LawfulJob count job) (kept : limits.IsJob job) (held : IsHeld B sum_of job) where
    abbrev known : Job Sum
    known = job_with sum_of job

    -- an entry of the trace, in numbers that a line can hold
    record IsEntry (e : TraceEntry Sum) : Type 0 where
      phase : IsWhole e.phase
      place : IsWhole e.place
      position : IsWhole e.position
      items : AllByRecursion IsItem (items_of e.outcome)

    entries_are : (es : List (TraceEntry B)) → AllByRecursion (λ e. IsWhole e.phase) es → AllByRecursion (λ e. IsWhole e.place) es → AllByRecursion (λ e. e.position < count) es
        → AllByRecursion (λ e. AllByRecursion LawfulItem (items_of e.outcome)) es → AllByRecursion (λ e. limits.IsOutcome e.outcome) es
        → AllByRecursion (λ e. AllByRecursion (λ i. IsSum (sum_of i.body)) (items_of e.outcome)) es → AllByRecursion IsEntry (map (trace_entry_with sum_of) es)
    entries_are [] phases places positions items outcomes sums = tt
    entries_are (e ∷ es) phases places positions items outcomes sums =
        let below : e.position < count = positions.0 in
        let most : count ≤ 1125899906842623 = few in (
          record { phase = phases.0; place = places.0; position = omega (arith, below, most); items = outcome_is e.outcome items.0 outcomes.0 sums.0 },
          entries_are es phases.1 places.1 positions.1 items.1 outcomes.1 sums.1,
        )

    lawful_outputs : (es : List (TraceEntry B)) → AllByRecursion (λ e. All LawfulItem (items_of e.outcome)) es → AllByRecursion (λ e. AllByRecursion LawfulItem (items_of e.outcome)) es
    lawful_outputs [] all = tt
    lawful_outputs (e ∷ es) all = (recursion_from_All LawfulItem (items_of e.outcome) all.0, lawful_outputs es all.1)

    trace_is : AllByRecursion IsEntry known.trace
    trace_is = entries_are job.trace held.phases held.places (recursion_from_All (λ e. e.position < count) job.trace lawful.positions)
        (lawful_outputs job.trace (recursion_from_All (λ e. All LawfulItem (items_of e.outcome)) job.trace lawful.outputs)) kept.outcomes held.outputs

    inputs_are : AllByRecursion IsItem known.inputs
    inputs_are = items_are job.inputs (recursion_from_All LawfulItem job.inputs lawful.inputs) kept.inputs held.inputs

    -- ---- what tasks read

    reads_whole : (kind : PhaseKind) (items : List (Item Sum)) (place : ℕ) → length items < 2 ^ 64 → IsWhole place → AllByRecursion IsWhole (reads_of kind items place)
    reads_whole Map items place short is = (is, tt)
    reads_whole (Reduce reducers) items place short is =
        every_map IsWhole (λ p. p.0) (share_places items reducers place)
        (every_filter (λ p. IsWhole p.0) (λ p. reducer_of p % reducers == place) (enumerate_from 0 items) (places_below 0 (2 ^ 64) items (omega (arith, short))))

    feed_long : (n : ℕ) → length (feed known n) ≡ length (feed job n)
    feed_long zero = length-map job.inputs (item_with sum_of)
    feed_long (suc n) = ap length (feed-with sum_of job (suc n)) ∙ length-map (feed job (suc n)) (item_with sum_of)

    listed_is : (p : ℕ × Phase) (e : TraceEntry Sum) → IsEntry e → IsListed (listed_of known p e)
    listed_is p e is =
        let short : length (feed job p.0) < 2 ^ 64 = held.feeds p.0 in
        record {
          phase = is.phase;
          place = is.place;
          position = is.position;
          outputs = some_items e.outcome is.items;
          reads = reads_whole p.1.kind (feed known p.0) e.place (subst (λ n. n < 2 ^ 64) (sym (feed_long p.0)) short) is.place;
        }

    each_listed : (p : ℕ × Phase) (es : List (TraceEntry Sum)) → AllByRecursion IsEntry es → AllByRecursion (λ e. IsListed (listed_of known p e)) es
    each_listed p [] all = tt
    each_listed p (e ∷ es) all = (listed_is p e all.0, each_listed p es all.1)

    tasks_are : AllByRecursion IsListed (certificate_of known).tasks
    tasks_are = every_concat IsListed (listed_in known) (phases_of known) (every_each (λ p. AllByRecursion IsListed (listed_in known p))
        (λ p. every_map IsListed (listed_of known p) (entries_of p.0 known.trace) (each_listed p (entries_of p.0 known.trace) (every_filter IsEntry (λ e. e.phase == p.0) known.trace trace_is))) (phases_of known))

    -- ---- names

    feed_items : (n : ℕ) → AllByRecursion IsItem (feed known n)
    feed_items zero = inputs_are
    feed_items (suc n) = every_concat IsItem (λ e. items_of e.outcome) (entries_of n known.trace) (only_items (entries_of n known.trace) (every_filter IsEntry (λ e. e.phase == n) known.trace trace_is))
      where
        only_items : (es : List (TraceEntry Sum)) → AllByRecursion IsEntry es → AllByRecursion (λ e. AllByRecursion IsItem (items_of e.outcome)) es
        only_items [] all = tt
        only_items (e ∷ es) all = (all.0.items, only_items es all.1)

    names_are : (is : List (Item Sum)) → AllByRecursion IsItem is → AllByRecursion IsPath (map (λ i. i.name) is)
    names_are [] all = tt
    names_are (i ∷ is) all = (all.0.name, names_are is all.1)

    -- ---- the lines

    begin_is : IsBegin known.number known.document.phases
    begin_is =
        let below : job.number < count * 4096 = lawful.number.below in
        let most : count ≤ 1125899906842623 = few in
        record {
          number = omega (arith, below, most);
          document = record { some = lawful.document.some; few = lawful.document.few; phases = lawful.document.phases };
          texts = held.texts;
        }

    input_lines : (is : List (Item Sum)) → AllByRecursion IsItem is → AllByRecursion IsLine (map (λ i. Input i) is)
    input_lines [] all = tt
    input_lines (i ∷ is) all = (all.0, input_lines is all.1)

    task_lines : (ts : List Listed) → AllByRecursion IsListed ts → AllByRecursion IsLine (map (λ l. Task l) ts)
    task_lines [] all = tt
    task_lines (t ∷ ts) all = (all.0, task_lines ts all.1)

    output_lines : (ps : List AccountPath) → AllByRecursion IsPath ps → AllByRecursion IsLine (map (λ p. Output p) ps)
    output_lines [] all = tt
    output_lines (p ∷ ps) all = (all.0, output_lines ps all.1)

    pub lines_are : AllByRecursion IsLine (lines_of (certificate_of known))
    lines_are =
        let c : Certificate = certificate_of known in
        let is : List Line = map (λ i. Input i) c.inputs in
        let ts : List Line = map (λ l. Task l) c.tasks in
        let ps : List Line = map (λ p. Output p) c.outputs in (
          begin_is,
          every_append IsLine ((is ++ ts) ++ ps) (End ∷ []) (every_append IsLine (is ++ ts) ps (every_append IsLine is ts (input_lines c.inputs inputs_are) (task_lines c.tasks tasks_are))
              (output_lines c.outputs (names_are (outputs_of known) (feed_items (length job.document.phases))))) (tt, tt),
        )
