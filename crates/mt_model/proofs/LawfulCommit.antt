-- A commit keeps a state lawful: what its records make belongs where it stands.
use Rattle.std.proofs.Common.{◌≡◌, ℕ, ◌+◌, ◌-◌, ◌==◌, ◌^◌, ◌<◌, ◌≤◌, Bool, true, false, cond, not, ◌&&◌, ◌||◌, nat_lt, List, [], ◌∷◌, ◌++◌, length, map, Option, Some, None, refl, sym, ap, subst, ◌∙◌, arith, true≢false, codes, bytes_eq, zero, suc, inl, inr, drop, eq-eqb}
use Rattle.std.specs.Prelude.{All, ⊤, Result, Ok, Err, is_some}
use Rattle.std.specs.List.{AllByRecursion, list_any, range_with_len, slice_get}
use Rattle.std.specs.Option.{option_map, option_map_or, unwrap_or}
use Rattle.std.proofs.lemmas.Bool.{ltb-true}
use Rattle.std.proofs.lemmas.List.Elements.{All-nil, All-head, All-tail, All-push, All-append}
use Rattle.std.proofs.lemmas.Slice.Eq.{bytes_eq-Decides}
use Rattle.std.proofs.lemmas.Option.{slice_get_within}
use Rattle.mt_ident.specs.Identifiers.{identifier_number, identifier_text}
use Rattle.mt_path.specs.AccountPath.{AccountPath, IsComponent, IsPath}
use Rattle.mt_path.specs.declared.area.Area.{Area}
use Rattle.mt_path.specs.declared.area.Area.TheVariants.{Stor, Public, Jobs}
use Rattle.mt_types.specs.WellMade.{IsWellMadeFate, IsWellMadeRecord}
use Rattle.mt_types.specs.declared.document.Phase.{Phase}
use Rattle.mt_types.specs.declared.document.PhaseKind.{PhaseKind}
use Rattle.mt_types.specs.declared.document.PhaseKind.TheVariants.{Map, Reduce}
use Rattle.mt_types.specs.declared.job.Item.{Item}
use Rattle.mt_types.specs.declared.job.Job.{Job}
use Rattle.mt_types.specs.declared.job.TraceEntry.{TraceEntry}
use Rattle.mt_types.specs.declared.limits.TheConstants.{MOST_COMMANDS}
use Rattle.mt_types.specs.declared.object.Entry.{Entry}
use Rattle.mt_types.specs.declared.object.Entry.TheVariants as entry
use Rattle.mt_types.specs.declared.object.Object.{Object}
use Rattle.mt_types.specs.declared.task.Fate.{Fate}
use Rattle.mt_types.specs.declared.task.Fate.TheVariants as fate
use Rattle.mt_types.specs.declared.task.TaskFailure.{TaskFailure}
use Rattle.mt_types.specs.declared.task.TaskFailure.TheVariants.{TaskPlaceRefused}
use Rattle.mt_types.specs.declared.task.TaskRecord.{TaskRecord}
use Rattle.mt_types.specs.declared.task.TaskRecord.TheVariants.{Emit, Keep, Ref}
use Rattle.mt_model.specs.Feed.{entries_of, feed, items_in, items_of}
use Rattle.mt_model.specs.JobSteps.{commit_refusal, with_entry}
use Rattle.mt_model.specs.Lawful.{HasFolders, LawfulItem, IsBelow, LawfulJob, fits_below, is_output, job_named}
use Rattle.mt_model.specs.Names.{ends_in_output, is_task_place, job_name, output_prefix, paths_above}
use Rattle.mt_model.specs.Resolve.{Committing, Resolved, Taken, and_then, can_hold_object, fresh_place, is_object_at, kept, next_number, resolve, resolved, take_placed, take_record, take_records, take_reference, task_object, with_output}
use Rattle.mt_model.specs.Rows.{Rows, at, is_directory, object_at, object_in}
use Rattle.mt_model.specs.Tasks.{is_running, is_task_of, may_begin, may_run, root_at, task_count}
use Rattle.mt_model.proofs.Entry.{holds_if, sound_entry}
use Rattle.mt_model.proofs.LawfulClose.{or_left, or_right, word}
use Rattle.mt_model.proofs.LawfulInputs.{and_left, and_right, or_none}
use Rattle.mt_model.proofs.LawfulJobs.{LawfulJob-later}
use Rattle.mt_model.proofs.LawfulNames.{output_is_path, output_number}
use Rattle.mt_model.proofs.LawfulPuts.{Belongs, IsReady, Made, Whole, front, placed_whole}
use Rattle.mt_model.proofs.RowLaws.{neither, not_refused}
use Rattle.mt_model.proofs.Shares.{beyond}

not_true : (b : Bool) → not b ≡ true → b ≡ false
not_true true e = cc
not_true false e = refl

pub none_at : {X : Type 0} (t : X → Bool) (f : ℕ → X) (a n k : ℕ) → list_any t (map f (range_with_len a n)) ≡ false → k < n → t (f (a + k)) ≡ false
none_at t f a zero k none less = absurd (omega arith)
none_at t f a (suc n) zero none less = let same : a ≡ a + 0 = omega arith in subst (λ m. t (f m) ≡ false) same (or_none (t (f a)) _ none).0
none_at t f a (suc n) (suc k) none less =
    let same : a + 1 + k ≡ a + suc k = omega arith in
    subst (λ m. t (f m) ≡ false) same (none_at t f (a + 1) n k (or_none (t (f a)) _ none).1 (omega arith))

module _ {B : Type 0} (count : ℕ) (room : count < MOST_COMMANDS) (jobs : List (Job B)) (j : Job B) (found : (P : Job B → Type 0) → All P jobs → P j) (named : job_named jobs (job_name j.number) ≡ Some j)
    (phase : ℕ) (few : phase < 16) (root : List ℕ) (component : IsComponent root) (short : length root ≤ 200) (moment : ℕ) where
  abbrev m : ℕ
  m = count + 1

  abbrev c : Committing
  c = record { job = j.number; phase = phase; root = root; position = count; moment = moment }

  -- ---- below `stor` of the job

  abbrev below_stor : List ℕ → List (List ℕ) → AccountPath
  below_stor name rest = record { area = Jobs; parts = job_name j.number ∷ codes "stor" ∷ name ∷ rest }

  fits_here : (name : List ℕ) (rest : List (List ℕ)) (e : Entry B) → (not (ends_in_output name) || is_output name rest e) ≡ true → fits_below (job_named jobs (job_name j.number)) (codes "stor" ∷ name ∷ rest) e ≡ true
  fits_here name rest e is = ap (λ o. fits_below o (codes "stor" ∷ name ∷ rest) e) named ∙ is

  belongs_below : (name : List ℕ) (rest : List (List ℕ)) (e : Entry B) → (not (ends_in_output name) || is_output name rest e) ≡ true → Belongs m jobs (below_stor name rest) e
  belongs_below name rest e is = inr (record { id = job_name j.number; first = codes "stor"; second = name; more = rest; is = refl; fits = fits_here name rest e is })

  root_there : (rows : Rows B) → Whole m jobs rows → is_directory (at rows (record { area = Jobs; parts = [] })) ≡ true
  root_there rows w = w.rows_are.tree.roots Jobs

  folder_there : (rows : Rows B) → Whole m jobs rows → is_directory (at rows (record { area = Jobs; parts = job_name j.number ∷ [] })) ≡ true
  folder_there rows w = (found (HasFolders rows) w.jobs_are.folders).folder

  stor_there : (rows : Rows B) → Whole m jobs rows → is_directory (at rows (record { area = Jobs; parts = job_name j.number ∷ codes "stor" ∷ [] })) ≡ true
  stor_there rows w = (found (HasFolders rows) w.jobs_are.folders).stor

  ready_below : (name : List ℕ) (rest : List (List ℕ)) → not (ends_in_output name) ≡ true → (k : ℕ) → IsReady m jobs (below_stor name rest) k
  ready_below name rest is zero = inl root_there
  ready_below name rest is (suc zero) = inl folder_there
  ready_below name rest is (suc (suc zero)) = inl stor_there
  ready_below name rest is (suc (suc (suc k))) = inr (λ t. belongs_below name _ (entry.Directory t) (or_left (not (ends_in_output name)) _ is))

  ready_output : (name : List ℕ) (k : ℕ) → k < 3 → IsReady m jobs (below_stor name []) k
  ready_output name zero less = inl root_there
  ready_output name (suc zero) less = inl folder_there
  ready_output name (suc (suc zero)) less = inl stor_there
  ready_output name (suc (suc (suc k))) less = absurd (omega arith)

  -- ---- a place that a record names

  record IsPlace (p : AccountPath) : Type 0 where
    ready : (k : ℕ) → k < length p.parts → IsReady m jobs p k
    belongs : (o : Object B) → Belongs m jobs p (entry.Object o)
    some : 0 < length p.parts

  some_parts : (area : Area) (parts : List (List ℕ)) → is_task_place j.number area parts ≡ true → 0 < length parts
  some_parts Stor [] t = cc
  some_parts Public [] t = cc
  some_parts Jobs [] t = cc
  some_parts Stor (x ∷ xs) t = omega arith
  some_parts Public (x ∷ xs) t = omega arith
  some_parts Jobs (x ∷ xs) t = omega arith

  place_below : (name : List ℕ) (rest : List (List ℕ)) → not (ends_in_output name) ≡ true → IsPlace (below_stor name rest)
  place_below name rest is = record {
    ready = λ k less. ready_below name rest is k;
    belongs = λ o. belongs_below name rest (entry.Object o) (or_left (not (ends_in_output name)) _ is);
    some = omega arith;
  }

  is_place : (area : Area) (parts : List (List ℕ)) → is_task_place j.number area parts ≡ true → IsPlace (record { area = area; parts = parts })
  is_place Stor parts t = record { ready = λ k less. inr (λ x. inl refl); belongs = λ o. inl refl; some = some_parts Stor parts t }
  is_place Public parts t = record { ready = λ k less. inr (λ x. inl refl); belongs = λ o. inl refl; some = some_parts Public parts t }
  is_place Jobs [] t = cc
  is_place Jobs (id ∷ []) t = cc
  is_place Jobs (id ∷ folder ∷ []) t = cc
  is_place Jobs (id ∷ folder ∷ name ∷ rest) t =
      let front_two : (bytes_eq id (job_name j.number) && bytes_eq folder (codes "stor")) ≡ true = and_left _ _ t in
      let id_is : id ≡ job_name j.number = (bytes_eq-Decides id (job_name j.number)).0 (and_left _ _ front_two) in
      let folder_is : folder ≡ codes "stor" = (bytes_eq-Decides folder (codes "stor")).0 (and_right (bytes_eq id (job_name j.number)) _ front_two) in
      let ends : not (ends_in_output name) ≡ true = and_right (bytes_eq id (job_name j.number) && bytes_eq folder (codes "stor")) _ t in
      subst (λ x. IsPlace (record { area = Jobs; parts = x ∷ folder ∷ name ∷ rest })) (sym id_is)
      (subst (λ y. IsPlace (record { area = Jobs; parts = job_name j.number ∷ y ∷ name ∷ rest })) (sym folder_is) (place_below name rest ends))

  -- ---- what is taken stays good

  record Good (k : ℕ) (t : Taken B) : Type 0 where
    whole : Whole m jobs t.rows
    items : All LawfulItem t.items
    made : t.made ≤ k

  abbrev GoodResult : ℕ → Result (Taken B) TaskFailure → Type 0
  GoodResult k (Ok t) = Good k t
  GoodResult k (Err failure) = ⊤

  later_good : (k : ℕ) (t : Taken B) → Good k t → Good (k + 1) t
  later_good k t g = record { whole = g.whole; items = g.items; made = let le : t.made ≤ k = g.made in omega arith }

  output_good : (k : ℕ) (t : Taken B) (name : AccountPath) (body : B) (reducer : Option ℕ) → IsPath name → Good k t → Good k (with_output c name body reducer t)
  output_good k t name body reducer path g = record {
    whole = g.whole;
    items = All-push LawfulItem t.items (record { name = name; root = root; body = body; reducer = reducer }) g.items (record { name = path; component = component; short = short });
    made = g.made;
  }

  number_below : (k : ℕ) (t : Taken B) → Good k t → k < 4096 → IsBelow m (next_number c t)
  number_below k t g less = let le : t.made ≤ k = g.made in omega (arith, le, less)

  kept_good : (k : ℕ) (t : Taken B) (p : AccountPath) (body : B) → k < 4096 → Good k t → IsPath p → ((n : ℕ) → n < length p.parts → IsReady m jobs p n) → Made m jobs p 0 t.rows → 0 < length p.parts
      → Belongs m jobs p (entry.Object (task_object (next_number c t) body moment)) → Good (k + 1) (kept c p body t)
  kept_good k t p body less g path ready start some belongs = record {
    whole = placed_whole m jobs p path ready moment t.rows start some (task_object (next_number c t) body moment) (number_below k t g less) belongs;
    items = g.items;
    made = let le : t.made ≤ k = g.made in omega arith;
  }

  placed_good : (k : ℕ) (t : Taken B) (p : AccountPath) (body : B) → k < 4096 → Good k t → IsPath p → (b : Bool) → can_hold_object t.rows j.number p ≡ b → GoodResult (k + 1) (cond b (Ok (kept c p body t)) (Err TaskPlaceRefused))
  placed_good k t p body less g path false t' = tt
  placed_good k t p body less g path true holds =
      let both : (is_task_place j.number p.area p.parts && not (is_directory (at t.rows p))) ≡ true = and_left _ _ holds in
      let place = is_place p.area p.parts (and_left _ _ both) in
      let none : list_any (is_object_at t.rows) (paths_above p) ≡ false = not_true _ (and_right (is_task_place j.number p.area p.parts && not (is_directory (at t.rows p))) _ holds) in
      kept_good k t p body less g path place.ready
      (record {
        whole = g.whole;
        made = λ n under. absurd (omega (arith, under));
        clear = λ n under. let same : 0 + n ≡ n = omega arith in subst (λ x. is_object_at t.rows (front p x) ≡ false) same (none_at (is_object_at t.rows) (front p) 0 (length p.parts) n none under);
        free = not_true _ (and_right (is_task_place j.number p.area p.parts) _ both);
      }) place.some (place.belongs _)

  -- ---- an output without a place

  module _ (k : ℕ) (t : Taken B) (g : Good k t) (less : k < 4096) where
    abbrev number : ℕ
    number = next_number c t

    abbrev name : List ℕ
    name = output_prefix root phase ++ identifier_text 3 number

    small : number < 2 ^ 62
    small = let le : t.made ≤ k = g.made in omega (arith, le, less)

    ends : identifier_number 3 (drop (length name - 36) name) ≡ Some number
    ends = output_number root component short phase few number small

    no_directory : (e : Entry B) → (not (ends_in_output name) || is_output name [] e) ≡ true → is_directory (Some e) ≡ false
    no_directory (entry.Object o) fits = refl
    no_directory (entry.Directory mtime) fits = absurd (let never : (not (is_some (identifier_number 3 (drop (length name - 36) name))) || false) ≡ false = ap (λ o. not (is_some o) || false) ends in true≢false (sym fits ∙ never))

    free_case : (o : Option (Entry B)) → at t.rows (below_stor name []) ≡ o → is_directory o ≡ false
    free_case None is = refl
    free_case (Some e) is = no_directory e (sym (ap (λ o. fits_below o (codes "stor" ∷ name ∷ []) e) named) ∙ g.whole.jobs_are.entries (job_name j.number) (codes "stor" ∷ name ∷ []) e is)

    clear_case : (o : Option (Entry B)) → is_directory o ≡ true → is_some (object_in o) ≡ false
    clear_case None is = refl
    clear_case (Some (entry.Directory mtime)) is = refl
    clear_case (Some (entry.Object o)) is = cc

    clear : (n : ℕ) → n < 3 → is_object_at t.rows (front (below_stor name []) n) ≡ false
    clear zero under = clear_case _ (root_there t.rows g.whole)
    clear (suc zero) under = clear_case _ (folder_there t.rows g.whole)
    clear (suc (suc zero)) under = clear_case _ (stor_there t.rows g.whole)
    clear (suc (suc (suc n))) under = absurd (omega arith)

    belongs : (body : B) → Belongs m jobs (below_stor name []) (entry.Object (task_object number body moment))
    belongs body = belongs_below name [] (entry.Object (task_object number body moment))
        (or_right (not (ends_in_output name)) _ (ap (λ o. option_map_or (λ n. n == number) o false) ends ∙ eq-eqb number number refl))

    fresh_path : IsPath (fresh_place c t)
    fresh_path = output_is_path root component short phase few number j.number

    fresh_good : (body : B) → Good (k + 1) (kept c (fresh_place c t) body t)
    fresh_good body = kept_good k t (fresh_place c t) body less g fresh_path (ready_output name)
        (record {
          whole = g.whole;
          made = λ n under. absurd (omega (arith, under));
          clear = clear;
          free = free_case (at t.rows (below_stor name [])) refl;
        }) (omega arith) (belongs body)

  -- ---- one record, and all

  emitted : (k : ℕ) (p : AccountPath) (body : B) (reducer : Option ℕ) → IsPath p → (r : Result (Taken B) TaskFailure) → GoodResult k r → GoodResult k (and_then (λ new. Ok (with_output c p body reducer new)) r)
  emitted k p body reducer path (Ok t) g = output_good k t p body reducer path g
  emitted k p body reducer path (Err failure) g = tt

  referred : (k : ℕ) (p : AccountPath) (t : Taken B) → IsPath p → Good k t → (o : Option (Object B)) → GoodResult (k + 1) (take_reference c p t o)
  referred k p t path g None = tt
  referred k p t path g (Some o) = output_good (k + 1) t p o.body None path (later_good k t g)

  record_good : (k : ℕ) (t : Taken B) → Good k t → k < 4096 → (r : TaskRecord B) → IsWellMadeRecord r → GoodResult (k + 1) (take_record c t r)
  record_good k t g less (Emit None reducer body) made = output_good (k + 1) (kept c (fresh_place c t) body t) (fresh_place c t) body reducer (fresh_path k t g less) (fresh_good k t g less body)
  record_good k t g less (Emit (Some p) reducer body) made = emitted (k + 1) p body reducer made (take_placed c p body t) (placed_good k t p body less g made (can_hold_object t.rows j.number p) refl)
  record_good k t g less (Keep p body) made = placed_good k t p body less g made (can_hold_object t.rows j.number p) refl
  record_good k t g less (Ref name) made = referred k name t made g (object_at t.rows name)

  next_good : (k : ℕ) (r : TaskRecord B) → IsWellMadeRecord r → k < 4096 → (x : Result (Taken B) TaskFailure) → GoodResult k x → GoodResult (k + 1) (and_then (λ t. take_record c t r) x)
  next_good k r made less (Ok t) g = record_good k t g less r made
  next_good k r made less (Err failure) g = tt

  records_good : (rs : List (TaskRecord B)) (k : ℕ) → AllByRecursion IsWellMadeRecord rs → k + length rs ≤ 4095 → (x : Result (Taken B) TaskFailure) → GoodResult k x → GoodResult (k + length rs) (take_records c rs x)
  records_good [] k made le x g = let same : k ≡ k + 0 = omega arith in subst (λ n. GoodResult n x) same g
  records_good (r ∷ rs) k made le x g =
      let same : k + 1 + length rs ≡ k + suc (length rs) = omega arith in
      subst (λ n. GoodResult n (take_records c (r ∷ rs) x)) same
      (records_good rs (k + 1) made.1 (omega (arith, le)) (and_then (λ t. take_record c t r) x) (next_good k r made.0 (omega (arith, le)) x g))

  -- what a commit leaves is lawful, and its outputs have roots
  pub record GoodEnd (r : Resolved B) : Type 0 where
    pub whole : Whole m jobs r.rows
    pub items : All LawfulItem (items_of r.outcome)

  ended : (k : ℕ) (rows : Rows B) → Whole m jobs rows → (x : Result (Taken B) TaskFailure) → GoodResult k x → GoodEnd (resolved rows x)
  ended k rows w (Ok t) g = record { whole = g.whole; items = g.items }
  ended k rows w (Err failure) g = record { whole = w; items = All-nil LawfulItem }

  pub resolve_good : (rows : Rows B) → Whole m jobs rows → (f : Fate B) → IsWellMadeFate f → GoodEnd (resolve c rows f)
  resolve_good rows w (fate.Good records) made =
      ended (0 + length records) rows w (take_records c records (Ok (record { rows = rows; items = []; made = 0 })))
      (records_good records 0 made.1 (let le = made.0 in omega (arith, le)) (Ok (record { rows = rows; items = []; made = 0 })) (record { whole = w; items = All-nil LawfulItem; made = omega arith }))
  resolve_good rows w (fate.Bad failure status stderr) made = record { whole = w; items = All-nil LawfulItem }

-- ---- the job

-- what names of outputs can be made of
pub record IsRoot (root : List ℕ) : Type 0 where
  pub component : IsComponent root
  pub short : length root ≤ 200

module _ {B : Type 0} where
  -- the items of a feed have roots
  items_root : (n : ℕ) (es : List (TraceEntry B)) → All (λ e. All LawfulItem (items_of e.outcome)) es → All LawfulItem (items_in (entries_of n es))
  items_root n [] all = All-nil LawfulItem
  items_root n (e ∷ es) all = by (e.phase == n) (items_root n es (All-tail (λ e. All LawfulItem (items_of e.outcome)) e es all))
    where
      by : (b : Bool) → All LawfulItem (items_in (entries_of n es)) → All LawfulItem (items_in (cond b (e ∷ entries_of n es) (entries_of n es)))
      by true more = All-append LawfulItem (items_of e.outcome) (items_in (entries_of n es)) (All-head (λ e. All LawfulItem (items_of e.outcome)) e es all) more
      by false more = more

  feed_root : (count : ℕ) (j : Job B) → LawfulJob count j → (n : ℕ) → All LawfulItem (feed j n)
  feed_root count j l zero = l.inputs
  feed_root count j l (suc n) = items_root n j.trace l.outputs

  item_at : (xs : List (Item B)) (k : ℕ) (i : Item B) → All LawfulItem xs → slice_get xs k ≡ Some i → LawfulItem i
  item_at [] k i all at = cc
  item_at (x ∷ xs) zero i all at = subst LawfulItem (ap (λ o. unwrap_or o x) at) (All-head LawfulItem x xs all)
  item_at (x ∷ xs) (suc k) i all at = item_at xs k i (All-tail LawfulItem x xs all) at

  map_case : (items : List (Item B)) (place : ℕ) → All LawfulItem items → place < length items → (o : Option (Item B)) → slice_get items place ≡ o → IsRoot (unwrap_or (option_map (λ i. i.root) o) [])
  map_case items place all less None at = let past = beyond items place at in absurd (omega (arith, past, less))
  map_case items place all less (Some i) at = let has = item_at items place i all at in record { component = has.component; short = has.short }

  kind_root : (kind : PhaseKind) (items : List (Item B)) (place : ℕ) → All LawfulItem items → (kind ≡ Map → place < length items) → IsRoot (root_at kind items place)
  kind_root Map items place all less = map_case items place all (less refl) (slice_get items place) refl
  kind_root (Reduce count) items place all less = record { component = word (codes "reduce") (omega arith) (omega arith) refl refl; short = omega arith }

  task_within : (j : Job B) (n place : ℕ) (kind : PhaseKind) → (may_begin j n kind && nat_lt place (task_count kind (feed j n))) ≡ true → kind ≡ Map → place < length (feed j n)
  task_within j n place Map is same = ltb-true place (length (feed j n)) is
  task_within j n place (Reduce count) is same = cc

  pub record IsTaskOf (j : Job B) (n : ℕ) (root : List ℕ) : Type 0 where
    pub few : n < length j.document.phases
    pub root_is : IsRoot root

  task_case : (count : ℕ) (j : Job B) → LawfulJob count j → (n place : ℕ) (o : Option Phase) → slice_get j.document.phases n ≡ o → is_task_of j n place o ≡ true → IsTaskOf j n (unwrap_or (option_map (λ p. root_at p.kind (feed j n) place) o) [])
  task_case count j l n place None at is = cc
  task_case count j l n place (Some p) at is = record {
    few = slice_get_within j.document.phases n p at;
    root_is = kind_root p.kind (feed j n) place (feed_root count j l n) (task_within j n place p.kind is);
  }

  pub task_good : (count : ℕ) (j : Job B) → LawfulJob count j → (n place : ℕ) → commit_refusal n place j ≡ None → IsTaskOf j n (unwrap_or (option_map (λ p. root_at p.kind (feed j n) place) (slice_get j.document.phases n)) [])
  task_good count j l n place none =
      let parts = neither _ _ none in
      let more = neither _ _ parts.1 in
      let may : may_run j n place ≡ true = holds_if _ (not_refused _ _ more.0) in
      task_case count j l n place (slice_get j.document.phases n) refl (and_right (is_running j) _ may)

  -- with an entry of a commit
  pub LawfulJob-entry : (count : ℕ) (j : Job B) (e : TraceEntry B) → commit_refusal e.phase e.place j ≡ None → e.position ≡ count → All LawfulItem (items_of e.outcome) → length (items_of e.outcome) ≤ 4095 → LawfulJob count j → LawfulJob (count + 1) (with_entry e j)
  LawfulJob-entry count j e none at items few law =
      let l = LawfulJob-later count (count + 1) (omega arith) j law in
      record {
        number = l.number;
        positions = All-push (λ d. d.position < count + 1) j.trace e l.positions (omega (arith, at));
        few = l.few;
        missing = l.missing;
        few_each = All-push (λ d. length (items_of d.outcome) ≤ 4095) j.trace e l.few_each few;
        inputs = l.inputs;
        outputs = All-push (λ d. All LawfulItem (items_of d.outcome)) j.trace e l.outputs items;
        document = l.document;
        assets = l.assets;
        sound = sound_entry count j e none at law.positions law.sound;
      }
