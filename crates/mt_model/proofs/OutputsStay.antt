-- An object whose name ends in the identifier of an output stays, and so each output without a place keeps its body;
-- and behind a commit each output stands at its name.
use Rattle.std.proofs.Common.{◌≡◌, ℕ, ◌+◌, ◌-◌, ◌^◌, ◌<◌, ◌≤◌, Bool, true, false, cond, not, ◌&&◌, List, [], ◌∷◌, ◌++◌, length, Option, Some, None, refl, sym, ap, subst, ◌∙◌, arith, true≢false, codes, bytes_eq, drop, suc, append-nil, append_assoc}
use Rattle.std.specs.Prelude.{Result, Ok, Err, is_some}
use Rattle.std.specs.List.{AllByRecursion, fold, list_any}
use Rattle.std.specs.Option.{option_map}
use Rattle.std.proofs.lemmas.Option.{none-some, same_Some}
use Rattle.mt_ident.specs.Identifiers.{identifier_number, identifier_text}
use Rattle.mt_path.specs.AccountPath.{AccountPath, IsComponent}
use Rattle.mt_path.specs.declared.area.Area.TheVariants.{Jobs}
use Rattle.mt_types.specs.WellMade.{IsWellMadeFate}
use Rattle.mt_types.specs.declared.job.Item.{Item}
use Rattle.mt_types.specs.declared.limits.TheConstants.{MOST_COMMANDS}
use Rattle.mt_types.specs.declared.object.Entry.{Entry}
use Rattle.mt_types.specs.declared.object.Entry.TheVariants as entry
use Rattle.mt_types.specs.declared.object.Object.{Object}
use Rattle.mt_types.specs.declared.task.Fate.{Fate}
use Rattle.mt_types.specs.declared.task.Fate.TheVariants as fate
use Rattle.mt_types.specs.declared.task.TaskFailure.{TaskFailure}
use Rattle.mt_types.specs.declared.task.TaskFailure.TheVariants.{TaskObjectMissing, TaskPlaceRefused}
use Rattle.mt_types.specs.declared.task.TaskRecord.{TaskRecord}
use Rattle.mt_types.specs.declared.task.TaskRecord.TheVariants.{Emit, Keep, Ref}
use Rattle.mt_model.specs.Feed.{items_of}
use Rattle.mt_model.specs.Names.{ends_in_output, is_task_place, job_name, number_at, output_path, output_prefix, paths_above}
use Rattle.mt_model.specs.Resolve.{Committing, HasLast, HaveBodies, OutputsStand, Resolved, Taken, puts_at, and_then, can_hold_object, fresh_place, kept, next_number, resolve, resolved, take_record, take_records, take_reference, task_object, with_directory, with_output, with_parents}
use Rattle.mt_model.specs.Rows.{Rows, at, is_path, object_at, object_in, with_row}
use Rattle.mt_model.proofs.EachStep.{pushed}
use Rattle.mt_model.proofs.LawfulInputs.{and_left, and_right, or_none}
use Rattle.mt_model.proofs.LawfulNames.{output_number}
use Rattle.mt_model.proofs.LawfulNewJob.{other_path}
use Rattle.mt_model.proofs.RowLaws.{at-with_row, is_path-exact, is_path-self}

-- the third name of a path
abbrev name_in : List (List ℕ) → List ℕ
name_in [] = []
name_in (a ∷ []) = []
name_in (a ∷ b ∷ []) = []
name_in (a ∷ b ∷ name ∷ rest) = name

-- no task may name such a path
no_place : (job : ℕ) (p : AccountPath) → is_task_place job p.area p.parts ≡ true → (id name : List ℕ) → ends_in_output name ≡ true → is_path p (output_path id name) ≡ false
no_place job p is id name ends = other_path p (output_path id name) (λ same.
    let t : is_task_place job Jobs (id ∷ codes "stor" ∷ name ∷ []) ≡ true = subst (λ (x : AccountPath). is_task_place job x.area x.parts ≡ true) same is in
    let never : not (ends_in_output name) ≡ true = and_right (bytes_eq id (job_name job) && bytes_eq (codes "stor") (codes "stor")) _ t in
    true≢false (sym never ∙ ap not ends))

module _ {B : Type 0} where
  -- what stands there goes on to
  abbrev pub Stays : Rows B → Rows B → Type 0
  Stays rows new = (id name : List ℕ) (o : Object B) → ends_in_output name ≡ true → object_at rows (output_path id name) ≡ Some o → object_at new (output_path id name) ≡ Some o

  -- the number that its name ends in is its own, and below this
  abbrev pub Numbered : ℕ → Rows B → Type 0
  Numbered n rows = (id name : List ℕ) (o : Object B) → ends_in_output name ≡ true → object_at rows (output_path id name) ≡ Some o
      → (identifier_number 3 (drop (length name - 36) name) ≡ Some o.number) × (o.number < n)

  -- an object of this body stands there
  pub record HasBody (rows : Rows B) (p : AccountPath) (body : B) : Type 0 where
    pub object : Object B
    pub there : object_at rows p ≡ Some object
    pub is : object.body ≡ body

  -- an output without a place has its object
  abbrev pub IsHeld : Rows B → Item B → Type 0
  IsHeld rows i = (id name : List ℕ) → ends_in_output name ≡ true → i.name ≡ output_path id name → HasBody rows (output_path id name) i.body

  -- ---- one row

  pub put_at : (rows : Rows B) (p q : AccountPath) (e : Entry B) (o : Object B) → is_path p q ≡ false → object_at rows q ≡ Some o → object_at (with_row rows p e) q ≡ Some o
  put_at rows p q e o apart is = ap object_in (at-with_row rows p e q) ∙ ap (λ b. object_in (cond b (Some e) (at rows q))) apart ∙ is

  put_here : (rows : Rows B) (p : AccountPath) (o : Object B) → object_at (with_row rows p (entry.Object o)) p ≡ Some o
  put_here rows p o = ap object_in (at-with_row rows p (entry.Object o) p) ∙ ap (λ b. object_in (cond b (Some (entry.Object o)) (at rows p))) (is_path-self p)

  put_back : (rows : Rows B) (p q : AccountPath) (e : Entry B) (o : Object B) → is_path p q ≡ false → object_at (with_row rows p e) q ≡ Some o → object_at rows q ≡ Some o
  put_back rows p q e o apart is = sym (ap object_in (at-with_row rows p e q) ∙ ap (λ b. object_in (cond b (Some e) (at rows q))) apart) ∙ is

  module _ (moment : ℕ) (q : AccountPath) (o : Object B) where
    directory_at : (rows : Rows B) (p : AccountPath) → object_at rows q ≡ Some o → object_at (with_directory moment rows p) q ≡ Some o
    directory_at rows p is = by (at rows p) refl (is_path p q) refl
      where
        by : (a : Option (Entry B)) → at rows p ≡ a → (b : Bool) → is_path p q ≡ b → object_at (cond (is_some a) rows (with_row rows p (entry.Directory moment))) q ≡ Some o
        by (Some x) here b t = is
        by None here true t = absurd (none-some o (sym (ap object_in here) ∙ ap (object_at rows) (is_path-exact p q t) ∙ is))
        by None here false t = put_at rows p q (entry.Directory moment) o t is

    directory_back : (rows : Rows B) (p : AccountPath) → object_at (with_directory moment rows p) q ≡ Some o → object_at rows q ≡ Some o
    directory_back rows p = by (at rows p) (is_path p q) refl
      where
        by : (a : Option (Entry B)) (b : Bool) → is_path p q ≡ b → object_at (cond (is_some a) rows (with_row rows p (entry.Directory moment))) q ≡ Some o → object_at rows q ≡ Some o
        by (Some x) b t is = is
        by None true t is =
            absurd (none-some o (sym (ap object_in (at-with_row rows p (entry.Directory moment) q) ∙ ap (λ b. object_in (cond b (Some (entry.Directory moment)) (at rows q))) t) ∙ is))
        by None false t is = put_back rows p q (entry.Directory moment) o t is

    pub directories_at : (ps : List AccountPath) (rows : Rows B) → object_at rows q ≡ Some o → object_at (fold (with_directory moment) rows ps) q ≡ Some o
    directories_at [] rows is = is
    directories_at (p ∷ ps) rows is = directories_at ps (with_directory moment rows p) (directory_at rows p is)

    directories_back : (ps : List AccountPath) (rows : Rows B) → object_at (fold (with_directory moment) rows ps) q ≡ Some o → object_at rows q ≡ Some o
    directories_back [] rows is = is
    directories_back (p ∷ ps) rows is = directory_back rows p (directories_back ps (with_directory moment rows p) is)

  -- what is held stays so
  pub held_later : (rows new : Rows B) → Stays rows new → (i : Item B) → IsHeld rows i → IsHeld new i
  held_later rows new stays i held id name ends is = let h = held id name ends is in record { object = h.object; there = stays id name h.object ends h.there; is = h.is }

  pub all_later : (rows new : Rows B) → Stays rows new → (is : List (Item B)) → AllByRecursion (IsHeld rows) is → AllByRecursion (IsHeld new) is
  all_later rows new stays [] all = tt
  all_later rows new stays (i ∷ is) all = (held_later rows new stays i all.0, all_later rows new stays is all.1)

-- ---- a commit

module _ {B : Type 0} (c : Committing) (few : c.phase < 16) (component : IsComponent c.root) (short : length c.root ≤ 200) (room : c.position < MOST_COMMANDS) (start : Rows B) where
  record Holds (k : ℕ) (t : Taken B) : Type 0 where
    stays : Stays start t.rows
    numbered : Numbered (number_at c.position t.made) t.rows
    made : t.made ≤ k
    items : AllByRecursion (IsHeld t.rows) t.items

  abbrev HoldsResult : ℕ → Result (Taken B) TaskFailure → Type 0
  HoldsResult k (Ok t) = Holds k t
  HoldsResult k (Err failure) = Unit {0}

  -- an object that is put where none of these stands
  module _ (k : ℕ) (t : Taken B) (h : Holds k t) (place : AccountPath) (body : B) where
    abbrev new : Rows B
    new = with_parents t.rows place c.moment

    abbrev object : Object B
    object = task_object (next_number c t) body c.moment

    kept_holds : ((id name : List ℕ) (o : Object B) → ends_in_output name ≡ true → object_at t.rows (output_path id name) ≡ Some o → is_path place (output_path id name) ≡ false)
        → ((id name : List ℕ) → ends_in_output name ≡ true → is_path place (output_path id name) ≡ true → identifier_number 3 (drop (length name - 36) name) ≡ Some (next_number c t))
        → Holds (k + 1) (kept c place body t)
    kept_holds apart own =
        let stays : Stays t.rows (kept c place body t).rows = λ id name o ends is.
        put_at new place (output_path id name) (entry.Object object) o (apart id name o ends is) (directories_at c.moment (output_path id name) o (paths_above place) t.rows is) in
        record {
          stays = λ id name o ends is. stays id name o ends (h.stays id name o ends is);
          numbered = λ id name o ends is. numbers id name o ends (is_path place (output_path id name)) refl is;
          made = let le : t.made ≤ k = h.made in omega (arith, le);
          items = all_later t.rows (kept c place body t).rows stays t.items h.items;
        }
      where
        numbers : (id name : List ℕ) (o : Object B) → ends_in_output name ≡ true → (b : Bool) → is_path place (output_path id name) ≡ b → object_at (kept c place body t).rows (output_path id name) ≡ Some o
            → (identifier_number 3 (drop (length name - 36) name) ≡ Some o.number) × (o.number < number_at c.position (t.made + 1))
        numbers id name o ends true here is =
            let same : object ≡ o = same_Some _ _ (sym (ap object_in (at-with_row new place (entry.Object object) (output_path id name)) ∙ ap (λ b. object_in (cond b (Some (entry.Object object)) (at new (output_path id name)))) here) ∙ is) in
            let number : next_number c t ≡ o.number = ap (λ (x : Object B). x.number) same in
            (own id name ends here ∙ ap Some number, omega (arith, number))
        numbers id name o ends false here is =
            let old = h.numbered id name o ends (directories_back c.moment (output_path id name) o (paths_above place) t.rows (put_back new place (output_path id name) (entry.Object object) o here is)) in
            (old.0, (let less = old.1 in omega (arith, less)))

  -- one more output
  output_holds : (k : ℕ) (t : Taken B) (name : AccountPath) (body : B) (reducer : Option ℕ) → Holds k t → IsHeld t.rows (record { name = name; root = c.root; body = body; reducer = reducer }) → Holds k (with_output c name body reducer t)
  output_holds k t name body reducer h is = record {
    stays = h.stays;
    numbered = h.numbered;
    made = h.made;
    items = pushed (IsHeld t.rows) t.items (record { name = name; root = c.root; body = body; reducer = reducer }) h.items is;
  }

  later_holds : (k : ℕ) (t : Taken B) → Holds k t → Holds (k + 1) t
  later_holds k t h = record { stays = h.stays; numbered = h.numbered; made = let le : t.made ≤ k = h.made in omega (arith, le); items = h.items }

  -- at a place that a record names
  placed_holds : (k : ℕ) (t : Taken B) (p : AccountPath) (body : B) → Holds k t → (b : Bool) → can_hold_object t.rows c.job p ≡ b → HoldsResult (k + 1) (cond b (Ok (kept c p body t)) (Err TaskPlaceRefused))
  placed_holds k t p body h false is = tt
  placed_holds k t p body h true is =
      let place : is_task_place c.job p.area p.parts ≡ true = and_left _ _ (and_left _ _ is) in
      kept_holds k t h p body (λ id name o ends there. no_place c.job p place id name ends)
      (λ id name ends here. absurd (true≢false (sym here ∙ no_place c.job p place id name ends)))

  emitted : (k : ℕ) (p : AccountPath) (body : B) (reducer : Option ℕ) (t : Taken B) → Holds k t → (b : Bool) → can_hold_object t.rows c.job p ≡ b
      → HoldsResult (k + 1) (and_then (λ new. Ok (with_output c p body reducer new)) (cond b (Ok (kept c p body t)) (Err TaskPlaceRefused)))
  emitted k p body reducer t h false is = tt
  emitted k p body reducer t h true is =
      let place : is_task_place c.job p.area p.parts ≡ true = and_left _ _ (and_left _ _ is) in
      output_holds (k + 1) (kept c p body t) p body reducer (placed_holds k t p body h true is)
      (λ id name ends same. absurd (true≢false (sym (is_path-self p) ∙ (ap (is_path p) same ∙ no_place c.job p place id name ends))))

  referred : (k : ℕ) (p : AccountPath) (t : Taken B) → Holds k t → (o : Option (Object B)) → object_at t.rows p ≡ o → HoldsResult (k + 1) (take_reference c p t o)
  referred k p t h None is = tt
  referred k p t h (Some o) is =
      output_holds (k + 1) t p o.body None (later_holds k t h)
      (λ id name ends same. record { object = o; there = ap (object_at t.rows) (sym same) ∙ is; is = refl })

  -- at a name that is fresh
  module _ (k : ℕ) (t : Taken B) (h : Holds k t) (less : k < 4096) where
    abbrev fresh : AccountPath
    fresh = fresh_place c t

    abbrev fresh_name : List ℕ
    fresh_name = output_prefix c.root c.phase ++ identifier_text 3 (next_number c t)

    small : next_number c t < 2 ^ 62
    small = let le : t.made ≤ k = h.made in omega (arith, le, less, room)

    own : (id name : List ℕ) → is_path fresh (output_path id name) ≡ true → identifier_number 3 (drop (length name - 36) name) ≡ Some (next_number c t)
    own id name here =
        let same : fresh_name ≡ name = ap (λ (p : AccountPath). name_in p.parts) (is_path-exact fresh (output_path id name) here) in
        subst (λ n. identifier_number 3 (drop (length n - 36) n) ≡ Some (next_number c t)) same (output_number c.root component short c.phase few (next_number c t) small)

    apart_case : (id name : List ℕ) (o : Object B) → ends_in_output name ≡ true → object_at t.rows (output_path id name) ≡ Some o → (b : Bool) → is_path fresh (output_path id name) ≡ b → b ≡ false
    apart_case id name o ends there false here = refl
    apart_case id name o ends there true here =
        let old = h.numbered id name o ends there in
        let same : o.number ≡ next_number c t = same_Some _ _ (sym old.0 ∙ own id name here) in
        absurd (let below = old.1 in omega (arith, below, same))

    fresh_holds : (body : B) → Holds (k + 1) (kept c fresh body t)
    fresh_holds body = kept_holds k t h fresh body (λ id name o ends there. apart_case id name o ends there (is_path fresh (output_path id name)) refl) (λ id name ends here. own id name here)

    emitted_fresh : (body : B) (reducer : Option ℕ) → Holds (k + 1) (with_output c fresh body reducer (kept c fresh body t))
    emitted_fresh body reducer =
        output_holds (k + 1) (kept c fresh body t) fresh body reducer (fresh_holds body)
        (λ id name ends same. record {
          object = task_object (next_number c t) body c.moment;
          there = ap (object_at (kept c fresh body t).rows) (sym same) ∙ put_here (with_parents t.rows fresh c.moment) fresh (task_object (next_number c t) body c.moment);
          is = refl;
        })

  record_holds : (k : ℕ) (t : Taken B) → Holds k t → k < 4096 → (r : TaskRecord B) → HoldsResult (k + 1) (take_record c t r)
  record_holds k t h less (Emit None reducer body) = emitted_fresh k t h less body reducer
  record_holds k t h less (Emit (Some p) reducer body) = emitted k p body reducer t h (can_hold_object t.rows c.job p) refl
  record_holds k t h less (Keep p body) = placed_holds k t p body h (can_hold_object t.rows c.job p) refl
  record_holds k t h less (Ref name) = referred k name t h (object_at t.rows name) refl

  next_holds : (k : ℕ) (r : TaskRecord B) → k < 4096 → (x : Result (Taken B) TaskFailure) → HoldsResult k x → HoldsResult (k + 1) (and_then (λ t. take_record c t r) x)
  next_holds k r less (Ok t) h = record_holds k t h less r
  next_holds k r less (Err failure) h = tt

  records_hold : (rs : List (TaskRecord B)) (k : ℕ) → k + length rs ≤ 4095 → (x : Result (Taken B) TaskFailure) → HoldsResult k x → HoldsResult (k + length rs) (take_records c rs x)
  records_hold [] k le x h = let same : k ≡ k + 0 = omega arith in subst (λ n. HoldsResult n x) same h
  records_hold (r ∷ rs) k le x h =
      let same : k + 1 + length rs ≡ k + suc (length rs) = omega arith in
      subst (λ n. HoldsResult n (take_records c (r ∷ rs) x)) same
      (records_hold rs (k + 1) (omega (arith, le)) (and_then (λ t. take_record c t r) x) (next_holds k r (omega (arith, le)) x h))

  -- what a commit leaves
  pub record HoldsEnd (r : Resolved B) : Type 0 where
    pub stays : Stays start r.rows
    pub items : AllByRecursion (IsHeld r.rows) (items_of r.outcome)

  ended : (k : ℕ) (x : Result (Taken B) TaskFailure) → HoldsResult k x → HoldsEnd (resolved start x)
  ended k (Ok t) h = record { stays = h.stays; items = h.items }
  ended k (Err failure) h = record { stays = λ id name o ends is. is; items = tt }

  pub resolve_holds : Numbered (number_at c.position 0) start → (x : Fate B) → IsWellMadeFate x → HoldsEnd (resolve c start x)
  resolve_holds numbered (fate.Good records) well =
      ended (0 + length records) (take_records c records (Ok (record { rows = start; items = []; made = 0 })))
      (records_hold records 0 (let le = well.0 in omega (arith, le)) (Ok (record { rows = start; items = []; made = 0 }))
      (record { stays = λ id name o ends is. is; numbered = numbered; made = omega arith; items = tt }))
  resolve_holds numbered (fate.Bad failure status stderr) well = record { stays = λ id name o ends is. is; items = tt }

  -- ---- behind a commit each output stands at its name

  kept_leaves : (place p : AccountPath) (body : B) (t : Taken B) (o : Object B) → is_path place p ≡ false → object_at t.rows p ≡ Some o → object_at (kept c place body t).rows p ≡ Some o
  kept_leaves place p body t o apart there =
      put_at (with_parents t.rows place c.moment) place p (entry.Object (task_object (next_number c t) body c.moment)) o apart (directories_at c.moment p o (paths_above place) t.rows there)

  -- a fresh place is none at which an object stands
  fresh_apart : (k : ℕ) (t : Taken B) (h : Holds k t) (less : k < 4096) (p : AccountPath) (o : Object B) → object_at t.rows p ≡ Some o → is_path (fresh_place c t) p ≡ false
  fresh_apart k t h less p o there = by (is_path (fresh_place c t) p) refl
    where
      name : List ℕ
      name = fresh_name k t h less

      ends : ends_in_output name ≡ true
      ends = ap (λ n. is_some n) (output_number c.root component short c.phase few (next_number c t) (small k t h less))

      by : (b : Bool) → is_path (fresh_place c t) p ≡ b → b ≡ false
      by false is = refl
      by true is =
          let here : object_at t.rows (output_path (job_name c.job) name) ≡ Some o = ap (object_at t.rows) (is_path-exact (fresh_place c t) p is) ∙ there in
          let apart = apart_case k t h less (job_name c.job) name o ends here (is_path (fresh_place c t) (output_path (job_name c.job) name)) refl in
          absurd (true≢false (sym (is_path-self (fresh_place c t)) ∙ apart))

  abbrev LeavesAt : AccountPath → Object B → Result (Taken B) TaskFailure → Type 0
  LeavesAt p o (Ok t) = object_at t.rows p ≡ Some o
  LeavesAt p o (Err failure) = Unit {0}

  module _ (p : AccountPath) (o : Object B) where
    placed_leaves : (place : AccountPath) (body : B) (t : Taken B) → is_path place p ≡ false → object_at t.rows p ≡ Some o → (b : Bool) → LeavesAt p o (cond b (Ok (kept c place body t)) (Err TaskPlaceRefused))
    placed_leaves place body t off there true = kept_leaves place p body t o off there
    placed_leaves place body t off there false = tt

    emitted_leaves : (place : AccountPath) (body : B) (reducer : Option ℕ) (t : Taken B) → is_path place p ≡ false → object_at t.rows p ≡ Some o
        → (b : Bool) → LeavesAt p o (and_then (λ new. Ok (with_output c place body reducer new)) (cond b (Ok (kept c place body t)) (Err TaskPlaceRefused)))
    emitted_leaves place body reducer t off there true = kept_leaves place p body t o off there
    emitted_leaves place body reducer t off there false = tt

    referred_leaves : (name : AccountPath) (t : Taken B) → object_at t.rows p ≡ Some o → (x : Option (Object B)) → LeavesAt p o (take_reference c name t x)
    referred_leaves name t there None = tt
    referred_leaves name t there (Some x) = there

    record_leaves : (k : ℕ) (t : Taken B) → Holds k t → k < 4096 → (r : TaskRecord B) → puts_at p r ≡ false → object_at t.rows p ≡ Some o → LeavesAt p o (take_record c t r)
    record_leaves k t h less (Emit None reducer body) off there = kept_leaves (fresh_place c t) p body t o (fresh_apart k t h less p o there) there
    record_leaves k t h less (Emit (Some place) reducer body) off there = emitted_leaves place body reducer t off there (can_hold_object t.rows c.job place)
    record_leaves k t h less (Keep place body) off there = placed_leaves place body t off there (can_hold_object t.rows c.job place)
    record_leaves k t h less (Ref name) off there = referred_leaves name t there (object_at t.rows name)

    next_leaves : (k : ℕ) (r : TaskRecord B) → k < 4096 → puts_at p r ≡ false → (x : Result (Taken B) TaskFailure) → HoldsResult k x → LeavesAt p o x → LeavesAt p o (and_then (λ t. take_record c t r) x)
    next_leaves k r less off (Ok t) h there = record_leaves k t h less r off there
    next_leaves k r less off (Err failure) h there = tt

    records_leave : (rs : List (TaskRecord B)) (k : ℕ) → k + length rs ≤ 4095 → list_any (puts_at p) rs ≡ false → (x : Result (Taken B) TaskFailure) → HoldsResult k x → LeavesAt p o x → LeavesAt p o (take_records c rs x)
    records_leave [] k le off x h there = there
    records_leave (r ∷ rs) k le off x h there =
        let parts = or_none (puts_at p r) _ off in
        records_leave rs (k + 1) (omega (arith, le)) parts.1 (and_then (λ t. take_record c t r) x) (next_holds k r (omega (arith, le)) x h) (next_leaves k r (omega (arith, le)) parts.0 x h there)

  -- what records make of some taken ones: these outputs more, each where it is to stand
  abbrev EndsWith : List (Item B) → List (TaskRecord B) → Result (Taken B) TaskFailure → Type 0
  EndsWith first rs (Ok t) = (items : List (Item B)) × (t.items ≡ first ++ items) × HaveBodies t.rows rs items
  EndsWith first rs (Err failure) = Unit {0}

  -- with an output in front
  abbrev EndsWithOne : List (Item B) → Item B → List (TaskRecord B) → Result (Taken B) TaskFailure → Type 0
  EndsWithOne first i rs (Ok t) = (items : List (Item B)) × (t.items ≡ first ++ i ∷ items) × HasLast t.rows rs i.name i.body × HaveBodies t.rows rs items
  EndsWithOne first i rs (Err failure) = Unit {0}

  -- with an object beside them
  abbrev EndsBeside : List (Item B) → AccountPath → B → List (TaskRecord B) → Result (Taken B) TaskFailure → Type 0
  EndsBeside first p body rs (Ok t) = (items : List (Item B)) × (t.items ≡ first ++ items) × HasLast t.rows rs p body × HaveBodies t.rows rs items
  EndsBeside first p body rs (Err failure) = Unit {0}

  module _ (rs : List (TaskRecord B)) (k : ℕ) (le : k + suc (length rs) ≤ 4095) (more : (new : Taken B) → Holds (k + 1) new → EndsWith new.items rs (take_records c rs (Ok new))) where
    leaves : (new : Taken B) (p : AccountPath) (body : B) → Holds (k + 1) new → (b : HasBody new.rows p body) → list_any (puts_at p) rs ≡ false → LeavesAt p b.object (take_records c rs (Ok new))
    leaves new p body h b off = records_leave p b.object rs (k + 1) (omega (arith, le)) off (Ok new) h b.there

    one_end : (first : List (Item B)) (new : Taken B) (i : Item B) → Holds (k + 1) new → new.items ≡ first ++ i ∷ [] → HasBody new.rows i.name i.body → EndsWithOne first i rs (take_records c rs (Ok new))
    one_end first new i h at b = by (take_records c rs (Ok new)) (more new h) (leaves new i.name i.body h b)
      where
        by : (x : Result (Taken B) TaskFailure) → EndsWith new.items rs x → (list_any (puts_at i.name) rs ≡ false → LeavesAt i.name b.object x) → EndsWithOne first i rs x
        by (Ok t) e stays = (e.0, e.1 ∙ ap (λ l. l ++ e.0) at ∙ append_assoc first (i ∷ []) e.0, (λ off. ap (λ x. option_map (λ o. o.body) x) (stays off) ∙ ap Some b.is), e.2)
        by (Err failure) e stays = tt

    beside_end : (new : Taken B) (p : AccountPath) (body : B) → Holds (k + 1) new → HasBody new.rows p body → EndsBeside new.items p body rs (take_records c rs (Ok new))
    beside_end new p body h b = by (take_records c rs (Ok new)) (more new h) (leaves new p body h b)
      where
        by : (x : Result (Taken B) TaskFailure) → EndsWith new.items rs x → (list_any (puts_at p) rs ≡ false → LeavesAt p b.object x) → EndsBeside new.items p body rs x
        by (Ok t) e stays = (e.0, e.1, (λ off. ap (λ x. option_map (λ o. o.body) x) (stays off) ∙ ap Some b.is), e.2)
        by (Err failure) e stays = tt

    -- as the records are
    emit_end : (first : List (Item B)) (place : Option AccountPath) (reducer : Option ℕ) (body : B) (i : Item B) (x : Result (Taken B) TaskFailure) → EndsWithOne first i rs x → EndsWith first (Emit place reducer body ∷ rs) x
    emit_end first place reducer body i (Ok t) e = (i ∷ e.0, e.1, (e.2, e.3))
    emit_end first place reducer body i (Err failure) e = tt

    ref_end : (first : List (Item B)) (name : AccountPath) (i : Item B) (x : Result (Taken B) TaskFailure) → EndsWithOne first i rs x → EndsWith first (Ref name ∷ rs) x
    ref_end first name i (Ok t) e = (i ∷ e.0, e.1, (e.2, e.3))
    ref_end first name i (Err failure) e = tt

    keep_end : (first : List (Item B)) (p : AccountPath) (body : B) (x : Result (Taken B) TaskFailure) → EndsBeside first p body rs x → EndsWith first (Keep p body ∷ rs) x
    keep_end first p body (Ok t) e = (e.0, e.1, (e.2, e.3))
    keep_end first p body (Err failure) e = tt

    refused_end : (first : List (Item B)) (r : TaskRecord B) (failure : TaskFailure) (qs : List (TaskRecord B)) → EndsWith first (r ∷ rs) (take_records c qs (Err failure))
    refused_end first r failure [] = tt
    refused_end first r failure (q ∷ qs) = refused_end first r failure qs

    -- the object that was put
    new_body : (rows : Rows B) (p : AccountPath) (number : ℕ) (body : B) → HasBody (with_row rows p (entry.Object (task_object number body c.moment))) p body
    new_body rows p number body = record { object = task_object number body c.moment; there = put_here rows p (task_object number body c.moment); is = refl }

    emitted_end : (t : Taken B) (p : AccountPath) (body : B) (reducer : Option ℕ) → Holds k t → (b : Bool) → can_hold_object t.rows c.job p ≡ b
        → EndsWith t.items (Emit (Some p) reducer body ∷ rs) (take_records c rs (and_then (λ new. Ok (with_output c p body reducer new)) (cond b (Ok (kept c p body t)) (Err TaskPlaceRefused))))
    emitted_end t p body reducer h true is =
        let new : Taken B = with_output c p body reducer (kept c p body t) in
        let i : Item B = record { name = p; root = c.root; body = body; reducer = reducer } in
        emit_end t.items (Some p) reducer body i (take_records c rs (Ok new)) (one_end t.items new i (emitted k p body reducer t h true is) refl (new_body (with_parents t.rows p c.moment) p (next_number c t) body))
    emitted_end t p body reducer h false is = refused_end t.items (Emit (Some p) reducer body) TaskPlaceRefused rs

    kept_end : (t : Taken B) (p : AccountPath) (body : B) → Holds k t → (b : Bool) → can_hold_object t.rows c.job p ≡ b
        → EndsWith t.items (Keep p body ∷ rs) (take_records c rs (cond b (Ok (kept c p body t)) (Err TaskPlaceRefused)))
    kept_end t p body h true is =
        keep_end t.items p body (take_records c rs (Ok (kept c p body t)))
        (beside_end (kept c p body t) p body (placed_holds k t p body h true is) (new_body (with_parents t.rows p c.moment) p (next_number c t) body))
    kept_end t p body h false is = refused_end t.items (Keep p body) TaskPlaceRefused rs

    referred_end : (t : Taken B) (name : AccountPath) → Holds k t → (o : Option (Object B)) → object_at t.rows name ≡ o → EndsWith t.items (Ref name ∷ rs) (take_records c rs (take_reference c name t o))
    referred_end t name h None is = refused_end t.items (Ref name) TaskObjectMissing rs
    referred_end t name h (Some o) is =
        let new : Taken B = with_output c name o.body None t in
        let i : Item B = record { name = name; root = c.root; body = o.body; reducer = None } in
        ref_end t.items name i (take_records c rs (Ok new)) (one_end t.items new i (referred k name t h (Some o) is) refl (record { object = o; there = is; is = refl }))

    record_end : (t : Taken B) (r : TaskRecord B) → Holds k t → EndsWith t.items (r ∷ rs) (take_records c rs (take_record c t r))
    record_end t (Emit None reducer body) h =
        let p : AccountPath = fresh_place c t in
        let new : Taken B = with_output c p body reducer (kept c p body t) in
        let i : Item B = record { name = p; root = c.root; body = body; reducer = reducer } in
        emit_end t.items None reducer body i (take_records c rs (Ok new))
        (one_end t.items new i (emitted_fresh k t h (omega (arith, le)) body reducer) refl (new_body (with_parents t.rows p c.moment) p (next_number c t) body))
    record_end t (Emit (Some p) reducer body) h = emitted_end t p body reducer h (can_hold_object t.rows c.job p) refl
    record_end t (Keep p body) h = kept_end t p body h (can_hold_object t.rows c.job p) refl
    record_end t (Ref name) h = referred_end t name h (object_at t.rows name) refl

  records_end : (rs : List (TaskRecord B)) (k : ℕ) → k + length rs ≤ 4095 → (t : Taken B) → Holds k t → EndsWith t.items rs (take_records c rs (Ok t))
  records_end [] k le t h = ([], sym (append-nil t.items), refl)
  records_end (r ∷ rs) k le t h = record_end rs k le (λ new holds. records_end rs (k + 1) (omega (arith, le)) new holds) t r h

  stand_case : (records : List (TaskRecord B)) (x : Result (Taken B) TaskFailure) → EndsWith [] records x → OutputsStand (resolved start x).rows (fate.Good records) (resolved start x).outcome
  stand_case records (Ok t) e = subst (HaveBodies t.rows records) (sym e.1) e.2
  stand_case records (Err failure) e = tt

  pub resolve_stands : Numbered (number_at c.position 0) start → (x : Fate B) → IsWellMadeFate x → OutputsStand (resolve c start x).rows x (resolve c start x).outcome
  resolve_stands numbered (fate.Good records) well =
      let t : Taken B = record { rows = start; items = []; made = 0 } in
      stand_case records (take_records c records (Ok t))
      (records_end records 0 (let le = well.0 in omega (arith, le)) t (record { stays = λ id name o ends is. is; numbered = numbered; made = omega arith; items = tt }))
  resolve_stands numbered (fate.Bad failure status stderr) well = tt
