-- The number of an object tells its body for good: each object comes with a fresh number and a body of its command, or
-- by a link.
use Rattle.std.proofs.Common.{◌≡◌, ℕ, ◌+◌, ◌*◌, ◌/◌, ◌%◌, ◌<◌, ◌≤◌, Bool, true, false, cond, List, [], ◌∷◌, ◌++◌, length, Option, Some, None, refl, sym, ap, subst, ◌∙◌, arith, append-nil, append_assoc, length-append, true≢false}
use Rattle.std.specs.Prelude.{◌≢◌, Result, Ok, Err, is_some, slice_get}
use Rattle.std.specs.List.{cons_option, filter_map, fold, list_any}
use Rattle.std.specs.Option.{option_and_then}
use Rattle.std.proofs.lemmas.Option.{none-some, same_Some, slice_get_within}
use Rattle.mt_path.specs.AccountPath.{AccountPath}
use Rattle.mt_types.specs.WellMade.{IsWellMade}
use Rattle.mt_types.specs.declared.command.Command.{Command}
use Rattle.mt_types.specs.declared.command.Command.TheVariants.{Put, MakeDirectory, Link, Delete, NewJob, AddInputs, EndInput, Commit, Finish, Cancel, Close, NewUpload, PutPart, CommitUpload, AbortUpload}
use Rattle.mt_types.specs.declared.job.Job.{Job}
use Rattle.mt_types.specs.declared.limits.TheConstants.{NUMBERS_A_COMMAND}
use Rattle.mt_types.specs.declared.object.Entry.{Entry}
use Rattle.mt_types.specs.declared.object.Entry.TheVariants as entry
use Rattle.mt_types.specs.declared.object.Object.{Object}
use Rattle.mt_types.specs.declared.task.Fate.{Fate}
use Rattle.mt_types.specs.declared.task.Fate.TheVariants as fate
use Rattle.mt_types.specs.declared.task.TaskFailure.{TaskFailure}
use Rattle.mt_types.specs.declared.task.TaskFailure.TheVariants.{TaskPlaceRefused}
use Rattle.mt_types.specs.declared.task.TaskRecord.{TaskRecord}
use Rattle.mt_types.specs.declared.task.TaskRecord.TheVariants.{Emit, Keep, Ref}
use Rattle.mt_types.specs.declared.upload.Upload.{Upload}
use Rattle.mt_model.specs.CommandStep.{change, linked, put_object, replay, step}
use Rattle.mt_model.specs.JobSteps.{archive_bodies, archive_names, archive_object, commit, task_root, with_archive_from}
use Rattle.mt_model.specs.Lawful.{Lawful}
use Rattle.mt_model.specs.Laws.{TakenFrom}
use Rattle.mt_model.specs.Names.{in_job_folder, job_folder, job_stor, number_at, paths_above}
use Rattle.mt_model.specs.Resolve.{Committing, Taken, and_then, can_hold_object, fresh_place, kept, next_number, resolve, resolved, take_record, take_records, take_reference, task_object, with_directory, with_output, with_parents}
use Rattle.mt_model.specs.Rows.{IsTree, Rows, at, is_path, object_at, object_in, with_row, without_row}
use Rattle.mt_model.specs.State.{State, first_state, job_at, upload_at}
use Rattle.mt_model.specs.Stays.{LacksNumber, TagsAreStrong, TagsGoForGood, links_at}
use Rattle.mt_model.specs.UploadSteps.{commit_upload, upload_object}
use Rattle.mt_model.proofs.LawfulHistories.{lawful_step}
use Rattle.mt_model.proofs.LawfulInputs.{or_none}
use Rattle.mt_model.proofs.LawfulSteps.{Lawful-first_state}
use Rattle.mt_model.proofs.RowLaws.{at-with_row, at-without_row, is_path-exact, is_path-self}
use Rattle.mt_model.proofs.Same.{get_front}

at_end : {X : Type 0} (xs : List X) (x : X) (ys : List X) → slice_get (xs ++ x ∷ ys) (length xs) ≡ Some x
at_end [] x ys = refl
at_end (y ∷ xs) x ys = at_end xs x ys

module _ {B : Type 0} where
  -- ---- the bodies that a command brings, in the order of the numbers of its objects

  abbrev body_of : TaskRecord B → Option B
  body_of (Emit place reducer body) = Some body
  body_of (Keep place body) = Some body
  body_of (Ref name) = None

  abbrev bodies_of : Fate B → List B
  bodies_of (fate.Good records) = filter_map body_of records
  bodies_of (fate.Bad failure status stderr) = []

  abbrev bodies_in : Command B → List B
  bodies_in (Put path content_type body durability metadata moment) = body ∷ []
  bodies_in (Commit job phase place f moment) = bodies_of f
  bodies_in (Close job cancelled archive moment) = archive_bodies archive
  bodies_in (CommitUpload upload parts body moment) = body ∷ []
  bodies_in other = []

  few_bodies : (rs : List (TaskRecord B)) → length (filter_map body_of rs) ≤ length rs
  few_bodies [] = omega arith
  few_bodies (Emit place reducer body ∷ rs) = let less = few_bodies rs in omega (arith, less)
  few_bodies (Keep place body ∷ rs) = let less = few_bodies rs in omega (arith, less)
  few_bodies (Ref name ∷ rs) = let less = few_bodies rs in omega (arith, less)

  few_in : (c : Command B) → IsWellMade c → length (bodies_in c) < 4096
  few_in (Put path content_type body durability metadata moment) made = omega arith
  few_in (MakeDirectory path moment) made = omega arith
  few_in (Link path source moment) made = omega arith
  few_in (Delete path moment) made = omega arith
  few_in (NewJob document moment) made = omega arith
  few_in (AddInputs job lines moment) made = omega arith
  few_in (EndInput job moment) made = omega arith
  few_in (Commit job phase place (fate.Good records) moment) made = let few = few_bodies records in let most = made.0 in omega (arith, few, most)
  few_in (Commit job phase place (fate.Bad failure status stderr) moment) made = omega arith
  few_in (Finish job moment) made = omega arith
  few_in (Cancel job moment) made = omega arith
  few_in (Close job cancelled archive moment) made = omega arith
  few_in (NewUpload path content_type moment) made = omega arith
  few_in (PutPart upload index body moment) made = omega arith
  few_in (CommitUpload upload parts body moment) made = omega arith
  few_in (AbortUpload upload moment) made = omega arith

-- ---- what holds of each object at each path

module _ {B : Type 0} (R : AccountPath → Object B → Type 0) where
  abbrev Every : Rows B → Type 0
  Every rows = (p : AccountPath) (o : Object B) → object_at rows p ≡ Some o → R p o

  put : (rows : Rows B) (q : AccountPath) (e : Entry B) → Every rows → ((o : Object B) → object_in (Some e) ≡ Some o → R q o) → Every (with_row rows q e)
  put rows q e every here p o is = by (is_path q p) refl (sym (ap object_in (at-with_row rows q e p)) ∙ is)
    where
      by : (b : Bool) → is_path q p ≡ b → object_in (cond b (Some e) (at rows p)) ≡ Some o → R p o
      by true same t = subst (λ x. R x o) (is_path-exact q p same) (here o t)
      by false same t = every p o t

  directory : (rows : Rows B) (q : AccountPath) (moment : ℕ) → Every rows → Every (with_row rows q (entry.Directory moment))
  directory rows q moment every = put rows q (entry.Directory moment) every (λ o is. absurd (none-some o is))

  object : (rows : Rows B) (q : AccountPath) (new : Object B) → R q new → Every rows → Every (with_row rows q (entry.Object new))
  object rows q new here every = put rows q (entry.Object new) every (λ o is. subst (R q) (same_Some new o is) here)

  removed : (rows : Rows B) (q : AccountPath) → IsTree rows → Every rows → Every (without_row rows q)
  removed rows q tree every p o is = by (is_path q p) (sym (ap object_in (at-without_row rows q p tree.ordered)) ∙ is)
    where
      by : (b : Bool) → object_in (cond b None (at rows p)) ≡ Some o → R p o
      by true t = absurd (none-some o t)
      by false t = every p o t

  link : (rows : Rows B) (q : AccountPath) (o : Option (Object B)) (moment : ℕ) → ((x : Object B) → o ≡ Some x → R q (record x { mtime = moment })) → Every rows → Every (linked rows q o moment)
  link rows q None moment here every = every
  link rows q (Some x) moment here every = object rows q (record x { mtime = moment }) (here x refl) every

  one_directory : (moment : ℕ) (rows : Rows B) (q : AccountPath) → Every rows → Every (with_directory moment rows q)
  one_directory moment rows q every = by (is_some (at rows q))
    where
      by : (b : Bool) → Every (cond b rows (with_row rows q (entry.Directory moment)))
      by true = every
      by false = directory rows q moment every

  directories : (moment : ℕ) (qs : List AccountPath) (rows : Rows B) → Every rows → Every (fold (with_directory moment) rows qs)
  directories moment [] rows every = every
  directories moment (q ∷ qs) rows every = directories moment qs (with_directory moment rows q) (one_directory moment rows q every)

  -- ---- objects of one command, each with its number and its body

  module _ (position : ℕ) (bodies : List B) (fresh : (q : AccountPath) (index : ℕ) (o : Object B) → o.number ≡ number_at position index → slice_get bodies index ≡ Some o.body → R q o) where
    -- the body behind these
    next_body : (front : List B) (body : B) (rest : List B) (n : ℕ) → bodies ≡ front ++ body ∷ rest → n ≡ length front → slice_get bodies n ≡ Some body
    next_body front body rest n all at = ap (λ m. slice_get bodies m) at ∙ ap (λ l. slice_get l (length front)) all ∙ at_end front body rest

    module _ (c : Committing) (own : c.position ≡ position) where
      record Goes (front : List B) (t : Taken B) : Type 0 where
        every : Every t.rows
        made : t.made ≡ length front

      abbrev GoesOn : List B → Result (Taken B) TaskFailure → Type 0
      GoesOn front (Ok t) = Goes front t
      GoesOn front (Err failure) = Unit {0}

      made_one : (front : List B) (body : B) (rest : List B) (place : AccountPath) (t : Taken B) → bodies ≡ front ++ body ∷ rest → Goes front t → Goes (front ++ body ∷ []) (kept c place body t)
      made_one front body rest place t all g =
          let new : Object B = task_object (next_number c t) body c.moment in
          let more = length-append front (body ∷ []) in
          let at = g.made in
          record {
            every = object (with_parents t.rows place c.moment) place new (fresh place t.made new (ap (λ n. number_at n t.made) own) (next_body front body rest t.made all g.made)) (directories c.moment (paths_above place) t.rows g.every);
            made = omega (arith, more, at);
          }

      placed : (front : List B) (body : B) (rest : List B) (place : AccountPath) (t : Taken B) → bodies ≡ front ++ body ∷ rest → Goes front t → (b : Bool) → GoesOn (front ++ body ∷ []) (cond b (Ok (kept c place body t)) (Err TaskPlaceRefused))
      placed front body rest place t all g true = made_one front body rest place t all g
      placed front body rest place t all g false = tt

      output : (front : List B) (name : AccountPath) (body : B) (reducer : Option ℕ) (t : Taken B) → Goes front t → Goes front (with_output c name body reducer t)
      output front name body reducer t g = record { every = g.every; made = g.made }

      emitted : (front : List B) (body : B) (rest : List B) (place : AccountPath) (reducer : Option ℕ) (t : Taken B) → bodies ≡ front ++ body ∷ rest → Goes front t
          → (b : Bool) → GoesOn (front ++ body ∷ []) (and_then (λ new. Ok (with_output c place body reducer new)) (cond b (Ok (kept c place body t)) (Err TaskPlaceRefused)))
      emitted front body rest place reducer t all g true = output (front ++ body ∷ []) place body reducer (kept c place body t) (made_one front body rest place t all g)
      emitted front body rest place reducer t all g false = tt

      referred : (front : List B) (name : AccountPath) (t : Taken B) → Goes front t → (o : Option (Object B)) → GoesOn (front ++ []) (take_reference c name t o)
      referred front name t g None = tt
      referred front name t g (Some o) = subst (λ l. Goes l (with_output c name o.body None t)) (sym (append-nil front)) (output front name o.body None t g)

      abbrev with_one : List B → TaskRecord B → List B
      with_one front r = front ++ cons_option (body_of r) []

      one : (front rest : List B) (r : TaskRecord B) (t : Taken B) → bodies ≡ front ++ cons_option (body_of r) rest → Goes front t → GoesOn (with_one front r) (take_record c t r)
      one front rest (Emit None reducer body) t all g =
          output (front ++ body ∷ []) (fresh_place c t) body reducer (kept c (fresh_place c t) body t) (made_one front body rest (fresh_place c t) t all g)
      one front rest (Emit (Some place) reducer body) t all g = emitted front body rest place reducer t all g (can_hold_object t.rows c.job place)
      one front rest (Keep place body) t all g = placed front body rest place t all g (can_hold_object t.rows c.job place)
      one front rest (Ref name) t all g = referred front name t g (object_at t.rows name)

      next : (front rest : List B) (r : TaskRecord B) (x : Result (Taken B) TaskFailure) → bodies ≡ front ++ cons_option (body_of r) rest → GoesOn front x → GoesOn (with_one front r) (and_then (λ t. take_record c t r) x)
      next front rest r (Ok t) all g = one front rest r t all g
      next front rest r (Err failure) all g = tt

      split_one : (front rest : List B) (o : Option B) → front ++ cons_option o rest ≡ (front ++ cons_option o []) ++ rest
      split_one front rest None = ap (λ l. l ++ rest) (sym (append-nil front))
      split_one front rest (Some b) = sym (append_assoc front (b ∷ []) rest)

      abbrev EndsEvery : Result (Taken B) TaskFailure → Type 0
      EndsEvery (Ok t) = Every t.rows
      EndsEvery (Err failure) = Unit {0}

      last_one : (front : List B) (x : Result (Taken B) TaskFailure) → GoesOn front x → EndsEvery x
      last_one front (Ok t) g = g.every
      last_one front (Err failure) g = tt

      all : (rs : List (TaskRecord B)) (front : List B) (x : Result (Taken B) TaskFailure) → bodies ≡ front ++ filter_map body_of rs → GoesOn front x → EndsEvery (take_records c rs x)
      all [] front x are g = last_one front x g
      all (r ∷ rs) front x are g =
          all rs (with_one front r) (and_then (λ t. take_record c t r) x) (are ∙ split_one front (filter_map body_of rs) (body_of r)) (next front (filter_map body_of rs) r x are g)

      after : (rows : Rows B) (x : Result (Taken B) TaskFailure) → Every rows → EndsEvery x → Every (resolved rows x).rows
      after rows (Ok t) every e = e
      after rows (Err failure) every e = every

      resolve_every : (rows : Rows B) (f : Fate B) → bodies ≡ bodies_of f → Every rows → Every (resolve c rows f).rows
      resolve_every rows (fate.Good records) are every =
          let x : Result (Taken B) TaskFailure = Ok (record { rows = rows; items = []; made = 0 }) in
          after rows (take_records c records x) every (all records [] x are (record { every = every; made = refl }))
      resolve_every rows (fate.Bad failure status stderr) are every = every

    archive_every : (index : ℕ) (rows : Rows B) (job moment : ℕ) (names : List (List ℕ × List ℕ)) (front rest : List B) → bodies ≡ front ++ rest → index ≡ length front → Every rows → Every (with_archive_from index rows job position moment names rest)
    archive_every index rows job moment [] front rest are at every = every
    archive_every index rows job moment (n ∷ ns) front [] are at every = every
    archive_every index rows job moment (n ∷ ns) front (b ∷ bs) are at every =
        let new : Object B = archive_object (number_at position index) n.1 b moment in
        let more = length-append front (b ∷ []) in
        archive_every (index + 1) _ job moment ns (front ++ b ∷ []) bs (are ∙ sym (append_assoc front (b ∷ []) bs)) (omega (arith, more, at))
        (object rows (in_job_folder job n.0) new (fresh (in_job_folder job n.0) index new refl (next_body front b bs index are at)) every)

  -- ---- one command

  module _ (s : State B) (c : Command B) (tree : IsTree s.rows)
      (fresh : (q : AccountPath) (index : ℕ) (o : Object B) → o.number ≡ number_at s.count index → slice_get (bodies_in c) index ≡ Some o.body → R q o)
      (linked_one : (q source : AccountPath) (moment : ℕ) (o : Object B) → c ≡ Link q source moment → object_at s.rows source ≡ Some o → R q (record o { mtime = moment })) where
    commit_every : (o : Option (Job B)) (phase place : ℕ) (f : Fate B) (moment : ℕ) → bodies_in c ≡ bodies_of f → Every s.rows → Every (commit s o phase place f moment).rows
    commit_every None phase place f moment are every = every
    commit_every (Some j) phase place f moment are every =
        resolve_every s.count (bodies_in c) fresh (record { job = j.number; phase = phase; root = task_root j phase place; position = s.count; moment = moment }) refl s.rows f are every

    upload_every : (o : Option (Upload B)) (body : B) (moment : ℕ) → bodies_in c ≡ body ∷ [] → Every s.rows → Every (commit_upload s o body moment).rows
    upload_every None body moment are every = every
    upload_every (Some u) body moment are every =
        let new : Object B = upload_object (number_at s.count 0) u body moment in
        object s.rows u.path new (fresh u.path 0 new refl (ap (λ l. slice_get l 0) are)) every

  every_step : (s : State B) (c : Command B) → IsTree s.rows
      → ((q : AccountPath) (index : ℕ) (o : Object B) → o.number ≡ number_at s.count index → slice_get (bodies_in c) index ≡ Some o.body → R q o)
      → ((q source : AccountPath) (moment : ℕ) (o : Object B) → c ≡ Link q source moment → object_at s.rows source ≡ Some o → R q (record o { mtime = moment }))
      → Every s.rows → Every (step s c).rows
  unfolding change step
  every_step s (Put path content_type body durability metadata moment) tree fresh links every =
      let new : Object B = put_object (number_at s.count 0) body content_type durability metadata moment in
      object s.rows path new (fresh path 0 new refl refl) every
  every_step s (MakeDirectory path moment) tree fresh links every = directory s.rows path moment every
  every_step s (Link path source moment) tree fresh links every = link s.rows path (object_at s.rows source) moment (λ x is. links path source moment x refl is) every
  every_step s (Delete path moment) tree fresh links every = removed s.rows path tree every
  every_step s (NewJob document moment) tree fresh links every =
      directory _ (job_stor (number_at s.count 0)) moment (directory s.rows (job_folder (number_at s.count 0)) moment every)
  every_step s (AddInputs job lines moment) tree fresh links every = every
  every_step s (EndInput job moment) tree fresh links every = every
  every_step s (Commit job phase place f moment) tree fresh links every = commit_every s (Commit job phase place f moment) tree fresh links (job_at s.jobs job) phase place f moment refl every
  every_step s (Finish job moment) tree fresh links every = every
  every_step s (Cancel job moment) tree fresh links every = every
  every_step s (Close job cancelled archive moment) tree fresh links every =
      archive_every s.count (archive_bodies archive) fresh 0 s.rows job moment archive_names [] (archive_bodies archive) refl refl every
  every_step s (NewUpload path content_type moment) tree fresh links every = every
  every_step s (PutPart upload index body moment) tree fresh links every = every
  every_step s (CommitUpload upload parts body moment) tree fresh links every = upload_every s (CommitUpload upload parts body moment) tree fresh links (upload_at s.uploads upload) body moment refl every
  every_step s (AbortUpload upload moment) tree fresh links every = every

-- ---- a number that left a path

module _ {B : Type 0} where
  counted : (s : State B) (c : Command B) → (step s c).count ≡ s.count + 1
  unfolding step
  counted s c = refl

  module _ (n : ℕ) (p : AccountPath) where
    abbrev Other : AccountPath → Object B → Type 0
    Other q o = q ≡ p → o.number ≢ n

    one_lacks : (s : State B) (c : Command B) → IsTree s.rows → n < s.count * NUMBERS_A_COMMAND → links_at p c ≡ false → LacksNumber n p s.rows → LacksNumber n p (step s c).rows
    one_lacks s c tree below apart lacks o is =
        every_step Other s c tree
        (λ q index x number body at same. let same : x.number ≡ n = same in absurd (omega (arith, number, same, below)))
        (λ q source moment x this there at. absurd (true≢false (sym (is_path-self p) ∙ ap (λ y. is_path y p) (sym at) ∙ sym (ap (links_at p) this) ∙ apart)))
        (λ q x there at. lacks x (ap (object_at s.rows) (sym at) ∙ there)) p o is refl

pub tags_go_for_good : {B : Type 0} (size : B → ℕ) → TagsGoForGood size
unfolding TakenFrom replay
tags_go_for_good size s [] n p law taken below lacks none = lacks
tags_go_for_good size s (c ∷ cs) n p law taken below lacks none =
    let apart = or_none (links_at p c) (list_any (links_at p) cs) none in
    let more : n < (step s c).count * NUMBERS_A_COMMAND = let e = counted s c in omega (arith, below, e) in
    tags_go_for_good size (step s c) cs n p (lawful_step size s c law taken.0 taken.1 taken.2) taken.3 more (one_lacks n p s c law.rows.tree below apart.0 lacks) apart.1

-- ---- numbers tell bodies

module _ {B : Type 0} where
  -- the body that a history brought under a number
  abbrev body_at : List (Command B) → ℕ → Option B
  body_at h n = option_and_then (λ c. slice_get (bodies_in c) (n % NUMBERS_A_COMMAND)) (slice_get h (n / NUMBERS_A_COMMAND))

  abbrev Told : List (Command B) → AccountPath → Object B → Type 0
  Told h q o = body_at h o.number ≡ Some o.body

  told_on : (h more : List (Command B)) (n : ℕ) (b : B) → body_at h n ≡ Some b → body_at (h ++ more) n ≡ Some b
  told_on h more n b is = by (slice_get h (n / NUMBERS_A_COMMAND)) refl is
    where
      by : (o : Option (Command B)) → slice_get h (n / NUMBERS_A_COMMAND) ≡ o → option_and_then (λ c. slice_get (bodies_in c) (n % NUMBERS_A_COMMAND)) o ≡ Some b → body_at (h ++ more) n ≡ Some b
      by None at t = absurd (none-some b t)
      by (Some c) at t =
          ap (option_and_then (λ c. slice_get (bodies_in c) (n % NUMBERS_A_COMMAND))) (get_front (n / NUMBERS_A_COMMAND) h more (slice_get_within h (n / NUMBERS_A_COMMAND) c at) ∙ at) ∙ t

  told_here : (h : List (Command B)) (c : Command B) (index : ℕ) (o : Object B) → IsWellMade c → o.number ≡ number_at (length h) index → slice_get (bodies_in c) index ≡ Some o.body → body_at (h ++ c ∷ []) o.number ≡ Some o.body
  told_here h c index o made number at =
      let within = slice_get_within (bodies_in c) index o.body at in
      let few = few_in c made in
      let quotient : o.number / NUMBERS_A_COMMAND ≡ length h = omega (arith, number, within, few) in
      let rest : o.number % NUMBERS_A_COMMAND ≡ index = omega (arith, number, within, few) in
      ap (λ k. option_and_then (λ d. slice_get (bodies_in d) (o.number % NUMBERS_A_COMMAND)) (slice_get (h ++ c ∷ []) k)) quotient
      ∙ ap (λ x. option_and_then (λ d. slice_get (bodies_in d) (o.number % NUMBERS_A_COMMAND)) x) (at_end h c [])
      ∙ ap (slice_get (bodies_in c)) rest
      ∙ at

  module _ (size : B → ℕ) where
    -- what is known behind a front of a history
    record Known (h : List (Command B)) (s : State B) : Type 0 where
      law : Lawful s
      count : s.count ≡ length h
      every : Every (Told h) s.rows

    known_step : (h : List (Command B)) (s : State B) (c : Command B) → Known h s → TakenFrom size s (c ∷ []) → Known (h ++ c ∷ []) (step s c)
    unfolding TakenFrom
    known_step h s c known taken = record {
      law = lawful_step size s c known.law taken.0 taken.1 taken.2;
      count = let e = counted s c in let at = known.count in let more = length-append h (c ∷ []) in omega (arith, e, at, more);
      every =
          every_step (Told (h ++ c ∷ [])) s c known.law.rows.tree
          (λ q index o number at. told_here h c index o taken.1 (number ∙ ap (λ n. number_at n index) known.count) at)
          (λ q source moment o this there. told_on h (c ∷ []) o.number o.body (known.every source o there))
          (λ q o there. told_on h (c ∷ []) o.number o.body (known.every q o there));
    }

    known_from : (h cs : List (Command B)) (s : State B) → Known h s → TakenFrom size s cs → Known (h ++ cs) (replay s cs)
    unfolding TakenFrom replay
    known_from h [] s known taken = subst (λ x. Known x s) (sym (append-nil h)) known
    known_from h (c ∷ cs) s known taken =
        subst (λ x. Known x (replay (step s c) cs)) (append_assoc h (c ∷ []) cs)
        (known_from (h ++ c ∷ []) cs (step s c) (known_step h s c known (taken.0, taken.1, taken.2, tt)) taken.3)

    first_objects : (p : AccountPath) (o : Object B) → object_at (first_state {B = B}).rows p ≡ Some o → Told [] p o
    first_objects p o is =
        let law : Lawful {B = B} first_state = Lawful-first_state B in
        let below = law.rows.numbers p o is in
        absurd (omega (arith, below))

    first_known : Known [] first_state
    first_known = record { law = Lawful-first_state B; count = refl; every = first_objects }

pub tags_are_strong : {B : Type 0} (size : B → ℕ) → TagsAreStrong size
tags_are_strong size h more taken next p q o x at there same =
    let first = known_from size [] h first_state (first_known size) taken in
    let second = known_from size h more (replay first_state h) first next in
    let one : body_at (h ++ more) o.number ≡ Some o.body = told_on h more o.number o.body (first.every p o at) in
    let two : body_at (h ++ more) x.number ≡ Some x.body = second.every q x there in
    same_Some o.body x.body (sym one ∙ ap (body_at (h ++ more)) same ∙ two)
