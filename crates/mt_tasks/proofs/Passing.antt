-- What is left of the bodies of a task, from a place on.
use Rattle.std.proofs.Common.{◌≡◌, ◌<◌, ◌≤◌, ℕ, zero, suc, ◌+◌, ◌-◌, Bool, true, false, nat_lt, min, List, [], ◌∷◌, ◌++◌, length, map, take, drop, Option, Some, None, refl, sym, ap, ◌∙◌, subst, arith, append_assoc, length-append}
use Rattle.std.specs.Prelude.{IfNone, IfSome}
use Rattle.std.specs.List.{AllByRecursion, flat_map, slice_get, zip}
use Rattle.std.specs.Option.{option_map, option_map_or, unwrap_or}
use Rattle.std.proofs.Math.Seq.{drop-append_seam, drop-nil}
use Rattle.std.proofs.lemmas.List.{drop-append-le, length-drop, length-map, take-append-drop}
use Rattle.std.proofs.lemmas.Grind.{flat_map-append}
use Rattle.mt_types.specs.declared.body.Body.{Body}
use Rattle.mt_types.specs.declared.document.Phase.{Phase}
use Rattle.mt_types.specs.declared.job.Item.{Item}
use Rattle.mt_types.specs.declared.job.Job.{Job}
use Rattle.mt_types.specs.declared.job.Task.{Task}
use Rattle.mt_types.specs.declared.task.Asset.{Asset}
use Rattle.mt_path.specs.AccountPath.{AccountPath, path_text}
use Rattle.mt_feeds.specs.Reading.{task_items}
use Rattle.mt_model.specs.Bodies.{OfItems, OfJob}
use Rattle.mt_model.specs.Feed.{feed}
use Rattle.mt_model.specs.Laws.{KeepsSize}
use Rattle.mt_model.specs.State.{job_at}
use Rattle.mt_model.specs.Tasks.{input_of, items_read}
use Rattle.mt_phase.specs.Laws.{bytes_with}
use Rattle.mt_phase.proofs.Held.{all_at, all_zipped, feed_held, read_held}
use Rattle.mt_tasks.specs.Reading.{assets_held, bodies_of_task, bodies_with, left_at, task_assets}
use Rattle.mt_tasks.specs.declared.bodies.Place.{Place}

-- ---- lists

module _ {A : Type 0} where
  -- what is behind a place begins with what stands there
  pub behind_place : (xs : List A) (k : ℕ) (x : A) → slice_get xs k ≡ Some x → drop k xs ≡ x ∷ drop (k + 1) xs
  behind_place [] k x is = cc
  behind_place (y ∷ xs) zero x is = let e : y ≡ x = cc in ap (λ (z : A). z ∷ xs) e
  behind_place (y ∷ xs) (suc k) x is =
      let e : suc k + 1 ≡ suc (k + 1) = omega arith in
      behind_place xs k x is ∙ ap (λ (n : ℕ). x ∷ drop n (y ∷ xs)) (sym e)

  -- nothing is behind a place where nothing stands
  pub behind_all : (xs : List A) (k : ℕ) → slice_get xs k ≡ None → drop k xs ≡ []
  behind_all [] k is = drop-nil k
  behind_all (y ∷ xs) zero is = cc
  behind_all (y ∷ xs) (suc k) is = behind_all xs k is

  -- a place in the first of two lists, and one behind it
  pub place_in : (xs ys : List A) (k : ℕ) (x : A) → slice_get xs k ≡ Some x → slice_get (xs ++ ys) k ≡ Some x
  place_in [] ys k x is = cc
  place_in (y ∷ xs) ys zero x is = is
  place_in (y ∷ xs) ys (suc k) x is = place_in xs ys k x is

  pub place_past : (xs ys : List A) (k : ℕ) → slice_get xs k ≡ None → slice_get (xs ++ ys) k ≡ slice_get ys (k - length xs)
  place_past [] ys k is = ap (slice_get ys) (omega arith)
  place_past (y ∷ xs) ys zero is = cc
  place_past (y ∷ xs) ys (suc k) is =
      let e : k - length xs ≡ suc k - length (y ∷ xs) = omega arith in
      place_past xs ys k is ∙ ap (slice_get ys) e

  -- the second parts of a zip are a front
  pub second_in : {K : Type 0} (ks : List K) (xs : List A) (k : ℕ) → k < length ks → slice_get (map (λ p. p.1) (zip ks xs)) k ≡ slice_get xs k
  second_in [] xs k less = absurd (omega arith)
  second_in (q ∷ ks) [] k less = refl
  second_in (q ∷ ks) (x ∷ xs) zero less = refl
  second_in (q ∷ ks) (x ∷ xs) (suc k) less = second_in ks xs k (omega (arith, less))

  pub second_past : {K : Type 0} (ks : List K) (xs : List A) (k : ℕ) → length ks ≤ k → slice_get (map (λ p. p.1) (zip ks xs)) k ≡ None
  second_past [] xs k more = refl
  second_past (q ∷ ks) [] k more = refl
  second_past (q ∷ ks) (x ∷ xs) zero more = absurd (omega (arith, more))
  second_past (q ∷ ks) (x ∷ xs) (suc k) more = second_past ks xs k (omega (arith, more))

  -- and as many as the shorter of both
  pub second_long : {K : Type 0} (ks : List K) (xs : List A) → length (map (λ p. p.1) (zip ks xs)) ≡ min (length ks) (length xs)
  second_long [] xs = omega arith
  second_long (q ∷ ks) [] = omega arith
  second_long (q ∷ ks) (x ∷ xs) = let rest = second_long ks xs in omega (arith, rest)

  -- none of nothing
  pub second_none : {K : Type 0} (ks : List K) → map (λ p. p.1) (zip {K = K} {X = A} ks []) ≡ []
  second_none [] = refl
  second_none (q ∷ ks) = refl

-- ---- places in bodies

module _ (content : Body → List ℕ) (keeps : KeepsSize content) (bodies : List Body) where
  rest : ℕ → List ℕ
  rest k = flat_map content (drop k bodies)

  -- a body that is read out is passed
  pub passed : (place : Place) (b : Body) → slice_get bodies place.next ≡ Some b → b.len ≤ place.at → place.at ≤ b.len
      → left_at content bodies (record { next = place.next + 1; at = 0 }) ≡ left_at content bodies place
  passed place b is more less =
      let n : length (content b) ≡ place.at = keeps b ∙ omega (arith, more, less) in
      sym (ap (λ (xs : List Body). drop place.at (flat_map content xs)) (behind_place bodies place.next b is)
      ∙ ap (λ (k : ℕ). drop k (content b ++ flat_map content (drop (place.next + 1) bodies))) (sym n)
      ∙ drop-append_seam (content b) (flat_map content (drop (place.next + 1) bodies)))

  -- the bytes that are left begin with those that are left of the body at the place
  pub read_on : (place : Place) (b : Body) (n : ℕ) → slice_get bodies place.next ≡ Some b → place.at + n ≤ b.len
      → left_at content bodies place ≡ take n (drop place.at (content b)) ++ left_at content bodies (record { next = place.next; at = place.at + n })
  read_on place b n is fits =
      let size : length (content b) ≡ b.len = keeps b in
      let more : List ℕ = flat_map content (drop (place.next + 1) bodies) in
      let first : drop place.at (content b ++ more) ≡ drop place.at (content b) ++ more = drop-append-le place.at (content b) more (omega (arith, size, fits)) in
      let second : drop (place.at + n) (content b ++ more) ≡ drop (place.at + n) (content b) ++ more = drop-append-le (place.at + n) (content b) more (omega (arith, size, fits)) in
      let cut : drop place.at (content b) ≡ take n (drop place.at (content b)) ++ drop (place.at + n) (content b) =
      sym (take-append-drop n (drop place.at (content b))) ∙ ap (λ (l : List ℕ). take n (drop place.at (content b)) ++ l) (twice place.at n (content b)) in
      ap (λ (xs : List Body). drop place.at (flat_map content xs)) (behind_place bodies place.next b is)
      ∙ first ∙ ap (λ (l : List ℕ). l ++ more) cut ∙ append_assoc (take n (drop place.at (content b))) (drop (place.at + n) (content b)) more
      ∙ ap (λ (l : List ℕ). take n (drop place.at (content b)) ++ l)
      (sym second ∙ sym (ap (λ (xs : List Body). drop (place.at + n) (flat_map content xs)) (behind_place bodies place.next b is)))
    where
      twice : (a n : ℕ) (xs : List ℕ) → drop n (drop a xs) ≡ drop (a + n) xs
      twice zero n xs = ap (λ (k : ℕ). drop k xs) (omega arith)
      twice (suc a) n [] = drop-nil n ∙ sym (drop-nil (suc a + n))
      twice (suc a) n (x ∷ xs) = let e : suc (a + n) ≡ suc a + n = omega arith in twice a n xs ∙ ap (λ (k : ℕ). drop k (x ∷ xs)) e

-- nothing is left behind the last
pub none_left : (content : Body → List ℕ) (bodies : List Body) (place : Place) → slice_get bodies place.next ≡ None → left_at content bodies place ≡ []
none_left content bodies place is = ap (λ (xs : List Body). drop place.at (flat_map content xs)) (behind_all bodies place.next is) ∙ drop-nil place.at

-- ---- what comes with an order

module _ (content : Body → List ℕ) where
  items_bytes : (items : List (Item Body)) → flat_map content (map (λ i. i.body) items) ≡ flat_map (λ i. content i.body) items
  items_bytes [] = refl
  items_bytes (i ∷ items) = ap (λ (l : List ℕ). content i.body ++ l) (items_bytes items)

  abbrev asset_read : List ℕ → AccountPath × Body → Asset
  asset_read login a = record { name = path_text login a.0; bytes = content a.1 }

  assets_bytes : (login : List ℕ) (pairs : List (AccountPath × Body))
      → flat_map content (map (λ a. a.1) pairs) ≡ flat_map (λ (a : Asset). a.bytes) (map (asset_read login) pairs)
  assets_bytes login [] = refl
  assets_bytes login (a ∷ pairs) = ap (λ (l : List ℕ). content a.1 ++ l) (assets_bytes login pairs)

  -- the bodies of a task, one behind another, are the bytes that come with its order
  pub bodies_bytes : (login : List ℕ) (job : Job Body) (phase place : ℕ) (p : Phase) → slice_get job.document.phases phase ≡ Some p
      → flat_map content (bodies_with phase place job) ≡ bytes_with content login job phase place p
  bodies_bytes login job phase place p has =
      let items : List (Item Body) = items_read p.kind (feed job phase) place in
      let assets : List Body = assets_held job phase p in
      ap (λ (o : Option Phase). flat_map content (map (λ i. i.body) (option_map_or (λ q. items_read q.kind (feed job phase) place) o []) ++ option_map_or (assets_held job phase) o [])) has
      ∙ flat_map-append content (map (λ i. i.body) items) assets
      ∙ (λ i. items_bytes items i ++ assets_bytes login (zip p.assets (unwrap_or (slice_get job.assets phase) [])) i)

-- ---- they are stored

module _ (P : Body → Type 0) where
  all_and : (xs ys : List Body) → AllByRecursion P xs → AllByRecursion P ys → AllByRecursion P (xs ++ ys)
  all_and [] ys first second = second
  all_and (x ∷ xs) ys first second = (first.0, all_and xs ys first.1 second)

  of_items : (items : List (Item Body)) → OfItems P items → AllByRecursion P (map (λ i. i.body) items)
  of_items [] all = tt
  of_items (i ∷ items) all = (all.0, of_items items all.1)

  of_seconds : {K : Type 0} (pairs : List (K × Body)) → AllByRecursion (λ a. P a.1) pairs → AllByRecursion P (map (λ a. a.1) pairs)
  of_seconds [] all = tt
  of_seconds (a ∷ pairs) all = (all.0, of_seconds pairs all.1)

  by_phase : (job : Job Body) (phase place : ℕ) → OfJob P job → (o : Option Phase)
      → AllByRecursion P (map (λ i. i.body) (option_map_or (λ q. items_read q.kind (feed job phase) place) o []) ++ option_map_or (assets_held job phase) o [])
  by_phase job phase place of_job None = tt
  by_phase job phase place of_job (Some p) =
      all_and (map (λ i. i.body) (items_read p.kind (feed job phase) place)) (assets_held job phase p)
      (of_items (items_read p.kind (feed job phase) place) (read_held P p.kind (feed job phase) place (feed_held P job phase of_job)))
      (of_seconds (zip p.assets (unwrap_or (slice_get job.assets phase) [])) (all_zipped P p.assets (unwrap_or (slice_get job.assets phase) []) (all_at P job.assets phase of_job.assets)))

  -- what holds of each body of a job holds of those of a task
  pub of_task : (job : Job Body) (phase place : ℕ) → OfJob P job → AllByRecursion P (bodies_with phase place job)
  of_task job phase place of_job = by_phase job phase place of_job (slice_get job.document.phases phase)

  pub one_of : (bodies : List Body) (k : ℕ) (b : Body) → AllByRecursion P bodies → slice_get bodies k ≡ Some b → P b
  one_of [] k b all is = cc
  one_of (x ∷ bodies) zero b all is = let e : x ≡ b = cc in subst P e all.0
  one_of (x ∷ bodies) (suc k) b all is = one_of bodies k b all.1 is

-- ---- bodies by look-ups

pub if_none : {X : Type 0} (P : Type 0) (o : Option X) → P → IfNone o P
if_none P None is = is
if_none P (Some x) is = tt

-- the assets of a task
pub assets_is : (jobs : List (Job Body)) (t : Task) (job : Job Body) (p : Phase) (bodies : List Body) → job_at jobs t.job ≡ Some job → slice_get job.document.phases t.phase ≡ Some p → slice_get job.assets t.phase ≡ Some bodies
    → option_map_or (task_assets t.phase) (job_at jobs t.job) [] ≡ map (λ a. a.1) (zip p.assets bodies)
assets_is jobs t job p bodies found has held =
    ap (λ (o : Option (Job Body)). option_map_or (task_assets t.phase) o []) found ∙ ap (λ (o : Option Phase). option_map_or (assets_held job t.phase) o []) has
    ∙ ap (λ (o : Option (List Body)). map (λ a. a.1) (zip p.assets (unwrap_or o []))) held

pub assets_not : (jobs : List (Job Body)) (t : Task) (job : Job Body) (p : Phase) → job_at jobs t.job ≡ Some job → slice_get job.document.phases t.phase ≡ Some p → slice_get job.assets t.phase ≡ None
    → option_map_or (task_assets t.phase) (job_at jobs t.job) [] ≡ []
assets_not jobs t job p found has held =
    ap (λ (o : Option (Job Body)). option_map_or (task_assets t.phase) o []) found ∙ ap (λ (o : Option Phase). option_map_or (assets_held job t.phase) o []) has
    ∙ ap (λ (o : Option (List Body)). map (λ a. a.1) (zip p.assets (unwrap_or o []))) held ∙ second_none p.assets

-- as many as both say
pub bodies_long : (jobs : List (Job Body)) (t : Task) → length (bodies_of_task jobs t) ≡ option_map_or (λ j. length (task_items t.phase t.place j)) (job_at jobs t.job) 0 + length (option_map_or (task_assets t.phase) (job_at jobs t.job) [])
bodies_long jobs t = by (job_at jobs t.job)
  where
    by : (o : Option (Job Body)) → length (option_map_or (bodies_with t.phase t.place) o []) ≡ option_map_or (λ j. length (task_items t.phase t.place j)) o 0 + length (option_map_or (task_assets t.phase) o [])
    by None = omega arith
    by (Some job) =
        let items : List (Item Body) = task_items t.phase t.place job in
        omega (arith, length-append (map (λ i. i.body) items) (task_assets t.phase job), length-map items (λ i. i.body))

-- ---- reads

module _ (o : Option (List (List ℕ))) (f g : List (List ℕ) → List ℕ) where
  pub same_left : ((ps : List (List ℕ)) → g ps ≡ f ps) → option_map g o ≡ option_map f o
  same_left same = by o
    where
      by : (o : Option (List (List ℕ))) → option_map g o ≡ option_map f o
      by None = refl
      by (Some ps) = ap (λ (l : List ℕ). Some l) (same ps)

  pub ended_left : ((ps : List (List ℕ)) → g ps ≡ f ps) → ((ps : List (List ℕ)) → g ps ≡ []) → IfSome (option_map f o) (λ b. b ≡ [])
  ended_left same none = by o
    where
      by : (o : Option (List (List ℕ))) → IfSome (option_map f o) (λ b. b ≡ [])
      by None = tt
      by (Some ps) = sym (same ps) ∙ none ps

  pub took_left : (xs : List ℕ) → ((ps : List (List ℕ)) → o ≡ Some ps → f ps ≡ xs ++ g ps) → option_map f o ≡ option_map (λ rest. xs ++ rest) (option_map g o)
  took_left xs cut = by o cut
    where
      by : (o : Option (List (List ℕ))) → ((ps : List (List ℕ)) → o ≡ Some ps → f ps ≡ xs ++ g ps) → option_map f o ≡ option_map (λ rest. xs ++ rest) (option_map g o)
      by None cut = refl
      by (Some ps) cut = ap (λ (l : List ℕ). Some l) (cut ps refl)
