-- States whose bodies read the same are the same.
use Rattle.std.proofs.Common.{◌≡◌, List, [], ◌∷◌, map, refl, ap, ◌∙◌}
use Rattle.std.specs.List.{AllByRecursion}
use Rattle.mt_types.specs.Values.{entry_with, item_with, job_with, outcome_with, part_with, trace_entry_with, upload_with}
use Rattle.mt_types.specs.declared.job.Item.{Item}
use Rattle.mt_types.specs.declared.job.Job.{Job}
use Rattle.mt_types.specs.declared.job.Outcome.{Outcome}
use Rattle.mt_types.specs.declared.job.Outcome.TheVariants.{Good, Bad}
use Rattle.mt_types.specs.declared.object.Entry.{Entry}
use Rattle.mt_types.specs.declared.object.Entry.TheVariants as entry
use Rattle.mt_types.specs.declared.upload.Upload.{Upload}
use Rattle.mt_model.specs.Bodies.{OfEntry, OfItems, OfJob, OfOutcome, OfState, OfUpload, pair_with, state_with}
use Rattle.mt_model.specs.State.{State}

map-agree : {X Y : Type 0} (P : X → Type 0) (g h : X → Y) → ((x : X) → P x → g x ≡ h x) → (xs : List X) → AllByRecursion P xs → map g xs ≡ map h xs
map-agree P g h each [] a = refl
map-agree P g h each (x ∷ xs) a = ap (λ y. y ∷ map g xs) (each x a.0) ∙ ap (λ ys. h x ∷ ys) (map-agree P g h each xs a.1)

module _ {A B : Type 0} (f g : A → B) where
  abbrev Same : A → Type 0
  Same a = f a ≡ g a

  entry-agree : (e : Entry A) → OfEntry Same e → entry_with f e ≡ entry_with g e
  entry-agree (entry.Directory m) h = refl
  entry-agree (entry.Object o) h = ap (λ b. entry.Object (record { number = o.number; body = b; content_type = o.content_type; durability = o.durability; metadata = o.metadata; mtime = o.mtime })) h

  items-agree : (is : List (Item A)) → OfItems Same is → map (item_with f) is ≡ map (item_with g) is
  items-agree = map-agree (λ i. Same i.body) (item_with f) (item_with g) (λ i h. ap (λ b. record { name = i.name; root = i.root; body = b; reducer = i.reducer }) h)

  outcome-agree : (o : Outcome A) → OfOutcome Same o → outcome_with f o ≡ outcome_with g o
  outcome-agree (Good items) h = ap Good (items-agree items h)
  outcome-agree (Bad failure status stderr) h = refl

  job-agree : (j : Job A) → OfJob Same j → job_with f j ≡ job_with g j
  job-agree j h =
      ap (λ bodies. record (job_with f j) { assets = bodies }) (map-agree (λ bs. AllByRecursion Same bs) (map f) (map g) (map-agree Same f g (λ b k. k)) j.assets h.assets)
      ∙ ap (λ is. record (job_with f j) { assets = map (map g) j.assets; inputs = is }) (items-agree j.inputs h.inputs)
      ∙ ap (λ es. record (job_with g j) { trace = es }) (map-agree (λ e. OfOutcome Same e.outcome) (trace_entry_with f) (trace_entry_with g) (λ e k. ap (λ o. record (trace_entry_with f e) { outcome = o }) (outcome-agree e.outcome k)) j.trace h.trace)

  upload-agree : (u : Upload A) → OfUpload Same u → upload_with f u ≡ upload_with g u
  upload-agree u h = ap (λ ps. record (upload_with f u) { parts = ps }) (map-agree (λ p. Same p.body) (part_with f) (part_with g) (λ p k. ap (λ b. record { index = p.index; number = p.number; body = b }) k) u.parts h)

  pub state-agree : (s : State A) → OfState Same s → state_with f s ≡ state_with g s
  state-agree s h =
      ap (λ rows. record (state_with f s) { rows = rows }) (map-agree (λ r. OfEntry Same r.1) (pair_with f) (pair_with g) (λ r k. ap (λ e. (r.0, e)) (entry-agree r.1 k)) s.rows h.rows)
      ∙ ap (λ js. record (state_with f s) { rows = map (pair_with g) s.rows; jobs = js }) (map-agree (OfJob Same) (job_with f) (job_with g) job-agree s.jobs h.jobs)
      ∙ ap (λ us. record (state_with g s) { uploads = us }) (map-agree (OfUpload Same) (upload_with f) (upload_with g) upload-agree s.uploads h.uploads)
