-- Each command that is allowed, and whose bodies have their places, keeps a state listable.
use Rattle.std.proofs.Common.{◌≡◌, ℕ, ◌+◌, ◌≤◌, ◌<◌, Bool, true, false, cond, List, [], ◌∷◌, map, Option, Some, None, refl, ap, subst, ◌∙◌, arith}
use Rattle.std.specs.Prelude.{◌==◌, ◌||◌, not}
use Rattle.std.specs.List.{AllByRecursion, find, list_any, sum_by}
use Rattle.std.specs.List.Sorted.{IsStrictlySortedBy}
use Rattle.std.specs.Cmp.{ranks}
use Rattle.std.specs.Ordering.{MatchOrdering, nat_cmp}
use Rattle.std.specs.declared.cmp.Ordering.TheVariants.{Less}
use Rattle.std.proofs.lemmas.Bool.{eqb-true, ltb-false}
use Rattle.std.proofs.lemmas.Option.{same_Some}
use Rattle.mt_path.specs.AccountPath.{AccountPath, root_of}
use Rattle.mt_path.specs.declared.area.Area.{Area}
use Rattle.mt_path.specs.declared.area.Area.TheVariants.{Stor, Public, Jobs}
use Rattle.mt_types.specs.declared.body.Body.{Body}
use Rattle.mt_types.specs.declared.command.Command.{Command}
use Rattle.mt_types.specs.declared.command.Command.TheVariants.{Put, MakeDirectory, Link, Delete, NewJob, AddInputs, EndInput, Commit, Finish, Cancel, Close, NewUpload, PutPart, CommitUpload, AbortUpload}
use Rattle.mt_types.specs.declared.document.InputLine.{InputLine}
use Rattle.mt_types.specs.declared.document.InputLine.TheVariants.{Named, Other}
use Rattle.mt_types.specs.declared.document.Phase.{Phase}
use Rattle.mt_types.specs.declared.job.Job.{Job}
use Rattle.mt_types.specs.declared.limits.TheConstants.{MOST_COMMANDS}
use Rattle.mt_types.specs.declared.object.Entry.TheVariants as entry
use Rattle.mt_types.specs.declared.object.Object.{Object}
use Rattle.mt_types.specs.declared.task.Fate.{Fate}
use Rattle.mt_types.specs.declared.task.Fate.TheVariants as fate
use Rattle.mt_types.specs.declared.task.TaskRecord.{TaskRecord}
use Rattle.mt_types.specs.declared.task.TaskRecord.TheVariants.{Emit, Keep, Ref}
use Rattle.mt_types.specs.declared.upload.Stage.TheVariants.{Aborted, Committed}
use Rattle.mt_types.specs.declared.upload.Upload.{Upload}
use Rattle.mt_codec.specs.Spelling.{FitsFate, FitsRecord, IsWithinLimits}
use Rattle.mt_model.specs.Bodies.{OfCommand, OfFate, OfRecord}
use Rattle.mt_model.specs.CommandStep.{allowed, change, step}
use Rattle.mt_model.specs.JobSteps.{bodies_of, commit, done_at, has_large_assets, new_job, resolve_task, with_end, with_entry, with_line, with_lines, with_named}
use Rattle.mt_model.specs.Lawful.{Lawful}
use Rattle.mt_model.specs.Laws.{len_of}
use Rattle.mt_model.specs.Limits.{most_asset_bytes}
use Rattle.mt_model.specs.Names.{number_at}
use Rattle.mt_model.specs.Rows.{Rows, at, object_at}
use Rattle.mt_model.specs.State.{State, first_state, job_at, upload_at}
use Rattle.mt_model.specs.UploadSteps.{commit_upload, ended_as, is_open, new_upload, upload_refusal, with_part}
use Rattle.mt_model.proofs.EachStep.{changed, pushed}
use Rattle.mt_model.proofs.RowLaws.{neither, not_refused}
use Rattle.mt_model.proofs.Stored.{of_each_step}
use Rattle.mt_snapshot.specs.Listing.{HasNoneOnceEnded, IsLight, IsListable, IsPlaced}
use Rattle.mt_snapshot.proofs.Roots.{root_stays}

-- ---- the bodies that a command brings

record_placed : (r : TaskRecord Body) → FitsRecord false r → OfRecord IsPlaced r
record_placed (Emit place reducer body) fits = fits.2.placed
record_placed (Keep place body) fits = fits.1.placed
record_placed (Ref name) fits = tt

records_placed : (rs : List (TaskRecord Body)) → AllByRecursion (FitsRecord false) rs → AllByRecursion (OfRecord IsPlaced) rs
records_placed [] fits = tt
records_placed (r ∷ rs) fits = (record_placed r fits.0, records_placed rs fits.1)

fate_placed : (f : Fate Body) → FitsFate false f → OfFate IsPlaced f
fate_placed (fate.Good records) fits = records_placed records fits.1
fate_placed (fate.Bad failure status stderr) fits = tt

command_placed : (c : Command Body) → IsWithinLimits c → OfCommand IsPlaced c
command_placed (Put path content_type body durability metadata moment) fits = fits.fields.body.placed
command_placed (MakeDirectory path moment) fits = tt
command_placed (Link path source moment) fits = tt
command_placed (Delete path moment) fits = tt
command_placed (NewJob document moment) fits = tt
command_placed (AddInputs job lines moment) fits = tt
command_placed (EndInput job moment) fits = tt
command_placed (Commit job phase place f moment) fits = fate_placed f fits.fields.2
command_placed (Finish job moment) fits = tt
command_placed (Cancel job moment) fits = tt
command_placed (Close job cancelled archive moment) fits = let a = fits.fields.1 in record { err = a.err.placed; fail = a.fail.placed; input = a.input.placed; status = a.status.placed; out = a.out.placed }
command_placed (NewUpload path content_type moment) fits = tt
command_placed (PutPart upload index body moment) fits = fits.fields.2.placed
command_placed (CommitUpload upload parts body moment) fits = fits.fields.3.placed
command_placed (AbortUpload upload moment) fits = tt

-- ---- the bytes of assets

neither_holds : (a b : Bool) → (a || b) ≡ false → (a ≡ false) × (b ≡ false)
neither_holds true b is = cc
neither_holds false b is = (refl, is)

phases_light : (rows : Rows Body) (ps : List Phase) → list_any (has_large_assets len_of rows) ps ≡ false → AllByRecursion (λ bodies. sum_by (λ b. b.len) bodies ≤ most_asset_bytes) (map (bodies_of rows) ps)
phases_light rows [] none = tt
phases_light rows (p ∷ ps) none =
    let both = neither_holds (has_large_assets len_of rows p) (list_any (has_large_assets len_of rows) ps) none in
    (ltb-false most_asset_bytes (sum_by (λ b. b.len) (bodies_of rows p)) both.0, phases_light rows ps both.1)

named_light : (p : AccountPath) (j : Job Body) (o : Option (Object Body)) → IsLight j → IsLight (with_named p j o)
named_light p j None light = light
named_light p j (Some o) light = light

lines_light : (rows : Rows Body) (lines : List InputLine) (j : Job Body) → IsLight j → IsLight (with_lines rows lines j)
lines_light rows [] j light = light
lines_light rows (Named p ∷ ls) j light = lines_light rows ls (with_named p j (object_at rows p)) (named_light p j (object_at rows p) light)
lines_light rows (Other t ∷ ls) j light = lines_light rows ls (with_line rows j (Other t)) light

job_light : (jobs : List (Job Body)) (number : ℕ) (f : Job Body → Job Body) → ((j : Job Body) → IsLight j → IsLight (f j)) → AllByRecursion IsLight jobs → AllByRecursion IsLight (map (λ j. cond (j.number == number) (f j) j) jobs)
job_light jobs number f keep light = changed IsLight (λ j. j.number == number) f keep jobs light

commit_light : (s : State Body) (o : Option (Job Body)) (phase place : ℕ) (f : Fate Body) (moment : ℕ) → AllByRecursion IsLight s.jobs → AllByRecursion IsLight (commit s o phase place f moment).jobs
commit_light s None phase place f moment light = light
commit_light s (Some j) phase place f moment light =
    job_light s.jobs j.number (with_entry (record { phase = phase; place = place; position = s.count; outcome = (resolve_task s j phase place f moment).outcome })) (λ x is. is) light

upload_light : (s : State Body) (o : Option (Upload Body)) (body : Body) (moment : ℕ) → AllByRecursion IsLight s.jobs → AllByRecursion IsLight (commit_upload s o body moment).jobs
upload_light s None body moment light = light
upload_light s (Some u) body moment light = light

step_light : (s : State Body) (c : Command Body) → allowed len_of s c ≡ None → AllByRecursion IsLight s.jobs → AllByRecursion IsLight (step s c).jobs
unfolding change step allowed
step_light s (Put path content_type body durability metadata moment) free light = light
step_light s (MakeDirectory path moment) free light = light
step_light s (Link path source moment) free light = light
step_light s (Delete path moment) free light = light
step_light s (NewJob document moment) free light =
    pushed IsLight s.jobs (new_job s.rows (number_at s.count 0) document moment) light (phases_light s.rows document.phases (not_refused _ _ (neither _ _ free).1))
step_light s (AddInputs job lines moment) free light = job_light s.jobs job (with_lines s.rows lines) (lines_light s.rows lines) light
step_light s (EndInput job moment) free light = job_light s.jobs job with_end (λ j is. is) light
step_light s (Commit job phase place f moment) free light = commit_light s (job_at s.jobs job) phase place f moment light
step_light s (Finish job moment) free light = job_light s.jobs job (done_at moment false) (λ j is. is) light
step_light s (Cancel job moment) free light = job_light s.jobs job (done_at moment true) (λ j is. is) light
step_light s (Close job cancelled archive moment) free light = job_light s.jobs job (done_at moment cancelled) (λ j is. is) light
step_light s (NewUpload path content_type moment) free light = light
step_light s (PutPart upload index body moment) free light = light
step_light s (CommitUpload upload parts body moment) free light = upload_light s (upload_at s.uploads upload) body moment light
step_light s (AbortUpload upload moment) free light = light

-- ---- parts of uploads

abbrev Numbers : List (Upload Body) → List ℕ
Numbers us = map (λ u. u.number) us

-- only one upload has a number
none_behind : (n : ℕ) (us : List (Upload Body)) → AllByRecursion (λ k. nat_cmp n k ≡ Less) (Numbers us) → AllByRecursion (λ u. (u.number == n) ≡ true → is_open u.stage ≡ true) us
none_behind n [] above = tt
none_behind n (u ∷ us) above = (λ is. let same = eqb-true u.number n is in absurd (below_itself n (subst (λ k. nat_cmp n k ≡ Less) same above.0)), none_behind n us above.1)
  where
    below_itself : (k : ℕ) → nat_cmp k k ≡ Less → ⊥
    below_itself k is = let less : k < k = subst (λ o. MatchOrdering o (k < k) (k ≡ k) (k < k)) is (ranks k k) in omega arith

the_one : (n : ℕ) (us : List (Upload Body)) → IsStrictlySortedBy nat_cmp (Numbers us) → (u : Upload Body) → find (λ x. x.number == n) us ≡ Some u → is_open u.stage ≡ true → AllByRecursion (λ x. (x.number == n) ≡ true → is_open x.stage ≡ true) us
unfolding IsStrictlySortedBy
the_one n [] rising u found takes = tt
the_one n (x ∷ xs) rising u found takes = by (x.number == n) refl found (λ there. the_one n xs rising.1 u there takes)
  where
    by : (b : Bool) → (x.number == n) ≡ b → cond b (Some x) (find (λ y. y.number == n) xs) ≡ Some u → (find (λ y. y.number == n) xs ≡ Some u → AllByRecursion (λ y. (y.number == n) ≡ true → is_open y.stage ≡ true) xs)
        → AllByRecursion (λ y. (y.number == n) ≡ true → is_open y.stage ≡ true) (x ∷ xs)
    by true is here later =
        let same = eqb-true x.number n is in
        (λ holds. ap (λ y. is_open y.stage) (same_Some x u here) ∙ takes, none_behind n xs (subst (λ k. AllByRecursion (λ y. nat_cmp k y ≡ Less) (Numbers xs)) same rising.0))
    by false is there later = (λ holds. cc, later there)

-- only an upload that is open is changed
parts_kept : (n : ℕ) (f : Upload Body → Upload Body) → ((u : Upload Body) → (f u).stage ≡ u.stage) → (us : List (Upload Body)) → AllByRecursion (λ u. (u.number == n) ≡ true → is_open u.stage ≡ true) us → AllByRecursion HasNoneOnceEnded us
    → AllByRecursion HasNoneOnceEnded (map (λ u. cond (u.number == n) (f u) u) us)
parts_kept n f same [] takes none = tt
parts_kept n f same (u ∷ us) takes none = (by (u.number == n) refl, parts_kept n f same us takes.1 none.1)
  where
    by : (b : Bool) → (u.number == n) ≡ b → HasNoneOnceEnded (cond b (f u) u)
    by true is = λ closed. let held = takes.0 is in let stays = ap is_open (same u) in absurd cc
    by false is = none.0

found_open : (o : Option (Upload Body)) → upload_refusal o (λ u. None) ≡ None → (u : Upload Body) × (o ≡ Some u) × (is_open u.stage ≡ true)
found_open None free = absurd cc
found_open (Some u) free = (u, refl, by (is_open u.stage) (not_refused _ _ (neither _ _ free).0))
  where
    by : (b : Bool) → not b ≡ false → b ≡ true
    by true is = refl
    by false is = cc

upload_ended : (s : State Body) (o : Option (Upload Body)) (body : Body) (moment : ℕ) → AllByRecursion HasNoneOnceEnded s.uploads → AllByRecursion HasNoneOnceEnded (commit_upload s o body moment).uploads
upload_ended s None body moment none = none
upload_ended s (Some u) body moment none = changed HasNoneOnceEnded (λ x. x.number == u.number) (ended_as Committed) (λ x old closed. refl) s.uploads none

commit_ended : (s : State Body) (o : Option (Job Body)) (phase place : ℕ) (f : Fate Body) (moment : ℕ) → AllByRecursion HasNoneOnceEnded s.uploads → AllByRecursion HasNoneOnceEnded (commit s o phase place f moment).uploads
commit_ended s None phase place f moment none = none
commit_ended s (Some j) phase place f moment none = none

step_ended : (s : State Body) (c : Command Body) → Lawful s → allowed len_of s c ≡ None → AllByRecursion HasNoneOnceEnded s.uploads → AllByRecursion HasNoneOnceEnded (step s c).uploads
unfolding change step allowed
step_ended s (Put path content_type body durability metadata moment) lawful free none = none
step_ended s (MakeDirectory path moment) lawful free none = none
step_ended s (Link path source moment) lawful free none = none
step_ended s (Delete path moment) lawful free none = none
step_ended s (NewJob document moment) lawful free none = none
step_ended s (AddInputs job lines moment) lawful free none = none
step_ended s (EndInput job moment) lawful free none = none
step_ended s (Commit job phase place f moment) lawful free none = commit_ended s (job_at s.jobs job) phase place f moment none
step_ended s (Finish job moment) lawful free none = none
step_ended s (Cancel job moment) lawful free none = none
step_ended s (Close job cancelled archive moment) lawful free none = none
step_ended s (NewUpload path content_type moment) lawful free none = pushed HasNoneOnceEnded s.uploads (new_upload (number_at s.count 0) path content_type moment) none (λ closed. refl)
step_ended s (PutPart upload index body moment) lawful free none =
    let found = found_open (upload_at s.uploads upload) free in
    parts_kept upload (λ u. record u { parts = with_part (record { index = index; number = number_at s.count 0; body = body }) u.parts }) (λ u. refl) s.uploads
    (the_one upload s.uploads lawful.uploads.rising found.0 found.1 found.2) none
step_ended s (CommitUpload upload parts body moment) lawful free none = upload_ended s (upload_at s.uploads upload) body moment none
step_ended s (AbortUpload upload moment) lawful free none = changed HasNoneOnceEnded (λ u. u.number == upload) (ended_as Aborted) (λ u old closed. refl) s.uploads none

-- ---- a state

counted : (s : State Body) (c : Command Body) → (step s c).count ≡ s.count + 1
unfolding step
counted s c = refl

pub step_listable : (s : State Body) (c : Command Body) → Lawful s → IsListable s → s.count < MOST_COMMANDS → IsWithinLimits c → allowed len_of s c ≡ None → IsListable (step s c)
step_listable s c lawful can room fits free = record {
  count = omega (arith, counted s c);
  placed = of_each_step IsPlaced s c can.placed (command_placed c fits);
  roots = λ area. root_stays area (entry.Directory 0) len_of s c lawful.rows.tree free (can.roots area);
  light = step_light s c free can.light;
  ended = step_ended s c lawful free can.ended;
}

pub first_listable : let s : State Body = first_state in IsListable s
first_listable = record {
  count = omega arith;
  placed = record { rows = (tt, (tt, (tt, tt))); jobs = tt; uploads = tt };
  roots = first_root;
  light = tt;
  ended = tt;
}
  where
    first_root : (area : Area) → at (first_state {B = Body}).rows (root_of area) ≡ Some (entry.Directory 0)
    first_root Stor = refl
    first_root Public = refl
    first_root Jobs = refl
