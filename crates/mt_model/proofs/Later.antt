-- A command leaves each job, or makes a later value of it.
use Rattle.std.proofs.Common.{◌≡◌, ℕ, ◌==◌, Bool, true, false, cond, List, [], ◌∷◌, ◌++◌, length, Option, Some, None, refl, sym, ap, ◌∙◌, subst}
use Rattle.std.proofs.lemmas.Bool.{eqb-true}
use Rattle.std.proofs.lemmas.List.Folds.{find-append}
use Rattle.std.specs.Option.{option_or}
use Rattle.mt_model.specs.Types.{AbortUpload, AddInputs, Cancel, Close, Command, Commit, CommitUpload, Delete, EndInput, Fate, Finish, Job, Link, MakeDirectory, NewJob, NewUpload, Put, PutPart, TraceEntry}
use Rattle.mt_model.specs.CommandStep.{allowed, change, step}
use Rattle.mt_model.specs.Honest.{Bytes}
use Rattle.mt_model.specs.JobSteps.{add_inputs_refusal, commit, done_at, job_refusal, resolve_task, with_end, with_entry, with_lines}
use Rattle.mt_model.specs.State.{State, job_at, upload_at, with_job}
use Rattle.mt_model.proofs.LawfulInputs.{KeepsJob-lines, open-allowed}
use Rattle.mt_model.proofs.RowLaws.{neither}
use Rattle.mt_model.proofs.Standing.{number_at_job, posted_lines, uploaded}
use Rattle.mt_model.proofs.Stood.{Grows, done_grows, ended_grows, entry_grows, posted_grows, same_job, some_job}

-- the job of this number stands among these, as a later value
abbrev pub HasLater : List (Job Bytes) → ℕ → Job Bytes → Type 0
HasLater jobs n j = (later : Job Bytes) × (job_at jobs n ≡ Some later) × Grows j later

keeps_number : (f : Job Bytes → Job Bytes) → ((x : Job Bytes) → (f x).number ≡ x.number) → (x : Job Bytes) (b : Bool) → (cond b (f x) x).number ≡ x.number
keeps_number f keeps x true = keeps x
keeps_number f keeps x false = refl

at_changed : (number n : ℕ) (f : Job Bytes → Job Bytes) → ((x : Job Bytes) → (f x).number ≡ x.number) → (xs : List (Job Bytes)) (j : Job Bytes) → job_at xs n ≡ Some j
    → job_at (with_job xs number f) n ≡ Some (cond (j.number == number) (f j) j)
at_changed number n f keeps [] j at = cc
at_changed number n f keeps (x ∷ xs) j at = by (x.number == n) refl at (at_changed number n f keeps xs j)
  where
    same : (cond (x.number == number) (f x) x).number == n ≡ x.number == n
    same = ap (λ m. m == n) (keeps_number f keeps x (x.number == number))

    by : (b : Bool) → x.number == n ≡ b → cond b (Some x) (job_at xs n) ≡ Some j → (job_at xs n ≡ Some j → job_at (with_job xs number f) n ≡ Some (cond (j.number == number) (f j) j))
        → job_at (with_job (x ∷ xs) number f) n ≡ Some (cond (j.number == number) (f j) j)
    by true is found more =
        subst (λ z. job_at (with_job (x ∷ xs) number f) n ≡ Some (cond (z.number == number) (f z) z)) (some_job x j found)
        (ap (λ b. cond b (Some (cond (x.number == number) (f x) x)) (job_at (with_job xs number f) n)) (same ∙ is))
    by false is found more = ap (λ b. cond b (Some (cond (x.number == number) (f x) x)) (job_at (with_job xs number f) n)) (same ∙ is) ∙ more found

one : (xs : List (Job Bytes)) (number n : ℕ) (f : Job Bytes → Job Bytes) → ((x : Job Bytes) → (f x).number ≡ x.number) → (j : Job Bytes) → job_at xs n ≡ Some j
    → (j.number ≡ number → Grows j (f j)) → HasLater (with_job xs number f) n j
one xs number n f keeps j at grows = by (j.number == number) refl
  where
    by : (b : Bool) → j.number == number ≡ b → HasLater (with_job xs number f) n j
    by true is = (f j, at_changed number n f keeps xs j at ∙ ap (λ b. Some (cond b (f j) j)) is, grows (eqb-true j.number number is))
    by false is = (j, at_changed number n f keeps xs j at ∙ ap (λ b. Some (cond b (f j) j)) is, same_job j)

-- a new job stands behind the others
behind : (xs ys : List (Job Bytes)) (n : ℕ) (j : Job Bytes) → job_at xs n ≡ Some j → HasLater (xs ++ ys) n j
behind xs ys n j at = (j, find-append (λ x. x.number == n) xs ys ∙ ap (λ o. option_or o (job_at ys n)) at, same_job j)

committed_later : (s : State Bytes) (o : Option (Job Bytes)) (phase place : ℕ) (fate : Fate Bytes) (moment n : ℕ) (j : Job Bytes) → job_at s.jobs n ≡ Some j → HasLater (commit s o phase place fate moment).jobs n j
committed_later s None phase place fate moment n j at = (j, at, same_job j)
committed_later s (Some x) phase place fate moment n j at =
    let e : TraceEntry Bytes = record { phase = phase; place = place; position = s.count; outcome = (resolve_task s x phase place fate moment).outcome } in
    one s.jobs x.number n (with_entry e) (λ y. refl) j at (λ is. entry_grows e j)

open_there : (s : State Bytes) (job n : ℕ) (r : Job Bytes → Option _) (j : Job Bytes) → job_at s.jobs n ≡ Some j → j.number ≡ job → job_refusal (job_at s.jobs job) r ≡ None → r j ≡ None
open_there s job n r j at is none =
    let same : n ≡ job = sym (number_at_job n s.jobs j at) ∙ is in
    sym (ap (λ o. job_refusal o r) (ap (job_at s.jobs) (sym same) ∙ at)) ∙ none

pub later : (s : State Bytes) (c : Command Bytes) → allowed length s c ≡ None → (n : ℕ) (j : Job Bytes) → job_at s.jobs n ≡ Some j → HasLater (step s c).jobs n j
unfolding allowed change step
later s (Put path content_type body durability metadata moment) none n j at = (j, at, same_job j)
later s (MakeDirectory path moment) none n j at = (j, at, same_job j)
later s (Link path source moment) none n j at = (j, at, same_job j)
later s (Delete path moment) none n j at = (j, at, same_job j)
later s (NewJob document moment) none n j at = behind s.jobs _ n j at
later s (AddInputs job lines moment) none n j at =
    one s.jobs job n (with_lines s.rows lines) (KeepsJob-lines s.rows lines).number j at
    (λ is. posted_grows j (with_lines s.rows lines j) (open-allowed j (neither _ _ (open_there s job n (add_inputs_refusal lines) j at is none)).0).ended (posted_lines s.rows lines j))
later s (EndInput job moment) none n j at = one s.jobs job n with_end (λ x. refl) j at (λ is. ended_grows j)
later s (Commit job phase place fate moment) none n j at = committed_later s (job_at s.jobs job) phase place fate moment n j at
later s (Finish job moment) none n j at = one s.jobs job n (done_at moment false) (λ x. refl) j at (λ is. done_grows moment false j)
later s (Cancel job moment) none n j at = one s.jobs job n (done_at moment true) (λ x. refl) j at (λ is. done_grows moment true j)
later s (Close job cancelled archive moment) none n j at = one s.jobs job n (done_at moment cancelled) (λ x. refl) j at (λ is. done_grows moment cancelled j)
later s (NewUpload path content_type moment) none n j at = (j, at, same_job j)
later s (PutPart upload index body moment) none n j at = (j, at, same_job j)
later s (CommitUpload upload parts body moment) none n j at = subst (λ jobs. HasLater jobs n j) (sym (uploaded s (upload_at s.uploads upload) body moment)) (j, at, same_job j)
later s (AbortUpload upload moment) none n j at = (j, at, same_job j)
