-- Commands: what allows those on rows, and what each keeps of an account.
use Rattle.std.proofs.Common.{◌≡◌, ◌≢◌, ℕ, ◌<◌, ◌+◌, List, [], ◌∷◌, Option, Some, None, Ok, Err, refl, sym, ap, subst, arith}
use Rattle.std.proofs.lemmas.List.Elements.{All-nil, All-cons, All-head, All-tail}
use Rattle.std.proofs.lemmas.Option.{none-some}
use Rattle.std.specs.Prelude.{All}
use Rattle.mt_path.specs.AccountPath.{AccountPath}
use Rattle.mt_codec.specs.Spelling.{HasSpelling}
use Rattle.mt_codec.proofs.Weaker.{within_limits}
use Rattle.mt_codec.proofs.WellMade.{well_made}
use Rattle.mt_model.specs.CommandStep.{allowed, change, step}
use Rattle.mt_model.specs.Keeping.{KeepsLimits}
use Rattle.mt_model.specs.Lawful.{Lawful, LawfulJob, LawfulUpload}
use Rattle.mt_model.specs.Rows.{Rows, first_refusal, first_rows, make_directory_refusal, put_refusal, remove_refusal}
use Rattle.mt_model.specs.Sound.{Sound}
use Rattle.mt_model.specs.State.{State, first_state}
use Rattle.mt_model.proofs.LawfulHistories.{lawful_step}
use Rattle.mt_model.proofs.LawfulSteps.{Lawful-first_state}
use Rattle.mt_model.proofs.LawfulRows.{LawfulRows-later}
use Rattle.mt_model.proofs.Within.{first_within, keeps_limits}
use Rattle.mt_tree.specs.Answer.{answer}
use Rattle.mt_types.specs.Kinds.{Kind, OnEnds, OnJobs, OnRows, OnUploads, kind_of}
use Rattle.mt_types.specs.WellMade.{IsDocument}
use Rattle.mt_types.specs.declared.body.Body.{Body}
use Rattle.mt_types.specs.declared.command.Command.{Command}
use Rattle.mt_types.specs.declared.command.Command.TheVariants.{Put, MakeDirectory, Link, Delete, NewJob, AddInputs, EndInput, Commit, Finish, Cancel, Close, NewUpload, PutPart, CommitUpload, AbortUpload}
use Rattle.mt_types.specs.declared.job.Job.{Job}
use Rattle.mt_types.specs.declared.limits.TheConstants.{MOST_COMMANDS}
use Rattle.mt_types.specs.declared.object.Field.{Field}
use Rattle.mt_types.specs.declared.refusal.Refusal.{Refusal}
use Rattle.mt_jobs.specs.Shown.{state_of}
use Rattle.mt_snapshot.specs.Listing.{IsListable}
use Rattle.mt_snapshot.proofs.Keeps.{first_listable, step_listable}
use Rattle.mt_account.specs.Kept.{Keeps, lost_account}
use Rattle.mt_account.proofs.Within.{says_within}

-- the size of a body
abbrev pub size_of : Body → ℕ
size_of b = b.len

-- where the first of two refusals is none, neither is one
no_refusal : (a b : Option Refusal) → first_refusal a b ≡ None → (a ≡ None) × (b ≡ None)
no_refusal None b is = (refl, is)
no_refusal (Some r) b is = absurd (none-some r (sym is))

module _ (s : State Body) where
  pub put_allowed : (path : AccountPath) (content_type : List ℕ) (body : Body) (durability : Option ℕ) (metadata : List Field) (moment : ℕ)
      → allowed size_of s (Put path content_type body durability metadata moment) ≡ None → put_refusal s.rows path ≡ None
  unfolding allowed
  put_allowed path content_type body durability metadata moment is = (no_refusal _ _ is).1

  pub directory_allowed : (path : AccountPath) (moment : ℕ) → allowed size_of s (MakeDirectory path moment) ≡ None → make_directory_refusal s.rows path ≡ None
  unfolding allowed
  directory_allowed path moment is = (no_refusal _ _ is).1

  pub link_allowed : (path source : AccountPath) (moment : ℕ) → allowed size_of s (Link path source moment) ≡ None → put_refusal s.rows path ≡ None
  unfolding allowed
  link_allowed path source moment is = (no_refusal _ _ (no_refusal _ _ is).1).1

  pub delete_allowed : (path : AccountPath) (moment : ℕ) → allowed size_of s (Delete path moment) ≡ None → remove_refusal s.rows path ≡ None
  unfolding allowed
  delete_allowed path moment is = (no_refusal _ _ is).1

abbrev IsOnRows : Kind → Type 0
IsOnRows OnRows = Unit {0}
IsOnRows OnJobs = ⊥
IsOnRows OnEnds = ⊥
IsOnRows OnUploads = ⊥

-- no other kind is that of rows
not_rows : (k : Kind) → k ≡ OnRows → IsOnRows k
not_rows k is = subst IsOnRows (sym is) tt

-- a command on rows does not look at jobs
pub rows_alone : (count : ℕ) (rows : Rows Body) (jobs : List (Job Body)) (c : Command Body) → kind_of c ≡ OnRows → allowed size_of (state_of count rows jobs) c ≡ allowed size_of (state_of count rows []) c
unfolding allowed
rows_alone count rows jobs (Put path content_type body durability metadata moment) kind = refl
rows_alone count rows jobs (MakeDirectory path moment) kind = refl
rows_alone count rows jobs (Link path source moment) kind = refl
rows_alone count rows jobs (Delete path moment) kind = refl
rows_alone count rows jobs (NewJob document moment) kind = absurd (not_rows OnJobs kind)
rows_alone count rows jobs (AddInputs job lines moment) kind = absurd (not_rows OnJobs kind)
rows_alone count rows jobs (EndInput job moment) kind = absurd (not_rows OnJobs kind)
rows_alone count rows jobs (Commit job phase place fate moment) kind = absurd (not_rows OnJobs kind)
rows_alone count rows jobs (Finish job moment) kind = absurd (not_rows OnEnds kind)
rows_alone count rows jobs (Cancel job moment) kind = absurd (not_rows OnEnds kind)
rows_alone count rows jobs (Close job cancelled archive moment) kind = absurd (not_rows OnEnds kind)
rows_alone count rows jobs (NewUpload path content_type moment) kind = absurd (not_rows OnUploads kind)
rows_alone count rows jobs (PutPart upload index body moment) kind = absurd (not_rows OnUploads kind)
rows_alone count rows jobs (CommitUpload upload parts body moment) kind = absurd (not_rows OnUploads kind)
rows_alone count rows jobs (AbortUpload upload moment) kind = absurd (not_rows OnUploads kind)

-- what an answer says of the refusal
pub none_answered : (r : Option Refusal) → Ok tt ≡ answer r → r ≡ None
none_answered None is = refl
none_answered (Some x) is = cc

pub some_answered : (r : Option Refusal) (x : Refusal) → Err x ≡ answer r → r ≢ None
some_answered None x is = cc
some_answered (Some y) x is = λ e. none-some y (sym e)

-- what follows of each lawful job
each_of : (n : ℕ) (P : Job Body → Type 0) → ((j : Job Body) → LawfulJob n j → P j) → (jobs : List (Job Body)) → All (LawfulJob n) jobs → All P jobs
each_of n P each [] all = All-nil P
each_of n P each (j ∷ jobs) all = All-cons P j jobs (each j (All-head (LawfulJob n) j jobs all)) (each_of n P each jobs (All-tail (LawfulJob n) j jobs all))

pub are_sound : (s : State Body) → Lawful s → All Sound s.jobs
are_sound s law = each_of s.count Sound (λ j is. is.sound) s.jobs law.jobs.each

pub have_documents : (s : State Body) → Lawful s → All (λ (j : Job Body). IsDocument j.document) s.jobs
have_documents s law = each_of s.count (λ j. IsDocument j.document) (λ j is. is.document) s.jobs law.jobs.each

-- one more command behind what it changes
pub steps : (count : ℕ) (rows rows' : Rows Body) (jobs jobs' : List (Job Body)) (c : Command Body) → state_of count rows' jobs' ≡ change (state_of count rows jobs) c
    → state_of (count + 1) rows' jobs' ≡ step (state_of count rows jobs) c
unfolding step
steps count rows rows' jobs jobs' c is = ap (λ (s : State Body). record s { count = count + 1 }) is

pub keeps_first : (rows : Rows Body) (jobs : List (Job Body)) (spare : Rows Body) → rows ≡ first_rows → jobs ≡ [] → spare ≡ first_rows → Keeps 0 rows jobs spare
keeps_first rows jobs spare empty none same =
    let is : state_of 0 rows jobs ≡ first_state = cc in
    record {
      most = omega arith;
      lawful = subst Lawful (sym is) (Lawful-first_state Body);
      limits = subst KeepsLimits (sym is) first_within;
      listable = subst IsListable (sym is) first_listable;
      in_reserve = λ few. same;
    }

-- no command in many is as lawful as in none
lawful_lost : Lawful lost_account
lawful_lost =
    let law : Lawful (first_state {B = Body}) = Lawful-first_state Body in
    record {
      rows = LawfulRows-later 0 MOST_COMMANDS first_rows (omega arith) law.rows;
      jobs = record { rising = law.jobs.rising; each = All-nil (LawfulJob MOST_COMMANDS); folders = law.jobs.folders; entries = law.jobs.entries };
      uploads = record { rising = law.uploads.rising; each = All-nil (LawfulUpload MOST_COMMANDS) };
    }

listable_lost : IsListable lost_account
listable_lost =
    let first : IsListable (first_state {B = Body}) = first_listable in
    record {
      count = omega arith;
      placed = record { rows = first.placed.rows; jobs = first.placed.jobs; uploads = first.placed.uploads };
      roots = first.roots;
      light = first.light;
      ended = first.ended;
    }

pub keeps_lost : (count : ℕ) (rows : Rows Body) (jobs : List (Job Body)) (spare : Rows Body) → count ≡ MOST_COMMANDS → rows ≡ first_rows → jobs ≡ [] → Keeps count rows jobs spare
keeps_lost count rows jobs spare many empty none =
    let is : state_of count rows jobs ≡ lost_account = cc in
    let limits : KeepsLimits (first_state {B = Body}) = first_within in
    record {
      most = omega (arith, many);
      lawful = subst Lawful (sym is) lawful_lost;
      limits = subst KeepsLimits (sym is) (record { rows = limits.rows; jobs = limits.jobs; uploads = limits.uploads });
      listable = subst IsListable (sym is) listable_lost;
      in_reserve = λ few. absurd (omega (arith, few, many));
    }

pub keeps_step : (count : ℕ) (rows rows' : Rows Body) (jobs jobs' : List (Job Body)) (spare : Rows Body) (c : Command Body) → HasSpelling c → count < MOST_COMMANDS
    → allowed size_of (state_of count rows jobs) c ≡ None → Keeps count rows jobs spare → state_of (count + 1) rows' jobs' ≡ step (state_of count rows jobs) c → Keeps (count + 1) rows' jobs' spare
keeps_step count rows rows' jobs jobs' spare c fits few free keeps is = record {
  most = omega (arith, few);
  lawful = subst Lawful (sym is) (lawful_step size_of (state_of count rows jobs) c keeps.lawful few (well_made c fits) free);
  limits = subst KeepsLimits (sym is) (keeps_limits (state_of count rows jobs) c keeps.limits (says_within c fits));
  listable = subst IsListable (sym is) (step_listable (state_of count rows jobs) c keeps.lawful keeps.listable few (within_limits c fits) free);
  in_reserve = λ fewer. keeps.in_reserve few;
}
