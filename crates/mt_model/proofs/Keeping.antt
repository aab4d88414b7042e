-- What holds of each entry of the rows goes on to hold after a command on rows.
use Rattle.std.proofs.Common.{◌≡◌, ℕ, cond, Bool, true, false, List, [], ◌∷◌, Option, Some, None, refl, sym, subst}
use Rattle.std.proofs.lemmas.Option.{none-some, same_Some}
use Rattle.std.specs.BTreeMap.{insert_entry}
use Rattle.std.specs.List.{AllByRecursion}
use Rattle.std.specs.Map.{lookup, remove_entry}
use Rattle.std.specs.Ordering.{match_ordering}
use Rattle.std.specs.declared.cmp.Ordering.{Ordering}
use Rattle.std.specs.declared.cmp.Ordering.TheVariants.{Less, Equal, Greater}
use Rattle.mt_path.specs.AccountPath.{AccountPath}
use Rattle.mt_path.specs.PathOrder.{path_cmp}
use Rattle.mt_types.specs.Kinds.{Kind, OnEnds, OnJobs, OnRows, OnUploads, kind_of}
use Rattle.mt_types.specs.declared.command.Command.{Command}
use Rattle.mt_types.specs.declared.command.Command.TheVariants.{Put, MakeDirectory, Link, Delete, NewJob, AddInputs, EndInput, Commit, Finish, Cancel, Close, NewUpload, PutPart, CommitUpload, AbortUpload}
use Rattle.mt_types.specs.declared.object.Entry.{Entry}
use Rattle.mt_types.specs.declared.object.Entry.TheVariants as entry
use Rattle.mt_types.specs.declared.object.Object.{Object}
use Rattle.mt_model.specs.Bodies.{OfCommand, OfEntry, OfState}
use Rattle.mt_model.specs.CommandStep.{change, linked, put_object, step}
use Rattle.mt_model.specs.Keeping.{IsEntry, KeepsLimits, SaysWithin}
use Rattle.mt_model.specs.Names.{number_at}
use Rattle.mt_model.specs.Rows.{Rows, at, is_path, object_at, object_in}
use Rattle.mt_model.specs.State.{State}

abbrev IsOnRows : Kind → Type 0
IsOnRows OnRows = Unit {0}
IsOnRows OnJobs = ⊥
IsOnRows OnEnds = ⊥
IsOnRows OnUploads = ⊥

-- no other kind is that of rows
others : (k : Kind) → k ≡ OnRows → IsOnRows k
others k is = subst IsOnRows (sym is) tt

module _ {K X : Type 0} (Q : X → Type 0) where
  -- it holds of each value
  abbrev pub OfEach : List (K × X) → Type 0
  OfEach es = AllByRecursion (λ e. Q e.1) es

  pub inserted : (R : K → K → Ordering) (es : List (K × X)) (k : K) (v : X) → OfEach es → Q v → OfEach (insert_entry R es k v)
  inserted R [] k v all is = (is, tt)
  inserted R (e ∷ es) k v all is = elim (R k e.0) as (λ r. OfEach (match_ordering r ((k, v) ∷ e ∷ es) ((e.0, v) ∷ es) (e ∷ insert_entry R es k v))) [
    | Less ↦ (is, all)
    | Equal ↦ (is, all.1)
    | Greater ↦ (all.0, inserted R es k v all.1 is)
  ]

  removed : (test : K → Bool) (es : List (K × X)) → OfEach es → OfEach (remove_entry test es)
  removed test [] all = all
  removed test (e ∷ es) all = elim (test e.0) as (λ b. OfEach (cond b es (e ∷ remove_entry test es))) [
    | true ↦ all.1
    | false ↦ (all.0, removed test es all.1)
  ]

  found : (test : K → Bool) (es : List (K × X)) (x : X) → OfEach es → lookup test es ≡ Some x → Q x
  found test [] x all is = absurd (none-some x is)
  found test (e ∷ es) x all is =
      let by : cond (test e.0) (Some e.1) (lookup test es) ≡ Some x → Q x = elim (test e.0) as (λ b. cond b (Some e.1) (lookup test es) ≡ Some x → Q x) [
        | true ↦ λ here. subst Q (same_Some _ _ here) all.0
        | false ↦ λ here. found test es x all.1 here
      ] in
      by is

module _ {B : Type 0} (Q : Entry B → Type 0) where
  pub entry_at : (rows : Rows B) (p : AccountPath) (o : Object B) → OfEach Q rows → object_at rows p ≡ Some o → Q (entry.Object o)
  entry_at rows p o all is = by (at rows p) refl is
    where
      by : (e : Option (Entry B)) → at rows p ≡ e → object_in e ≡ Some o → Q (entry.Object o)
      by None here is = absurd (none-some o is)
      by (Some (entry.Directory mtime)) here is = absurd (none-some o is)
      by (Some (entry.Object object)) here is = subst (λ x. Q (entry.Object x)) (same_Some _ _ is) (found Q (is_path p) rows (entry.Object object) all here)

module _ {B : Type 0} (Q : Entry B → Type 0) (again : (o : Object B) (moment : ℕ) → Q (entry.Object o) → Q (entry.Directory moment) → Q (entry.Object (record o { mtime = moment }))) where
  of_linked : (rows : Rows B) (p source : AccountPath) (moment : ℕ) → OfEach Q rows → Q (entry.Directory moment) → OfEach Q (linked rows p (object_at rows source) moment)
  of_linked rows p source moment all now = by (object_at rows source) refl
    where
      by : (o : Option (Object B)) → object_at rows source ≡ o → OfEach Q (linked rows p o moment)
      by None is = all
      by (Some o) is = inserted Q path_cmp rows p (entry.Object (record o { mtime = moment })) all (again o moment (entry_at Q rows source o all is) now)

  -- what a command on rows has to bring
  abbrev pub Brings : ℕ → Command B → Type 0
  Brings count (Put path content_type body durability metadata moment) = Q (entry.Object (put_object (number_at count 0) body content_type durability metadata moment))
  Brings count (MakeDirectory path moment) = Q (entry.Directory moment)
  Brings count (Link path source moment) = Q (entry.Directory moment)
  Brings count (Delete path moment) = Unit {0}
  Brings count (NewJob document moment) = Unit {0}
  Brings count (AddInputs job lines moment) = Unit {0}
  Brings count (EndInput job moment) = Unit {0}
  Brings count (Commit job phase place fate moment) = Unit {0}
  Brings count (Finish job moment) = Unit {0}
  Brings count (Cancel job moment) = Unit {0}
  Brings count (Close job cancelled archive moment) = Unit {0}
  Brings count (NewUpload path content_type moment) = Unit {0}
  Brings count (PutPart upload index body moment) = Unit {0}
  Brings count (CommitUpload upload parts body moment) = Unit {0}
  Brings count (AbortUpload upload moment) = Unit {0}

  -- the rows after it
  pub of_change : (s : State B) (c : Command B) → kind_of c ≡ OnRows → OfEach Q s.rows → Brings s.count c → OfEach Q (change s c).rows
  unfolding change
  of_change s (Put path content_type body durability metadata moment) kind all is = inserted Q path_cmp s.rows path _ all is
  of_change s (MakeDirectory path moment) kind all is = inserted Q path_cmp s.rows path _ all is
  of_change s (Link path source moment) kind all is = of_linked s.rows path source moment all is
  of_change s (Delete path moment) kind all is = removed Q (is_path path) s.rows all
  of_change s (NewJob document moment) kind all is = absurd (others OnJobs kind)
  of_change s (AddInputs job lines moment) kind all is = absurd (others OnJobs kind)
  of_change s (EndInput job moment) kind all is = absurd (others OnJobs kind)
  of_change s (Commit job phase place fate moment) kind all is = absurd (others OnJobs kind)
  of_change s (Finish job moment) kind all is = absurd (others OnEnds kind)
  of_change s (Cancel job moment) kind all is = absurd (others OnEnds kind)
  of_change s (Close job cancelled archive moment) kind all is = absurd (others OnEnds kind)
  of_change s (NewUpload path content_type moment) kind all is = absurd (others OnUploads kind)
  of_change s (PutPart upload index body moment) kind all is = absurd (others OnUploads kind)
  of_change s (CommitUpload upload parts body moment) kind all is = absurd (others OnUploads kind)
  of_change s (AbortUpload upload moment) kind all is = absurd (others OnUploads kind)

-- a command on rows leaves jobs and uploads as they are
pub jobs_stay : {B : Type 0} (s : State B) (c : Command B) → kind_of c ≡ OnRows → ((change s c).jobs ≡ s.jobs) × ((change s c).uploads ≡ s.uploads)
unfolding change
jobs_stay s (Put path content_type body durability metadata moment) kind = (refl, refl)
jobs_stay s (MakeDirectory path moment) kind = (refl, refl)
jobs_stay s (Link path source moment) kind = (refl, refl)
jobs_stay s (Delete path moment) kind = (refl, refl)
jobs_stay s (NewJob document moment) kind = absurd (others OnJobs kind)
jobs_stay s (AddInputs job lines moment) kind = absurd (others OnJobs kind)
jobs_stay s (EndInput job moment) kind = absurd (others OnJobs kind)
jobs_stay s (Commit job phase place fate moment) kind = absurd (others OnJobs kind)
jobs_stay s (Finish job moment) kind = absurd (others OnEnds kind)
jobs_stay s (Cancel job moment) kind = absurd (others OnEnds kind)
jobs_stay s (Close job cancelled archive moment) kind = absurd (others OnEnds kind)
jobs_stay s (NewUpload path content_type moment) kind = absurd (others OnUploads kind)
jobs_stay s (PutPart upload index body moment) kind = absurd (others OnUploads kind)
jobs_stay s (CommitUpload upload parts body moment) kind = absurd (others OnUploads kind)
jobs_stay s (AbortUpload upload moment) kind = absurd (others OnUploads kind)

module _ {B : Type 0} (P : B → Type 0) where
  brings_stored : (count : ℕ) (c : Command B) → kind_of c ≡ OnRows → OfCommand P c → Brings (OfEntry P) (λ o moment is now. is) count c
  brings_stored count (Put path content_type body durability metadata moment) kind is = is
  brings_stored count (MakeDirectory path moment) kind is = tt
  brings_stored count (Link path source moment) kind is = tt
  brings_stored count (Delete path moment) kind is = tt
  brings_stored count (NewJob document moment) kind is = tt
  brings_stored count (AddInputs job lines moment) kind is = tt
  brings_stored count (EndInput job moment) kind is = tt
  brings_stored count (Commit job phase place fate moment) kind is = tt
  brings_stored count (Finish job moment) kind is = tt
  brings_stored count (Cancel job moment) kind is = tt
  brings_stored count (Close job cancelled archive moment) kind is = tt
  brings_stored count (NewUpload path content_type moment) kind is = tt
  brings_stored count (PutPart upload index body moment) kind is = tt
  brings_stored count (CommitUpload upload parts body moment) kind is = tt
  brings_stored count (AbortUpload upload moment) kind is = tt

  -- a command on rows whose bodies are stored keeps them so
  pub of_step : (s : State B) (c : Command B) → kind_of c ≡ OnRows → OfState P s → OfCommand P c → OfState P (step s c)
  unfolding step
  of_step s c kind state is =
      let others = jobs_stay s c kind in
      record {
        rows = of_change (OfEntry P) (λ o moment is now. is) s c kind state.rows (brings_stored s.count c kind is);
        jobs = subst (AllByRecursion _) (sym others.0) state.jobs;
        uploads = subst (AllByRecursion _) (sym others.1) state.uploads;
      }

module _ {B : Type 0} where
  linked_within : (o : Object B) (moment : ℕ) → IsEntry (entry.Object o) → IsEntry {B = B} (entry.Directory moment) → IsEntry (entry.Object (record o { mtime = moment }))
  linked_within o moment is now = record { content_type_is = is.content_type_is; durability_is = is.durability_is; metadata_is = is.metadata_is; moment_is = now }

  brings_within : (count : ℕ) (c : Command B) → kind_of c ≡ OnRows → SaysWithin c → Brings IsEntry linked_within count c
  brings_within count (Put path content_type body durability metadata moment) kind is = is
  brings_within count (MakeDirectory path moment) kind is = is
  brings_within count (Link path source moment) kind is = is
  brings_within count (Delete path moment) kind is = tt
  brings_within count (NewJob document moment) kind is = tt
  brings_within count (AddInputs job lines moment) kind is = tt
  brings_within count (EndInput job moment) kind is = tt
  brings_within count (Commit job phase place fate moment) kind is = tt
  brings_within count (Finish job moment) kind is = tt
  brings_within count (Cancel job moment) kind is = tt
  brings_within count (Close job cancelled archive moment) kind is = tt
  brings_within count (NewUpload path content_type moment) kind is = tt
  brings_within count (PutPart upload index body moment) kind is = tt
  brings_within count (CommitUpload upload parts body moment) kind is = tt
  brings_within count (AbortUpload upload moment) kind is = tt

  pub step_within : (s : State B) (c : Command B) → kind_of c ≡ OnRows → KeepsLimits s → SaysWithin c → KeepsLimits (step s c)
  unfolding step
  step_within s c kind state is =
      let others = jobs_stay s c kind in
      record {
        rows = of_change IsEntry linked_within s c kind state.rows (brings_within s.count c kind is);
        jobs = subst (AllByRecursion _) (sym others.0) state.jobs;
        uploads = subst (AllByRecursion _) (sym others.1) state.uploads;
      }
