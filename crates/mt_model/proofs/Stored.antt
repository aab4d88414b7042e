-- Each command whose bodies are stored keeps the bodies of a state so.
use Rattle.std.proofs.Common.{◌≡◌, ℕ, ◌==◌, Bool, true, false, List, [], ◌∷◌, Option, Some, None, map, refl, cond}
use Rattle.std.specs.Prelude.{⊤}
use Rattle.std.specs.List.{AllByRecursion, cons_option, filter_map}
use Rattle.std.specs.Option.{option_map}
use Rattle.std.specs.Ordering.{match_ordering, nat_cmp}
use Rattle.std.specs.declared.cmp.Ordering.TheVariants.{Less, Equal, Greater}
use Rattle.mt_path.specs.AccountPath.{AccountPath}
use Rattle.mt_path.specs.PathOrder.{path_cmp}
use Rattle.mt_types.specs.Kinds.{OnRows, kind_of}
use Rattle.mt_types.specs.declared.command.Archive.{Archive}
use Rattle.mt_types.specs.declared.command.Command.{Command}
use Rattle.mt_types.specs.declared.command.Command.TheVariants.{Put, MakeDirectory, Link, Delete, NewJob, AddInputs, EndInput, Commit, Finish, Cancel, Close, NewUpload, PutPart, CommitUpload, AbortUpload}
use Rattle.mt_types.specs.declared.document.InputLine.{InputLine}
use Rattle.mt_types.specs.declared.document.InputLine.TheVariants.{Named, Other}
use Rattle.mt_types.specs.declared.document.Phase.{Phase}
use Rattle.mt_types.specs.declared.job.Item.{Item}
use Rattle.mt_types.specs.declared.job.Job.{Job}
use Rattle.mt_types.specs.declared.job.TraceEntry.{TraceEntry}
use Rattle.mt_types.specs.declared.object.Entry.{Entry}
use Rattle.mt_types.specs.declared.object.Entry.TheVariants as entry
use Rattle.mt_types.specs.declared.object.Object.{Object}
use Rattle.mt_types.specs.declared.task.Fate.{Fate}
use Rattle.mt_types.specs.declared.upload.PartRow.{PartRow}
use Rattle.mt_types.specs.declared.upload.Stage.TheVariants.{Aborted, Committed}
use Rattle.mt_types.specs.declared.upload.Upload.{Upload}
use Rattle.mt_model.specs.Bodies.{OfArchive, OfCommand, OfEntry, OfFate, OfJob, OfOutcome, OfState, OfUpload}
use Rattle.mt_model.specs.CommandStep.{change, step}
use Rattle.mt_model.specs.JobSteps.{archive_bodies, archive_names, bodies_of, commit, done_at, new_job, resolve_task, task_root, with_end, with_entry, with_line, with_lines, with_named}
use Rattle.mt_model.specs.Names.{job_folder, job_stor, number_at, root_of_input}
use Rattle.mt_model.specs.Resolve.{Committing, Resolved}
use Rattle.mt_model.specs.Rows.{Rows, object_at, with_row}
use Rattle.mt_model.specs.State.{State, job_at, upload_at}
use Rattle.mt_model.specs.UploadSteps.{commit_upload, ended_as, new_upload, upload_object, with_part}
use Rattle.mt_model.proofs.EachStep.{archive_keeps, changed, pushed, resolve_keeps}
use Rattle.mt_model.proofs.Keeping.{OfEach, entry_at, inserted, of_step}

module _ {B : Type 0} (P : B → Type 0) where
  abbrev Q : Entry B → Type 0
  Q e = OfEntry P e

  -- ---- jobs

  module _ (rows : Rows B) (stored : OfEach Q rows) where
    assets_stored : (names : List AccountPath) → AllByRecursion P (filter_map (λ name. option_map (λ o. o.body) (object_at rows name)) names)
    assets_stored [] = tt
    assets_stored (n ∷ ns) = by (object_at rows n) refl (assets_stored ns)
      where
        by : (o : Option (Object B)) → object_at rows n ≡ o → AllByRecursion P (filter_map (λ name. option_map (λ o. o.body) (object_at rows name)) ns)
            → AllByRecursion P (cons_option (option_map (λ o. o.body) o) (filter_map (λ name. option_map (λ o. o.body) (object_at rows name)) ns))
        by None is more = more
        by (Some o) is more = (entry_at Q rows n o stored is, more)

    phases_stored : (ps : List Phase) → AllByRecursion (λ bodies. AllByRecursion P bodies) (map (bodies_of rows) ps)
    phases_stored [] = tt
    phases_stored (p ∷ ps) = (assets_stored p.assets, phases_stored ps)

    named_stored : (p : AccountPath) (j : Job B) (o : Option (Object B)) → object_at rows p ≡ o → OfJob P j → OfJob P (with_named p j o)
    named_stored p j None is i = record { assets = i.assets; inputs = i.inputs; trace = i.trace }
    named_stored p j (Some o) is i = record {
      assets = i.assets;
      inputs = pushed (λ (x : Item B). P x.body) j.inputs (record { name = p; root = root_of_input p; body = o.body; reducer = None }) i.inputs (entry_at Q rows p o stored is);
      trace = i.trace;
    }

    line_stored : (j : Job B) (line : InputLine) → OfJob P j → OfJob P (with_line rows j line)
    line_stored j (Named p) i = named_stored p j (object_at rows p) refl i
    line_stored j (Other t) i = record { assets = i.assets; inputs = i.inputs; trace = i.trace }

    lines_stored : (lines : List InputLine) (j : Job B) → OfJob P j → OfJob P (with_lines rows lines j)
    lines_stored [] j i = i
    lines_stored (l ∷ ls) j i = lines_stored ls (with_line rows j l) (line_stored j l i)

  end_stored : (j : Job B) → OfJob P j → OfJob P (with_end j)
  end_stored j i = record { assets = i.assets; inputs = i.inputs; trace = i.trace }

  done_stored : (moment : ℕ) (cancelled : Bool) (j : Job B) → OfJob P j → OfJob P (done_at moment cancelled j)
  done_stored moment cancelled j i = record { assets = i.assets; inputs = i.inputs; trace = i.trace }

  entry_stored : (e : TraceEntry B) → OfOutcome P e.outcome → (j : Job B) → OfJob P j → OfJob P (with_entry e j)
  entry_stored e is j i = record { assets = i.assets; inputs = i.inputs; trace = pushed (λ (x : TraceEntry B). OfOutcome P x.outcome) j.trace e i.trace is }

  job_stored : (s : State B) (number : ℕ) (f : Job B → Job B) → ((j : Job B) → OfJob P j → OfJob P (f j)) → OfState P s → AllByRecursion (OfJob P) (map (λ j. cond (j.number == number) (f j) j) s.jobs)
  job_stored s number f keep k = changed (OfJob P) (λ j. j.number == number) f keep s.jobs k.jobs

  commit_stored : (s : State B) (o : Option (Job B)) (phase place : ℕ) (x : Fate B) (moment : ℕ) → OfState P s → OfFate P x → OfState P (commit s o phase place x moment)
  commit_stored s None phase place x moment k is = k
  commit_stored s (Some j) phase place x moment k is =
      let c : Committing = record { job = j.number; phase = phase; root = task_root j phase place; position = s.count; moment = moment } in
      let r : Resolved B = resolve_task s j phase place x moment in
      let e : TraceEntry B = record { phase = phase; place = place; position = s.count; outcome = r.outcome } in
      let both = resolve_keeps P Q (λ o stored. stored) c tt (λ number body stored. stored) s.rows x k.rows is in
      record { rows = both.0; jobs = changed (OfJob P) (λ y. y.number == j.number) (with_entry e) (entry_stored e both.1) s.jobs k.jobs; uploads = k.uploads }

  -- ---- uploads

  part_stored : (part : PartRow B) → P part.body → (ps : List (PartRow B)) → AllByRecursion (λ p. P p.body) ps → AllByRecursion (λ p. P p.body) (with_part part ps)
  part_stored part is [] all = (is, tt)
  part_stored part is (p ∷ ps) all = elim (nat_cmp part.index p.index) as (λ r. AllByRecursion (λ p. P p.body) (match_ordering r (part ∷ p ∷ ps) (part ∷ ps) (p ∷ with_part part ps))) [
    | Less ↦ (is, all)
    | Equal ↦ (is, all.1)
    | Greater ↦ (all.0, part_stored part is ps all.1)
  ]

  upload_stored : (s : State B) (o : Option (Upload B)) (body : B) (moment : ℕ) → OfState P s → P body → OfState P (commit_upload s o body moment)
  upload_stored s None body moment k is = k
  upload_stored s (Some u) body moment k is = record {
    rows = inserted Q path_cmp s.rows u.path (entry.Object (upload_object (number_at s.count 0) u body moment)) k.rows is;
    jobs = k.jobs;
    uploads = changed (OfUpload P) (λ x. x.number == u.number) (ended_as Committed) (λ x old. tt) s.uploads k.uploads;
  }

  archive_stored : (a : Archive B) → OfArchive P a → AllByRecursion P (archive_bodies a)
  archive_stored a is = (is.err, (is.fail, (is.input, (is.status, (is.out, tt)))))

  -- ---- each command

  rows_stored : (s : State B) (c : Command B) → kind_of c ≡ OnRows → OfState P s → OfCommand P c → OfState P (change s c)
  unfolding step
  rows_stored s c kind k is = let new = of_step P s c kind k is in record { rows = new.rows; jobs = new.jobs; uploads = new.uploads }

  change_stored : (s : State B) (c : Command B) → OfState P s → OfCommand P c → OfState P (change s c)
  unfolding change
  change_stored s (Put path content_type body durability metadata moment) k is = rows_stored s (Put path content_type body durability metadata moment) refl k is
  change_stored s (MakeDirectory path moment) k is = rows_stored s (MakeDirectory path moment) refl k is
  change_stored s (Link path source moment) k is = rows_stored s (Link path source moment) refl k is
  change_stored s (Delete path moment) k is = rows_stored s (Delete path moment) refl k is
  change_stored s (NewJob document moment) k is =
      let n : ℕ = number_at s.count 0 in
      record {
        rows = inserted Q path_cmp (with_row s.rows (job_folder n) (entry.Directory moment)) (job_stor n) (entry.Directory moment) (inserted Q path_cmp s.rows (job_folder n) (entry.Directory moment) k.rows tt) tt;
        jobs = pushed (OfJob P) s.jobs (new_job s.rows n document moment) k.jobs (record { assets = phases_stored s.rows k.rows document.phases; inputs = tt; trace = tt });
        uploads = k.uploads;
      }
  change_stored s (AddInputs job lines moment) k is = record { rows = k.rows; jobs = job_stored s job (with_lines s.rows lines) (lines_stored s.rows k.rows lines) k; uploads = k.uploads }
  change_stored s (EndInput job moment) k is = record { rows = k.rows; jobs = job_stored s job with_end end_stored k; uploads = k.uploads }
  change_stored s (Commit job phase place fate moment) k is = commit_stored s (job_at s.jobs job) phase place fate moment k is
  change_stored s (Finish job moment) k is = record { rows = k.rows; jobs = job_stored s job (done_at moment false) (done_stored moment false) k; uploads = k.uploads }
  change_stored s (Cancel job moment) k is = record { rows = k.rows; jobs = job_stored s job (done_at moment true) (done_stored moment true) k; uploads = k.uploads }
  change_stored s (Close job cancelled archive moment) k is = record {
    rows = archive_keeps P (λ t. ⊤) Q moment (λ number t body typed stored. stored) 0 s.rows job s.count archive_names (archive_bodies archive) (tt, (tt, (tt, (tt, (tt, tt))))) (archive_stored archive is) k.rows;
    jobs = job_stored s job (done_at moment cancelled) (done_stored moment cancelled) k;
    uploads = k.uploads;
  }
  change_stored s (NewUpload path content_type moment) k is = record { rows = k.rows; jobs = k.jobs; uploads = pushed (OfUpload P) s.uploads (new_upload (number_at s.count 0) path content_type moment) k.uploads tt }
  change_stored s (PutPart upload index body moment) k is =
      let part : PartRow B = record { index = index; number = number_at s.count 0; body = body } in
      record { rows = k.rows; jobs = k.jobs; uploads = changed (OfUpload P) (λ u. u.number == upload) (λ u. record u { parts = with_part part u.parts }) (λ u old. part_stored part is u.parts old) s.uploads k.uploads }
  change_stored s (CommitUpload upload parts body moment) k is = upload_stored s (upload_at s.uploads upload) body moment k is
  change_stored s (AbortUpload upload moment) k is = record { rows = k.rows; jobs = k.jobs; uploads = changed (OfUpload P) (λ u. u.number == upload) (ended_as Aborted) (λ u old. tt) s.uploads k.uploads }

  -- of each command; `of_step` of Keeping says it of those on rows
  pub of_each_step : (s : State B) (c : Command B) → OfState P s → OfCommand P c → OfState P (step s c)
  unfolding step
  of_each_step s c k is = let new = change_stored s c k is in record { rows = new.rows; jobs = new.jobs; uploads = new.uploads }
